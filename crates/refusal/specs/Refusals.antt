-- Every refusal, case by case: the number that a rig's log stores, the layer, the side of a store, and the words.
--
--   number_of     the number of a refusal, 1 to 23
--   layer_of      where it comes from: the list, the book of the federation, or the store
--   layer_letter  the letter that an answer shows for a layer: L, B or S
--   letter_of     the letter of a store's refusal
--   side_of       the side of the store that is full, counted from 1, and 0 for every other refusal
--   words_of      what a person reads
use Rattle.std.specs.Prelude.{ℕ, List, codes}
use Rattle.refusal.specs.declared.Layer.{Layer}
use Rattle.refusal.specs.declared.Layer.TheVariants as layer
use Rattle.refusal.specs.declared.StoreRefusal.{StoreRefusal}
use Rattle.refusal.specs.declared.StoreRefusal.TheVariants.{WordCount, Held, NotHeld, Full, NoSide, SideOut}
use Rattle.refusal.specs.declared.Refusal.{Refusal}
use Rattle.refusal.specs.declared.Refusal.TheVariants.{UnknownLetter, CutShort, OpenMisplaced, BadOpen, NoCluster, SameCluster, NoRank, ListTooLong, RestartOpen, NoRestart, NotInLog, Delivered, RoundOpen, NoRound, Answered, LogFull, KeptFull, NumbersSpent, Store as FromStore, NotKept, NoAlert, WrongTicket, NoRoom}

abbrev pub number_of : Refusal → ℕ
number_of UnknownLetter = 1
number_of CutShort = 2
number_of OpenMisplaced = 3
number_of BadOpen = 4
number_of NoCluster = 5
number_of SameCluster = 6
number_of NoRank = 7
number_of ListTooLong = 8
number_of RestartOpen = 9
number_of NoRestart = 10
number_of NotInLog = 11
number_of Delivered = 12
number_of RoundOpen = 13
number_of NoRound = 14
number_of Answered = 15
number_of LogFull = 16
number_of KeptFull = 17
number_of NumbersSpent = 18
number_of (FromStore s) = 19
number_of NotKept = 20
number_of NoAlert = 21
number_of WrongTicket = 22
number_of NoRoom = 23

abbrev pub layer_of : Refusal → Layer
layer_of UnknownLetter = layer.List
layer_of CutShort = layer.List
layer_of OpenMisplaced = layer.List
layer_of BadOpen = layer.List
layer_of NoCluster = layer.Book
layer_of SameCluster = layer.Book
layer_of NoRank = layer.Book
layer_of ListTooLong = layer.List
layer_of RestartOpen = layer.Book
layer_of NoRestart = layer.Book
layer_of NotInLog = layer.Book
layer_of Delivered = layer.Book
layer_of RoundOpen = layer.Book
layer_of NoRound = layer.Book
layer_of Answered = layer.Book
layer_of LogFull = layer.Book
layer_of KeptFull = layer.Book
layer_of NumbersSpent = layer.Book
layer_of (FromStore s) = layer.Store
layer_of NotKept = layer.Book
layer_of NoAlert = layer.Book
layer_of WrongTicket = layer.Book
layer_of NoRoom = layer.List

abbrev pub layer_letter : Layer → ℕ
-- L
layer_letter layer.List = 76
-- B
layer_letter layer.Book = 66
-- S
layer_letter layer.Store = 83

abbrev pub letter_of : StoreRefusal → ℕ
-- w
letter_of WordCount = 119
-- h
letter_of Held = 104
-- m
letter_of NotHeld = 109
-- f
letter_of (Full n) = 102
-- s
letter_of NoSide = 115
-- o
letter_of SideOut = 111

abbrev pub store_side : StoreRefusal → ℕ
store_side WordCount = 0
store_side Held = 0
store_side NotHeld = 0
store_side (Full n) = n
store_side NoSide = 0
store_side SideOut = 0

abbrev pub side_of : Refusal → ℕ
side_of UnknownLetter = 0
side_of CutShort = 0
side_of OpenMisplaced = 0
side_of BadOpen = 0
side_of NoCluster = 0
side_of SameCluster = 0
side_of NoRank = 0
side_of ListTooLong = 0
side_of RestartOpen = 0
side_of NoRestart = 0
side_of NotInLog = 0
side_of Delivered = 0
side_of RoundOpen = 0
side_of NoRound = 0
side_of Answered = 0
side_of LogFull = 0
side_of KeptFull = 0
side_of NumbersSpent = 0
side_of (FromStore s) = store_side s
side_of NotKept = 0
side_of NoAlert = 0
side_of WrongTicket = 0
side_of NoRoom = 0

abbrev pub store_words : StoreRefusal → List ℕ
store_words WordCount = codes "word count wrong, buffer short, or no such position"
store_words Held = codes "held already"
store_words NotHeld = codes "not held"
store_words (Full n) = codes "full"
store_words NoSide = codes "no such side"
store_words SideOut = codes "a side is out, or the side to rebuild is not"

abbrev pub words_of : Refusal → List ℕ
words_of UnknownLetter = codes "unknown letter"
words_of CutShort = codes "command cut short"
words_of OpenMisplaced = codes "the first command is not open, or open comes again"
words_of BadOpen = codes "sizes, rule or store wrong"
words_of NoCluster = codes "no such cluster"
words_of SameCluster = codes "both clusters the same"
words_of NoRank = codes "no such rank"
words_of ListTooLong = codes "list over 65536 bytes"
words_of RestartOpen = codes "a restart is open"
words_of NoRestart = codes "no restart is open"
words_of NotInLog = codes "message not in the log"
words_of Delivered = codes "message delivered already"
words_of RoundOpen = codes "a round is open"
words_of NoRound = codes "no round is open"
words_of Answered = codes "this rank has answered"
words_of LogFull = codes "log full"
words_of KeptFull = codes "sixteen checkpoints kept"
words_of NumbersSpent = codes "the number to come is above 1000000"
words_of (FromStore s) = codes "the store refused"
words_of NotKept = codes "checkpoint not kept"
words_of NoAlert = codes "no such alert waits"
words_of WrongTicket = codes "ticket not of this restart at this stage"
words_of NoRoom = codes "does not fit the buffer"
