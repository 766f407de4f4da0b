-- the longer texts, which the search leaves: each is the words of its case
use Rattle.std.proofs.Common.{sym, ap}
use Rattle.refusal.specs.Refusals.{words_of}
use Rattle.refusal.proofs.Refusal.words.Goals as goal

pub returns-in-UnknownLetter : goal.returns-in-UnknownLetter
returns-in-UnknownLetter c = sym (ap words_of c.in-UnknownLetter.is)

pub returns-in-CutShort : goal.returns-in-CutShort
returns-in-CutShort c = sym (ap words_of c.in-CutShort.is)

pub returns-in-OpenMisplaced : goal.returns-in-OpenMisplaced
returns-in-OpenMisplaced c = sym (ap words_of c.in-OpenMisplaced.is)

pub returns-in-BadOpen : goal.returns-in-BadOpen
returns-in-BadOpen c = sym (ap words_of c.in-BadOpen.is)

pub returns-in-NoCluster : goal.returns-in-NoCluster
returns-in-NoCluster c = sym (ap words_of c.in-NoCluster.is)

pub returns-in-SameCluster : goal.returns-in-SameCluster
returns-in-SameCluster c = sym (ap words_of c.in-SameCluster.is)

pub returns-in-ListTooLong : goal.returns-in-ListTooLong
returns-in-ListTooLong c = sym (ap words_of c.in-ListTooLong.is)

pub returns-in-RestartOpen : goal.returns-in-RestartOpen
returns-in-RestartOpen c = sym (ap words_of c.in-RestartOpen.is)

pub returns-in-NoRestart : goal.returns-in-NoRestart
returns-in-NoRestart c = sym (ap words_of c.in-NoRestart.is)

pub returns-in-NotInLog : goal.returns-in-NotInLog
returns-in-NotInLog c = sym (ap words_of c.in-NotInLog.is)

pub returns-in-NoRound : goal.returns-in-NoRound
returns-in-NoRound c = sym (ap words_of c.in-NoRound.is)

pub returns-in-Answered : goal.returns-in-Answered
returns-in-Answered c = sym (ap words_of c.in-Answered.is)

pub returns-in-KeptFull : goal.returns-in-KeptFull
returns-in-KeptFull c = sym (ap words_of c.in-KeptFull.is)

pub returns-in-NumbersSpent : goal.returns-in-NumbersSpent
returns-in-NumbersSpent c = sym (ap words_of c.in-NumbersSpent.is)

pub returns-in-Store : goal.returns-in-Store
returns-in-Store c = sym (ap words_of c.in-Store.is)

pub returns-in-NotKept : goal.returns-in-NotKept
returns-in-NotKept c = sym (ap words_of c.in-NotKept.is)

pub returns-in-NoAlert : goal.returns-in-NoAlert
returns-in-NoAlert c = sym (ap words_of c.in-NoAlert.is)

pub returns-in-WrongTicket : goal.returns-in-WrongTicket
returns-in-WrongTicket c = sym (ap words_of c.in-WrongTicket.is)

pub returns-in-NoRoom : goal.returns-in-NoRoom
returns-in-NoRoom c = sym (ap words_of c.in-NoRoom.is)
