-- What a list of calls leaves, and the law of lost work about it.
--
--   Run        these exchanges are of these calls, each answered as the protocol answers, and leave this book
--   Replaying  of a list of calls on a new federation: how it opened, its run, and the law of lost work
--   Outcome    each case of the answer
use Rattle.std.specs.Prelude.{◌≡◌, ℕ, List, map, None, Ok, Err, vec_items, Result}
use Rattle.store.specs.Table.{Model}
use Rattle.law.specs.Book.{Book}
use Rattle.law.specs.Opening.{open_refusal, open_book}
use Rattle.law.specs.Messages.{Rule}
use Rattle.law.specs.Calls.{run, after}
use Rattle.law.specs.History.{history, new_told}
use Rattle.law.specs.Law.{Law}
use Rattle.federation.specs.Opened.{Opened}
use Rattle.federation.specs.Shown.{shown}
use Rattle.replay.specs.declared.exchange.Call.{Call}
use Rattle.replay.specs.declared.exchange.Exchange.{Exchange}
use Rattle.replay.specs.declared.replaying.Replayed.{Replayed}
use Rattle.replay.specs.declared.replaying.ReplayError.{ReplayError}
use Rattle.replay.specs.declared.replaying.ReplayError.TheVariants.{NotOpened, NoMemory}
use Rattle.replay.specs.Exchanges.{asked, told, calls_of}

pub record Run (says : Rule) (before : Book) (these : List Call) (es : List Exchange) (now : Book) : Type 0 where
  -- the exchanges are of exactly these calls, in their order
  pub calls : map asked es ≡ these
  -- every answer is the protocol's
  pub answers : map told es ≡ run says (calls_of es) before
  -- and so is the book that is left
  pub left : now ≡ after says (calls_of es) before

pub record Replaying (says : Rule) (name n nodes : ℕ) (store : Model) (these : List Call) (es : List Exchange) (now : Book) : Type 0 where
  pub opened : open_refusal n nodes store ≡ None
  pub ran : Run says (open_book name n nodes store) these es now
  -- the law of lost work, of these calls and their answers, and of the log and the table that are left
  pub law : Law n nodes says (history nodes (map told es) (new_told nodes)) now

abbrev pub Outcome : {S R : Type 0} → Rule → (S → Model) → ℕ → ℕ → ℕ → R → S → List Call → Result (Replayed S R) (ReplayError S R) → Type 0
Outcome says model name n nodes rule store calls (Ok r) =
    Replaying says name n nodes (model store) calls (vec_items r.exchanges) (shown model r.federation)
Outcome says model name n nodes rule store calls (Err (NotOpened back)) = Opened model name n nodes rule store (Err back)
Outcome says model name n nodes rule store calls (Err (NoMemory f)) = Opened model name n nodes rule store (Ok f)
