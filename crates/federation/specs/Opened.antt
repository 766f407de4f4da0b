-- What open answers: a federation that shows the book of a new one, or a refusal that hands back the store and the rule.
--
--   Opened  each case of the answer: opened exactly where the protocol opens, and memory suffices
use Rattle.std.specs.Prelude.{◌≡◌, ℕ, Some, None, Ok, Err, Result}
use Rattle.store.specs.Table.{Model}
use Rattle.law.specs.Opening.{open_refusal, open_book}
use Rattle.federation.specs.declared.federation.Federation.{Federation}
use Rattle.federation.specs.declared.federation.opens.NotOpened.{NotOpened}
use Rattle.federation.specs.declared.federation.opens.Closed.{Closed}
use Rattle.federation.specs.declared.federation.opens.Closed.TheVariants.{Refused, NoMemory}
use Rattle.federation.specs.Shown.{shown}

-- refused by the protocol, or opened by it and no memory
abbrev pub ClosedFor : ℕ → ℕ → Model → Closed → Type 0
ClosedFor n nodes m (Refused why) = open_refusal n nodes m ≡ Some why
ClosedFor n nodes m NoMemory = open_refusal n nodes m ≡ None

abbrev pub Opened : {S R : Type 0} → (S → Model) → ℕ → ℕ → ℕ → R → S → Result (Federation S R) (NotOpened S R) → Type 0
Opened model name n nodes rule store (Ok f) =
    (open_refusal n nodes (model store) ≡ None) × (shown model f ≡ open_book name n nodes (model store)) × (f.rule ≡ rule)
Opened model name n nodes rule store (Err back) =
    ClosedFor n nodes (model store) back.why × (back.store ≡ store) × (back.rule ≡ rule)
