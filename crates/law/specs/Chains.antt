-- How an effect travels: from an event to later ones of its cluster, and from a send to that message's delivery.
--
--   Chain    from an event of one cluster to an event of another, or the same
--   Lost     an event of a failed cluster after its newest checkpoint
--   Reached  a chain leads to this event from lost work
use Rattle.std.specs.Prelude.{◌≡◌, ℕ, Bool, true}
use Rattle.law.specs.declared.Message.{Message}
use Rattle.law.specs.Events.{Event, Lists, sent, got, ◌∈◌, Later, After, number}

pub data Chain (H : Lists) (i : ℕ) (x : Event) : ℕ → Event → Type 0 where
  itself : x ∈ H i → Chain H i x i x
  later : {j : ℕ} {a b : Event} → Chain H i x j a → Later (H j) a b → Chain H i x j b
  delivered : {j : ℕ} {t : ℕ} {m : Message} (k : ℕ) (u : ℕ) → Chain H i x j (sent t m) → got u m ∈ H k → Chain H i x k (got u m)

abbrev pub Lost : Lists → (ℕ → Bool) → ℕ → Event → Type 0
Lost H failed f x = (failed f ≡ true) × After (number (H f)) (H f) x

pub record Reached (H : Lists) (failed : ℕ → Bool) (j : ℕ) (e : Event) : Type 0 where
  pub cluster : ℕ
  pub event : Event
  pub lost : Lost H failed cluster event
  pub chain : Chain H cluster event j e
