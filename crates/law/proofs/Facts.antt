-- What a history must be for the chain argument: times rise, sends tell their number, and rows are known by three facts alone.
use Rattle.std.proofs.Common.{◌≡◌, ℕ, ◌<◌, ◌≤◌, List, [], ◌∷◌}
use Rattle.law.specs.declared.Message.{Message}
use Rattle.law.specs.Events.{Event, Lists, sent, got, ◌∈◌, After, number, saves}
use Rattle.law.specs.Chains.{Chain}
use Rattle.law.proofs.Lists.{Part, Timed}

-- what the messages of a history have to do with its clusters
pub record Messages (H : Lists) : Type 0 where
  pub timed : (i : ℕ) → Timed (H i)
  -- a send stands at its sender, with the number of the checkpoint before it
  pub sends : (i t : ℕ) (m : Message) (R : List Event) → Part (sent t m) R (H i) → (m.from ≡ i) × (m.number ≡ number R)
  -- what is delivered was sent, to this cluster, by another
  pub gets : (k u : ℕ) (m : Message) → got u m ∈ H k → (m.to ≡ k) × (m.from ≡ k → ⊥) × ((t : ℕ) × (sent t m ∈ H m.from))
  -- a delivery is later than the send
  pub crosses : (i k t u : ℕ) (m : Message) → sent t m ∈ H i → got u m ∈ H k → t < u

-- a newest checkpoint on top
pub record Fresh (R : List Event) : Type 0 where
  pub top : Event
  pub rest : List Event
  pub is : R ≡ top ∷ rest
  pub saves_top : saves top ≡ 1

-- the meaning of rows, as far as the chain argument needs it: row i L is the entry for i of a cluster whose events are L
pub record Rows (H : Lists) (row : ℕ → List Event → ℕ) : Type 0 where
  pub none : (i : ℕ) → row i [] ≡ 0
  pub rises : (i : ℕ) (x : Event) (R : List Event) → row i R ≤ row i (x ∷ R)
  -- every standing delivery is covered by the entry
  pub covers : (u : ℕ) (m : Message) (R : List Event) → m.number ≤ row m.from (got u m ∷ R)
  -- an event that lifts the entry to s or above is reached from something that cluster i did after its checkpoint s
  pub source : (k i s : ℕ) (x : Event) (R : List Event) → Part x R (H k) → row i R < s → s ≤ row i (x ∷ R) → (y : Event) × After s (H i) y × Chain H i y k x
  -- an event that lifts the entry comes directly after a checkpoint
  pub fresh : (k i : ℕ) (x : Event) (R : List Event) → Part x R (H k) → row i R < row i (x ∷ R) → Fresh R
