-- The log agrees with the history: a standing send is in the log, or its delivery lies below the oldest kept checkpoint.
use Rattle.std.proofs.Common.{◌≡◌, ℕ, ◌<◌, ◌⊎◌, List, Some, None, Option, sym, refl, ap, ◌∙◌, subst, inl, inr, arith}
use Rattle.law.specs.declared.Message.{Message}
use Rattle.law.specs.declared.Logged.{Logged}
use Rattle.law.specs.Law.{Among, times_in}
use Rattle.law.specs.Events.{Event, Lists, sent, got, ◌∈◌, number}
use Rattle.law.proofs.Lists.{Part, part_in}
use Rattle.law.proofs.Sound.{Sound}
use Rattle.law.proofs.Among.{IdsRise, times_one}

pub record Logs (n : ℕ) (H : Lists) (oldest : ℕ → ℕ) (told : ℕ → Message) (log : List Logged) (next : ℕ) : Type 0 where
  -- what is logged was sent, and its sending stands
  pub stands : (x : Logged) → Among x log → (t : ℕ) × (sent t x.message ∈ H x.message.from)
  pub waiting : (x : Logged) → Among x log → x.receipt ≡ None → (u k : ℕ) → got u x.message ∈ H k → ⊥
  pub received : (x : Logged) (r : ℕ) → Among x log → x.receipt ≡ Some r → (u : ℕ) × (R : List Event) × Part (got u x.message) R (H x.message.to) × (number R ≡ r)
  pub kept : (i t : ℕ) (m : Message) → sent t m ∈ H i →
      ((o : Option ℕ) × Among (record { message = m; receipt = o }) log) ⊎ ((u : ℕ) × (R : List Event) × Part (got u m) R (H m.to) × (number R < oldest m.to))
  pub ids : IdsRise log
  pub id_below : (i t : ℕ) (m : Message) → sent t m ∈ H i → m.id < next
  pub id_one : (i k t u : ℕ) (m l : Message) → sent t m ∈ H i → sent u l ∈ H k → m.id ≡ l.id → m ≡ l
  pub told_right : (x : Logged) → Among x log → told x.message.id ≡ x.message
  pub proper : (i t : ℕ) (m : Message) → sent t m ∈ H i → (i < n) × (m.to < n) × (m.to ≡ i → ⊥)
  pub once : (j k t u : ℕ) (m : Message) → got t m ∈ H j → got u m ∈ H k → t ≡ u

none_some : {A : Type 0} (a : A) (o : Option A) → o ≡ None → o ≡ Some a → ⊥
none_some a o p q = let z : ◌≡◌ {A = ℕ} 0 1 = cc in omega arith

-- what the law asks of the messages
pub logs_again : (n : ℕ) (H : Lists) (oldest : ℕ → ℕ) (told : ℕ → Message) (log : List Logged) (next : ℕ) → Logs n H oldest told log next →
    (i t : ℕ) (m : Message) → sent t m ∈ H i → ((u : ℕ) → got u m ∈ H m.to → ⊥) → Among (record { message = m; receipt = None }) log × (times_in m.id log ≡ 1)
logs_again n H oldest told log next lg i t m h silent =
    elim (lg.kept i t m h) [
      | inl k ↦ go k.0 k.1
      | inr k ↦ absurd (silent k.0 (part_in (H m.to) (got k.0 m) k.1 k.2))
    ]
  where
    go : (o : Option ℕ) → Among (record { message = m; receipt = o }) log → Among (record { message = m; receipt = None }) log × (times_in m.id log ≡ 1)
    go None a = (a, times_one log (record { message = m; receipt = None }) lg.ids a)
    go (Some r) a =
        let q = lg.received (record { message = m; receipt = Some r }) r a refl in
        absurd (silent q.0 (part_in (H m.to) (got q.0 m) q.1 q.2))

pub logs_once : (n : ℕ) (H : Lists) (oldest : ℕ → ℕ) (told : ℕ → Message) (log : List Logged) (next : ℕ) → Logs n H oldest told log next → Sound H oldest →
    (j k t u : ℕ) (m l : Message) → got t m ∈ H j → got u l ∈ H k → m.id ≡ l.id → (j ≡ k) × (t ≡ u)
logs_once n H oldest told log next lg sd j k t u m l a b e =
    let p = sd.messages.gets j t m a in
    let q = sd.messages.gets k u l b in
    let s : m ≡ l = lg.id_one m.from l.from p.2.0 q.2.0 m l p.2.1 q.2.1 e in (
      sym p.0 ∙ ap (λ (z : Message). z.to) s ∙ q.0,
      lg.once j k t u m a (subst (λ (z : Message). got u z ∈ H k) (sym s) b),
    )
