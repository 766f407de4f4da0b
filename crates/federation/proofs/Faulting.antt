-- What a fault tells, with its ticket: the name and the count of the book that it leaves.
use Rattle.std.proofs.Common.{◌≡◌, ℕ, Some, None, Ok, Err, Option, Result, ap, ap₂, arith}
use Rattle.refusal.specs.declared.Refusal.{Refusal}
use Rattle.refusal.specs.Answers.{unless_refused, replied}
use Rattle.law.specs.Book.{Book, Ticket, number}
use Rattle.law.specs.Restarts.{fault_refusal, faulted, fault_tells, fault_book, ticket}

value_is : (p n : ℕ) → ◌≡◌ {A = Result ℕ Refusal} (Ok p) (Ok n) → p ≡ n
value_is p n e = cc

told_with : (b now : Book) (f place : ℕ) (o : Option Refusal) → Ok place ≡ replied o (number b f) → now ≡ unless_refused o b (faulted b f) → ◌≡◌ {A = Result (ℕ × Ticket) Refusal} (Ok (place, ticket now)) (replied o (number b f, ticket (faulted b f)))
told_with b now f place None e l = ap₂ (λ (p : ℕ) (t : Ticket). said p t) (value_is place (number b f) e) (ap ticket l)
  where
    said : ℕ → Ticket → Result (ℕ × Ticket) Refusal
    said p t = Ok (p, t)
told_with b now f place (Some why) e l = let z : ◌≡◌ {A = ℕ} 0 1 = cc in absurd (omega arith)

pub fault-told : (b now : Book) (f place : ℕ) → Ok place ≡ replied (fault_refusal b f) (number b f) → now ≡ fault_book b f → ◌≡◌ {A = Result (ℕ × Ticket) Refusal} (Ok (place, ticket now)) (fault_tells b f)
fault-told b now f place e l = told_with b now f place (fault_refusal b f) e l

-- a refusal is told whatever would have been
pub refused_too : {A B : Type 0} (o : Option Refusal) (why : Refusal) (v : A) (w : B) → Err why ≡ replied o v → Err why ≡ replied o w
refused_too None why v w e = let z : ◌≡◌ {A = ℕ} 0 1 = cc in absurd (omega arith)
refused_too {A} {B} (Some other) why v w e = ap said (cc)
  where
    said : Refusal → Result B Refusal
    said x = Err x
