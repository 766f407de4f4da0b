-- A message that may arrive is in the log, undelivered, and no round is open at its receiver; what is left is the rule's answer.
use Rattle.std.proofs.Common.{◌≡◌, ℕ, suc, Bool, true, false, cond, ltb, is_some, Some, None, Ok, Err, Option, Result, sym, refl, ap, ◌∙◌, subst, ap₂, arith}
use Rattle.std.proofs.lemmas.Bool.{cond-true, cond-false}
use Rattle.refusal.specs.declared.Refusal.{Refusal}
use Rattle.refusal.specs.declared.Refusal.TheVariants as refuses
use Rattle.law.specs.declared.Logged.{Logged}
use Rattle.law.specs.declared.Arrived.{Arrived}
use Rattle.law.specs.declared.Arrived.TheVariants.{Delivered, Forced}
use Rattle.refusal.specs.Answers.{unless_refused, replied}
use Rattle.law.specs.Book.{Book, at, number, logged}
use Rattle.law.specs.Messages.{Rule, round_refusal, open_round, deliver, forces, arrive_at, arrive_refusal, arrived, arrived_tells, arrive_tells, arrive_book}
use Rattle.law.proofs.State.{not_some}
use Rattle.federation.specs.Arrivable.{arrivable, arrivable_at, force_tells, force_book}

err_ok : {A B : Type 0} {why : B} {x : A} → ◌≡◌ {A = Result A B} (Err why) (Ok x) → ⊥
err_ok e = let z : ◌≡◌ {A = ℕ} 0 1 = cc in omega arith

both_pass : (p q : Bool) (y x : Logged) → cond p (Err refuses.Delivered) (cond q (Err refuses.RoundOpen) (Ok y)) ≡ Ok x → (p ≡ false) × (q ≡ false) × (y ≡ x)
both_pass true q y x e = absurd (err_ok e)
both_pass false true y x e = absurd (err_ok e)
both_pass false false y x e = (refl, refl, cc)

pub record Arriving (says : Rule) (b : Book) (id rank : ℕ) (x : Logged) : Type 0 where
  pub found : logged b.log id ≡ Some x
  pub closed : (at b x.message.to).round ≡ None
  pub verdict : arrive_refusal says b id rank ≡ cond (forces says b x.message) (round_refusal b x.message.to) None

module _ (says : Rule) (b : Book) (id rank : ℕ) (x : Logged) where
  found_at : (o : Option Logged) → arrivable_at b o ≡ Ok x → (o ≡ Some x) × ((at b x.message.to).round ≡ None) × (arrive_at says b o ≡ cond (forces says b x.message) (round_refusal b x.message.to) None)
  found_at None e = absurd (err_ok e)
  found_at (Some y) e =
      let p = both_pass (is_some y.receipt) (is_some (at b y.message.to).round) y x e in (
        ap (λ (z : Logged). Some z) p.2,
        subst (λ (z : Logged). (at b z.message.to).round ≡ None) p.2 (not_some _ p.1),
        cond-false _ _ _ p.0 ∙ cond-false _ _ _ p.1 ∙ ap (λ (z : Logged). cond (forces says b z.message) (round_refusal b z.message.to) None) p.2,
      )

  by_tests : (t u : Bool) (o : Option Logged) → cond t (cond u (Err refuses.RestartOpen) (arrivable_at b o)) (Err refuses.NoRank) ≡ Ok x →
      (o ≡ Some x) × ((at b x.message.to).round ≡ None) × (cond t (cond u (Some refuses.RestartOpen) (arrive_at says b o)) (Some refuses.NoRank) ≡ cond (forces says b x.message) (round_refusal b x.message.to) None)
  by_tests true true o e = absurd (err_ok e)
  by_tests true false o e = found_at o e
  by_tests false u o e = absurd (err_ok e)

  pub arriving : arrivable b id rank ≡ Ok x → Arriving says b id rank x
  arriving e =
      let p = by_tests (ltb rank b.nodes) (is_some b.restart) (logged b.log id) e in
      record { found = p.0; closed = p.1; verdict = p.2 }

  pub forced_is : arrivable b id rank ≡ Ok x → forces says b x.message ≡ true → (force_tells b x.message ≡ arrive_tells says b id rank) × (force_book b x.message rank ≡ arrive_book says b id rank)
  forced_is e f =
      let a = arriving e in
      let verdict : round_refusal b x.message.to ≡ arrive_refusal says b id rank = sym (a.verdict ∙ cond-true _ _ _ f) in
      let tells : Forced (suc (number b x.message.to)) ≡ arrived_tells says b (logged b.log id) = sym (ap (arrived_tells says b) a.found ∙ cond-true _ _ _ f) in
      let leaves : open_round b x.message.to rank (Some x.message.id) ≡ arrived says b rank (logged b.log id) = sym (ap (arrived says b rank) a.found ∙ cond-true _ _ _ f) in
      (ap₂ (λ (o : Option Refusal) (v : Arrived). replied o v) verdict tells, ap₂ (λ (o : Option Refusal) (k : Book). unless_refused o b k) verdict leaves)

  pub delivered_is : arrivable b id rank ≡ Ok x → forces says b x.message ≡ false → (Ok (Delivered (number b x.message.to)) ≡ arrive_tells says b id rank) × (deliver b x.message ≡ arrive_book says b id rank)
  delivered_is e f =
      let a = arriving e in
      let verdict : None ≡ arrive_refusal says b id rank = sym (a.verdict ∙ cond-false _ _ _ f) in
      let tells : Delivered (number b x.message.to) ≡ arrived_tells says b (logged b.log id) = sym (ap (arrived_tells says b) a.found ∙ cond-false _ _ _ f) in
      let leaves : deliver b x.message ≡ arrived says b rank (logged b.log id) = sym (ap (arrived says b rank) a.found ∙ cond-false _ _ _ f) in
      (ap₂ (λ (o : Option Refusal) (v : Arrived). replied o v) verdict tells, ap₂ (λ (o : Option Refusal) (k : Book). unless_refused o b k) verdict leaves)
