-- The rows of a cluster's checkpoints dropped one after another: what is left to drop gives the whole.
use Rattle.std.proofs.Common.{◌≡◌, ℕ, ◌+◌, ◌<◌, Bool, true, false, cond, List, length, get_or, drop, sym, ap, ◌∙◌}
use Rattle.std.proofs.lemmas.List.{at_drop_more}
use Rattle.std.proofs.lemmas.Bool.{cond-true, cond-false}
use Rattle.store.specs.Table.{Model, drop_model}
use Rattle.law.specs.declared.Checkpoint.{Checkpoint}
use Rattle.law.specs.Restarts.{discard}

module _ (i : ℕ) (gone : ℕ → Bool) (cs : List Checkpoint) (at : ℕ) (d : Checkpoint) (was : Model) where
  abbrev one : Checkpoint
  one = get_or cs at d

  step : at < length cs → (m : Model) → m ≡ cond (gone one.number) (drop_model was i one.number) was → discard i gone (drop (at + 1) cs) m ≡ discard i gone (drop at cs) was
  step h m e = ap (discard i gone (drop (at + 1) cs)) e ∙ sym (at_drop_more (λ (xs : List Checkpoint). discard i gone xs was) cs at d h)

  pub discard_more : at < length cs → gone one.number ≡ true → (m : Model) → m ≡ drop_model was i one.number → discard i gone (drop (at + 1) cs) m ≡ discard i gone (drop at cs) was
  discard_more h t m e = step h m (e ∙ sym (cond-true _ _ _ t))

  pub discard_same : at < length cs → gone one.number ≡ false → discard i gone (drop (at + 1) cs) was ≡ discard i gone (drop at cs) was
  discard_same h t = step h was (sym (cond-false _ _ _ t))
