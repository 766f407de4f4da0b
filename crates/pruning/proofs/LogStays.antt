-- The log stays in order, between clusters that exist and below the next id, since messages only leave and receipts only clear.
use Rattle.std.proofs.Common.{◌≡◌, ℕ, ◌≤◌, Bool, true, not, ltb, List, [], ◌∷◌, length, get_or, filter, sym, refl, ap, ◌∙◌, arith}
use Rattle.std.proofs.lemmas.List.{length-map}
use Rattle.store.specs.Table.{both}
use Rattle.std.specs.Ordering.{nat_cmp}
use Rattle.ordered.specs.Seek.{ascending}
use Rattle.law.specs.declared.Logged.{Logged}
use Rattle.law.specs.Restarts.{undone, unreceived, log_back}
use Rattle.law.specs.Trials.{received_from, log_from}
use Rattle.book.specs.Rules.{id_of, between, addressed, ids_below}
use Rattle.law.proofs.Prune.{length_kept}
use Rattle.pruning.proofs.Filtering.{every, every_kept, every_map, ascending_kept, ascending-map}

addressed_every : (n : ℕ) (ms : List Logged) → addressed n ms ≡ every (between n) ms
addressed_every n [] = refl
addressed_every n (m ∷ ms) = ap (both (between n m)) (addressed_every n ms)

abbrev id_below : ℕ → Logged → Bool
id_below next m = ltb m.message.id next

below_every : (next : ℕ) (ms : List Logged) → ids_below next ms ≡ every (id_below next) ms
below_every next [] = refl
below_every next (m ∷ ms) = ap (both (id_below next m)) (below_every next ms)

module _ (p : Logged → Bool) (ms : List Logged) where
  kept_below : (next : ℕ) → ids_below next ms ≡ true → ids_below next (filter p ms) ≡ true
  kept_below next t =
      below_every next (filter p ms)
      ∙ every_kept p (id_below next) (id_below next) (λ m passes h. h) ms (sym (below_every next ms) ∙ t)

  kept_addressed : (n : ℕ) → addressed n ms ≡ true → addressed n (filter p ms) ≡ true
  kept_addressed n t =
      addressed_every n (filter p ms)
      ∙ every_kept p (between n) (between n) (λ m passes h. h) ms (sym (addressed_every n ms) ∙ t)

module _ (bs : List ℕ) (ms : List Logged) where
  abbrev needed : Logged → Bool
  needed m = received_from (get_or bs m.message.to 0) m.receipt

  pub log_from_ascends : ascending nat_cmp id_of ms ≡ true → ascending nat_cmp id_of (log_from bs ms) ≡ true
  log_from_ascends = ascending_kept id_of needed ms

  pub log_from_below : (next : ℕ) → ids_below next ms ≡ true → ids_below next (log_from bs ms) ≡ true
  log_from_below = kept_below needed ms

  pub log_from_addressed : (n : ℕ) → addressed n ms ≡ true → addressed n (log_from bs ms) ≡ true
  log_from_addressed = kept_addressed needed ms

  pub log_from_short : length (log_from bs ms) ≤ length ms
  log_from_short = length_kept needed ms

module _ (ps : List ℕ) (ms : List Logged) where
  abbrev done : Logged → Bool
  done m = not (undone ps m)

  abbrev left : List Logged
  left = filter done ms

  pub log-back-ascends : ascending nat_cmp id_of ms ≡ true → ascending nat_cmp id_of (log_back ps ms) ≡ true
  log-back-ascends up = ascending-map id_of (unreceived ps) (λ m. refl) left ∙ ascending_kept id_of done ms up

  pub log-back-below : (next : ℕ) → ids_below next ms ≡ true → ids_below next (log_back ps ms) ≡ true
  log-back-below next t =
      below_every next (log_back ps ms)
      ∙ every_map (unreceived ps) (id_below next) (λ m. refl) left
      ∙ sym (below_every next left)
      ∙ kept_below done ms next t

  pub log-back-addressed : (n : ℕ) → addressed n ms ≡ true → addressed n (log_back ps ms) ≡ true
  log-back-addressed n t =
      addressed_every n (log_back ps ms)
      ∙ every_map (unreceived ps) (between n) (λ m. refl) left
      ∙ sym (addressed_every n left)
      ∙ kept_addressed done ms n t

  pub log-back-short : length (log_back ps ms) ≤ length ms
  log-back-short =
      let same = length-map left (unreceived ps) in
      let few = length_kept done ms in
      omega arith
