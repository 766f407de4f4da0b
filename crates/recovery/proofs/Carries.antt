-- The restart after an alert, as the code writes it: what it reads where the alert waits does not depend on what stands
-- for nothing, since the place is within the list.
use Rattle.std.proofs.Common.{◌≡◌, ℕ, ◌<◌, false, List, [], length, get_or, set, Some, None, ap, ◌∙◌, ap₂}
use Rattle.std.proofs.lemmas.List.{get_or_default}
use Rattle.law.specs.declared.Alerts.{Alerts}
use Rattle.law.specs.declared.Restart.{Restart}
use Rattle.law.specs.Book.{Cluster as Group}
use Rattle.law.specs.Restarts.{called_to, carry, carried, taken, to_others, to_nobody}

-- the alerts after one was taken
abbrev pub taken_out : Restart → ℕ → ℕ → List Alerts
taken_out r i j = set r.waiting i (record { to = set (get_or r.waiting i (record { to = [] })).to j false })

module _ (cs : List Group) (r : Restart) (i j : ℕ) (within : i < length r.waiting) where
  same_taken : taken_out r i j ≡ taken r i j
  same_taken = ap (λ (a : Alerts). set r.waiting i (record { to = set a.to j false })) (get_or_default r.waiting i (record { to = [] }) to_nobody within)

  pub carries_none : None ≡ called_to cs r i j → record { places = r.places; waiting = taken_out r i j; settled = r.settled } ≡ carry cs r i j
  carries_none e =
      ap (λ (ws : List Alerts). record { places = r.places; waiting = ws; settled = r.settled }) same_taken ∙ ap (carried (length cs) r i j) e

  pub carries_some : (p : ℕ) (others : Alerts) → others ≡ to_others (length cs) j → Some p ≡ called_to cs r i j →
      record { places = set r.places j p; waiting = set (taken_out r i j) j others; settled = r.settled } ≡ carry cs r i j
  carries_some p others is e =
      ap₂ (λ (ws : List Alerts) (a : Alerts). record { places = set r.places j p; waiting = set ws j a; settled = r.settled }) same_taken is
      ∙ ap (carried (length cs) r i j) e
