-- Ten slips that the law turns away, each by a short run with the answers, the log or the table that it would give.
--
--   told   the history of a list of calls with their answers
--   Slips  each slip, and that the law does not hold of what it gives
use Rattle.std.specs.Prelude.{ℕ, false, List, [], ◌∷◌, ◌++◌, Some, None, Ok}
use Rattle.store.specs.Table.{TableRow, with_table}
use Rattle.law.specs.declared.Message.{Message}
use Rattle.law.specs.declared.Noted.TheVariants.{Committed}
use Rattle.law.specs.declared.Arrived.TheVariants.{Delivered}
use Rattle.law.specs.Book.{Book, with_log, with_store}
use Rattle.law.specs.Messages.{Meaning, on_news}
use Rattle.law.specs.Calls.{Answered, request, answer, arrive, fault, finish, resume, collect}
use Rattle.law.specs.History.{Told, new_told, history, tell_places}
use Rattle.law.specs.Law.{Law, Restarted}
use Rattle.law.specs.WorkedRuns.{◌gets◌, opened, slots, first, receiver_fails, second, delivered_once, chain_of_three}

-- a history of clusters of one node
abbrev pub told : List Answered → Told
told script = history 1 script (new_told 1)

-- the first message that cluster 0 sends to cluster 1
abbrev pub first_message : ℕ → Message
first_message word = record { id = 1; from = 0; to = 1; word = word; number = 1 }

-- cluster 1 keeps a second checkpoint, and cluster 0 fails without having done anything
abbrev pub nothing_lost : List Answered
nothing_lost =
    request 1 0 gets Ok 0 ∷ answer 1 0 9 gets Ok (Committed 2 None) ∷ fault 0 gets Ok (1, first) ∷ finish first gets Ok tt ∷ []

-- the receiver of a message fails and goes back to before its delivery; then the sender fails
abbrev pub never_got : List Answered
never_got =
    delivered_once
    ++ (fault 1 gets Ok (2, first) ∷ finish first gets Ok tt ∷ resume first gets Ok (0 ∷ 2 ∷ [], 1 ∷ [])
    ∷ fault 0 gets Ok (1, second) ∷ finish second gets Ok tt ∷ [])

-- the rows of a store, without those that a slip has lost
abbrev pub holding : List TableRow → Book
holding rows = with_store (opened 2) (with_table slots rows)

pub record Slips : Type 0 where
  -- sending again only above the place: the log still calls the message delivered
  pub again_above : Law 2 1 on_news (told receiver_fails) (with_log (opened 2) (record { message = first_message 7; receipt = Some 2 } ∷ [])) → ⊥
  -- a message that goes again with another word
  pub word_lost : Law 2 1 on_news (told receiver_fails) (with_log (opened 2) (record { message = first_message 0; receipt = None } ∷ [])) → ⊥
  -- an undone send left in the log: a late copy is delivered
  pub late_copy : (b : Book) → Law 2 1 on_news (told (delivered_once ++ (fault 0 gets Ok (1, first) ∷ finish first gets Ok tt ∷ resume first gets Ok (1 ∷ 2 ∷ [], []) ∷ arrive 1 0 gets Ok (Delivered 2) ∷ []))) b → ⊥
  -- a message delivered a second time
  pub delivered_twice : (b : Book) → Law 2 1 on_news (told (delivered_once ++ (arrive 1 0 gets Ok (Delivered 2) ∷ []))) b → ⊥
  -- everybody goes back to checkpoint 1
  pub all_to_one : (b : Book) → Restarted (told nothing_lost) (1 ∷ 1 ∷ []) (tell_places (told nothing_lost) (1 ∷ 1 ∷ [])) b → ⊥
  -- a row raised before the checkpoint: a cluster called back for a message that it has not got
  pub raised_row : (b : Book) → Restarted (told never_got) (1 ∷ 1 ∷ []) (tell_places (told never_got) (1 ∷ 1 ∷ [])) b → ⊥
  -- clusters move on the failed cluster's alerts only
  pub first_alert_only : (b : Book) → Restarted (told chain_of_three) (1 ∷ 2 ∷ 0 ∷ []) (tell_places (told chain_of_three) (1 ∷ 2 ∷ 0 ∷ [])) b → ⊥
  -- a store that is not called, or a collect that drops a checkpoint at its bound
  pub store_not_called : Law 2 1 on_news (new_told 1) (holding []) → ⊥
  pub collect_too_far : Law 2 1 on_news (told (request 0 0 gets Ok 0 ∷ answer 0 0 7 gets Ok (Committed 2 None) ∷ collect gets Ok (record { bounds = 2 ∷ 1 ∷ []; checkpoints = 1; messages = 0 }) ∷ [])) (holding (record { cluster = 1; number = 1; words = 0 ∷ [] } ∷ [])) → ⊥
  -- a rule that never forces
  pub never_forces : Meaning (λ e n k. false) → ⊥
