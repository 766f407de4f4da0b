-- Every call, accepted or refused, keeps book and history in agreement; so does every list of calls.
use Rattle.store.specs.Table.{both}
use Rattle.std.proofs.Common.{◌≡◌, ℕ, List, [], ◌∷◌, is_some, Some, None, Option, refl, arith}
use Rattle.refusal.specs.declared.Refusal.{Refusal}
use Rattle.refusal.specs.declared.Refusal.TheVariants as refuses
use Rattle.law.specs.declared.Restart.{Restart}
use Rattle.refusal.specs.Answers.{replied}
use Rattle.law.specs.Book.{Book, Ticket}
use Rattle.law.specs.Messages.{Rule, Meaning, send_refusal, arrive_refusal}
use Rattle.law.specs.Rounds.{request_refusal, answer_refusal, from_store}
use Rattle.law.specs.Restarts.{fault_refusal, alert_refusal, finish_refusal, resume_refusal, resume_at, resumed, resumed_tells, holds}
use Rattle.law.specs.Trials.{trial_refusal, collect_refusal}
use Rattle.law.specs.Storing.{read_refusal}
use Rattle.law.specs.Calls.{Call, Value, request, answer, send, arrive, fault, alert, finish, resume, trial, collect, read, lose, rebuild, reply, step, run, after}
use Rattle.law.specs.History.{Told, tell, history, tell_places}
use Rattle.store.proofs.Orders.{both_true}
use Rattle.law.proofs.State.{State, by_refusal, passes, escapes, not_some}
use Rattle.law.proofs.Quiet.{request_state, fault_state, alert_state, finish_state, open_restart}
use Rattle.law.proofs.Adding.{send_state}
use Rattle.law.proofs.Arrivals.{arrive_state, answer_state}
use Rattle.law.proofs.Resume.{resumed_state}
use Rattle.law.proofs.Collects.{collected_state}

pub resume_state : (n nodes : ℕ) (b : Book) (h : Told) → State n nodes b h → (t : Ticket) → resume_refusal b t ≡ None → State n nodes (resumed b b.restart) (tell_places h (resumed_tells b b.restart).0)
resume_state n nodes b h st t ok = go b.restart refl ok
  where
    go : (o : Option Restart) → b.restart ≡ o → resume_at b t o ≡ None → State n nodes (resumed b o) (tell_places h (resumed_tells b o).0)
    go None e q = let z : ◌≡◌ {A = ℕ} 0 1 = cc in absurd (omega arith)
    go (Some r) e q =
        let p = passes (both (holds b t) r.settled) refuses.WrongTicket None q in
        resumed_state n nodes b h st r (open_restart n nodes b h st r e) (both_true (holds b t) r.settled p.0).1

pub step_state : (n nodes : ℕ) (says : Rule) → Meaning says → (c : Call) (b : Book) (h : Told) → State n nodes b h → State n nodes (step says b c) (tell nodes h c (reply says b c))
step_state n nodes says means (request i rank) b h st =
    by_refusal (State n nodes) nodes b h (request i rank) (request_refusal b i rank) _ _ st (request_state n nodes b h st i rank)
step_state n nodes says means (answer i rank word) b h st =
    by_refusal (State n nodes) nodes b h (answer i rank word) (answer_refusal b i rank word) _ _ st (answer_state n nodes b h st i rank word)
step_state n nodes says means (send i j word) b h st =
    by_refusal (State n nodes) nodes b h (send i j word) (send_refusal b i j) _ _ st (send_state n nodes b h st i j word)
step_state n nodes says means (arrive id rank) b h st =
    by_refusal (State n nodes) nodes b h (arrive id rank) (arrive_refusal says b id rank) _ _ st (arrive_state n nodes says b h st means id rank)
step_state n nodes says means (fault f) b h st =
    by_refusal (State n nodes) nodes b h (fault f) (fault_refusal b f) _ _ st (fault_state n nodes b h st f)
step_state n nodes says means (alert t i j) b h st =
    by_refusal (State n nodes) nodes b h (alert t i j) (alert_refusal b t i j) _ _ st (alert_state n nodes b h st t i j)
step_state n nodes says means (finish t) b h st =
    by_refusal (State n nodes) nodes b h (finish t) (finish_refusal b t) _ _ st (finish_state n nodes b h st t)
step_state n nodes says means (resume t) b h st =
    by_refusal (State n nodes) nodes b h (resume t) (resume_refusal b t) _ _ st (resume_state n nodes b h st t)
step_state n nodes says means (trial f) b h st = told-nothing (trial_refusal b f) _
  where
    told-nothing : (o : Option Refusal) (v : Value (trial f)) → State n nodes b (tell nodes h (trial f) (replied o v))
    told-nothing (Some why) v = st
    told-nothing None v = st
step_state n nodes says means collect b h st =
    by_refusal (State n nodes) nodes b h collect (collect_refusal b) _ _ st
    (λ e. collected_state n nodes b h st (not_some b.restart (escapes (is_some b.restart) refuses.RestartOpen None e).0))
step_state n nodes says means (read i k) b h st = told-nothing (read_refusal b i k) _
  where
    told-nothing : (o : Option Refusal) (v : Value (read i k)) → State n nodes b (tell nodes h (read i k) (replied o v))
    told-nothing (Some why) v = st
    told-nothing None v = st
step_state n nodes says means (lose side why) b h st = told-nothing (from_store why)
  where
    told-nothing : (o : Option Refusal) → State n nodes b (tell nodes h (lose side why) (replied o tt))
    told-nothing (Some w) = st
    told-nothing None = st
step_state n nodes says means (rebuild side why) b h st = told-nothing (from_store why)
  where
    told-nothing : (o : Option Refusal) → State n nodes b (tell nodes h (rebuild side why) (replied o tt))
    told-nothing (Some w) = st
    told-nothing None = st

pub calls_state : (n nodes : ℕ) (says : Rule) → Meaning says → (calls : List Call) (b : Book) (h : Told) → State n nodes b h → State n nodes (after says calls b) (history nodes (run says calls b) h)
calls_state n nodes says means [] b h st = st
calls_state n nodes says means (c ∷ cs) b h st =
    calls_state n nodes says means cs (step says b c) (tell nodes h c (reply says b c)) (step_state n nodes says means c b h st)
