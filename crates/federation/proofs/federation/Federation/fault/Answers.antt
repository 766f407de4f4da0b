use Rattle.std.proofs.Common.{◌≡◌, ℕ, Ok, Err, Result, ap, ◌∙◌, rules}
use Rattle.refusal.specs.declared.Refusal.{Refusal}
use Rattle.law.specs.Book.{Ticket, number}
use Rattle.law.specs.Restarts.{fault_refusal, faulted, ticket}
use Rattle.book.specs.View.{view}
use Rattle.federation.specs.Shown.{shown}
use Rattle.federation.specs.Tickets.{fault_told}
use Rattle.federation.proofs.Faulting.{fault-told, refused_too}
use Rattle.federation.proofs.federation.Federation.fault.Goals as goal

pub returns-in_err-place-clause-answer : goal.returns-in_err-place-clause-answer
returns-in_err-place-clause-answer g c =
    let f = c.args.self.now in
    let b = shown g.S.Store.model f in
    let is : c.from_residual.result ≡ Err c.in_err-place.field-0.0 = search rules in
    ap fault_told is ∙ refused_too (fault_refusal b c.args.cluster) c.in_err-place.field-0.0 (number b c.args.cluster) (number b c.args.cluster, ticket (faulted b c.args.cluster)) (c.in_err-place.ensures.answer (g.S.Store.model f.store))

pub returns-clause-answer : goal.returns-clause-answer
returns-clause-answer g c =
    let f = c.args.self.now in
    let m = g.S.Store.model f.store in
    ap (λ (t : Ticket). said t) (c.of_restart-ticket.ensures ∙ c.newest.ensures)
    ∙ fault-told (shown g.S.Store.model f) (view c.fault.new.book m) c.args.cluster c.in_ok-place.place (c.in_ok-place.ensures.answer m) (c.in_ok-place.ensures.after m)
  where
    said : Ticket → Result (ℕ × Ticket) Refusal
    said t = Ok (c.in_ok-place.place, t)
