-- a receipt number leaves the messages as they were sent
use Rattle.std.proofs.Common.{◌≡◌, ℕ, ◌<◌, true, List, map, length, get_or, set, Some, vec_items, vec_len, sym, ap, ◌∙◌, subst, arith}
use Rattle.std.proofs.lemmas.List.{get_or_read}
use Rattle.std.specs.Ordering.{nat_cmp}
use Rattle.ordered.specs.Seek.{ascending}
use Rattle.law.specs.declared.Logged.{Logged}
use Rattle.law.specs.Book.{with_log}
use Rattle.law.specs.Messages.{receive as received}
use Rattle.book.specs.declared.book.Book.{Book}
use Rattle.book.specs.Rules.{id_of, ids_below, addressed}
use Rattle.book.specs.Logs.{message_at, no_logged}
use Rattle.book.specs.View.{view}
use Rattle.book.proofs.Messages.{receive_at, receive_same, ascending_same, below_same, addressed_same}
use Rattle.book.proofs.book.Book.receive.Goals as goal

-- the log with this receipt number, as the protocol changes it
received_is : (b : Book) (place n : ℕ) (it : Logged) → place < vec_len b.log → it ≡ get_or (vec_items b.log) place it → set (vec_items b.log) place (record { message = it.message; receipt = Some n }) ≡ map (received (message_at (vec_items b.log) place).id n) (vec_items b.log)
received_is b place n it within value =
    let log = vec_items b.log in
    let len = b.log.ok.0 in
    let inside : place < length log = omega arith in
    let read : it ≡ get_or log place no_logged = get_or_read log place it inside value no_logged in
    ap (λ (x : Logged). set log place (record { message = x.message; receipt = Some n })) read ∙ sym (receive_at log place n no_logged b.ascends inside)

pub invariant_of-self-clause-ascends : goal.invariant_of-self-clause-ascends
invariant_of-self-clause-ascends c =
    let b = c.args.self.now in
    let log = vec_items b.log in
    subst (λ (l : List Logged). ascending nat_cmp id_of l ≡ true) (sym (received_is b c.args.place c.args.number c.index_mut.result.now c.requires c.index_mut.ensures.value))
    (ascending_same _ (receive_same (message_at log c.args.place).id c.args.number) log ∙ b.ascends)

pub invariant_of-self-clause-below : goal.invariant_of-self-clause-below
invariant_of-self-clause-below c =
    let b = c.args.self.now in
    let log = vec_items b.log in
    subst (λ (l : List Logged). ids_below b.next_id l ≡ true) (sym (received_is b c.args.place c.args.number c.index_mut.result.now c.requires c.index_mut.ensures.value))
    (below_same _ (receive_same (message_at log c.args.place).id c.args.number) b.next_id log ∙ b.below)

pub invariant_of-self-clause-addressed : goal.invariant_of-self-clause-addressed
invariant_of-self-clause-addressed c =
    let b = c.args.self.now in
    let log = vec_items b.log in
    subst (λ (l : List Logged). addressed (vec_len b.clusters) l ≡ true) (sym (received_is b c.args.place c.args.number c.index_mut.result.now c.requires c.index_mut.ensures.value))
    (addressed_same _ (receive_same (message_at log c.args.place).id c.args.number) (vec_len b.clusters) log ∙ b.addressed)

pub returns : goal.returns
returns c =
    let b = c.args.self.now in
    λ m. ap (with_log (view b m)) (received_is b c.args.place c.args.number c.index_mut.result.now c.requires c.index_mut.ensures.value)
