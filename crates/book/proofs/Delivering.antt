-- A message in the log of a book goes between two different clusters that exist.
use Rattle.std.proofs.Common.{◌≡◌, ℕ, ◌<◌, true, get_or, vec_items, vec_len, sym, ap, subst, arith}
use Rattle.std.proofs.lemmas.List.{get_or_read}
use Rattle.law.specs.declared.Logged.{Logged}
use Rattle.law.specs.declared.Message.{Message}
use Rattle.book.specs.declared.book.Book.{Book}
use Rattle.book.specs.Rules.{is_between}
use Rattle.book.specs.Logs.{message_at, no_logged}
use Rattle.book.proofs.Messages.{Between, is_between_lem, addressed_at}

-- the message read at a place of the log
pub message_read : (b : Book) (place : ℕ) (it : Logged) → place < vec_len b.log → it ≡ get_or (vec_items b.log) place it → it.message ≡ message_at (vec_items b.log) place
message_read b place it within read =
    let len = b.log.ok.0 in
    ap (λ (x : Logged). x.message) (get_or_read (vec_items b.log) place it (omega arith) read no_logged)

pub between-read : (b : Book) (place : ℕ) (it : Logged) → place < vec_len b.log → it ≡ get_or (vec_items b.log) place it → is_between (vec_len b.clusters) it.message.from it.message.to ≡ true
between-read b place it within read =
    let len = b.log.ok.0 in
    subst (λ (x : Message). is_between (vec_len b.clusters) x.from x.to ≡ true) (sym (message_read b place it within read))
    (addressed_at (vec_len b.clusters) (vec_items b.log) place no_logged b.addressed (omega arith))

pub two_of : (b : Book) (place : ℕ) (it : Logged) → place < vec_len b.log → it ≡ get_or (vec_items b.log) place it → Between (vec_len b.clusters) it.message.from it.message.to
two_of b place it within read = is_between_lem _ _ _ (between-read b place it within read)
