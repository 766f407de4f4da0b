-- What a federation shows: the book of the protocol, with what its store means.
use Rattle.store.specs.Table.{Model}
use Rattle.law.specs.Book.{Book}
use Rattle.book.specs.View.{view}
use Rattle.federation.specs.declared.federation.Federation.{Federation}

abbrev pub shown : {S R : Type 0} → (S → Model) → Federation S R → Book
shown model f = view f.book (model f.store)
