-- What a search by id or number finds.
--
--   LoggedAt  the place of the message with this id, or that the log has none
use Rattle.std.specs.Prelude.{◌≡◌, ℕ, ◌<◌, List, length, Some, None, Option, slice_index_or}
use Rattle.law.specs.declared.Logged.{Logged}
use Rattle.law.specs.Book.{logged}

abbrev pub LoggedAt : List Logged → ℕ → Option ℕ → Type 0
LoggedAt log id (Some at) = (at < length log) × ((d : Logged) → logged log id ≡ Some (slice_index_or log at d))
LoggedAt log id None = logged log id ≡ None
