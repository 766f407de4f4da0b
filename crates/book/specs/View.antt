-- What the book of the code shows: the book of the protocol, whose store means a model.
--
--   group     a cluster as the protocol has it
--   groups    the clusters as the protocol has them
--   view      the whole book, with what the store means
--   new_book  what a new book shows
--   bare      the book with a store that holds nothing, for what does not ask the store
use Rattle.std.specs.Prelude.{ℕ, List, [], map, None, vec_items}
use Rattle.law.specs.Opening.{first_clusters}
use Rattle.store.specs.Table.{Model}
use Rattle.law.specs.Book.{Cluster as Group, Book as Shown}
use Rattle.book.specs.declared.cluster.Cluster.{Cluster}
use Rattle.book.specs.declared.book.Book.{Book}

abbrev pub group : Cluster → Group
group c = record { row = c.row; kept = vec_items c.kept; round = c.round }

abbrev pub groups : Book → List Group
groups b = map group (vec_items b.clusters)

abbrev pub view : Book → Model → Shown
view b m =
    record { name = b.name; nodes = b.nodes; clusters = groups b; log = vec_items b.log; next_id = b.next_id; restarts = b.restarts; restart = b.restart; store = m }

abbrev pub new_book : ℕ → ℕ → ℕ → Model → Shown
new_book name n nodes m =
    record { name = name; nodes = nodes; clusters = first_clusters n; log = []; next_id = 1; restarts = 0; restart = None; store = m }

abbrev pub bare : Book → Shown
bare b = view b (record { table = []; capacity = 0; full = 0 })
