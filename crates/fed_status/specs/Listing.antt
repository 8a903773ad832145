-- The listing of a journal.
use Rattle.std.specs.Prelude.{ℕ, List, ◌++◌, flat_map}
use Rattle.fed_journal.specs.declared.entry.Entry.{Entry}
use Rattle.fed_journal.specs.Links.{links_of}
use Rattle.fed_status.specs.Bindings.{binding_lines}
use Rattle.fed_status.specs.Links.{link_line}
use Rattle.fed_status.specs.Queues.{places_of, queue_lines}

-- the queues and the bindings of each place
unfoldable pub object_lines : List Entry → List ℕ
object_lines J = flat_map (queue_lines J) (places_of J) ++ flat_map (binding_lines J) (places_of J)

-- the objects, then the links
unfoldable pub listing : List Entry → List ℕ
listing J = object_lines J ++ flat_map (link_line J) (links_of J)
