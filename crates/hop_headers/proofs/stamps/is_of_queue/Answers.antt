use Rattle.std.proofs.Common.{◌≡◌, ℕ, List, false, Option, Some, None, refl, sym}
use Rattle.hop_headers.specs.Names.{queue_name, exchange_name}
use Rattle.hop_headers.specs.Hops.{text_at, object_with, object_at}
use Rattle.hop_headers.specs.Stamps.{is_queue}
use Rattle.field_tables.specs.View.{table_view}
use Rattle.hop_headers.proofs.stamps.is_of_queue.Goals as goal

-- an entry without a queue is of no queue
of_none : (queue : List ℕ) (o : Option (List ℕ)) → false ≡ is_queue queue (object_with None o)
of_none queue None = refl
of_none queue (Some x) = refl

pub returns-in-None : goal.returns-in-None
unfolding object_at
returns-in-None c =
    let none : text_at queue_name (table_view c.args.table.now) ≡ None = sym c.in-None.ensures in
    rw none (of_none c.args.queue.now (text_at exchange_name (table_view c.args.table.now)))
