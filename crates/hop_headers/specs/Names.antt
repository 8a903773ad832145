-- The names that hop headers and their entries use. `x-received-from`, `cluster-name`, `vhost`, `exchange`, `queue` and
-- `redelivered` are those of RabbitMQ's federation plugin; `x-bound-from`, `visit-count` and `hops` are used as it uses them.
use Rattle.std.specs.Prelude.{ℕ, List, codes}
use Rattle.hop_headers.specs.declared.names.FieldName.{FieldName}
use Rattle.hop_headers.specs.declared.names.FieldName.TheVariants.{ReceivedFrom, BoundFrom, ClusterName, Vhost, Exchange, Queue, Redelivered, VisitCount, Hops}

unfoldable pub received_from_name : List ℕ
received_from_name = codes "x-received-from"

unfoldable pub bound_from_name : List ℕ
bound_from_name = codes "x-bound-from"

unfoldable pub cluster_name : List ℕ
cluster_name = codes "cluster-name"

unfoldable pub vhost_name : List ℕ
vhost_name = codes "vhost"

unfoldable pub exchange_name : List ℕ
exchange_name = codes "exchange"

unfoldable pub queue_name : List ℕ
queue_name = codes "queue"

unfoldable pub redelivered_name : List ℕ
redelivered_name = codes "redelivered"

unfoldable pub visit_count_name : List ℕ
visit_count_name = codes "visit-count"

unfoldable pub hops_name : List ℕ
hops_name = codes "hops"

-- the octets of each name of the program
abbrev pub name_text : FieldName → List ℕ
name_text ReceivedFrom = received_from_name
name_text BoundFrom = bound_from_name
name_text ClusterName = cluster_name
name_text Vhost = vhost_name
name_text Exchange = exchange_name
name_text Queue = queue_name
name_text Redelivered = redelivered_name
name_text VisitCount = visit_count_name
name_text Hops = hops_name
