-- The queues of a definitions file (AMQP 0-9-1, queue.declare; RabbitMQ's "Queues": names, durability, types). The queues
-- of links and streams are passed over.
use Rattle.std.specs.Prelude.{ℕ, List, [], ◌∷◌, Bool, true, false, ◌||◌, codes, Option, Some, None, unwrap_or, option_and_then, if◌then◌else◌}
use Rattle.serde_json.specs.Data.{Data, Items}
use Rattle.serde_json.specs.Find.{get, as_str, as_bool}
use Rattle.fed_defs.specs.declared.config.QueueDef.{QueueDef}
use Rattle.defs_values.specs.declared.fault.Refusal.{Refusal}
use Rattle.defs_values.specs.declared.fault.KeyFault.{KeyFault}
use Rattle.defs_values.specs.declared.inert.KeySet.TheVariants as keys
use Rattle.defs_lists.specs.declared.names.Name.{Name}
use Rattle.defs_lists.specs.declared.placed.Placed.{Placed}
use Rattle.defs_values.specs.Inert.{inert_at}
use Rattle.defs_values.specs.Keys.{value_at, optional_fault, required_fault, first_fault}
use Rattle.defs_lists.specs.Lists.{kept_of, count_of, names_once, total_of, list_fault}
use Rattle.defs_values.specs.Paths.{item_fault, inside_fault}
use Rattle.defs_values.specs.Shovels.{flag_refusal}
use Rattle.fed_defs.specs.Texts.{same_text, is_reserved}
use Rattle.defs_values.specs.Values.{name_refusal, refused_unless}
use Rattle.defs_values.specs.Texts.{text_at}
use Rattle.defs_lists.specs.Vhosts.{vhost_at, own_vhost_fault}

-- ---- what objects have in common

-- the name at a key, within the virtual host
unfoldable pub named_at : List ℕ → Data → Name
named_at k d = record { vhost = vhost_at d; component = []; name = text_at k d }

-- the name of an object
abbrev pub object_name : Data → Name
object_name d = named_at (codes "name") d

-- a truth value, with its default
abbrev pub flag_at : List ℕ → Bool → Data → Bool
flag_at k missing d = unwrap_or (value_at as_bool k d) missing

-- ---- one queue

-- its type, `classic` where it has none
abbrev pub type_of : Data → List ℕ
type_of d = unwrap_or (option_and_then (value_at as_str (codes "x-queue-type")) (get (codes "arguments") d)) (codes "classic")

-- the queue of a link, or a stream
unfoldable pub is_passed_queue : Data → Bool
is_passed_queue d = is_reserved (text_at (codes "name") d) || same_text (type_of d) (codes "stream")

unfoldable pub queue_of : Data → Placed QueueDef
queue_of d = record {
  vhost = vhost_at d;
  item = record {
    name = text_at (codes "name") d;
    quorum = same_text (type_of d) (codes "quorum");
    options = record {
      durable = flag_at (codes "durable") true d;
      exclusive = false;
      auto_delete = flag_at (codes "auto_delete") false d;
    };
  };
}

-- its type is `classic` or `quorum`
abbrev pub type_word : List ℕ → Option Bool
type_word text =
    if same_text text (codes "quorum") then Some true else if same_text text (codes "classic") then Some false else None

unfoldable pub type_refusal : Data → Option Refusal
type_refusal d = refused_unless (option_and_then type_word (as_str d)) d

abbrev pub type_fault : Data → Option KeyFault
type_fault d = optional_fault type_refusal (codes "x-queue-type") d

-- the keys in their order
unfoldable pub queue_keys_fault : List Name → Data → Option KeyFault
queue_keys_fault vhosts d = first_fault (
    own_vhost_fault vhosts d
    ∷ required_fault name_refusal (codes "name") d
    ∷ optional_fault flag_refusal (codes "durable") d
    ∷ optional_fault flag_refusal (codes "auto_delete") d
    ∷ [])

unfoldable pub queue_arguments_fault : Data → Option KeyFault
queue_arguments_fault d = inside_fault type_fault (codes "arguments") (get (codes "arguments") d)

unfoldable pub queue_all_fault : List Name → Data → Option KeyFault
queue_all_fault vhosts d = first_fault (queue_keys_fault vhosts d ∷ queue_arguments_fault d ∷ [])

unfoldable pub queue_fault : List Name → ℕ → Data → Option KeyFault
queue_fault vhosts index d = item_fault (codes "queues") index d (queue_all_fault vhosts d)

-- its arguments but the type are inert
unfoldable pub queue_inert : Data → ℕ
queue_inert d = inert_at keys.Arguments (codes "arguments") d

-- ---- the list

abbrev pub queues_of : Items → List (Placed QueueDef)
queues_of items = kept_of is_passed_queue queue_of items

abbrev pub queue_names : Items → List Name
queue_names items = kept_of is_passed_queue object_name items

-- the names of those passed over, and how many these are
abbrev pub passed_queues : List Name → Items → List Name
passed_queues seen items = names_once is_passed_queue object_name seen items

abbrev pub passed_queue_count : Items → ℕ
passed_queue_count items = count_of is_passed_queue items

abbrev pub queues_inert : Items → ℕ
queues_inert items = total_of is_passed_queue queue_inert items

abbrev pub queues_fault : List Name → List Name → ℕ → Items → Option KeyFault
queues_fault vhosts seen index items = list_fault is_passed_queue (queue_fault vhosts) object_name (codes "queues") seen index items
