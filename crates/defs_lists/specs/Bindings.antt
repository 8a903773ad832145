-- The bindings of a definitions file (AMQP 0-9-1, queue.bind; RabbitMQ's "Exchange to Exchange Bindings"). Those that name a
-- queue or an exchange that is passed over are passed over too.
use Rattle.std.specs.Prelude.{ℕ, ◌+◌, List, [], ◌∷◌, ◌++◌, Bool, true, false, not, ◌||◌, ◌&&◌, codes, Option, Some, None, is_some, unwrap_or, option_and_then, if◌then◌else◌}
use Rattle.std.specs.Option.{option_or}
use Rattle.serde_json.specs.Data.{Data, Items, no_items, item}
use Rattle.serde_json.specs.Find.{get, as_str}
use Rattle.defs_lists.specs.declared.bindings.Objects.{Objects}
use Rattle.fed_defs.specs.declared.config.BindingDef.{BindingDef}
use Rattle.defs_values.specs.declared.fault.Refusal.{Refusal}
use Rattle.defs_values.specs.declared.fault.KeyFault.{KeyFault}
use Rattle.defs_lists.specs.declared.names.Name.{Name}
use Rattle.defs_lists.specs.declared.placed.Placed.{Placed}
use Rattle.defs_values.specs.Arguments.{arguments_of, arguments_fault}
use Rattle.defs_lists.specs.Exchanges.{is_predeclared}
use Rattle.defs_values.specs.Keys.{optional_fault, required_fault, first_fault}
use Rattle.defs_lists.specs.Lists.{count_of}
use Rattle.defs_lists.specs.Names.{has_name}
use Rattle.defs_values.specs.Paths.{item_fault, whole_fault}
use Rattle.defs_lists.specs.Queues.{named_at}
use Rattle.defs_values.specs.Shovels.{short_text_refusal}
use Rattle.fed_defs.specs.Texts.{same_text}
use Rattle.defs_values.specs.Values.{refused_unless}
use Rattle.defs_values.specs.Texts.{text_at}
use Rattle.defs_lists.specs.Vhosts.{vhost_at, own_vhost_fault}

-- ---- where a binding leads

-- the words of `destination_type`: it leads to an exchange, or to a queue
unfoldable pub destination_word : List ℕ → Option Bool
destination_word text =
    if same_text text (codes "queue") then Some false else
    if same_text text (codes "exchange") then Some true else None

abbrev pub destination_at : Data → Option Bool
destination_at d = option_and_then destination_word (as_str d)

unfoldable pub destination_refusal : Data → Option Refusal
destination_refusal d = refused_unless (destination_at d) d

-- it leads to a queue where it doesn't say
abbrev pub destination_of : Option Data → Option Bool
destination_of None = Some false
destination_of (Some d) = destination_at d

-- ---- those that are passed over

abbrev pub leads_among : Objects → Name → Option Bool → Bool
leads_among passed name None = false
leads_among passed name (Some true) = has_name name passed.exchanges
leads_among passed name (Some false) = has_name name passed.queues

-- the objects that it names are those of its virtual host, so it has to name one by a text, or none
abbrev pub has_vhost : Option Data → Bool
has_vhost None = true
has_vhost (Some v) = is_some (as_str v)

-- it names one of these objects
unfoldable pub names_one : Objects → Data → Bool
names_one passed d =
    has_name (named_at (codes "source") d) passed.exchanges
    || leads_among passed (named_at (codes "destination") d) (destination_of (get (codes "destination_type") d))

unfoldable pub is_passed_binding : Objects → Data → Bool
is_passed_binding passed d = has_vhost (get (codes "vhost") d) && names_one passed d

-- ---- one binding

unfoldable pub leads_to_exchange : Data → Bool
leads_to_exchange d = unwrap_or (destination_of (get (codes "destination_type") d)) false

unfoldable pub binding_of : Data → Placed BindingDef
binding_of d = record {
  vhost = vhost_at d;
  item = record {
    source = text_at (codes "source") d;
    to_exchange = leads_to_exchange d;
    dest = text_at (codes "destination") d;
    key = text_at (codes "routing_key") d;
    args = arguments_of d;
  };
}

-- the keys in their order
unfoldable pub binding_ends_fault : List Name → Data → Option KeyFault
binding_ends_fault vhosts d = first_fault (
    own_vhost_fault vhosts d
    ∷ required_fault short_text_refusal (codes "source") d
    ∷ required_fault short_text_refusal (codes "destination") d
    ∷ [])

unfoldable pub binding_rest_fault : Data → Option KeyFault
binding_rest_fault d = first_fault (
    optional_fault destination_refusal (codes "destination_type") d
    ∷ optional_fault short_text_refusal (codes "routing_key") d
    ∷ arguments_fault d
    ∷ [])

unfoldable pub binding_all_fault : List Name → Data → Option KeyFault
binding_all_fault vhosts d = first_fault (binding_ends_fault vhosts d ∷ binding_rest_fault d ∷ [])

unfoldable pub binding_fault : List Name → ℕ → Data → Option KeyFault
binding_fault vhosts index d = item_fault (codes "bindings") index d (binding_all_fault vhosts d)

-- an exchange of the virtual host: a predeclared one, or one of the file
abbrev pub stands_as_exchange : Objects → Name → Bool
stands_as_exchange kept name = is_predeclared name.name || has_name name kept.exchanges

abbrev pub stands_as : Objects → Name → Bool → Bool
stands_as kept name true = stands_as_exchange kept name
stands_as kept name false = has_name name kept.queues

-- both ends are there; nothing can be bound from the default exchange (AMQP 0-9-1, 3.1.3.1), whose name is empty
unfoldable pub has_ends : Objects → Data → Bool
has_ends kept d =
    stands_as_exchange kept (named_at (codes "source") d)
    && stands_as kept (named_at (codes "destination") d) (leads_to_exchange d)

-- ---- the list

-- what an item gives: one that is passed over gives nothing
unfoldable pub bindings_in : Objects → Data → List (Placed BindingDef)
bindings_in passed d = if is_passed_binding passed d then [] else binding_of d ∷ []

abbrev pub bindings_of : Objects → Items → List (Placed BindingDef)
bindings_of passed no_items = []
bindings_of passed (item d ds) = bindings_in passed d ++ bindings_of passed ds

abbrev pub passed_bindings : Objects → Items → ℕ
passed_bindings passed items = count_of (is_passed_binding passed) items

-- the fault of an item that isn't passed over: that of its keys, or that an end isn't there
unfoldable pub one_fault : List Name → Objects → Objects → ℕ → Data → Option KeyFault
one_fault vhosts kept passed index d =
    if is_passed_binding passed d then None else
    option_or (binding_fault vhosts index d) (whole_fault (codes "bindings") index (not (has_ends kept d)))

abbrev pub bindings_fault : List Name → Objects → Objects → ℕ → Items → Option KeyFault
bindings_fault vhosts kept passed index no_items = None
bindings_fault vhosts kept passed index (item d ds) =
    option_or (one_fault vhosts kept passed index d) (bindings_fault vhosts kept passed (index + 1) ds)
