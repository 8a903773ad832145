-- The exchanges of a definitions file (AMQP 0-9-1, exchange.declare; RabbitMQ's "Exchanges"). Those of links are passed
-- over. The predeclared ones (AMQP 0-9-1, 3.1.3) are in each virtual host in any case, and are read over.
use Rattle.std.specs.Prelude.{ℕ, ◌+◌, List, [], ◌∷◌, Bool, true, false, ◌||◌, codes, Option, Some, None, unwrap_or, option_and_then, if◌then◌else◌}
use Rattle.serde_json.specs.Data.{Data, Items}
use Rattle.serde_json.specs.Find.{get, as_str}
use Rattle.amqp_props.specs.declared.link.ExchangeKind.{ExchangeKind}
use Rattle.amqp_props.specs.declared.link.ExchangeKind.TheVariants.{Direct, Fanout, Headers, Topic}
use Rattle.fed_defs.specs.declared.config.ExchangeDef.{ExchangeDef}
use Rattle.defs_values.specs.declared.fault.Refusal.{Refusal}
use Rattle.defs_values.specs.declared.fault.KeyFault.{KeyFault}
use Rattle.defs_values.specs.declared.inert.KeySet.TheVariants as keys
use Rattle.defs_lists.specs.declared.names.Name.{Name}
use Rattle.defs_lists.specs.declared.placed.Placed.{Placed}
use Rattle.defs_values.specs.Inert.{inert_at}
use Rattle.defs_values.specs.Keys.{value_at, optional_fault, required_fault, first_fault}
use Rattle.defs_lists.specs.Lists.{kept_of, count_of, names_once, total_of, list_fault}
use Rattle.defs_values.specs.Paths.{item_fault, inside_fault}
use Rattle.defs_lists.specs.Queues.{object_name, flag_at}
use Rattle.defs_values.specs.Shovels.{flag_refusal}
use Rattle.fed_defs.specs.Texts.{same_text, is_reserved}
use Rattle.defs_values.specs.Values.{name_refusal, refused_unless}
use Rattle.defs_values.specs.Texts.{text_at}
use Rattle.defs_lists.specs.Vhosts.{vhost_at, own_vhost_fault}

-- the names of the predeclared exchanges
unfoldable pub is_predeclared : List ℕ → Bool
is_predeclared name =
    same_text name (codes "amq.direct") || same_text name (codes "amq.fanout") || same_text name (codes "amq.headers")
    || same_text name (codes "amq.match") || same_text name (codes "amq.topic")

-- an exchange of a link
unfoldable pub is_link_exchange : Data → Bool
is_link_exchange d = is_reserved (text_at (codes "name") d)

unfoldable pub is_passed_exchange : Data → Bool
is_passed_exchange d = is_link_exchange d || is_predeclared (text_at (codes "name") d)

-- the words of `type` (AMQP 0-9-1, 3.1.3 "Exchange Types")
unfoldable pub kind_word : List ℕ → Option ExchangeKind
kind_word text =
    if same_text text (codes "direct") then Some Direct else
    if same_text text (codes "fanout") then Some Fanout else
    if same_text text (codes "headers") then Some Headers else
    if same_text text (codes "topic") then Some Topic else None

abbrev pub kind_at : Data → Option ExchangeKind
kind_at d = option_and_then kind_word (as_str d)

unfoldable pub kind_refusal : Data → Option Refusal
kind_refusal d = refused_unless (kind_at d) d

-- an exchange; an auto-delete one is kept as a plain one
unfoldable pub exchange_of : Data → Placed ExchangeDef
exchange_of d = record {
  vhost = vhost_at d;
  item = record {
    name = text_at (codes "name") d;
    kind = unwrap_or (value_at kind_at (codes "type") d) Direct;
    durable = flag_at (codes "durable") true d;
    internal = flag_at (codes "internal") false d;
  };
}

-- the arguments are inert
abbrev pub no_fault : Data → Option KeyFault
no_fault d = None

-- the keys in their order
unfoldable pub exchange_name_fault : List Name → Data → Option KeyFault
exchange_name_fault vhosts d = first_fault (
    own_vhost_fault vhosts d
    ∷ required_fault name_refusal (codes "name") d
    ∷ required_fault kind_refusal (codes "type") d
    ∷ [])

unfoldable pub exchange_flags_fault : Data → Option KeyFault
exchange_flags_fault d = first_fault (
    optional_fault flag_refusal (codes "durable") d
    ∷ optional_fault flag_refusal (codes "auto_delete") d
    ∷ optional_fault flag_refusal (codes "internal") d
    ∷ [])

unfoldable pub exchange_arguments_fault : Data → Option KeyFault
exchange_arguments_fault d = inside_fault no_fault (codes "arguments") (get (codes "arguments") d)

unfoldable pub exchange_all_fault : List Name → Data → Option KeyFault
exchange_all_fault vhosts d = first_fault (
    exchange_name_fault vhosts d ∷ exchange_flags_fault d ∷ exchange_arguments_fault d ∷ [])

unfoldable pub exchange_fault : List Name → ℕ → Data → Option KeyFault
exchange_fault vhosts index d = item_fault (codes "exchanges") index d (exchange_all_fault vhosts d)

-- its arguments are inert, and so is its being auto-delete
unfoldable pub exchange_inert : Data → ℕ
exchange_inert d =
    inert_at keys.Arguments (codes "arguments") d + (if flag_at (codes "auto_delete") false d then 1 else 0)

-- ---- the list

abbrev pub exchanges_of : Items → List (Placed ExchangeDef)
exchanges_of items = kept_of is_passed_exchange exchange_of items

abbrev pub exchange_names : Items → List Name
exchange_names items = kept_of is_passed_exchange object_name items

-- the names of those of links, and how many these are
abbrev pub passed_exchanges : List Name → Items → List Name
passed_exchanges seen items = names_once is_link_exchange object_name seen items

abbrev pub passed_exchange_count : Items → ℕ
passed_exchange_count items = count_of is_link_exchange items

abbrev pub exchanges_inert : Items → ℕ
exchanges_inert items = total_of is_passed_exchange exchange_inert items

abbrev pub exchanges_fault : List Name → List Name → ℕ → Items → Option KeyFault
exchanges_fault vhosts seen index items = list_fault is_passed_exchange (exchange_fault vhosts) object_name (codes "exchanges") seen index items
