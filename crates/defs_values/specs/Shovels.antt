-- What a dynamic shovel is: RabbitMQ's "Configuring Dynamic Shovels", with its defaults. Some keys have an older name, and
-- where both stand the newer one alone is looked at.
use Rattle.std.specs.Prelude.{ℕ, Bool, true, false, not, ◌||◌, List, [], ◌∷◌, codes, Option, Some, None, is_some, option_map, option_and_then, unwrap_or, if◌then◌else◌}
use Rattle.std.specs.Option.{option_or}
use Rattle.serde_json.specs.Data.{Data, Members, no_members, member}
use Rattle.serde_json.specs.Find.{get, as_str, as_bool, as_number, as_u64, as_object}
use Rattle.serde_json.specs.Written.{has_float}
use Rattle.amqp_props.specs.declared.link.AckMode.{AckMode}
use Rattle.amqp_props.specs.declared.link.AckMode.TheVariants.{OnConfirm}
use Rattle.amqp_props.specs.declared.link.DeleteAfter.{DeleteAfter}
use Rattle.amqp_props.specs.declared.link.DeleteAfter.TheVariants.{Never, Count, QueueLength}
use Rattle.amqp_props.specs.declared.link.SourceAt.{SourceAt}
use Rattle.amqp_props.specs.declared.link.SourceAt.TheVariants as source
use Rattle.amqp_props.specs.declared.link.TargetAt.{TargetAt}
use Rattle.amqp_props.specs.declared.link.TargetAt.TheVariants as target
use Rattle.amqp_props.specs.declared.properties.Properties.{Properties}
use Rattle.defs_values.specs.declared.fault.Refusal.{Refusal}
use Rattle.defs_values.specs.declared.fault.Refusal.TheVariants.{Shape, Float}
use Rattle.defs_values.specs.declared.fault.KeyFault.{KeyFault}
use Rattle.defs_values.specs.declared.fault.KeyFault.TheVariants as key
use Rattle.fed_defs.specs.declared.shovel.ShovelDef.{ShovelDef}
use Rattle.defs_values.specs.Keys.{value_at, optional_fault, optional_within, required_within, first_fault}
use Rattle.defs_values.specs.Paths.{key_step}
use Rattle.fed_defs.specs.Texts.{same_text, is_reserved}
use Rattle.defs_values.specs.Values.{misfit, refused_unless, text_refusal, mode_at, mode_refusal, number_in, number_refusal, name_refusal}
use Rattle.defs_values.specs.Uris.{uris_at, uris_fault}
use Rattle.defs_values.specs.Upstreams.{most_prefetch, most_delay}
use Rattle.fed_defs.specs.Properties.{no_props}

-- ---- values

-- a truth value
unfoldable pub flag_refusal : Data → Option Refusal
flag_refusal d = refused_unless (as_bool d) d

-- the words of `src-delete-after`
unfoldable pub delete_word : List ℕ → Option DeleteAfter
delete_word text =
    if same_text text (codes "never") then Some Never else
    if same_text text (codes "queue-length") then Some QueueLength else None

-- a whole number of 64 bits
abbrev pub whole_at : Data → Option ℕ
whole_at d = option_and_then as_u64 (as_number d)

unfoldable pub count_refusal : Data → Option Refusal
count_refusal d = refused_unless (whole_at d) d

-- a word, or a whole number of messages
abbrev pub delete_from : Data → Option (List ℕ) → Option DeleteAfter
delete_from d (Some text) = delete_word text
delete_from d None = option_map Count (whole_at d)

abbrev pub delete_at : Data → Option DeleteAfter
delete_at d = delete_from d (as_str d)

unfoldable pub delete_refusal : Data → Option Refusal
delete_refusal d = refused_unless (delete_at d) d

-- an exchange may be the default one, whose name is empty
abbrev pub is_exchange_name : List ℕ → Bool
is_exchange_name name = not (is_reserved name)

unfoldable pub exchange_refusal : Data → Option Refusal
exchange_refusal d = text_refusal is_exchange_name d (as_str d)

-- a routing key or the text of a property
abbrev pub any_text : List ℕ → Bool
any_text text = true

unfoldable pub short_text_refusal : Data → Option Refusal
short_text_refusal d = text_refusal any_text d (as_str d)

-- the only protocol
abbrev pub word_refusal : Data → Option (List ℕ) → Option Refusal
word_refusal d None = Some (misfit d)
word_refusal d (Some text) = if same_text text (codes "amqp091") then None else Some Shape

unfoldable pub protocol_refusal : Data → Option Refusal
protocol_refusal d = word_refusal d (as_str d)

-- ---- the properties that a shovel sets (`dest-publish-properties`)

-- the type of a message, or a name of it, of its user or of its program
abbrev pub is_identity : List ℕ → Bool
is_identity k =
    same_text k (codes "message_id") || same_text k (codes "type") || same_text k (codes "user_id") || same_text k (codes "app_id")

-- a property that is a text
unfoldable pub is_text_property : List ℕ → Bool
is_text_property k =
    same_text k (codes "content_type") || same_text k (codes "content_encoding") || same_text k (codes "correlation_id")
    || same_text k (codes "reply_to") || same_text k (codes "expiration") || is_identity k

-- no other property may be set
unfoldable pub plain_refusal : List ℕ → Data → Option Refusal
plain_refusal k d =
    if is_text_property k then short_text_refusal d else
    if same_text k (codes "priority") then number_refusal 0 255 d else
    if same_text k (codes "timestamp") then count_refusal d else
    if same_text k (codes "delivery_mode") then number_refusal 2 2 d else Some Shape

-- a floating-point number is refused first, at any depth and under any name
unfoldable pub property_refusal : List ℕ → Data → Option Refusal
property_refusal k d = if has_float d then Some Float else plain_refusal k d

-- the first of two refusals
abbrev pub first_refusal : Option Refusal → Option Refusal → Option Refusal
first_refusal None later = later
first_refusal (Some why) later = Some why

-- the first refused property, at its name
abbrev pub properties_fault : Members → Option KeyFault
properties_fault no_members = None
properties_fault (member k d ms) =
    option_or (option_map (key.Refused (key_step k)) (property_refusal k d)) (properties_fault ms)

abbrev pub fault_in : Data → Option Members → Option KeyFault
fault_in d None = Some (key.Refused [] (misfit d))
fault_in d (Some ms) = properties_fault ms

unfoldable pub props_fault : Data → Option KeyFault
props_fault d = fault_in d (as_object d)

unfoldable pub props_of : Data → Properties
props_of d = record {
  content_type = value_at as_str (codes "content_type") d;
  content_encoding = value_at as_str (codes "content_encoding") d;
  headers = None;
  delivery_mode = value_at (number_in 2 2) (codes "delivery_mode") d;
  priority = value_at (number_in 0 255) (codes "priority") d;
  correlation_id = value_at as_str (codes "correlation_id") d;
  reply_to = value_at as_str (codes "reply_to") d;
  expiration = value_at as_str (codes "expiration") d;
  message_id = value_at as_str (codes "message_id") d;
  timestamp = value_at whole_at (codes "timestamp") d;
  type_name = value_at as_str (codes "type") d;
  user_id = value_at as_str (codes "user_id") d;
  app_id = value_at as_str (codes "app_id") d;
  reserved = None;
}

-- ---- keys with an older name

-- the key stands in the object
abbrev pub has_key : List ℕ → Data → Bool
has_key k d = is_some (get k d)

-- a value that is looked at only where another key isn't there
abbrev pub value_without : {A : Type 0} → (Data → Option A) → List ℕ → List ℕ → Data → Option A
value_without meaning other k d = if has_key other d then None else value_at meaning k d

-- a value that is looked at only where another key is there
abbrev pub value_with : {A : Type 0} → (Data → Option A) → List ℕ → List ℕ → Data → Option A
value_with meaning other k d = if has_key other d then value_at meaning k d else None

-- the value under the newer name, or where that isn't there under the older
abbrev pub value_at_either : {A : Type 0} → (Data → Option A) → List ℕ → List ℕ → Data → Option A
value_at_either meaning newer older d = option_or (value_at meaning newer d) (value_without meaning newer older d)

-- a key that is looked at only where another isn't there
unfoldable pub fault_without : (Data → Option Refusal) → List ℕ → List ℕ → Data → Option KeyFault
fault_without refusal other k d = if has_key other d then None else optional_fault refusal k d

-- the same of a key that is refused at a place within its value
unfoldable pub within_without : (Data → Option KeyFault) → List ℕ → List ℕ → Data → Option KeyFault
within_without fault other k d = if has_key other d then None else optional_within fault k d

-- a key that is looked at only where another is there
unfoldable pub fault_with : (Data → Option Refusal) → List ℕ → List ℕ → Data → Option KeyFault
fault_with refusal other k d = if has_key other d then optional_fault refusal k d else None

-- ---- the ends

-- a queue, or an exchange with a routing key
abbrev pub source_from : Option (List ℕ) → Option (List ℕ) → Option (List ℕ) → SourceAt
source_from (Some queue) exchange routing_key = source.Queue queue
source_from None exchange routing_key = source.Exchange (unwrap_or exchange []) (unwrap_or routing_key [])

-- a queue, an exchange, or where each message came from
abbrev pub target_from : Option (List ℕ) → Option (List ℕ) → Option (List ℕ) → TargetAt
target_from (Some queue) exchange routing_key = target.Queue queue
target_from None (Some exchange) routing_key = target.Exchange exchange routing_key
target_from None None routing_key = target.Original

unfoldable pub source_of : Data → SourceAt
source_of d = source_from (value_at as_str (codes "src-queue") d) (value_at as_str (codes "src-exchange") d) (value_with as_str (codes "src-exchange") (codes "src-exchange-key") d)

unfoldable pub target_of : Data → TargetAt
target_of d = target_from (value_at as_str (codes "dest-queue") d) (value_at as_str (codes "dest-exchange") d) (value_with as_str (codes "dest-exchange") (codes "dest-exchange-key") d)

-- a queue is refused beside an exchange
abbrev pub alone_refusal : Bool → Data → Option Refusal
alone_refusal exchange d = if exchange then Some (misfit d) else name_refusal d

-- one of both has to be there
abbrev pub one_refusal : Bool → Option Data → Option Refusal
one_refusal exchange None = if exchange then None else Some Shape
one_refusal exchange (Some d) = alone_refusal exchange d

unfoldable pub source_queue_fault : Data → Option KeyFault
source_queue_fault d = option_map (key.Refused (codes "src-queue")) (one_refusal (has_key (codes "src-exchange") d) (get (codes "src-queue") d))

unfoldable pub target_queue_fault : Data → Option KeyFault
target_queue_fault d = optional_fault (alone_refusal (has_key (codes "dest-exchange") d)) (codes "dest-queue") d

-- ---- the whole

-- the properties under the newer name, or where it isn't there under the older
abbrev pub props_or_none : Option Data → Option Data → Properties
props_or_none (Some newer) older = props_of newer
props_or_none None (Some older) = props_of older
props_or_none None None = no_props

-- the defaults of keys that aren't there
abbrev pub mode_or_default : Data → AckMode
mode_or_default d = unwrap_or (value_at mode_at (codes "ack-mode") d) OnConfirm

abbrev pub delay_or_default : Data → ℕ
delay_or_default d = unwrap_or (value_at (number_in 0 most_delay) (codes "reconnect-delay") d) 5

abbrev pub stamp_or_default : Data → Bool
stamp_or_default d = unwrap_or (value_at_either as_bool (codes "dest-add-forward-headers") (codes "add-forward-headers") d) false

-- a shovel, with the defaults of its keys
unfoldable pub shovel_of : Data → ShovelDef
shovel_of d = record {
  sources = uris_at (codes "src-uri") d;
  targets = uris_at (codes "dest-uri") d;
  source_at = source_of d;
  target_at = target_of d;
  mode = mode_or_default d;
  prefetch = unwrap_or (value_at_either (number_in 0 most_prefetch) (codes "src-prefetch-count") (codes "prefetch-count") d) 1000;
  delay = delay_or_default d;
  delete_after = unwrap_or (value_at_either delete_at (codes "src-delete-after") (codes "delete-after") d) Never;
  stamp = stamp_or_default d;
  props = props_or_none (get (codes "dest-publish-properties") d) (get (codes "publish-properties") d);
}

-- the faults of the keys in the order of their octets, in four parts: to `dest-add-forward-headers`
unfoldable pub front_fault : Data → Option KeyFault
front_fault d = first_fault (
    optional_fault mode_refusal (codes "ack-mode") d
    ∷ fault_without flag_refusal (codes "dest-add-forward-headers") (codes "add-forward-headers") d
    ∷ fault_without delete_refusal (codes "src-delete-after") (codes "delete-after") d
    ∷ optional_fault flag_refusal (codes "dest-add-forward-headers") d
    ∷ [])

-- from `dest-exchange` to `dest-uri`
unfoldable pub target_names_fault : Data → Option KeyFault
target_names_fault d = first_fault (
    optional_fault exchange_refusal (codes "dest-exchange") d
    ∷ fault_with short_text_refusal (codes "dest-exchange") (codes "dest-exchange-key") d
    ∷ optional_fault protocol_refusal (codes "dest-protocol") d
    ∷ optional_within props_fault (codes "dest-publish-properties") d
    ∷ [])

unfoldable pub target_fault : Data → Option KeyFault
target_fault d = first_fault (target_names_fault d ∷ target_queue_fault d ∷ required_within uris_fault (codes "dest-uri") d ∷ [])

-- from `prefetch-count` to `src-delete-after`
unfoldable pub middle_fault : Data → Option KeyFault
middle_fault d = first_fault (
    fault_without (number_refusal 0 most_prefetch) (codes "src-prefetch-count") (codes "prefetch-count") d
    ∷ within_without props_fault (codes "dest-publish-properties") (codes "publish-properties") d
    ∷ optional_fault (number_refusal 0 most_delay) (codes "reconnect-delay") d
    ∷ optional_fault delete_refusal (codes "src-delete-after") d
    ∷ [])

-- from `src-exchange` on
unfoldable pub source_names_fault : Data → Option KeyFault
source_names_fault d = first_fault (
    optional_fault exchange_refusal (codes "src-exchange") d
    ∷ fault_with short_text_refusal (codes "src-exchange") (codes "src-exchange-key") d
    ∷ optional_fault (number_refusal 0 most_prefetch) (codes "src-prefetch-count") d
    ∷ optional_fault protocol_refusal (codes "src-protocol") d
    ∷ [])

unfoldable pub source_fault : Data → Option KeyFault
source_fault d = first_fault (source_names_fault d ∷ source_queue_fault d ∷ required_within uris_fault (codes "src-uri") d ∷ [])

unfoldable pub shovel_fault : Data → Option KeyFault
shovel_fault d = first_fault (front_fault d ∷ target_fault d ∷ middle_fault d ∷ source_fault d ∷ [])
