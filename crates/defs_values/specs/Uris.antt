-- The URIs of an upstream or a shovel: a text or a list of texts, each an AMQP URI (RabbitMQ's "Federation Reference",
-- "uri", and "Configuring Dynamic Shovels", "src-uri").
use Rattle.std.specs.Prelude.{ℕ, ◌+◌, List, [], ◌∷◌, ◌++◌, Option, Some, None, is_some, option_map, if◌then◌else◌}
use Rattle.std.specs.Option.{option_map_or, option_or}
use Rattle.serde_json.specs.Data.{Data, Items, no_items, item}
use Rattle.serde_json.specs.Find.{get, as_str, as_array}
use Rattle.amqp_uri.specs.Uri.{uri_fault}
use Rattle.defs_values.specs.declared.fault.Refusal.{Refusal}
use Rattle.defs_values.specs.declared.fault.Refusal.TheVariants.{Shape}
use Rattle.defs_values.specs.declared.fault.KeyFault.{KeyFault}
use Rattle.defs_values.specs.declared.fault.KeyFault.TheVariants as key
use Rattle.defs_values.specs.Paths.{index_step}
use Rattle.defs_values.specs.Values.{misfit, deep_misfit}

-- a text has to be an AMQP URI, and what is no text is refused as another value
abbrev pub text_refusal : Refusal → Option (List ℕ) → Option Refusal
text_refusal other None = Some other
text_refusal other (Some text) = if is_some (uri_fault text) then Some Shape else None

-- a URI alone, and one in a list
unfoldable pub uri_refusal : Data → Option Refusal
uri_refusal d = text_refusal (misfit d) (as_str d)

unfoldable pub item_refusal : Data → Option Refusal
item_refusal d = text_refusal (deep_misfit d) (as_str d)

-- the first refused item of a list, at its place
abbrev pub items_fault : ℕ → Items → Option KeyFault
items_fault index no_items = None
items_fault index (item d ds) =
    option_or (option_map (key.Refused (index_step index)) (item_refusal d)) (items_fault (index + 1) ds)

-- a text as a list of one
abbrev pub text_list : Option (List ℕ) → List (List ℕ)
text_list None = []
text_list (Some text) = text ∷ []

-- the texts of a list
abbrev pub texts_of : Items → List (List ℕ)
texts_of no_items = []
texts_of (item d ds) = text_list (as_str d) ++ texts_of ds

-- the URIs that a text or a list of texts says
abbrev pub uris_from : Data → Option Items → List (List ℕ)
uris_from d None = text_list (as_str d)
uris_from d (Some items) = texts_of items

unfoldable pub uris_of : Data → List (List ℕ)
uris_of d = uris_from d (as_array d)

-- a list must not be empty, and each of it has to be a URI
unfoldable pub list_fault : Items → Option KeyFault
list_fault no_items = Some (key.Refused [] Shape)
list_fault (item d ds) = items_fault 0 (item d ds)

abbrev pub fault_from : Data → Option Items → Option KeyFault
fault_from d None = option_map (key.Refused []) (uri_refusal d)
fault_from d (Some items) = list_fault items

unfoldable pub uris_fault : Data → Option KeyFault
uris_fault d = fault_from d (as_array d)

-- the URIs at a key
abbrev pub uris_at : List ℕ → Data → List (List ℕ)
uris_at k d = option_map_or uris_of (get k d) []
