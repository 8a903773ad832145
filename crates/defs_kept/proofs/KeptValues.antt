-- A value at a key that isn't refused has no floating-point number in it.
use Rattle.std.proofs.Common.{◌≡◌, ℕ, ◌+◌, ◌-◌, ◌==◌, List, [], ◌∷◌, Bool, true, false, Option, Some, None, option_map, refl, sym, ap, ◌∙◌, true≢false, cond}
use Rattle.std.specs.Prelude.{is_some, option_and_then, unwrap_or, codes}
use Rattle.std.specs.Option.{option_or}
use Rattle.serde_json.specs.Data.{Data, null, boolean, number, string, array, object, unsigned, negative, float, Items, no_items, item, Members, no_members, member}
use Rattle.serde_json.specs.Find.{get, as_object}
use Rattle.serde_json.specs.Written.{has_float, items_have_float, members_have_float}
use Rattle.field_tables.specs.Tables.{max_depth}
use Rattle.defs_values.specs.declared.fault.KeyFault.{KeyFault}
use Rattle.defs_values.specs.declared.fault.KeyFault.TheVariants as key
use Rattle.defs_values.specs.declared.fault.Refusal.{Refusal}
use Rattle.defs_values.specs.declared.fault.Refusal.TheVariants.{Shape, Float, Limit}
use Rattle.defs_lists.specs.declared.names.Name.{Name}
use Rattle.defs_values.specs.Arguments.{leaf_fault, field_fault, items_fault, members_fault, table_fault, arguments_fault, arguments_fault_of}
use Rattle.defs_lists.specs.Bindings.{destination_refusal}
use Rattle.defs_lists.specs.Exchanges.{kind_refusal}
use Rattle.defs_values.specs.Keys.{optional_fault, optional_within}
use Rattle.defs_values.specs.Paths.{within}
use Rattle.defs_kept.specs.Kept.{either_value, value_beside}
use Rattle.defs_values.specs.Parameters.{component_refusal}
use Rattle.defs_values.specs.Policies.{pattern_refusal, apply_refusal, priority_refusal}
use Rattle.defs_lists.specs.Queues.{type_refusal}
use Rattle.defs_values.specs.Shovels.{first_refusal, flag_refusal, delete_refusal, exchange_refusal, short_text_refusal, protocol_refusal, property_refusal, properties_fault, fault_in, props_fault, has_key, fault_without, within_without, fault_with, alone_refusal, one_refusal, source_queue_fault, target_queue_fault}
use Rattle.defs_values.specs.Uris as uris
use Rattle.defs_values.specs.Uris.{uri_refusal, item_refusal, list_fault, uris_fault}
use Rattle.defs_values.specs.Values.{mode_refusal, number_refusal, name_refusal}
use Rattle.defs_values.specs.Texts.{filled_refusal}
use Rattle.defs_lists.specs.Vhosts.{own_vhost_refusal, own_vhost_fault}
use Rattle.defs_kept.proofs.KeptLemmas.{IsPlain, IsOfScalars, IsOfPlain, map_none, or_none, split_plain, scalars_plain, optional_plain, optional_within_plain, optional_at}

-- ---- texts, truth values and whole numbers

pub flag_plain : IsOfPlain flag_refusal
unfolding flag_refusal
flag_plain = scalars_plain _ (λ x. refl, λ ds. refl, λ ms. refl)

pub mode_plain : IsOfPlain mode_refusal
unfolding mode_refusal
mode_plain = scalars_plain _ (λ x. refl, λ ds. refl, λ ms. refl)

pub number_plain : (least most : ℕ) → IsOfPlain (number_refusal least most)
unfolding number_refusal
number_plain least most = scalars_plain _ (λ x. refl, λ ds. refl, λ ms. refl)

pub name_plain : IsOfPlain name_refusal
unfolding name_refusal
name_plain = scalars_plain _ (λ x. refl, λ ds. refl, λ ms. refl)

pub short_text_plain : IsOfPlain short_text_refusal
unfolding short_text_refusal
short_text_plain = scalars_plain _ (λ x. refl, λ ds. refl, λ ms. refl)

pub filled_plain : IsOfPlain filled_refusal
unfolding filled_refusal
filled_plain = scalars_plain _ (λ x. refl, λ ds. refl, λ ms. refl)

pub exchange_plain : IsOfPlain exchange_refusal
unfolding exchange_refusal
exchange_plain = scalars_plain _ (λ x. refl, λ ds. refl, λ ms. refl)

pub delete_plain : IsOfPlain delete_refusal
unfolding delete_refusal
delete_plain = scalars_plain _ (λ x. refl, λ ds. refl, λ ms. refl)

pub protocol_plain : IsOfPlain protocol_refusal
unfolding protocol_refusal
protocol_plain = scalars_plain _ (λ x. refl, λ ds. refl, λ ms. refl)

pub component_plain : IsOfPlain component_refusal
unfolding component_refusal
component_plain = scalars_plain _ (λ x. refl, λ ds. refl, λ ms. refl)

pub pattern_plain : IsOfPlain pattern_refusal
unfolding pattern_refusal
pattern_plain = scalars_plain _ (λ x. refl, λ ds. refl, λ ms. refl)

pub apply_plain : IsOfPlain apply_refusal
unfolding apply_refusal
apply_plain = scalars_plain _ (λ x. refl, λ ds. refl, λ ms. refl)

pub priority_plain : IsOfPlain priority_refusal
unfolding priority_refusal
priority_plain = scalars_plain _ (λ x. refl, λ ds. refl, λ ms. refl)

pub type_plain : IsOfPlain type_refusal
unfolding type_refusal
type_plain = scalars_plain _ (λ x. refl, λ ds. refl, λ ms. refl)

pub kind_plain : IsOfPlain kind_refusal
unfolding kind_refusal
kind_plain = scalars_plain _ (λ x. refl, λ ds. refl, λ ms. refl)

pub destination_plain : IsOfPlain destination_refusal
unfolding destination_refusal
destination_plain = scalars_plain _ (λ x. refl, λ ds. refl, λ ms. refl)

-- ---- URIs

uri_plain : IsOfPlain uri_refusal
unfolding uri_refusal
uri_plain = scalars_plain _ (λ x. refl, λ ds. refl, λ ms. refl)

item_plain : IsOfPlain item_refusal
unfolding item_refusal
item_plain = scalars_plain _ (λ x. refl, λ ds. refl, λ ms. refl)

uri_items : (index : ℕ) (ds : Items) → uris.items_fault index ds ≡ None → items_have_float ds ≡ false
uri_items index no_items h = refl
uri_items index (item d ds) h =
    let both = or_none _ _ h in
    split_plain _ _ (item_plain d (map_none _ _ both.0)) (uri_items (index + 1) ds both.1)

uri_list : (ds : Items) → list_fault ds ≡ None → items_have_float ds ≡ false
unfolding list_fault
uri_list no_items h = refl
uri_list (item d ds) h = uri_items 0 (item d ds) h

pub uris_plain : IsOfPlain uris_fault
unfolding uris_fault
uris_plain null h = refl
uris_plain (boolean b) h = refl
uris_plain (number n) h = uri_plain (number n) (map_none _ _ h)
uris_plain (string s) h = refl
uris_plain (array ds) h = uri_list ds h
uris_plain (object ms) h = uri_plain (object ms) (map_none _ _ h)

-- ---- the properties of a shovel

pub first_none : (a b : Option Refusal) → first_refusal a b ≡ None → (a ≡ None) × (b ≡ None)
first_none None b h = (refl, h)
first_none (Some x) b h = absurd (true≢false (ap is_some h))

float_first : (b : Bool) (other : Option Refusal) → cond b (Some Float) other ≡ None → b ≡ false
float_first true other h = absurd (true≢false (ap is_some h))
float_first false other h = refl

property_plain : (k : List ℕ) → IsOfPlain (property_refusal k)
unfolding property_refusal
property_plain k d h = float_first (has_float d) _ h

properties_plain : (ms : Members) → properties_fault ms ≡ None → members_have_float ms ≡ false
properties_plain no_members h = refl
properties_plain (member k d ms) h =
    let both = or_none _ _ h in
    split_plain _ _ (property_plain k d (map_none _ _ both.0)) (properties_plain ms both.1)

pub props_plain : IsOfPlain props_fault
unfolding props_fault
props_plain null h = refl
props_plain (boolean b) h = refl
props_plain (number n) h = absurd (true≢false (ap is_some h))
props_plain (string s) h = refl
props_plain (array ds) h = absurd (true≢false (ap is_some h))
props_plain (object ms) h = properties_plain ms h

-- ---- arguments

float_leaf : (b : Bool) → option_map (key.Refused []) (cond b (Some (unwrap_or (Some Float) Limit)) (Some Float)) ≡ None → ⊥
float_leaf true h = true≢false (ap is_some h)
float_leaf false h = true≢false (ap is_some h)

-- the levels that are left let what is inside be looked at
deeper : (b : Bool) (over inside : Option KeyFault) (plain : Bool) → (inside ≡ None → plain ≡ false) → is_some over ≡ true
    → cond b over inside ≡ None → plain ≡ false
deeper true over inside plain fits full h = absurd (true≢false (sym full ∙ ap is_some h))
deeper false over inside plain fits full h = fits h

mutual
  field_plain : (levels : ℕ) (d : Data) → field_fault levels d ≡ None → has_float d ≡ false
  field_plain levels null h = refl
  field_plain levels (boolean b) h = refl
  field_plain levels (number (unsigned n)) h = refl
  field_plain levels (number (negative z)) h = refl
  field_plain levels (number (float x)) h = absurd (float_leaf (levels == 0) h)
  field_plain levels (string s) h = refl
  field_plain levels (array ds) h = deeper (levels == 0) (leaf_fault 0 None) (items_fault (levels - 1) 0 ds) _ (items_plain (levels - 1) 0 ds) refl h
  field_plain levels (object ms) h = deeper (levels == 0) (leaf_fault 0 None) (members_fault (levels - 1) ms) _ (members_plain (levels - 1) ms) refl h

  items_plain : (levels index : ℕ) (ds : Items) → items_fault levels index ds ≡ None → items_have_float ds ≡ false
  items_plain levels index no_items h = refl
  items_plain levels index (item d ds) h =
      let both = or_none _ _ h in
      split_plain _ _ (field_plain levels d (map_none _ _ both.0)) (items_plain levels (index + 1) ds both.1)

  members_plain : (levels : ℕ) (ms : Members) → members_fault levels ms ≡ None → members_have_float ms ≡ false
  members_plain levels no_members h = refl
  members_plain levels (member k d ms) h =
      let both = or_none _ _ h in
      let one = or_none _ _ (map_none _ _ both.0) in
      split_plain _ _ (field_plain levels d one.0) (members_plain levels ms both.1)

table_plain : (d : Data) → table_fault d (as_object d) ≡ None → has_float d ≡ false
table_plain null h = refl
table_plain (boolean b) h = refl
table_plain (number n) h = absurd (true≢false (ap is_some h))
table_plain (string s) h = refl
table_plain (array ds) h = absurd (true≢false (ap is_some h))
table_plain (object ms) h = members_plain max_depth ms (or_none _ _ h).0

arguments_at : (o : Option Data) → arguments_fault_of o ≡ None → IsPlain o
arguments_at None h = tt
arguments_at (Some d) h = table_plain d (map_none _ _ h)

pub arguments_plain : (d : Data) → arguments_fault d ≡ None → IsPlain (get (codes "arguments") d)
unfolding arguments_fault
arguments_plain d h = arguments_at (get (codes "arguments") d) h

-- ---- keys that stand for others

either_at : {A : Type 0} (refusal : Data → Option A) (path : A → KeyFault) (o p : Option Data) → IsOfPlain refusal → IsPlain o
    → cond (is_some o) None (option_map path (option_and_then refusal p)) ≡ None → IsPlain (option_or o p)
either_at refusal path None p fits plain h = optional_at refusal path p fits h
either_at refusal path (Some d) p fits plain h = plain

-- a newer key, or where that isn't there the older
pub either_plain : (refusal : Data → Option Refusal) (newer older : List ℕ) (d : Data) → IsOfPlain refusal
    → optional_fault refusal newer d ≡ None → fault_without refusal newer older d ≡ None → IsPlain (either_value newer older d)
unfolding fault_without optional_fault
either_plain refusal newer older d fits g h =
    either_at refusal (key.Refused older) (get newer d) (get older d) fits (optional_plain refusal newer d fits g) h

pub either_within_plain : (fault : Data → Option KeyFault) (newer older : List ℕ) (d : Data) → IsOfPlain fault
    → optional_within fault newer d ≡ None → within_without fault newer older d ≡ None → IsPlain (either_value newer older d)
unfolding within_without optional_within
either_within_plain fault newer older d fits g h =
    either_at fault (within older) (get newer d) (get older d) fits (optional_within_plain fault newer d fits g) h

beside_at : (refusal : Data → Option Refusal) (k : List ℕ) (b : Bool) (o : Option Data) → IsOfPlain refusal
    → cond b (option_map (key.Refused k) (option_and_then refusal o)) None ≡ None → IsPlain (cond b o None)
beside_at refusal k true o fits h = optional_at refusal (key.Refused k) o fits h
beside_at refusal k false o fits h = tt

-- a key that is looked at only beside another
pub beside_plain : (refusal : Data → Option Refusal) (exchange k : List ℕ) (d : Data) → IsOfPlain refusal
    → fault_with refusal exchange k d ≡ None → IsPlain (value_beside exchange k d)
unfolding fault_with optional_fault
beside_plain refusal exchange k d fits h = beside_at refusal k (has_key exchange d) (get k d) fits h

alone_plain : (b : Bool) → IsOfPlain (alone_refusal b)
alone_plain true d h = absurd (true≢false (ap is_some h))
alone_plain false d h = name_plain d h

one_at : (b : Bool) (o : Option Data) → option_map (key.Refused (codes "src-queue")) (one_refusal b o) ≡ None → IsPlain o
one_at b None h = tt
one_at b (Some d) h = alone_plain b d (map_none _ _ h)

pub source_queue_plain : (d : Data) → source_queue_fault d ≡ None → IsPlain (get (codes "src-queue") d)
unfolding source_queue_fault
source_queue_plain d h = one_at _ (get (codes "src-queue") d) h

pub target_queue_plain : (d : Data) → target_queue_fault d ≡ None → IsPlain (get (codes "dest-queue") d)
unfolding target_queue_fault
target_queue_plain d h = optional_plain _ _ d (alone_plain _) h

-- ---- the virtual host of an item

vhost_plain_at : (vhosts : List Name) (d : Data) (o : Option Data)
    → option_map (key.Refused (codes "vhost")) (own_vhost_refusal vhosts d o) ≡ None → IsPlain o
vhost_plain_at vhosts d None h = tt
vhost_plain_at vhosts d (Some v) h = short_text_plain v (first_none _ _ (map_none _ _ h)).0

pub own_vhost_plain : (vhosts : List Name) (d : Data) → own_vhost_fault vhosts d ≡ None → IsPlain (get (codes "vhost") d)
unfolding own_vhost_fault
own_vhost_plain vhosts d h = vhost_plain_at vhosts d (get (codes "vhost") d) h
