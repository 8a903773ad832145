-- What stamped headers say.
use Rattle.std.proofs.Common.{◌≡◌, ℕ, Bool, true, false, cond, not, ◌&&◌, List, [], ◌∷◌, Option, Some, None, refl, sym, ap, ◌∙◌}
use Rattle.std.specs.Prelude.{filter, option_map, is_some}
use Rattle.std.specs.Option.{option_map_or}
use Rattle.std.specs.List.{list_all, filter_map, cons_option}
use Rattle.std.specs.Str.{is_utf8}
use Rattle.std.proofs.lemmas.Str.{is_utf8-from_IsUtf8}
use Rattle.std.proofs.lemmas.Slice.Eq.{bytes_eq-Decides}
use Rattle.field_tables.specs.Fields.{Field, array, table, Pairs}
use Rattle.field_tables.specs.View.{fields_of}
use Rattle.hop_headers.specs.declared.entry.PlaceName.{PlaceName}
use Rattle.hop_headers.specs.declared.entry.HopEntry.{HopEntry}
use Rattle.hop_headers.specs.declared.entry.HopObject.{HopObject}
use Rattle.hop_headers.specs.declared.entry.HopObject.TheVariants.{Exchange, Queue, Neither}
use Rattle.hop_headers.specs.Names.{received_from_name, cluster_name, vhost_name, exchange_name, queue_name, redelivered_name, visit_count_name}
use Rattle.hop_headers.specs.Hops.{array_at, text_at, place_at, object_at, names_place, same_place, entry_at, entry_of, hops, kept_hops, hop_entries, received_from}
use Rattle.hop_headers.specs.Stamps.{with_hops, exchange_hop, stamped_exchange, queue_hop, is_queue, is_own, is_own_hop, visits_before, next_visits, stamped_queue}
use Rattle.hop_headers.specs.Laws.{AreNames, exchange_entry, queue_entry, KeepsHeaders}
use Rattle.hop_headers.proofs.Views.{values_of-fields_of}
use Rattle.hop_headers.proofs.TableLemmas.{first_with, other_with, order_with}
use Rattle.hop_headers.proofs.HopLemmas.{both, entry_place, kept_named, same_yes, same_self, bytes_self}

-- ---- the entries that links write

pub exchange_is : (place : PlaceName) (exchange : List ℕ) (redelivered : Bool) → is_utf8 place.cluster ≡ true → is_utf8 place.vhost ≡ true → is_utf8 exchange ≡ true
    → entry_of (table (exchange_hop place exchange redelivered)) ≡ Some (exchange_entry place exchange redelivered)
unfolding entry_at place_at object_at text_at exchange_hop cluster_name vhost_name exchange_name queue_name redelivered_name visit_count_name
exchange_is place exchange redelivered c v x = rw (c, v, x) refl

pub queue_is : (place : PlaceName) (queue : List ℕ) (redelivered : Bool) (visits : ℕ) → is_utf8 place.cluster ≡ true → is_utf8 place.vhost ≡ true → is_utf8 queue ≡ true
    → entry_of (table (queue_hop place queue redelivered visits)) ≡ Some (queue_entry place queue redelivered visits)
unfolding entry_at place_at object_at text_at queue_hop cluster_name vhost_name exchange_name queue_name redelivered_name visit_count_name
queue_is place queue redelivered visits c v x = rw (c, v, x) refl

-- ---- the header that was set

some_place : (v : Field) (e : HopEntry) (o : Option HopEntry) → entry_of v ≡ o → o ≡ Some e → names_place v ≡ true
unfolding names_place
some_place v e o is some = ap is_some (sym (entry_place v) ∙ ap (option_map (λ (x : HopEntry). x.place)) (is ∙ some))

set_hops : (vs : List Field) (headers : Pairs) → list_all names_place vs ≡ true → hops (with_hops vs headers) ≡ Some vs
unfolding hops array_at
set_hops vs headers named =
    rw (first_with received_from_name (array (fields_of vs)) headers, values_of-fields_of vs, named) refl

pub read_back : (v : Field) (e : HopEntry) (vs : List Field) (headers : Pairs) → entry_of v ≡ Some e → list_all names_place vs ≡ true
    → received_from (with_hops (v ∷ vs) headers) ≡ Some (e ∷ filter_map entry_of vs)
read_back v e vs headers is named =
    let all : list_all names_place (v ∷ vs) ≡ true = rw (some_place v e (entry_of v) refl is, named) refl in
    ap (option_map (filter_map entry_of)) (set_hops (v ∷ vs) headers all) ∙ rw is refl

-- ---- the entries that stay

filtered_step : (f : Field → Bool) (v : Field) (vs : List Field) (t : Bool) → (names_place v && list_all names_place vs) ≡ true → list_all names_place (filter f vs) ≡ true
    → list_all names_place (cond t (v ∷ filter f vs) (filter f vs)) ≡ true
filtered_step f v vs true h rest = rw ((both (names_place v) (list_all names_place vs) h).0, rest) refl
filtered_step f v vs false h rest = rest

pub filtered_named : (f : Field → Bool) (vs : List Field) → list_all names_place vs ≡ true → list_all names_place (filter f vs) ≡ true
filtered_named f [] h = refl
filtered_named f (v ∷ vs) h = filtered_step f v vs (f v) h (filtered_named f vs (both (names_place v) (list_all names_place vs) h).1)

stay_step : (place : PlaceName) (queue : List ℕ) (v : Field) (ws : List Field) (es : List HopEntry) (o : Option HopEntry) → entry_of v ≡ o
    → filter_map entry_of ws ≡ filter (λ e. not (is_own place queue e)) es
    → filter_map entry_of (cond (not (option_map_or (is_own place queue) o false)) (v ∷ ws) ws) ≡ filter (λ e. not (is_own place queue e)) (cons_option o es)
stay_step place queue v ws es None is rest = rw is rest
stay_step place queue v ws es (Some e) is rest =
    elim (is_own place queue e) as (λ t. filter_map entry_of (cond (not t) (v ∷ ws) ws) ≡ cond (not t) (e ∷ filter (λ x. not (is_own place queue x)) es) (filter (λ x. not (is_own place queue x)) es)) [
      | true ↦ rest
      | false ↦ rw (is, rest) refl
    ]

pub others_stay : (place : PlaceName) (queue : List ℕ) (vs : List Field)
    → filter_map entry_of (filter (λ v. not (is_own_hop place queue v)) vs) ≡ filter (λ e. not (is_own place queue e)) (filter_map entry_of vs)
unfolding is_own_hop
others_stay place queue [] = refl
others_stay place queue (v ∷ vs) = stay_step place queue v _ (filter_map entry_of vs) (entry_of v) refl (others_stay place queue vs)

-- ---- the laws

pub stamps_exchange : (headers : Pairs) (place : PlaceName) (exchange : List ℕ) (redelivered : Bool) → AreNames place exchange
    → received_from (stamped_exchange headers place exchange redelivered) ≡ Some (exchange_entry place exchange redelivered ∷ hop_entries headers)
unfolding stamped_exchange
stamps_exchange headers place exchange redelivered names =
    read_back (table (exchange_hop place exchange redelivered)) (exchange_entry place exchange redelivered) (kept_hops headers) headers
    (exchange_is place exchange redelivered (is_utf8-from_IsUtf8 _ names.cluster) (is_utf8-from_IsUtf8 _ names.vhost) (is_utf8-from_IsUtf8 _ names.object)) (kept_named headers)

pub stamps_queue : (headers : Pairs) (place : PlaceName) (queue : List ℕ) (redelivered : Bool) → AreNames place queue
    → received_from (stamped_queue headers place queue redelivered)
    ≡ Some (queue_entry place queue redelivered (next_visits (visits_before place queue (hop_entries headers))) ∷ filter (λ e. not (is_own place queue e)) (hop_entries headers))
unfolding stamped_queue
stamps_queue headers place queue redelivered names =
    let visits : ℕ = next_visits (visits_before place queue (hop_entries headers)) in
    read_back (table (queue_hop place queue redelivered visits)) (queue_entry place queue redelivered visits) (filter (λ v. not (is_own_hop place queue v)) (kept_hops headers)) headers
    (queue_is place queue redelivered visits (is_utf8-from_IsUtf8 _ names.cluster) (is_utf8-from_IsUtf8 _ names.vhost) (is_utf8-from_IsUtf8 _ names.object))
    (filtered_named _ (kept_hops headers) (kept_named headers))
    ∙ ap (λ (es : List HopEntry). Some (queue_entry place queue redelivered visits ∷ es)) (others_stay place queue (kept_hops headers))

pub exchange_keeps : (headers : Pairs) (place : PlaceName) (exchange : List ℕ) (redelivered : Bool) → KeepsHeaders headers (stamped_exchange headers place exchange redelivered)
unfolding stamped_exchange
exchange_keeps headers place exchange redelivered = record {
  others = λ name other. other_with received_from_name name _ headers other;
  order = order_with received_from_name _ headers;
}

pub queue_keeps : (headers : Pairs) (place : PlaceName) (queue : List ℕ) (redelivered : Bool) → KeepsHeaders headers (stamped_queue headers place queue redelivered)
unfolding stamped_queue
queue_keeps headers place queue redelivered = record {
  others = λ name other. other_with received_from_name name _ headers other;
  order = order_with received_from_name _ headers;
}

-- ---- an entry of its own

queue_yes : (queue : List ℕ) (o : HopObject) → is_queue queue o ≡ true → o ≡ Queue queue
queue_yes queue (Queue name) h = ap (λ (x : List ℕ). Queue x) (sym ((bytes_eq-Decides queue name).0 h))
queue_yes queue (Exchange x) h = absurd cc
queue_yes queue Neither h = absurd cc

pub own_yes : (place : PlaceName) (queue : List ℕ) (e : HopEntry) → is_own place queue e ≡ true → (e.place ≡ place) × (e.object ≡ Queue queue)
own_yes place queue e h =
    let t = both (same_place place e.place) (is_queue queue e.object) h in
    (sym (same_yes place e.place t.0), queue_yes queue e.object t.1)

pub own_back : (place : PlaceName) (queue : List ℕ) (e : HopEntry) → (e.place ≡ place) × (e.object ≡ Queue queue) → is_own place queue e ≡ true
own_back place queue e h =
    let at : same_place place e.place ≡ true = ap (λ (p : PlaceName). same_place place p) h.0 ∙ same_self place in
    let of : is_queue queue e.object ≡ true = ap (λ (o : HopObject). is_queue queue o) h.1 ∙ bytes_self queue in
    rw (at, of) refl
