-- Arguments that are made of parts that have a spelling have one.
use Rattle.std.proofs.Common.{◌≡◌, ℕ, ℤ, pos, suc, ◌+◌, ◌^◌, ◌<◌, ◌≤◌, Bool, true, false, cond, not, List, [], ◌∷◌, ◌++◌, length, Option, Some, None, refl, sym, ap, subst, ◌∙◌, arith}
use Rattle.std.specs.Prelude.{filter, nat_lt, option_and_then, unwrap_or}
use Rattle.std.specs.Str.{bytes_eq, IsAscii}
use Rattle.std.specs.List.{list_all}
use Rattle.std.proofs.lemmas.Str.{IsUtf8-from_ascii}
use Rattle.std.proofs.lemmas.Str.Ascii.{IsAscii-from_all}
use Rattle.std.proofs.lemmas.List.Sums.{AllPass-from_list_all}
use Rattle.std.proofs.lemmas.Bool.{ltb-true}
use Rattle.std.proofs.Math.Nat.{min-le_right}
use Rattle.field_tables.specs.Fields.{Field, boolean, signed_long, long_string, array, table, Fields, no_fields, field, Pairs, no_pairs, pair, first_of}
use Rattle.field_tables.specs.View.{fields_of, pairs_of}
use Rattle.field_tables.specs.Tables.{max_depth, table_spelling, pairs_spelling, fields_spelling, depth, fields_depth, pairs_depth, IsCounted, IsName, HasSpelling, HaveSpelling, ArePairs, IsTable}
use Rattle.hop_headers.specs.declared.entry.PlaceName.{PlaceName}
use Rattle.hop_headers.specs.Names.{received_from_name, bound_from_name, cluster_name, vhost_name, exchange_name, queue_name, redelivered_name, visit_count_name, hops_name}
use Rattle.hop_headers.specs.Hops.{values_of, named_values, array_of, array_at, names_place, if_hops, hops, kept_hops, hop_entries}
use Rattle.hop_headers.specs.Stamps.{set_first, with_header, with_hops, exchange_hop, stamped_exchange, queue_hop, is_own_hop, visits_before, next_visits, stamped_queue}
use Rattle.hop_headers.specs.Propagation.{is_chain, if_chain, chain, kept_chain, BoundEntry, bound_entries, one_less, first_hops, hops_left, new_hops, bound_entry, is_other, bound_on, is_short, propagated}
use Rattle.field_tables.specs.Lengths.{value_length, fields_length, pairs_length}
use Rattle.field_tables.proofs.LengthLemmas.{text_value_length, table_value_length, array_value_length, fields_more, pairs_more}
use Rattle.hop_headers.proofs.TableLemmas.{pairs_of-named_values}
use Rattle.hop_headers.proofs.GoingOn.{went, hops_are, short_length}

-- ---- a table without some of its pairs, and with one more

pub are_filtered : (f : (List ℕ × Field) → Bool) (ps : List (List ℕ × Field)) → ArePairs (pairs_of ps) → ArePairs (pairs_of (filter f ps))
are_filtered f [] h = tt
are_filtered f (p ∷ ps) h =
    elim (f p) as (λ t. ArePairs (pairs_of (cond t (p ∷ filter f ps) (filter f ps)))) [
      | true ↦ (h.0, h.1, are_filtered f ps h.2)
      | false ↦ are_filtered f ps h.2
    ]

pub are_more : (ps : List (List ℕ × Field)) (name : List ℕ) (v : Field) → ArePairs (pairs_of ps) → IsName name → HasSpelling v → ArePairs (pairs_of (ps ++ (name, v) ∷ []))
are_more [] name v h n s = (n, s, tt)
are_more (p ∷ ps) name v h n s = (h.0, h.1, are_more ps name v h.2 n s)

pub depth_filtered : (f : (List ℕ × Field) → Bool) (ps : List (List ℕ × Field)) (n : ℕ) → pairs_depth (pairs_of ps) ≤ n → pairs_depth (pairs_of (filter f ps)) ≤ n
depth_filtered f [] n h = h
depth_filtered f (p ∷ ps) n h =
    let rest : pairs_depth (pairs_of ps) ≤ n = omega arith in
    let less = depth_filtered f ps n rest in
    elim (f p) as (λ t. pairs_depth (pairs_of (cond t (p ∷ filter f ps) (filter f ps))) ≤ n) [
      | true ↦ omega arith
      | false ↦ less
    ]

pub depth_more : (ps : List (List ℕ × Field)) (name : List ℕ) (v : Field) (n : ℕ) → pairs_depth (pairs_of ps) ≤ n → depth v ≤ n → pairs_depth (pairs_of (ps ++ (name, v) ∷ [])) ≤ n
depth_more [] name v n h d = omega arith
depth_more (p ∷ ps) name v n h d =
    let more = depth_more ps name v n (omega arith) d in
    omega arith

-- the last value takes no more than the whole table
pub length_more : (ps : List (List ℕ × Field)) (name : List ℕ) (v : Field) → value_length v ≤ pairs_length (pairs_of (ps ++ (name, v) ∷ []))
length_more [] name v = omega (arith, pairs_more name v no_pairs)
length_more (p ∷ ps) name v = omega (arith, length_more ps name v, pairs_more p.0 p.1 (pairs_of (ps ++ (name, v) ∷ [])))

-- ---- the values that the argument brings

-- they have spellings, and the array of them nests as deep as an argument may
pub record Brings (vs : List Field) : Type 0 where
  pub spelled : HaveSpelling (fields_of vs)
  pub shallow : suc (fields_depth (fields_of vs)) ≤ max_depth

brings_none : Brings []
brings_none = record { spelled = tt; shallow = omega arith }

fields_of-values_of : (vs : Fields) → fields_of (values_of vs) ≡ vs
fields_of-values_of no_fields = refl
fields_of-values_of (field v vs) = ap (λ (ws : Fields). field v ws) (fields_of-values_of vs)

of_array : (v : Field) (vs : List Field) → array_of v ≡ Some vs → HasSpelling v → depth v ≤ max_depth → Brings vs
of_array (array fs) vs e h d =
    let is : values_of fs ≡ vs = cc in
    let same : fs ≡ fields_of vs = sym (fields_of-values_of fs) ∙ ap fields_of is in
    record { spelled = subst HaveSpelling same h.1; shallow = subst (λ (ws : Fields). suc (fields_depth ws) ≤ max_depth) same d }
of_array _ vs e h d = absurd cc

of_first : (o : Option Field) (vs : List Field) → ((v : Field) → o ≡ Some v → HasSpelling v × (depth v ≤ max_depth)) → option_and_then array_of o ≡ Some vs → Brings vs
of_first None vs f e = absurd cc
of_first (Some v) vs f e = of_array v vs e (f v refl).0 (f v refl).1

first_step : (name : List ℕ) (v w : Field) (ps : Pairs) (t : Bool) → cond t (Some v) (first_of name ps) ≡ Some w → HasSpelling v → depth v ≤ max_depth
    → (first_of name ps ≡ Some w → HasSpelling w × (depth w ≤ max_depth)) → HasSpelling w × (depth w ≤ max_depth)
first_step name v w ps true e h d f =
    let is : v ≡ w = cc in
    (subst HasSpelling is h, subst (λ (x : Field). depth x ≤ max_depth) is d)
first_step name v w ps false e h d f = f e

first_spelled : (name : List ℕ) (ps : Pairs) (w : Field) → ArePairs ps → pairs_depth ps ≤ max_depth → first_of name ps ≡ Some w → HasSpelling w × (depth w ≤ max_depth)
first_spelled name no_pairs w h d e = absurd cc
first_spelled name (pair key v ps) w h d e =
    first_step name v w ps (bytes_eq key name) e h.1 (omega arith) (first_spelled name ps w h.2 (omega arith))

of_chain : (vs : List Field) (t : Bool) → Brings vs → Brings (unwrap_or (cond t (Some vs) None) [])
of_chain vs true h = h
of_chain vs false h = brings_none

of_argument : (o : Option (List Field)) → ((vs : List Field) → o ≡ Some vs → Brings vs) → Brings (unwrap_or (option_and_then if_chain o) [])
of_argument None f = brings_none
of_argument (Some vs) f = of_chain vs (is_chain vs) (f vs refl)

pub kept_brings : (args : Pairs) → IsTable args → Brings (kept_chain args)
unfolding chain array_at
kept_brings args h =
    of_argument (array_at bound_from_name args) (λ vs e. of_first (first_of bound_from_name args) vs (λ v is. first_spelled bound_from_name args v h.pairs h.nests is) e)

-- ---- the new entry

-- a name of ASCII
ascii : (xs : List ℕ) → list_all (λ x. nat_lt x 128) xs ≡ true → IsAscii xs
ascii xs h = IsAscii-from_all xs (λ k d lt. ltb-true _ 128 (AllPass-from_list_all (λ x. nat_lt x 128) xs h k d lt))

name_is : (name : List ℕ) → list_all (λ x. nat_lt x 128) name ≡ true → length name < 256 → IsName name
name_is name text fits = record { text = IsUtf8-from_ascii name (ascii name text); fits = fits }

bound_from_is : IsName bound_from_name
unfolding bound_from_name
bound_from_is = name_is bound_from_name refl (omega arith)

cluster_is : IsName cluster_name
unfolding cluster_name
cluster_is = name_is cluster_name refl (omega arith)

vhost_is : IsName vhost_name
unfolding vhost_name
vhost_is = name_is vhost_name refl (omega arith)

exchange_is : IsName exchange_name
unfolding exchange_name
exchange_is = name_is exchange_name refl (omega arith)

hops_is : IsName hops_name
unfolding hops_name
hops_is = name_is hops_name refl (omega arith)

queue_is : IsName queue_name
unfolding queue_name
queue_is = name_is queue_name refl (omega arith)

redelivered_is : IsName redelivered_name
unfolding redelivered_name
redelivered_is = name_is redelivered_name refl (omega arith)

visit_count_is : IsName visit_count_name
unfolding visit_count_name
visit_count_is = name_is visit_count_name refl (omega arith)

received_from_is : IsName received_from_name
unfolding received_from_name
received_from_is = name_is received_from_name refl (omega arith)

-- what a long can count
abbrev Counts : ℕ → Type 0
Counts n = n < 2 ^ 32

counted_in : (ps : Pairs) → Counts (pairs_length ps) → IsCounted (pairs_spelling ps)
unfolding pairs_length
counted_in ps h = h

counted_values : (vs : Fields) → Counts (fields_length vs) → IsCounted (fields_spelling vs)
unfolding fields_length
counted_values vs h = h

-- a place, a name under a key, and what follows
named : List ℕ → List ℕ → List ℕ → List ℕ → Pairs → Pairs
named key x y z ps = pair cluster_name (long_string x) (pair vhost_name (long_string y) (pair key (long_string z) ps))

named_spelled : (key x y z : List ℕ) (ps : Pairs) → IsName key → ArePairs ps → Counts (value_length (table (named key x y z ps))) → HasSpelling (table (named key x y z ps))
unfolding named
named_spelled key x y z ps is rest few =
    let p2 : Pairs = pair key (long_string z) ps in
    let p1 : Pairs = pair vhost_name (long_string y) p2 in
    let p0 : Pairs = pair cluster_name (long_string x) p1 in
    let l0 : pairs_length p0 ≡ (1 + length cluster_name + value_length (long_string x)) + pairs_length p1 = pairs_more cluster_name (long_string x) p1 in
    let l1 : pairs_length p1 ≡ (1 + length vhost_name + value_length (long_string y)) + pairs_length p2 = pairs_more vhost_name (long_string y) p2 in
    let l2 : pairs_length p2 ≡ (1 + length key + value_length (long_string z)) + pairs_length ps = pairs_more key (long_string z) ps in
    let t : value_length (table p0) ≡ 5 + pairs_length p0 = table_value_length p0 in
    let lx : value_length (long_string x) ≡ 5 + length x = text_value_length x in
    let ly : value_length (long_string y) ≡ 5 + length y = text_value_length y in
    let lz : value_length (long_string z) ≡ 5 + length z = text_value_length z in
    (counted_in p0 (omega arith), (cluster_is, omega arith, (vhost_is, omega arith, (is, omega arith, rest))))

pub entry_spelled : (downstream : PlaceName) (exchange : List ℕ) (hops : ℕ) → hops < 2 ^ 31 → Counts (value_length (table (bound_entry downstream exchange hops))) → HasSpelling (table (bound_entry downstream exchange hops))
unfolding bound_entry named
entry_spelled down x n below few =
    named_spelled exchange_name down.cluster down.vhost x (pair hops_name (signed_long (pos n)) no_pairs) exchange_is (hops_is, record { sfits = below }, tt) few

pub exchange_spelled : (place : PlaceName) (exchange : List ℕ) (redelivered : Bool) → Counts (value_length (table (exchange_hop place exchange redelivered))) → HasSpelling (table (exchange_hop place exchange redelivered))
unfolding exchange_hop named
exchange_spelled place x r few =
    named_spelled exchange_name place.cluster place.vhost x (pair redelivered_name (boolean r) no_pairs) exchange_is (redelivered_is, tt, tt) few

pub queue_spelled : (place : PlaceName) (queue : List ℕ) (redelivered : Bool) (visits : ℕ) → visits < 2 ^ 31 → Counts (value_length (table (queue_hop place queue redelivered visits))) → HasSpelling (table (queue_hop place queue redelivered visits))
unfolding queue_hop named
queue_spelled place q r n below few =
    named_spelled queue_name place.cluster place.vhost q (pair redelivered_name (boolean r) (pair visit_count_name (signed_long (pos n)) no_pairs)) queue_is
    (redelivered_is, tt, (visit_count_is, record { sfits = below }, tt)) few

pub entry_depth : (downstream : PlaceName) (exchange : List ℕ) (hops : ℕ) → depth (table (bound_entry downstream exchange hops)) ≤ 2
unfolding bound_entry
entry_depth down x n = omega arith

pub exchange_depth : (place : PlaceName) (exchange : List ℕ) (redelivered : Bool) → depth (table (exchange_hop place exchange redelivered)) ≤ 2
unfolding exchange_hop
exchange_depth place x r = omega arith

pub queue_depth : (place : PlaceName) (queue : List ℕ) (redelivered : Bool) (visits : ℕ) → depth (table (queue_hop place queue redelivered visits)) ≤ 2
unfolding queue_hop
queue_depth place q r n = omega arith

-- an entry in front of the values that are brought, as one array
array_spelled : (entry : Field) (kept : List Field) → (Counts (value_length entry) → HasSpelling entry) → Brings kept → Counts (value_length (array (fields_of (entry ∷ kept)))) → HasSpelling (array (fields_of (entry ∷ kept)))
array_spelled entry kept spelled brings few =
    let all : Fields = fields_of (entry ∷ kept) in
    let values : Counts (fields_length all) = omega (arith, few, array_value_length all) in
    let one : Counts (value_length entry) = omega (arith, values, fields_more entry (fields_of kept)) in
    (counted_values all values, (spelled one, brings.spelled))

-- ---- the law of propagation

hops_within : (o : Option ℤ) (most : ℕ) → hops_left o most ≤ most
hops_within None most = omega arith
hops_within (Some h) most = min-le_right (one_less h) most

no_more : (es : List BoundEntry) (most n : ℕ) → new_hops es most ≡ Some n → n ≤ most
unfolding new_hops
no_more es most n h = omega (arith, (hops_are (first_hops es) most n h).0, hops_within (first_hops es) most)

in_table : (args : Pairs) → is_short args ≡ true → pairs_length args ≤ 98304
unfolding pairs_length
in_table args h = omega (arith, short_length args h)

on_is_table : (args : Pairs) (downstream : PlaceName) (exchange : List ℕ) (hops : ℕ) → hops < 2 ^ 31 → IsTable args → Counts (pairs_length (bound_on args downstream exchange hops)) → IsTable (bound_on args downstream exchange hops)
unfolding bound_on
on_is_table args down x n below h few =
    let entry : Field = table (bound_entry down x n) in
    let kept : List Field = kept_chain args in
    let all : Fields = fields_of (entry ∷ kept) in
    let others : List (List ℕ × Field) = filter (is_other bound_from_name) (named_values args) in
    let brings = kept_brings args h in
    let in_all : Counts (value_length (array all)) = omega (arith, few, length_more others bound_from_name (array all)) in
    let spelled : HasSpelling (array all) = array_spelled entry kept (entry_spelled down x n below) brings in_all in
    let deep : depth (array all) ≤ max_depth = omega (arith, entry_depth down x n, brings.shallow) in
    let same : args ≡ pairs_of (named_values args) = sym (pairs_of-named_values args) in
    record {
      pairs = are_more others bound_from_name (array all) (are_filtered (is_other bound_from_name) (named_values args) (subst ArePairs same h.pairs)) bound_from_is spelled;
      counted = counted_in _ few;
      nests = depth_more others bound_from_name (array all) max_depth (depth_filtered (is_other bound_from_name) (named_values args) max_depth (subst (λ (ps : Pairs). pairs_depth ps ≤ max_depth) same h.nests)) deep;
    }

pub spells : (args new : Pairs) (upstream downstream : PlaceName) (exchange : List ℕ) (most : ℕ) → most < 2 ^ 31 → IsTable args → propagated args upstream downstream exchange most ≡ Some new → IsTable new
spells args new up down x most below h done =
    let w = went args new up down x most done in
    let short_one : pairs_length (bound_on args down x w.hops) ≤ 98304 = subst (λ (ps : Pairs). pairs_length ps ≤ 98304) w.made (in_table new w.short) in
    let few : Counts (pairs_length (bound_on args down x w.hops)) = omega arith in
    let left : w.hops ≤ most = no_more (bound_entries args) most w.hops w.left in
    subst IsTable (sym w.made) (on_is_table args down x w.hops (omega arith) h few)

-- ---- the law of stamps

are_set : (ps : List (List ℕ × Field)) (name : List ℕ) (v : Field) → ArePairs (pairs_of ps) → IsName name → HasSpelling v → ArePairs (pairs_of (set_first name v ps))
are_set [] name v h n s = (n, s, tt)
are_set (p ∷ ps) name v h n s =
    elim (bytes_eq p.0 name) as (λ t. ArePairs (pairs_of (cond t ((name, v) ∷ ps) (p ∷ set_first name v ps)))) [
      | true ↦ (n, s, h.2)
      | false ↦ (h.0, h.1, are_set ps name v h.2 n s)
    ]

depth_set : (ps : List (List ℕ × Field)) (name : List ℕ) (v : Field) (n : ℕ) → pairs_depth (pairs_of ps) ≤ n → depth v ≤ n → pairs_depth (pairs_of (set_first name v ps)) ≤ n
depth_set [] name v n h d = omega arith
depth_set (p ∷ ps) name v n h d =
    let more = depth_set ps name v n (omega arith) d in
    elim (bytes_eq p.0 name) as (λ t. pairs_depth (pairs_of (cond t ((name, v) ∷ ps) (p ∷ set_first name v ps))) ≤ n) [
      | true ↦ omega arith
      | false ↦ omega arith
    ]

length_set : (ps : List (List ℕ × Field)) (name : List ℕ) (v : Field) → value_length v ≤ pairs_length (pairs_of (set_first name v ps))
length_set [] name v = omega (arith, pairs_more name v no_pairs)
length_set (p ∷ ps) name v =
    elim (bytes_eq p.0 name) as (λ t. value_length v ≤ pairs_length (pairs_of (cond t ((name, v) ∷ ps) (p ∷ set_first name v ps)))) [
      | true ↦ omega (arith, pairs_more name v (pairs_of ps))
      | false ↦ omega (arith, length_set ps name v, pairs_more p.0 p.1 (pairs_of (set_first name v ps)))
    ]

of_hops : (vs : List Field) (t : Bool) → Brings vs → Brings (unwrap_or (cond t (Some vs) None) [])
of_hops vs true h = h
of_hops vs false h = brings_none

of_header : (o : Option (List Field)) → ((vs : List Field) → o ≡ Some vs → Brings vs) → Brings (unwrap_or (option_and_then if_hops o) [])
of_header None f = brings_none
of_header (Some vs) f = of_hops vs (list_all names_place vs) (f vs refl)

pub hops_bring : (headers : Pairs) → IsTable headers → Brings (kept_hops headers)
unfolding hops array_at
hops_bring headers h =
    of_header (array_at received_from_name headers) (λ vs e. of_first (first_of received_from_name headers) vs (λ v is. first_spelled received_from_name headers v h.pairs h.nests is) e)

filter_brings : (f : Field → Bool) (vs : List Field) → Brings vs → Brings (filter f vs)
filter_brings f [] h = h
filter_brings f (v ∷ vs) h =
    let less : Brings (filter f vs) = filter_brings f vs record { spelled = h.spelled.1; shallow = omega (arith, h.shallow) } in
    elim (f v) as (λ t. Brings (cond t (v ∷ filter f vs) (filter f vs))) [
      | true ↦ record { spelled = (h.spelled.0, less.spelled); shallow = omega (arith, h.shallow, less.shallow) }
      | false ↦ less
    ]

with_hops_is_table : (headers : Pairs) (entry : Field) (kept : List Field) → IsTable headers → (Counts (value_length entry) → HasSpelling entry) → depth entry ≤ 2 → Brings kept
    → Counts (pairs_length (with_hops (entry ∷ kept) headers)) → IsTable (with_hops (entry ∷ kept) headers)
unfolding with_header
with_hops_is_table headers entry kept h spelled low brings few =
    let all : Field = array (fields_of (entry ∷ kept)) in
    let in_all : Counts (value_length all) = omega (arith, few, length_set (named_values headers) received_from_name all) in
    let deep : depth all ≤ max_depth = omega (arith, low, brings.shallow) in
    let same : headers ≡ pairs_of (named_values headers) = sym (pairs_of-named_values headers) in
    record {
      pairs = are_set (named_values headers) received_from_name all (subst ArePairs same h.pairs) received_from_is (array_spelled entry kept spelled brings in_all);
      counted = counted_in _ few;
      nests = depth_set (named_values headers) received_from_name all max_depth (subst (λ (ps : Pairs). pairs_depth ps ≤ max_depth) same h.nests) deep;
    }

table_counts : (ps : Pairs) → Counts (length (table_spelling ps)) → Counts (pairs_length ps)
unfolding pairs_length
table_counts ps h = omega arith

pub exchange_stamp_spells : (headers : Pairs) (place : PlaceName) (exchange : List ℕ) (redelivered : Bool) → IsTable headers
    → length (table_spelling (stamped_exchange headers place exchange redelivered)) < 2 ^ 32 → IsTable (stamped_exchange headers place exchange redelivered)
unfolding stamped_exchange
exchange_stamp_spells headers place x r h few =
    with_hops_is_table headers (table (exchange_hop place x r)) (kept_hops headers) h (exchange_spelled place x r) (exchange_depth place x r) (hops_bring headers h)
    (table_counts (with_hops (table (exchange_hop place x r) ∷ kept_hops headers) headers) few)

visits_fit : (n : ℕ) → next_visits n < 2 ^ 31
visits_fit n = omega (arith, min-le_right (n + 1) 2147483647)

pub queue_stamp_spells : (headers : Pairs) (place : PlaceName) (queue : List ℕ) (redelivered : Bool) → IsTable headers
    → length (table_spelling (stamped_queue headers place queue redelivered)) < 2 ^ 32 → IsTable (stamped_queue headers place queue redelivered)
unfolding stamped_queue
queue_stamp_spells headers place q r h few =
    let n : ℕ = next_visits (visits_before place q (hop_entries headers)) in
    let kept : List Field = filter (λ v. not (is_own_hop place q v)) (kept_hops headers) in
    with_hops_is_table headers (table (queue_hop place q r n)) kept h (queue_spelled place q r n (visits_fit _)) (queue_depth place q r n)
    (filter_brings _ (kept_hops headers) (hops_bring headers h)) (table_counts (with_hops (table (queue_hop place q r n) ∷ kept) headers) few)
