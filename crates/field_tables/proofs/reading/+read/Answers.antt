use Rattle.std.proofs.Common.{◌≡◌, ◌-◌, ◌<◌, length, refl, sym, ◌++◌, ◌∷◌, [], arith}
use Rattle.std.specs.Prelude.{string_bytes}
use Rattle.std.proofs.lemmas.List.{map_push}
use Rattle.std.proofs.lemmas.Result.{err_from_is_err_and}
use Rattle.field_tables.specs.View.{field_view, pair_view, fields_view, pairs_view}
use Rattle.field_tables.specs.Reading.{counted_at, kind_at, inside_at, value_at}
use Rattle.field_tables.proofs.Loops.{fields_go, fields_fail, fields_end, pairs_go, pairs_fail_name, pairs_fail_value, pairs_end, fails_on, fails_self, value_below, value_short, value_deep, content_fixed, content_counted, with_front-nil, some_left, none_left}
use Rattle.field_tables.proofs.Octets.{IsBytes}
use Rattle.field_tables.proofs.Values.{value_after, pair_after}
use Rattle.field_tables.proofs.Views.{view-Table}
use Rattle.field_tables.proofs.reading.+read.Goals as goal

pub fields_of-returns-in_err-value : goal.fields_of-returns-in_err-value
fields_of-returns-in_err-value t c =
    let p = err_from_is_err_and c.from_residual.result c.from_residual.ensures.1 in
    rw (p.1, p.2) (fields_fail (value_at c.args.depth) (fields_view c.fields.fields.items) c.fields.invariant.0 c.fields.rest.now c.in_err-value.field-0.0 _ (some_left (length c.fields.rest.now) _ c.is_empty.ensures c.fields-test.true) c.fields.invariant.1 c.in_err-value.ensures c.fields.invariant.2)

pub fields_of-fields-smaller : goal.fields_of-fields-smaller
fields_of-fields-smaller t c = (value_after c.args.depth c.fields.rest.now (field_view c.in_ok-value.value) c.in_ok-value.after.now c.fields.invariant.3 c.in_ok-value.ensures).0

pub fields_of-fields-preserved : goal.fields_of-fields-preserved
fields_of-fields-preserved t c =
    let n = c.fields.invariant.0 in
    let v = c.in_ok-value.value in
    let next : (length c.in_ok-value.after.now < length c.fields.rest.now) × IsBytes c.in_ok-value.after.now = value_after c.args.depth c.fields.rest.now (field_view v) c.in_ok-value.after.now c.fields.invariant.3 c.in_ok-value.ensures in
    let e : fields_view c.push.new.self.items ≡ fields_view c.fields.fields.items ++ field_view v ∷ [] = rw c.in_ok-push.ensures.items (map_push _ c.fields.fields.items v) in
    (n - 1, omega (arith, c.fields.invariant.1, next.0), rw e (fields_go (value_at c.args.depth) (fields_view c.fields.fields.items) n c.fields.rest.now (field_view v) c.in_ok-value.after.now _ (some_left (length c.fields.rest.now) _ c.is_empty.ensures c.fields-test.true) c.fields.invariant.1 c.in_ok-value.ensures c.fields.invariant.2), next.1)

pub fields_of-returns : goal.fields_of-returns
fields_of-returns t c = fields_end (value_at c.args.depth) (fields_view c.fields.fields.items) c.fields.invariant.0 c.fields.rest.now _ (none_left (length c.fields.rest.now) _ c.is_empty.ensures c.fields-test.false) c.fields.invariant.2

pub inside_of-returns-in_ok-pairs-in-Table : goal.inside_of-returns-in_ok-pairs-in-Table
unfolding inside_at
inside_of-returns-in_ok-pairs-in-Table t c = rw (c.in-Table.is, c.in_ok-pairs-in-Table.ensures, view-Table c.in_ok-pairs-in-Table.pairs) refl

pub pairs_of-returns-in_err-name : goal.pairs_of-returns-in_err-name
pairs_of-returns-in_err-name t c =
    let p = err_from_is_err_and c.from_residual.result c.from_residual.ensures.1 in
    rw (p.1, p.2) (pairs_fail_name (value_at c.args.depth) (pairs_view c.pairs.pairs.items) c.pairs.invariant.0 c.pairs.rest.now c.in_err-name.field-0.0 _ (some_left (length c.pairs.rest.now) _ c.is_empty.ensures c.pairs-test.true) c.pairs.invariant.1 c.in_err-name.ensures c.pairs.invariant.2)

pub pairs_of-returns-in_err-value : goal.pairs_of-returns-in_err-value
pairs_of-returns-in_err-value t c =
    let p = err_from_is_err_and c.from_residual-in_err-value.result c.from_residual-in_err-value.ensures.1 in
    rw (p.1, p.2) (pairs_fail_value (value_at c.args.depth) (pairs_view c.pairs.pairs.items) c.pairs.invariant.0 c.pairs.rest.now (string_bytes c.in_ok-name.name) c.in_ok-name.after_name.now c.in_err-value.field-0.0 _ (some_left (length c.pairs.rest.now) _ c.is_empty.ensures c.pairs-test.true) c.pairs.invariant.1 c.in_ok-name.ensures c.in_err-value.ensures c.pairs.invariant.2)

pub pairs_of-pairs-smaller : goal.pairs_of-pairs-smaller
pairs_of-pairs-smaller t c = (pair_after c.args.depth c.pairs.rest.now (string_bytes c.in_ok-name.name) c.in_ok-name.after_name.now (field_view c.in_ok-value.value) c.in_ok-value.after.now c.pairs.invariant.3 c.in_ok-name.ensures c.in_ok-value.ensures).0

pub pairs_of-pairs-preserved : goal.pairs_of-pairs-preserved
pairs_of-pairs-preserved t c =
    let n = c.pairs.invariant.0 in
    let name = c.in_ok-name.name in
    let v = c.in_ok-value.value in
    let next : (length c.in_ok-value.after.now < length c.pairs.rest.now) × IsBytes c.in_ok-value.after.now = pair_after c.args.depth c.pairs.rest.now (string_bytes name) c.in_ok-name.after_name.now (field_view v) c.in_ok-value.after.now c.pairs.invariant.3 c.in_ok-name.ensures c.in_ok-value.ensures in
    let e : pairs_view c.push.new.self.items ≡ pairs_view c.pairs.pairs.items ++ (string_bytes name, field_view v) ∷ [] = rw c.in_ok-push.ensures.items (map_push pair_view c.pairs.pairs.items (name, v)) in
    (n - 1, omega (arith, c.pairs.invariant.1, next.0), rw e (pairs_go (value_at c.args.depth) (pairs_view c.pairs.pairs.items) n c.pairs.rest.now (string_bytes name) c.in_ok-name.after_name.now (field_view v) c.in_ok-value.after.now _ (some_left (length c.pairs.rest.now) _ c.is_empty.ensures c.pairs-test.true) c.pairs.invariant.1 c.in_ok-name.ensures c.in_ok-value.ensures c.pairs.invariant.2), next.1)

pub pairs_of-returns : goal.pairs_of-returns
pairs_of-returns t c = pairs_end (value_at c.args.depth) (pairs_view c.pairs.pairs.items) c.pairs.invariant.0 c.pairs.rest.now _ (none_left (length c.pairs.rest.now) _ c.is_empty.ensures c.pairs-test.false) c.pairs.invariant.2

pub value_of-returns-in_err-octet : goal.value_of-returns-in_err-octet
value_of-returns-in_err-octet t c =
    let p = err_from_is_err_and c.from_residual.result c.from_residual.ensures.1 in
    rw (p.1, p.2) (value_short c.args.depth c.args.bytes.now c.in_err-octet.field-0.0 c.in_err-octet.ensures)

pub value_of-returns-then-depth-eq0 : goal.value_of-returns-then-depth-eq0
value_of-returns-then-depth-eq0 t c = value_deep c.args.depth c.args.bytes.now c.in_ok-octet.octet c.in_ok-octet.rest.now (omega arith) c.in_ok-octet.ensures

pub value_of-returns-in_err-kind : goal.value_of-returns-in_err-kind
value_of-returns-in_err-kind t c =
    let p = err_from_is_err_and c.from_residual-in_err-kind.result c.from_residual-in_err-kind.ensures.1 in
    let below = value_below c.args.depth c.args.bytes.now c.in_ok-octet.octet c.in_ok-octet.rest.now (omega arith) c.in_ok-octet.ensures in
    rw (p.1, p.2, below) (fails_on c.in_err-kind.field-0.0 (kind_at c.in_ok-octet.octet) _ (fails_self c.in_err-kind.field-0.0 (kind_at c.in_ok-octet.octet) (sym c.in_err-kind.ensures)))

pub value_of-returns-in_err-content-in-Counted : goal.value_of-returns-in_err-content-in-Counted
value_of-returns-in_err-content-in-Counted t c =
    let p = err_from_is_err_and c.from_residual-in_err-content-in-Counted.result c.from_residual-in_err-content-in-Counted.ensures.1 in
    let below = value_below c.args.depth c.args.bytes.now c.in_ok-octet.octet c.in_ok-octet.rest.now (omega arith) c.in_ok-octet.ensures in
    rw (p.1, p.2, below, ← c.in_ok-kind.ensures, c.in-Counted.is, content_counted) (fails_on c.in_err-content-in-Counted.field-0.0 (counted_at c.in_ok-octet.rest.now) _ c.in_err-content-in-Counted.ensures)

pub value_of-returns-in_err-inside_of-in-Counted : goal.value_of-returns-in_err-inside_of-in-Counted
value_of-returns-in_err-inside_of-in-Counted t c =
    let p = err_from_is_err_and c.from_residual-in_err-inside_of-in-Counted.result c.from_residual-in_err-inside_of-in-Counted.ensures.1 in
    let below = value_below c.args.depth c.args.bytes.now c.in_ok-octet.octet c.in_ok-octet.rest.now (omega arith) c.in_ok-octet.ensures in
    rw (p.1, p.2, below, ← c.in_ok-kind.ensures, c.in-Counted.is, content_counted, c.in_ok-content-in-Counted.ensures) (fails_on c.in_err-inside_of-in-Counted.field-0.0 (inside_at (value_at (c.args.depth - 1)) c.in-Counted.kind c.in_ok-content-in-Counted.content.now) _ c.in_err-inside_of-in-Counted.ensures)

pub value_of-returns-in-Fixed : goal.value_of-returns-in-Fixed
value_of-returns-in-Fixed t c =
    let below = value_below c.args.depth c.args.bytes.now c.in_ok-octet.octet c.in_ok-octet.rest.now (omega arith) c.in_ok-octet.ensures in
    rw (below, ← c.in_ok-kind.ensures, c.in-Fixed.is, content_fixed) c.fixed_of.ensures

pub value_of-returns-in_ok-inside_of-in-Counted : goal.value_of-returns-in_ok-inside_of-in-Counted
value_of-returns-in_ok-inside_of-in-Counted t c =
    let below = value_below c.args.depth c.args.bytes.now c.in_ok-octet.octet c.in_ok-octet.rest.now (omega arith) c.in_ok-octet.ensures in
    rw (below, ← c.in_ok-kind.ensures, c.in-Counted.is, content_counted, c.in_ok-content-in-Counted.ensures, c.in_ok-inside_of-in-Counted.ensures) refl

pub fields_of-fields-init : goal.fields_of-fields-init
fields_of-fields-init t c = (length c.args.bytes.now, omega arith, rw c.new-fields.ensures.items (with_front-nil _), λ i. omega (arith, c.type_inv.bytes i))

pub pairs_of-pairs-init : goal.pairs_of-pairs-init
pairs_of-pairs-init t c = (length c.args.bytes.now, omega arith, rw c.new-pairs.ensures.items (with_front-nil _), λ i. omega (arith, c.type_inv.bytes i))
