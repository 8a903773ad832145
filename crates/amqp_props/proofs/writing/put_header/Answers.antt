use Rattle.std.proofs.Common.{◌≡◌, ℕ, List, ◌++◌, ap, ◌∙◌, append_assoc, arith}
use Rattle.std.specs.Int.{w16, w64, to_be_bytes}
use Rattle.amqp_props.specs.ContentHeader.{property_rows, flags_of, values_of, values_spelling, payload_of}
use Rattle.field_tables.proofs.Kept.{kept_on}
use Rattle.amqp_props.proofs.writing.put_header.Goals as goal

-- a part, and then the rest
put_next : (old mid new part rest : List ℕ) → mid ≡ old ++ part → new ≡ mid ++ rest → new ≡ old ++ (part ++ rest)
put_next old mid new part rest first others = others ∙ ap (λ (front : List ℕ). front ++ rest) first ∙ append_assoc old part rest

-- the parts of a header, one after the other
put_parts : (old one two three four new class weight size flags values : List ℕ) → one ≡ old ++ class → two ≡ one ++ weight → three ≡ two ++ size → four ≡ three ++ flags → new ≡ four ++ values
    → new ≡ old ++ (class ++ (weight ++ (size ++ (flags ++ values))))
put_parts old one two three four new class weight size flags values a b c d e =
    put_next old one new class (weight ++ (size ++ (flags ++ values))) a
    (put_next one two new weight (size ++ (flags ++ values)) b (put_next two three new size (flags ++ values) c (put_next three four new flags values d e)))

pub returns-clause-ok : goal.returns-clause-ok
unfolding payload_of
returns-clause-ok c =
    let old = c.args.out.now.items in
    let one = c.put_octets.new.out.items in
    let two = c.put_octets-2.new.out.items in
    let three = c.put_octets-3.new.out.items in
    let four = c.put_octets-4.new.out.items in
    let flags = flags_of property_rows (values_of c.args.props.now) in
    let flags_are = c.to_be_bytes-4.ensures ∙ ap (to_be_bytes w16) c.flags_of.ensures in (
      record { size_fits = omega arith; values_fit = c.in_ok-put_properties.ensures.ok.0 },
      put_parts old one two three four c.put_properties.new.out.items (to_be_bytes w16 60) (to_be_bytes w16 0) (to_be_bytes w64 c.args.size) (to_be_bytes w16 flags) (values_spelling (values_of c.args.props.now))
          (c.in_ok-put_octets.ensures.ok ∙ ap (λ (part : List ℕ). old ++ part) c.to_be_bytes.ensures)
          (c.in_ok-put_octets-2.ensures.ok ∙ ap (λ (part : List ℕ). one ++ part) c.to_be_bytes-2.ensures)
          (c.in_ok-put_octets-3.ensures.ok ∙ ap (λ (part : List ℕ). two ++ part) c.to_be_bytes-3.ensures)
          (c.in_ok-put_octets-4.ensures.ok ∙ ap (λ (part : List ℕ). three ++ part) flags_are)
          c.in_ok-put_properties.ensures.ok.1,
    )

pub returns-in_err-put_octets-clause-kept : goal.returns-in_err-put_octets-clause-kept
returns-in_err-put_octets-clause-kept c = c.put_octets.ensures.kept

pub returns-in_err-put_octets-2-clause-kept : goal.returns-in_err-put_octets-2-clause-kept
returns-in_err-put_octets-2-clause-kept c = kept_on _ _ _ (c.put_octets.ensures.kept) c.put_octets-2.ensures.kept

pub returns-in_err-put_octets-3-clause-kept : goal.returns-in_err-put_octets-3-clause-kept
returns-in_err-put_octets-3-clause-kept c = kept_on _ _ _ (kept_on _ _ _ (c.put_octets.ensures.kept) c.put_octets-2.ensures.kept) c.put_octets-3.ensures.kept

pub returns-in_err-put_octets-4-clause-kept : goal.returns-in_err-put_octets-4-clause-kept
returns-in_err-put_octets-4-clause-kept c = kept_on _ _ _ (kept_on _ _ _ (kept_on _ _ _ (c.put_octets.ensures.kept) c.put_octets-2.ensures.kept) c.put_octets-3.ensures.kept) c.put_octets-4.ensures.kept

pub returns-in_err-put_properties-clause-kept : goal.returns-in_err-put_properties-clause-kept
returns-in_err-put_properties-clause-kept c = kept_on _ _ _ (kept_on _ _ _ (kept_on _ _ _ (kept_on _ _ _ (c.put_octets.ensures.kept) c.put_octets-2.ensures.kept) c.put_octets-3.ensures.kept) c.put_octets-4.ensures.kept) c.put_properties.ensures.kept

pub returns-clause-kept : goal.returns-clause-kept
returns-clause-kept c = kept_on _ _ _ (kept_on _ _ _ (kept_on _ _ _ (kept_on _ _ _ (c.put_octets.ensures.kept) c.put_octets-2.ensures.kept) c.put_octets-3.ensures.kept) c.put_octets-4.ensures.kept) c.put_properties.ensures.kept
