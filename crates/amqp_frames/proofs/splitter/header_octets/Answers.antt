use Rattle.std.proofs.Common.{◌≡◌, ◌-◌, ℕ, List, length, min, take, drop, sym, subst, ◌∙◌, arith}
use Rattle.std.proofs.lemmas.List.{take-take, length-take, length-drop}
use Rattle.std.specs.Cmp.Lexicographic.{same_text, other_text}
use Rattle.amqp_frames.specs.Streams.{protocol_header, header_count}
use Rattle.amqp_frames.proofs.splitter.header_octets.Goals as goal

-- as many octets as there are on both sides
counted : (came n : ℕ) (piece : List ℕ) → n ≡ min (length piece) (length (take (8 - came) (drop came protocol_header))) → n ≡ header_count came piece
counted came n piece h = omega (arith, length-take (8 - came) (drop came protocol_header), length-drop came protocol_header)

-- those of the header
wanted : (came n : ℕ) (piece : List ℕ) → n ≡ header_count came piece → take n (take (8 - came) (drop came protocol_header)) ≡ take n (drop came protocol_header)
wanted came n piece h = take-take n (8 - came) (drop came protocol_header) (omega arith)

pub returns-then-eq-clause-some : goal.returns-then-eq-clause-some
returns-then-eq-clause-some c =
    let came = c.args.came in
    let n = c.min-count.result in
    let piece = c.args.piece.now in
    same_text (take n piece) (take n (take (8 - came) (drop came protocol_header))) (sym c.if-eq.true ∙ c.eq.ensures)
    ∙ wanted came n piece (counted came n piece c.min-count.ensures)

pub returns-else-eq-clause-none : goal.returns-else-eq-clause-none
returns-else-eq-clause-none c =
    let came = c.args.came in
    let n = c.min-count.result in
    let piece = c.args.piece.now in
    let count = counted came n piece c.min-count.ensures in
    let P : ℕ → Type 0 = λ k. take k piece ≡ take k (drop came protocol_header) in
    λ same. other_text (take n piece) (take n (take (8 - came) (drop came protocol_header))) (sym c.if-eq.false ∙ c.eq.ensures)
    (subst P (sym count) same ∙ sym (wanted came n piece count))
