use Rattle.std.proofs.Common.{◌≡◌, ◌-◌, length, drop, refl, arith, ◌∙◌}
use Rattle.byteorder.specs.Endian.{big_number}
use Rattle.byteorder.specs.Numbers.{big_from-take}
use Rattle.amqp_frames.proofs.NextLemmas.{begins, ends_in}
use Rattle.amqp_frames.proofs.next.whole_frame.Goals as goal

pub returns : goal.returns
returns c =
    let octets = c.args.octets.now in
    let channel : c.read_u16.result ≡ big_number 2 (drop 1 octets) =
    c.read_u16.ensures ∙ big_from-take 0 2 (length octets - 1) (drop 1 octets) (omega arith) in
    begins (record { kind = _; channel = _; size = _ }) octets (λ i. omega (arith, c.type_inv.octets i)) refl channel c.requires.announced
    c.if-octets-size.false c.requires.kind c.requires.size c.if-end.false

pub returns-then-end : goal.returns-then-end
returns-then-end c = (
  refl,
  c.if-end.true,
  ends_in c.args.octets.now c.args.size (λ i. omega (arith, c.type_inv.octets i)) c.requires.announced
      c.if-octets-size.false c.requires.kind c.requires.size,
)
