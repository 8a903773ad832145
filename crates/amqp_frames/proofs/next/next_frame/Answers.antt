use Rattle.std.proofs.Common.{◌≡◌, ◌-◌, length, drop, refl, sym, arith, ◌∙◌}
use Rattle.byteorder.specs.Endian.{big_number}
use Rattle.byteorder.specs.Numbers.{big_from-take}
use Rattle.amqp_frames.proofs.NextLemmas.{announces}
use Rattle.amqp_frames.proofs.next.next_frame.Goals as goal

pub returns-then-size-gt-MAX_PAYLOAD : goal.returns-then-size-gt-MAX_PAYLOAD
returns-then-size-gt-MAX_PAYLOAD c =
    let octets = c.args.octets.now in
    let size : c.read_u32-size.result ≡ big_number 4 (drop 3 octets) =
    c.read_u32-size.ensures ∙ big_from-take 0 4 (length octets - 3) (drop 3 octets) (omega arith) in (
      refl,
      c.if-size-gt-MAX_PAYLOAD.true,
      announces octets c.read_u32-size.result (λ i. omega (arith, c.type_inv.octets i)) c.if-octets-lt7.false (sym c.is_kind.ensures ∙ c.if-not-is_kind.false) size,
    )
