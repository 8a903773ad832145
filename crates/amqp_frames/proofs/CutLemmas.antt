-- One frame more, cut off octets.
use Rattle.std.proofs.Common.{◌≡◌, ℕ, ◌+◌, ◌-◌, ◌≤◌, List, [], ◌∷◌, ◌++◌, length, take, drop, min, Option, refl, sym, ap, ◌∙◌, arith}
use Rattle.std.proofs.lemmas.List.{take-append-drop, length-drop, length-append, drop-take, take-take, take_at, take_all, length-take-le, flat_map_more}
use Rattle.std.specs.List.{flat_map, AllByRecursion}
use Rattle.amqp_frames.specs.declared.frame.Frame.{Frame}
use Rattle.amqp_frames.specs.declared.next.Head.{Head}
use Rattle.amqp_frames.specs.Frames.{IsFrame, frame_spelling}
use Rattle.amqp_frames.specs.Cuts.{frame_of, BeginsWith, IsCut, Advances}
use Rattle.amqp_frames.specs.declared.fault.FrameFault.{FrameFault}

pub take_add : (m n : ℕ) (xs : List ℕ) → take (m + n) xs ≡ take m xs ++ take n (drop m xs)
take_add m n xs =
    sym (take-append-drop m (take (m + n) xs))
    ∙ ap (λ (t : List ℕ). t ++ drop m (take (m + n) xs)) (take-take m (m + n) xs (omega arith))
    ∙ ap (λ (t : List ℕ). take m xs ++ t) (drop-take m n xs)

-- frames that take so many octets
pub record Spells (octets : List ℕ) (frames : List Frame) (used : ℕ) : Type 0 where
  pub within : used ≤ length octets
  pub each : AllByRecursion IsFrame frames
  pub spelled : take used octets ≡ flat_map frame_spelling frames

pub each_append : (frames more : List Frame) → AllByRecursion IsFrame frames → AllByRecursion IsFrame more
    → AllByRecursion IsFrame (frames ++ more)
each_append [] more h k = k
each_append (f ∷ frames) more h k = (h.0, each_append frames more h.1 k)

pub spells_none : (octets : List ℕ) → Spells octets [] 0
spells_none octets = record { within = omega arith; each = tt; spelled = refl }

pub spells_more : (octets : List ℕ) (frames : List Frame) (used : ℕ) (head : Head) → Spells octets frames used → BeginsWith head (drop used octets)
    → Spells octets (frames ++ frame_of head (drop used octets) ∷ []) (used + (head.size + 8))
spells_more octets frames used head s b =
    let frame = frame_of head (drop used octets) in
    let behind = drop (head.size + 8) (drop used octets) in
    let long : head.size + 8 ≤ length (drop used octets) = b.within in
    let all : length (drop used octets) ≡ length (frame_spelling frame) + length behind =
    ap (λ (t : List ℕ). length t) b.spelled ∙ length-append (frame_spelling frame) behind in
    let width : length (frame_spelling frame) ≡ head.size + 8 = omega (arith, length-drop (head.size + 8) (drop used octets)) in
    let this : take (head.size + 8) (drop used octets) ≡ frame_spelling frame =
    ap (λ (t : List ℕ). take (head.size + 8) t) b.spelled ∙ take_at (frame_spelling frame) behind (head.size + 8) width in
    record {
      within = omega (arith, length-drop used octets);
      each = each_append frames (frame ∷ []) s.each (b.is_frame, tt);
      spelled = take_add used (head.size + 8) octets
          ∙ ap (λ (t : List ℕ). t ++ take (head.size + 8) (drop used octets)) s.spelled
          ∙ ap (λ (t : List ℕ). flat_map frame_spelling frames ++ t) this
          ∙ flat_map_more frame_spelling [] frames frame;
    }

-- all that is left of octets, as a range gives it
pub tail_whole : (n : ℕ) (xs : List ℕ) → take (length xs - n) (drop n xs) ≡ drop n xs
tail_whole n xs = take_all (length xs - n) (drop n xs) (omega (arith, length-drop n xs))

-- frames cut off octets, with the rest and its offset
pub advances : (place : ℕ) (octets : List ℕ) (frames : List Frame) (used : ℕ) (fault : Option FrameFault) (rest : List ℕ) (behind : ℕ)
    → IsCut place octets frames used fault → rest ≡ drop used octets → behind ≡ min (place + used) 18446744073709551615
    → Advances place octets frames rest behind fault
advances place octets frames used fault rest behind cut rest-is behind-is =
    let width : length (flat_map frame_spelling frames) ≡ used =
    sym (ap (λ (t : List ℕ). length t) cut.spelled) ∙ length-take-le used octets cut.within in
    record {
      each = cut.each;
      spelled = sym (take-append-drop used octets) ∙ cc (cut.spelled, rest-is);
      offset = rw width behind-is;
      end = rw (behind-is, rest-is) cut.end;
    }
