-- The octets of a frame, read field by field, are those of the frame's spelling.
use Rattle.std.proofs.Common.{◌≡◌, ℕ, zero, suc, ◌+◌, ◌<◌, ◌≤◌, ◌^◌, true, List, [], ◌∷◌, ◌++◌, length, get_or, take, drop, refl, sym, ◌∙◌, append_assoc, arith, drop-cons}
use Rattle.std.proofs.lemmas.List.{get_or-drop}
use Rattle.std.proofs.lemmas.List.{take-append-drop, length-take, length-drop, drop-drop}
use Rattle.std.proofs.lemmas.Nat.{be_bytes_2, be_bytes_4}
use Rattle.byteorder.specs.Endian.{big_bytes, big_number}
use Rattle.byteorder.specs.Numbers.{big_from-lt}
use Rattle.amqp_frames.specs.declared.next.Head.{Head}
use Rattle.amqp_frames.specs.Frames.{is_kind, IsFrame, unended, frame_spelling, announced_size}
use Rattle.amqp_frames.specs.Streams.{Announces, EndsIn}
use Rattle.amqp_frames.specs.Cuts.{frame_of, BeginsWith}

-- each is an octet
abbrev pub AreOctets : List ℕ → Type 0
AreOctets octets = (i : ℕ) → get_or octets i 0 < 256

two_octets : (a b : ℕ) → a < 256 → b < 256 → AreOctets (a ∷ b ∷ [])
two_octets a b ha hb zero = ha
two_octets a b ha hb (suc zero) = hb
two_octets a b ha hb (suc (suc i)) = omega arith

four_octets : (a b c d : ℕ) → a < 256 → b < 256 → c < 256 → d < 256 → AreOctets (a ∷ b ∷ c ∷ d ∷ [])
four_octets a b c d ha hb hc hd zero = ha
four_octets a b c d ha hb hc hd (suc zero) = hb
four_octets a b c d ha hb hc hd (suc (suc i)) = two_octets c d hc hd i

-- the channel and the size, written again
pub two_again : (a b : ℕ) (rest : List ℕ) → a < 256 → b < 256 → big_bytes 2 (big_number 2 (a ∷ b ∷ rest)) ≡ a ∷ b ∷ []
two_again a b rest ha hb = be_bytes_2 (a ∷ b ∷ []) _ refl (two_octets a b ha hb) (omega arith)

pub four_again : (a b c d : ℕ) (rest : List ℕ) → a < 256 → b < 256 → c < 256 → d < 256
    → big_bytes 4 (big_number 4 (a ∷ b ∷ c ∷ d ∷ rest)) ≡ a ∷ b ∷ c ∷ d ∷ []
four_again a b c d rest ha hb hc hd = be_bytes_4 (a ∷ b ∷ c ∷ d ∷ []) _ refl (four_octets a b c d ha hb hc hd) (omega arith)

-- the seven octets before a payload
pub front : (octets : List ℕ) → AreOctets octets → 7 ≤ length octets
    → octets ≡ get_or octets 0 0 ∷ (big_bytes 2 (big_number 2 (drop 1 octets)) ++ (big_bytes 4 (big_number 4 (drop 3 octets)) ++ drop 7 octets))
front [] h l = absurd (omega arith)
front (k ∷ []) h l = absurd (omega arith)
front (k ∷ a ∷ []) h l = absurd (omega arith)
front (k ∷ a ∷ b ∷ []) h l = absurd (omega arith)
front (k ∷ a ∷ b ∷ c ∷ []) h l = absurd (omega arith)
front (k ∷ a ∷ b ∷ c ∷ d ∷ []) h l = absurd (omega arith)
front (k ∷ a ∷ b ∷ c ∷ d ∷ e ∷ []) h l = absurd (omega arith)
front (k ∷ a ∷ b ∷ c ∷ d ∷ e ∷ f ∷ rest) h l =
    let channel = two_again a b (c ∷ d ∷ e ∷ f ∷ rest) (h 1) (h 2) in
    let size = four_again c d e f rest (h 3) (h 4) (h 5) (h 6) in
    cc

-- octets that are long enough have the frame's, but for the last, then one, then the rest
pub unended_front : (head : Head) (octets : List ℕ) → AreOctets octets → head.kind ≡ get_or octets 0 0
    → head.channel ≡ big_number 2 (drop 1 octets) → head.size ≡ announced_size octets → head.size + 8 ≤ length octets
    → octets ≡ unended (frame_of head octets) ++ get_or octets (head.size + 7) 0 ∷ drop (head.size + 8) octets
unended_front head octets h kind channel size long =
    let seven : 7 ≤ length octets = omega arith in
    let behind : drop 7 octets ≡ take head.size (drop 7 octets) ++ drop head.size (drop 7 octets) = sym (take-append-drop head.size (drop 7 octets)) in
    let payload : length (take head.size (drop 7 octets)) ≡ head.size = omega (arith, length-take head.size (drop 7 octets), length-drop 7 octets) in
    let here : 7 + head.size ≡ head.size + 7 = omega arith in
    let after : suc (7 + head.size) ≡ head.size + 8 = omega arith in
    let end : drop head.size (drop 7 octets) ≡ get_or octets (7 + head.size) 0 ∷ drop (suc (7 + head.size)) octets =
    drop-drop head.size 7 octets ∙ drop-cons octets (7 + head.size) 0 (omega arith) in
    let fields = front octets h seven in
    cc

-- a frame that announces this size
pub announces : (octets : List ℕ) (size : ℕ) → AreOctets octets → 7 ≤ length octets → is_kind (get_or octets 0 0) ≡ true → size ≡ big_number 4 (drop 3 octets)
    → Announces size octets
announces octets size h long kind is = record {
  kind = get_or octets 0 0;
  channel = big_number 2 (drop 1 octets);
  more = drop 7 octets;
  is_kind = kind;
  fits = let below = big_from-lt 0 4 (drop 3 octets) (λ k. rw get_or-drop (h (3 + k))) in omega arith;
  spelled = rw is (front octets h long);
}

is_frame_of : (head : Head) (octets : List ℕ) → head.kind ≡ get_or octets 0 0 → is_kind (get_or octets 0 0) ≡ true
    → length (take head.size (drop 7 octets)) ≡ head.size → head.size ≤ 131064 → head.channel < 2 ^ 16 → IsFrame (frame_of head octets)
is_frame_of head octets kind known payload small channel = record {
  kind = rw (kind, known) refl;
  channel = channel;
  size = rw payload small;
}

-- the whole frame, where its last octet is the frame-end
pub begins : (head : Head) (octets : List ℕ) → AreOctets octets → head.kind ≡ get_or octets 0 0
    → head.channel ≡ big_number 2 (drop 1 octets) → head.size ≡ announced_size octets → head.size + 8 ≤ length octets
    → is_kind (get_or octets 0 0) ≡ true → head.size ≤ 131064 → get_or octets (head.size + 7) 0 ≡ 206
    → BeginsWith head octets
unfolding frame_spelling
begins head octets h kind channel size long known small ends =
    let whole = unended_front head octets h kind channel size long in
    let payload : length (take head.size (drop 7 octets)) ≡ head.size = omega (arith, length-take head.size (drop 7 octets), length-drop 7 octets) in
    let below = big_from-lt 0 2 (drop 1 octets) (λ k. rw get_or-drop (h (1 + k))) in
    record {
      is_frame = is_frame_of head octets kind known payload small (omega arith);
      within = long;
      spelled = simp append_assoc cc;
    }

-- the same, whatever its last octet
pub ends_in : (octets : List ℕ) (size : ℕ) → AreOctets octets → size ≡ announced_size octets → size + 8 ≤ length octets
    → is_kind (get_or octets 0 0) ≡ true → size ≤ 131064 → EndsIn (get_or octets (size + 7) 0) octets
ends_in octets size h announced long known small =
    let head : Head = record { kind = get_or octets 0 0; channel = big_number 2 (drop 1 octets); size = size } in
    let payload : length (take size (drop 7 octets)) ≡ size = omega (arith, length-take size (drop 7 octets), length-drop 7 octets) in
    let below = big_from-lt 0 2 (drop 1 octets) (λ k. rw get_or-drop (h (1 + k))) in
    record {
      frame = frame_of head octets;
      is_frame = is_frame_of head octets refl known payload small (omega arith);
      more = drop (size + 8) octets;
      spelled = unended_front head octets h refl refl announced long;
    }
