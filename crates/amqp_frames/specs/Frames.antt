-- Frames as octets: the "General Frame Format" of AMQP 0-9-1, sections 2.3.5 and 4.2.3.
use Rattle.std.specs.Prelude.{ℕ, ◌+◌, ◌^◌, ◌<◌, ◌≤◌, ◌==◌, Bool, ◌||◌, IsTrue, List, [], ◌∷◌, ◌++◌, length, drop}
use Rattle.byteorder.specs.Endian.{big_bytes, big_number}
use Rattle.amqp_frames.specs.declared.frame.Frame.{Frame}

-- the frame types: 1 method, 2 content header, 3 content body (section 4.2.3), 8 heartbeat (section 4.2.1)
abbrev pub is_kind : ℕ → Bool
is_kind octet = octet == 1 || (octet == 2 || (octet == 3 || octet == 8))

-- A frame has one of the types, a channel of 16 bits and a payload within the limit (section 4.2.3; RabbitMQ's
-- frame_max of 131,072 octets counts the 8 around the payload, and so leaves 131,064).
pub record IsFrame (frame : Frame) : Type 0 where
  pub kind : IsTrue (is_kind frame.kind)
  pub channel : frame.channel < 2 ^ 16
  pub size : length frame.payload ≤ 131064

-- a frame's octets but for the last: type, channel, size, payload; numbers with their high octet first (sections 4.2.3
-- and 4.2.5.1)
abbrev pub unended : Frame → List ℕ
unended frame = frame.kind ∷ (big_bytes 2 frame.channel ++ (big_bytes 4 (length frame.payload) ++ frame.payload))

-- a frame's octets: these, and the frame-end, ce (section 4.2.3)
unfoldable pub frame_spelling : Frame → List ℕ
frame_spelling frame = unended frame ++ 206 ∷ []

-- the number in the size field of a frame that begins with these octets (section 4.2.3)
abbrev pub announced_size : List ℕ → ℕ
announced_size octets = big_number 4 (drop 3 octets)

-- Less than a frame: no octet of it, or a first part. Its size is judged once the size's fourth octet is there, which is
-- the frame's seventh (section 4.2.3).
abbrev pub IsUnfinished : List ℕ → Type 0
IsUnfinished [] = 0 ≤ 0
IsUnfinished (kind ∷ rest) =
    IsTrue (is_kind kind)
    × (6 ≤ length rest → (announced_size (kind ∷ rest) ≤ 131064) × (length rest < announced_size (kind ∷ rest) + 7))
