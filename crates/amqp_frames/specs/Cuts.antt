-- What the steps of the splitter find in octets that begin in a frame's place.
use Rattle.std.specs.Prelude.{◌≡◌, ℕ, ◌+◌, ◌≤◌, List, ◌++◌, length, take, drop, min, Option, Some, None}
use Rattle.std.specs.List.{flat_map, AllByRecursion}
use Rattle.amqp_frames.specs.declared.frame.Frame.{Frame}
use Rattle.amqp_frames.specs.declared.fault.FrameFault.{FrameFault}
use Rattle.amqp_frames.specs.declared.next.Head.{Head}
use Rattle.amqp_frames.specs.declared.next.Next.{Next}
use Rattle.amqp_frames.specs.declared.next.Next.TheVariants as next
use Rattle.amqp_frames.specs.Frames.{IsFrame, frame_spelling, IsUnfinished}
use Rattle.amqp_frames.specs.Streams.{IsFault}

-- the frame with this head that begins these octets
abbrev pub frame_of : Head → List ℕ → Frame
frame_of head octets = record { kind = head.kind; channel = head.channel; payload = take head.size (drop 7 octets) }

-- the octets begin with the whole frame of this head
pub record BeginsWith (head : Head) (octets : List ℕ) : Type 0 where
  pub is_frame : IsFrame (frame_of head octets)
  pub within : head.size + 8 ≤ length octets
  pub spelled : octets ≡ frame_spelling (frame_of head octets) ++ drop (head.size + 8) octets

-- what begins octets that stand at this offset
abbrev pub IsNext : ℕ → List ℕ → Next → Type 0
IsNext place octets next.Part = IsUnfinished octets
IsNext place octets (next.Whole head) = BeginsWith head octets
IsNext place octets (next.Fault fault) = IsFault place octets fault

-- the end of a stream so far, or its fault
abbrev pub IsEnd : ℕ → List ℕ → Option FrameFault → Type 0
IsEnd place rest None = IsUnfinished rest
IsEnd place rest (Some fault) = IsFault place rest fault

-- Octets that stand at this offset are these frames, which take so many, and a rest with this end.
pub record IsCut (place : ℕ) (octets : List ℕ) (frames : List Frame) (used : ℕ) (fault : Option FrameFault) : Type 0 where
  pub within : used ≤ length octets
  pub each : AllByRecursion IsFrame frames
  pub spelled : take used octets ≡ flat_map frame_spelling frames
  pub end : IsEnd (min (place + used) 18446744073709551615) (drop used octets) fault

-- the same, with the rest and its offset
pub record Advances (place : ℕ) (octets : List ℕ) (frames : List Frame) (rest : List ℕ) (behind : ℕ) (fault : Option FrameFault) : Type 0 where
  pub each : AllByRecursion IsFrame frames
  pub spelled : octets ≡ flat_map frame_spelling frames ++ rest
  pub offset : behind ≡ min (place + length (flat_map frame_spelling frames)) 18446744073709551615
  pub end : IsEnd behind rest fault
