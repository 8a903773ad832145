-- Whole commands as lists of frames: AMQP 0-9-1, sections 4.2.1 "Formal Protocol Grammar", 2.3.5.1 "Method Frames", 2.3.5.2
-- "Content Frames" and 4.2.6 "Content Framing".
use Rattle.std.specs.Prelude.{◌≡◌, ℕ, ◌<◌, ◌≤◌, true, false, List, [], ◌∷◌, ◌++◌, length, Option, Some, None}
use Rattle.std.specs.List.{flat_map, AllByRecursion}
use Rattle.amqp_frames.specs.declared.frame.Frame.{Frame}
use Rattle.amqp_props.specs.declared.properties.Properties.{Properties}
use Rattle.amqp_props.specs.ContentHeader.{IsHeader, header_spelling}
use Rattle.amqp_methods.specs.Methods.{Call, IsCall, SpellsCall}
use Rattle.amqp_content.specs.Steps.{Received, Open, Whole, has_content, body_limit}

-- A method frame, of type 1, whose payload spells the method (2.3.5.1).
pub record IsMethodFrame (call : Call) (frame : Frame) : Type 0 where
  pub kind : frame.kind ≡ 1
  pub is_call : IsCall call
  pub spells : SpellsCall call frame.payload

-- A content header frame, of type 2, for a body of so many octets, which are within the limit (4.2.6.1).
pub record IsHeaderFrame (size : ℕ) (props : Properties) (frame : Frame) : Type 0 where
  pub kind : frame.kind ≡ 2
  pub is_header : IsHeader size props
  pub within : size ≤ body_limit
  pub spelled : frame.payload ≡ header_spelling size props

-- the octets that body frames bring
abbrev pub payloads : List Frame → List ℕ
payloads frames = flat_map (λ frame. frame.payload) frames

-- Body frames, of type 3, that bring these octets of a body of that size. Each stands where octets are still missing
-- (4.2.6.2).
pub record AreBodyFrames (size : ℕ) (body : List ℕ) (frames : List Frame) : Type 0 where
  pub kinds : AllByRecursion (λ frame. frame.kind ≡ 3) frames
  pub octets : body ≡ payloads frames
  pub needed : (before : List Frame) (last : Frame) → frames ≡ before ++ last ∷ [] → length (payloads before) < size

-- The frame of a method without content yet.
pub record IsMethodAlone (call : Call) (frames : List Frame) : Type 0 where
  pub first : Frame
  pub are : frames ≡ first ∷ []
  pub method : IsMethodFrame call first

-- The frame of a method with content, its content header, and body frames (4.2.6).
pub record AreContent (call : Call) (size : ℕ) (props : Properties) (body : List ℕ) (frames : List Frame) : Type 0 where
  pub first : Frame
  pub header : Frame
  pub bodies : List Frame
  pub are : frames ≡ first ∷ header ∷ bodies
  pub carries : has_content call ≡ true
  pub method : IsMethodFrame call first
  pub header_is : IsHeaderFrame size props header
  pub bodies_are : AreBodyFrames size body bodies

-- all on one channel
abbrev pub AreOn : ℕ → List Frame → Type 0
AreOn channel frames = AllByRecursion (λ frame. frame.channel ≡ channel) frames

abbrev pub Spelled : Call → Option (Properties × List ℕ) → List Frame → Type 0
Spelled call None frames = (has_content call ≡ false) × IsMethodAlone call frames
Spelled call (Some content) frames = AreContent call (length content.1) content.0 content.1 frames

-- The frames are the command: a method frame, and for a method with content a content header and body frames whose sizes
-- add up to the announced size (4.2.1).
pub record IsCommand (frames : List Frame) (command : Whole) : Type 0 where
  pub channel : AreOn command.channel frames
  pub spelled : Spelled command.method command.content frames

abbrev pub Begins : Call → Option Received → List Frame → Type 0
Begins call None frames = (has_content call ≡ true) × IsMethodAlone call frames
Begins call (Some received) frames = AreContent call received.size received.props received.body frames × (length received.body < received.size)

-- The frames of a channel behind its last command, and what they are of the next one: none, or a part of it.
abbrev pub AreOpen : ℕ → List Frame → Option Open → Type 0
AreOpen channel frames None = frames ≡ []
AreOpen channel frames (Some part) = AreOn channel frames × Begins part.method part.content frames

-- no command begins so
abbrev pub NoCommand : List Frame → Type 0
NoCommand frames = (more : List Frame) (command : Whole) → IsCommand (frames ++ more) command → ⊥
