-- Streams of frames: AMQP 0-9-1, sections 2.3.5, 4.2.2 ("Protocol Header") and 4.2.3.
use Rattle.std.specs.Prelude.{◌≡◌, ◌≢◌, ℕ, ◌-◌, ◌^◌, ◌<◌, Bool, true, false, List, [], ◌∷◌, ◌++◌, length, take, min, nat_lt, Result, Ok, Err, ◌⊎◌}
use Rattle.std.specs.List.{flat_map, AllByRecursion}
use Rattle.byteorder.specs.Endian.{big_bytes}
use Rattle.amqp_frames.specs.declared.frame.Frame.{Frame}
use Rattle.amqp_frames.specs.declared.fault.FrameFault.{FrameFault}
use Rattle.amqp_frames.specs.declared.fault.FrameFault.TheVariants.{BadHeader, BadKind, TooLarge, BadEnd, Failed, Memory}
use Rattle.amqp_frames.specs.declared.stage.Stage.{Stage}
use Rattle.amqp_frames.specs.declared.stage.Stage.TheVariants as stage
use Rattle.amqp_frames.specs.Frames.{is_kind, IsFrame, unended, frame_spelling, IsUnfinished}

-- "AMQP", 0, 0, 9, 1 (section 4.2.2)
abbrev pub protocol_header : List ℕ
protocol_header = 65 ∷ 77 ∷ 81 ∷ 80 ∷ 0 ∷ 0 ∷ 9 ∷ 1 ∷ []

-- what stands before the first frame: the protocol header where it is asked for (section 4.2.2)
abbrev pub opening : Bool → List ℕ
opening true = protocol_header
opening false = []

-- the octets of the opening and of these frames (section 4.2.1)
abbrev pub octets_of : Bool → List Frame → List ℕ
octets_of asked frames = opening asked ++ flat_map frame_spelling frames

-- the offset in the stream of the octet behind these; 2^64 - 1 stands for each greater one
abbrev pub offset_behind : List ℕ → ℕ
offset_behind octets = min (length octets) 18446744073709551615

-- the stream so far is its opening, these frames and a rest (section 4.2.1)
pub record IsStream (asked : Bool) (frames : List Frame) (rest : List ℕ) (text : List ℕ) : Type 0 where
  pub whole : text ≡ octets_of asked frames ++ rest
  pub each : AllByRecursion IsFrame frames

-- as far as it goes, the text is the protocol header (section 4.2.2)
abbrev pub AgreesWithHeader : List ℕ → Type 0
AgreesWithHeader text = take 8 text ≡ take (length text) protocol_header

-- how many octets of a piece belong to the protocol header, of which so many came before (section 4.2.2)
abbrev pub header_count : ℕ → List ℕ → ℕ
header_count came piece = min (length piece) (8 - came)

-- the type, channel and size of a frame that announces so large a payload, whatever follows (section 4.2.3)
pub record Announces (size : ℕ) (rest : List ℕ) : Type 0 where
  pub kind : ℕ
  pub channel : ℕ
  pub more : List ℕ
  pub is_kind : is_kind kind ≡ true
  pub fits : size < 2 ^ 32
  pub spelled : rest ≡ kind ∷ (big_bytes 2 channel ++ (big_bytes 4 size ++ more))

-- a frame but for the octet behind its payload, which is this one (section 4.2.3)
pub record EndsIn (octet : ℕ) (rest : List ℕ) : Type 0 where
  pub frame : Frame
  pub is_frame : IsFrame frame
  pub more : List ℕ
  pub spelled : rest ≡ unended frame ++ octet ∷ more

-- The first fault in reading order of what stands in a frame's place, at this offset: a wrong type, a size over the
-- limit, a wrong frame-end (section 4.2.3).
abbrev pub IsFault : ℕ → List ℕ → FrameFault → Type 0
IsFault place rest (BadHeader at) = ⊥
IsFault place rest (BadKind at octet) = (at ≡ place) × (is_kind octet ≡ false) × (more : List ℕ) × (rest ≡ octet ∷ more)
IsFault place rest (TooLarge at size) = (at ≡ place) × (131064 < size) × Announces size rest
IsFault place rest (BadEnd at octet) = (at ≡ place) × (octet ≢ 206) × EndsIn octet rest
IsFault place rest (Failed at) = ⊥
IsFault place rest Memory = ⊥

-- what may stand behind the frames of a stream: a first part of a frame, or a fault (section 4.2.3)
abbrev pub Stops : List ℕ → Type 0
Stops rest = IsUnfinished rest ⊎ ((place : ℕ) × (fault : FrameFault) × IsFault place rest fault)

-- The fault of a stream, and the frames before it (sections 4.2.2 and 4.2.3).
abbrev pub HasFault : Bool → List ℕ → List Frame → FrameFault → Type 0
HasFault asked text frames (BadHeader at) = (asked ≡ true) × (at ≡ 0) × (frames ≡ []) × (AgreesWithHeader text → ⊥)
HasFault asked text frames fault =
    (rest : List ℕ) × IsStream asked frames rest text × IsFault (offset_behind (octets_of asked frames)) rest fault

-- the offset that a fault names
abbrev pub offset_of : FrameFault → ℕ
offset_of (BadHeader at) = at
offset_of (BadKind at octet) = at
offset_of (TooLarge at size) = at
offset_of (BadEnd at octet) = at
offset_of (Failed at) = at
offset_of Memory = 0

-- What a splitter knows of its stream: how far it is, the offset of the first octet of the frame that it is in (or of
-- the one that has the fault), and the octets of that frame that came.
pub record Progress : Type 0 where
  pub stage : Stage
  pub at : ℕ
  pub held : List ℕ

-- less than the whole protocol header came
abbrev pub fits_header : Stage → Bool
fits_header (stage.Header came) = nat_lt came 8
fits_header stage.Frames = true
fits_header stage.Failed = true

-- What a splitter in this stage has read, of a stream that came to this text: these frames, as far as they are whole,
-- and the protocol header before them where it was asked for.
abbrev pub ReadAt : Stage → ℕ → List ℕ → Bool → List ℕ → List Frame → Type 0
ReadAt (stage.Header came) at held asked text frames =
    (asked ≡ true) × (came < 8) × (text ≡ take came protocol_header) × (frames ≡ []) × (at ≡ 0) × (held ≡ [])
ReadAt stage.Frames at held asked text frames =
    IsStream asked frames held text × IsUnfinished held × (at ≡ offset_behind (octets_of asked frames))
ReadAt stage.Failed at held asked text frames =
    (fault : FrameFault) × HasFault asked text frames fault × (at ≡ offset_of fault) × (held ≡ [])

-- the splitter has read these frames of the text
abbrev pub HasRead : Bool → List ℕ → List Frame → Progress → Type 0
HasRead asked text frames p = ReadAt p.stage p.at p.held asked text frames

-- whatever stream came before, with this piece it has these further frames
abbrev pub ReadsOn : Progress → Progress → List ℕ → List Frame → Type 0
ReadsOn old new piece found =
    (asked : Bool) (text : List ℕ) (read : List Frame) → HasRead asked text read old → HasRead asked (text ++ piece) (read ++ found) new

-- whatever stream came before, with this piece it has this fault behind these further frames
abbrev pub Faults : Progress → List ℕ → List Frame → FrameFault → Type 0
Faults old piece found fault =
    (asked : Bool) (text : List ℕ) (read : List Frame) → HasRead asked text read old → HasFault asked (text ++ piece) (read ++ found) fault

-- What a call of `feed` answered, where it found these frames.
abbrev pub Fed : Progress → Progress → List ℕ → List Frame → Result (Unit {0}) FrameFault → Type 0
-- the stream goes on
Fed old new piece found (Ok done) = ReadsOn old new piece found × (old.stage ≢ stage.Failed) × (new.stage ≢ stage.Failed)
-- nothing changed
Fed old new piece found (Err Memory) = (new ≡ old) × (found ≡ []) × (old.stage ≢ stage.Failed)
-- the stream had a fault before
Fed old new piece found (Err (Failed at)) =
    (old.stage ≡ stage.Failed) × (at ≡ old.at) × (new ≡ old) × (found ≡ []) × ReadsOn old new piece found
-- the stream has its fault here
Fed old new piece found (Err fault) =
    Faults old piece found fault × (old.stage ≢ stage.Failed) × (new ≡ record { stage = stage.Failed; at = offset_of fault; held = [] })
