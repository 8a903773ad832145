-- What each frame adds to the command of its channel: AMQP 0-9-1, sections 2.3.5.1 "Method Frames", 2.3.5.2 "Content
-- Frames", 4.2.6 "Content Framing" and 4.2.7 "Heartbeat Frames".
use Rattle.std.specs.Prelude.{◌≡◌, ℕ, ◌+◌, ◌==◌, Bool, true, false, ◌&&◌, ◌||◌, List, [], ◌++◌, length, Option, Some, None, Result, Ok, Err, option_map, nat_lt, if◌then◌else◌}
use Rattle.amqp_frames.specs.declared.frame.Frame.{Frame}
use Rattle.amqp_props.specs.declared.properties.Properties.{Properties}
use Rattle.amqp_props.specs.declared.fault.PropsFault.{PropsFault}
use Rattle.amqp_methods.specs.declared.fault.MethodFault.{MethodFault}
use Rattle.amqp_methods.specs.Methods.{Call}
use Rattle.amqp_methods.specs.Reading.{call_at}
use Rattle.amqp_content.specs.declared.fault.ContentFault.{ContentFault}
use Rattle.amqp_content.specs.declared.fault.ContentFault.TheVariants.{Unexpected, Size, Memory}
use Rattle.amqp_content.specs.Faults.{of_method, of_header}
use Rattle.amqp_content.specs.Headers.{header_of}

-- A content as far as it came: the announced size of its body, its properties, and the octets of its body.
pub record Received : Type 0 where
  pub size : ℕ
  pub props : Properties
  pub body : List ℕ

-- A command as far as it came: its method, and its content once the content header came.
pub record Open : Type 0 where
  pub method : Call
  pub content : Option Received

-- A whole command: its channel, its method, and for a method with content the properties and the body.
pub record Whole : Type 0 where
  pub channel : ℕ
  pub method : Call
  pub content : Option (Properties × List ℕ)

-- the methods that carry content: basic.publish, basic.return, basic.deliver and basic.get-ok
abbrev pub has_content : Call → Bool
has_content call = call.class == 60 && (call.id == 40 || (call.id == 50 || (call.id == 60 || call.id == 71)))

abbrev pub begun : Call → Open
begun call = record { method = call; content = None }

abbrev pub from_call : Result Call MethodFault → Result Open ContentFault
from_call (Ok call) = Ok (begun call)
from_call (Err fault) = Err (of_method fault)

-- a channel's first frame is a method frame, of type 1
unfoldable pub opened_at : Frame → Result Open ContentFault
opened_at frame = if frame.kind == 1 then from_call (call_at frame.payload) else Err (Unexpected frame.kind)

-- the most octets of a body
abbrev pub body_limit : ℕ
body_limit = 16777216

abbrev pub from_header : Result (ℕ × Properties) PropsFault → Result Received ContentFault
from_header (Ok x) = if nat_lt body_limit x.0 then Err (Size x.0) else Ok (record { size = x.0; props = x.1; body = [] })
from_header (Err fault) = Err (of_header fault)

-- the content that a content header begins; its body's size is within the limit
unfoldable pub received_at : List ℕ → Result Received ContentFault
received_at payload = from_header (header_of payload)

-- the content with the octets of a body frame, which are no more than are missing
unfoldable pub with_octets : Received → List ℕ → Result Received ContentFault
with_octets received octets =
    if nat_lt received.size (length received.body + length octets) then Err (Size (length received.body + length octets))
    else Ok (record received { body = received.body ++ octets })

abbrev pub with_content : Call → Result Received ContentFault → Result Open ContentFault
with_content call (Ok received) = Ok (record { method = call; content = Some received })
with_content call (Err fault) = Err fault

-- behind a method with content comes a content header, of type 2, and behind that body frames, of type 3
abbrev pub with_next : Call → Option Received → Frame → Result Open ContentFault
with_next call None frame = if frame.kind == 2 then with_content call (received_at frame.payload) else Err (Unexpected frame.kind)
with_next call (Some received) frame =
    if frame.kind == 3 then with_content call (with_octets received frame.payload) else Err (Unexpected frame.kind)

unfoldable pub with_frame : Open → Frame → Result Open ContentFault
with_frame part frame = with_next part.method part.content frame

-- no octet of the body is missing
abbrev pub is_full : Option Received → Bool
is_full None = false
is_full (Some received) = length received.body == received.size

-- no frame is missing
unfoldable pub is_whole : Open → Bool
is_whole part = if has_content part.method then is_full part.content else true

-- properties and body
abbrev pub content_of : Option Received → Option (Properties × List ℕ)
content_of received = option_map (λ r. (r.props, r.body)) received

-- the command, with nothing missing
abbrev pub whole : ℕ → Open → Whole
whole channel part = record { channel = channel; method = part.method; content = content_of part.content }

-- the frame as the next one of its channel, of whose command this much came
abbrev pub taken : Option Open → Frame → Result Open ContentFault
taken None frame = opened_at frame
taken (Some part) frame = with_frame part frame

-- a frame that keeps the connection alive and belongs to no command: type 8, channel 0
abbrev pub is_heartbeat : Frame → Bool
is_heartbeat frame = frame.kind == 8 && frame.channel == 0

-- what stays open, and the whole command
abbrev pub settled : ℕ → Result Open ContentFault → Result (Option Open × Option Whole) ContentFault
settled channel (Ok part) = if is_whole part then Ok (None, Some (whole channel part)) else Ok (Some part, None)
settled channel (Err fault) = Err fault

-- What a frame makes of the open command of its channel: what stays open, and the whole command, if it is whole now; or
-- the fault of a frame that can't stand there.
unfoldable pub feed_frame : Option Open → Frame → Result (Option Open × Option Whole) ContentFault
feed_frame old frame = if is_heartbeat frame then Ok (old, None) else settled frame.channel (taken old frame)

-- What was returned, seen by view, is so, unless memory ran out.
abbrev pub Gives : {X Y : Type 0} → (X → Y) → Result X ContentFault → Result Y ContentFault → Type 0
Gives view (Ok x) given = given ≡ Ok (view x)
Gives view (Err Memory) given = Unit {0}
Gives view (Err fault) given = given ≡ Err fault
