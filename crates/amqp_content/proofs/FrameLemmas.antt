-- What a frame is, where it was taken as the next one of its channel.
use Rattle.std.proofs.Common.{◌≡◌, ℕ, ◌+◌, ◌≤◌, Bool, true, false, cond, eqb, ltb, List, [], ◌++◌, length, Some, None, Result, Ok, Err, refl, ap, subst, ◌∙◌}
use Rattle.std.proofs.lemmas.Bool.{eqb-true, ltb-false, le-ltb}
use Rattle.field_tables.proofs.Octets.{IsBytes}
use Rattle.amqp_frames.specs.declared.frame.Frame.{Frame}
use Rattle.amqp_props.specs.declared.properties.Properties.{Properties}
use Rattle.amqp_props.specs.ContentHeader.{values_of}
use Rattle.amqp_props.specs.HeaderReading.{header_at}
use Rattle.amqp_props.specs.declared.fault.PropsFault.{PropsFault}
use Rattle.amqp_methods.specs.declared.fault.MethodFault.{MethodFault}
use Rattle.amqp_methods.specs.Methods.{Call}
use Rattle.amqp_methods.specs.Reading.{call_at}
use Rattle.amqp_methods.proofs.CallLemmas.{call_takes, call_again}
use Rattle.amqp_content.specs.declared.fault.ContentFault.{ContentFault}
use Rattle.amqp_content.specs.declared.fault.ContentFault.TheVariants.{Unexpected, Size}
use Rattle.amqp_content.specs.Headers.{header_of}
use Rattle.amqp_content.specs.Steps.{Received, Open, begun, from_call, opened_at, body_limit, from_header, received_at, with_octets, with_content, with_next}
use Rattle.amqp_content.specs.Commands.{IsMethodFrame, IsHeaderFrame}
use Rattle.amqp_content.proofs.HeaderLemmas.{properties_back, header_takes, header_of_spelling}

abbrev done : {A : Type 0} → A → Result A ContentFault
done x = Ok x

pub ok_is : {A : Type 0} (x y : A) → done x ≡ done y → x ≡ y
ok_is x y e = cc

-- tests that did not fail
right : {A : Type 0} (b : Bool) (fault : ContentFault) (r : Result A ContentFault) (x : A) → cond b r (Err fault) ≡ Ok x → (b ≡ true) × (r ≡ Ok x)
right true fault r x e = (refl, e)
right false fault r x e = absurd cc

wrong : {A : Type 0} (b : Bool) (fault : ContentFault) (r : Result A ContentFault) (x : A) → cond b (Err fault) r ≡ Ok x → (b ≡ false) × (r ≡ Ok x)
wrong true fault r x e = absurd cc
wrong false fault r x e = (refl, e)

-- ---- a method frame

pub record IsOpened (frame : Frame) (part : Open) : Type 0 where
  pub content : part.content ≡ None
  pub method : IsMethodFrame part.method frame

from_call_ok : (read : Result Call MethodFault) (part : Open) → from_call read ≡ Ok part → (call : Call) × (read ≡ Ok call) × (begun call ≡ part)
from_call_ok (Ok call) part e = (call, refl, ok_is (begun call) part e)
from_call_ok (Err fault) part e = absurd cc

pub opened_takes : (frame : Frame) (part : Open) → IsBytes frame.payload → opened_at frame ≡ Ok part → IsOpened frame part
unfolding opened_at
opened_takes frame part are e =
    let test = right (eqb frame.kind 1) (Unexpected frame.kind) (from_call (call_at frame.payload)) part e in
    let read = from_call_ok (call_at frame.payload) part test.1 in
    let t = call_takes frame.payload read.0 are read.1 in
    subst (IsOpened frame) read.2 (record { content = refl; method = record { kind = eqb-true frame.kind 1 test.0; is_call = t.is; spells = t.spells } })

pub opened_again : (frame : Frame) (call : Call) → IsMethodFrame call frame → opened_at frame ≡ Ok (begun call)
unfolding opened_at
opened_again frame call is = rw (is.kind, call_again call frame.payload is.is_call is.spells) refl

-- ---- a content header

pub record IsBegun (frame : Frame) (received : Received) : Type 0 where
  pub header : IsHeaderFrame received.size received.props frame
  pub body : received.body ≡ []

abbrev empty : ℕ → Properties → Received
empty size props = record { size = size; props = props; body = [] }

from_header_ok : (read : Result (ℕ × Properties) PropsFault) (received : Received) → from_header read ≡ Ok received → (x : ℕ × Properties) × (read ≡ Ok x) × (x.0 ≤ body_limit) × (empty x.0 x.1 ≡ received)
from_header_ok (Ok x) received e =
    let test = wrong (ltb body_limit x.0) (Size x.0) (Ok (empty x.0 x.1)) received e in
    (x, refl, ltb-false body_limit x.0 test.0, ok_is (empty x.0 x.1) received test.1)
from_header_ok (Err fault) received e = absurd cc

received_takes : (frame : Frame) (received : Received) → IsBytes frame.payload → frame.kind ≡ 2 → received_at frame.payload ≡ Ok received → IsBegun frame received
unfolding received_at
received_takes frame received are kind e =
    let read = from_header_ok (header_of frame.payload) received e in
    let t = header_takes frame.payload read.0 are read.1 in
    subst (IsBegun frame) read.3 (record { header = record { kind = kind; is_header = t.is_header; within = read.2; spelled = t.spelled }; body = refl })

received_again : (frame : Frame) (size : ℕ) (props : Properties) → IsHeaderFrame size props frame → received_at frame.payload ≡ Ok (empty size props)
unfolding received_at
received_again frame size props is =
    let within : ltb body_limit size ≡ false = le-ltb body_limit size is.within in
    rw (is.spelled, header_of_spelling size props is.is_header, within) refl

-- the content of a header that was read
pub received_read : (payload : List ℕ) (size : ℕ) (props : Properties) (body : List ℕ) → header_at payload ≡ Ok (size, values_of props) → size ≤ body_limit → body ≡ []
    → received_at payload ≡ Ok (record { size = size; props = props; body = body })
unfolding received_at header_of
received_read payload size props body read le none =
    let within : ltb body_limit size ≡ false = le-ltb body_limit size le in
    rw (read, properties_back props, within, none) refl

abbrev holding : Call → Received → Open
holding call received = record { method = call; content = Some received }

with_content_ok : (call : Call) (read : Result Received ContentFault) (part : Open) → with_content call read ≡ Ok part → (received : Received) × (read ≡ Ok received) × (holding call received ≡ part)
with_content_ok call (Ok received) part e = (received, refl, ok_is (holding call received) part e)
with_content_ok call (Err fault) part e = absurd cc

pub header_next : (call : Call) (frame : Frame) (part : Open) → IsBytes frame.payload → with_next call None frame ≡ Ok part → (received : Received) × (holding call received ≡ part) × IsBegun frame received
header_next call frame part are e =
    let test = right (eqb frame.kind 2) (Unexpected frame.kind) (with_content call (received_at frame.payload)) part e in
    let read = with_content_ok call (received_at frame.payload) part test.1 in
    (read.0, read.2, received_takes frame read.0 are (eqb-true frame.kind 2 test.0) read.1)

pub header_again : (call : Call) (frame : Frame) (size : ℕ) (props : Properties) → IsHeaderFrame size props frame → with_next call None frame ≡ Ok (holding call (empty size props))
header_again call frame size props is = rw (is.kind, received_again frame size props is) refl

-- ---- a body frame

abbrev grown : Received → List ℕ → Received
grown received octets = record received { body = received.body ++ octets }

octets_ok : (received : Received) (octets : List ℕ) (x : Received) → with_octets received octets ≡ Ok x → (length received.body + length octets ≤ received.size) × (grown received octets ≡ x)
unfolding with_octets
octets_ok received octets x e =
    let test = wrong (ltb received.size (length received.body + length octets)) (Size (length received.body + length octets)) (Ok (grown received octets)) x e in
    (ltb-false received.size (length received.body + length octets) test.0, ok_is (grown received octets) x test.1)

octets_again : (received : Received) (octets : List ℕ) → length received.body + length octets ≤ received.size → with_octets received octets ≡ Ok (grown received octets)
unfolding with_octets
octets_again received octets le =
    let within : ltb received.size (length received.body + length octets) ≡ false = le-ltb received.size (length received.body + length octets) le in
    rw within refl

pub record IsGrown (call : Call) (received : Received) (frame : Frame) (part : Open) : Type 0 where
  pub kind : frame.kind ≡ 3
  pub within : length received.body + length frame.payload ≤ received.size
  pub is : holding call (grown received frame.payload) ≡ part

pub body_next : (call : Call) (received : Received) (frame : Frame) (part : Open) → with_next call (Some received) frame ≡ Ok part → IsGrown call received frame part
body_next call received frame part e =
    let test = right (eqb frame.kind 3) (Unexpected frame.kind) (with_content call (with_octets received frame.payload)) part e in
    let read = with_content_ok call (with_octets received frame.payload) part test.1 in
    let t = octets_ok received frame.payload read.0 read.1 in
    record { kind = eqb-true frame.kind 3 test.0; within = t.0; is = ap (holding call) t.1 ∙ read.2 }

pub body_again : (call : Call) (received : Received) (frame : Frame) → frame.kind ≡ 3 → length received.body + length frame.payload ≤ received.size → with_next call (Some received) frame ≡ Ok (holding call (grown received frame.payload))
body_again call received frame kind le = rw (kind, octets_again received frame.payload le) refl
