-- What frames that are a command, or a part of one, have in common with others.
use Rattle.std.proofs.Common.{◌≡◌, ℕ, zero, suc, ◌+◌, ◌-◌, ◌<◌, ◌≤◌, Bool, true, false, List, [], ◌∷◌, ◌++◌, length, Option, Some, None, Result, Ok, Err, refl, sym, ap, subst, ◌∙◌, append_assoc, arith, length-append}
use Rattle.std.proofs.lemmas.List.Concat.{flat_map-append}
use Rattle.amqp_frames.specs.declared.frame.Frame.{Frame}
use Rattle.amqp_props.specs.declared.properties.Properties.{Properties}
use Rattle.amqp_props.specs.ContentHeader.{IsHeader, values_of, header_spelling}
use Rattle.amqp_props.proofs.Headers.{headers_one}
use Rattle.amqp_methods.specs.Methods.{Call}
use Rattle.amqp_content.specs.declared.fault.ContentFault.{ContentFault}
use Rattle.amqp_content.specs.Steps.{Received, Open, Whole, has_content, begun, opened_at, with_next, with_frame, taken}
use Rattle.amqp_content.specs.Commands.{IsMethodFrame, IsHeaderFrame, AreBodyFrames, IsMethodAlone, AreContent, AreOn, Spelled, IsCommand, Begins, AreOpen, NoCommand, payloads}
use Rattle.amqp_content.proofs.FrameLemmas.{ok_is, opened_again, header_again, body_again}
use Rattle.amqp_content.proofs.CommandLemmas.{each_append, each_at, cons_head, cons_tail, no_bodies, one_more_body}

-- ---- the frames of a command, one by one

-- frames that are content have these frames first
pub record Heads (first header : Frame) (bodies : List Frame) (call : Call) (size : ℕ) (props : Properties) (body : List ℕ) : Type 0 where
  pub carries : has_content call ≡ true
  pub method : IsMethodFrame call first
  pub header_is : IsHeaderFrame size props header
  pub bodies_are : AreBodyFrames size body bodies

heads_of : (first header : Frame) (bodies : List Frame) (call : Call) (size : ℕ) (props : Properties) (body : List ℕ) → AreContent call size props body (first ∷ header ∷ bodies) → Heads first header bodies call size props body
heads_of first header bodies call size props body s =
    let rest : header ∷ bodies ≡ s.header ∷ s.bodies = cons_tail first s.first (header ∷ bodies) (s.header ∷ s.bodies) s.are in
    record {
      carries = s.carries;
      method = subst (IsMethodFrame call) (sym (cons_head first s.first (header ∷ bodies) (s.header ∷ s.bodies) s.are)) s.method;
      header_is = subst (IsHeaderFrame size props) (sym (cons_head header s.header bodies s.bodies rest)) s.header_is;
      bodies_are = subst (AreBodyFrames size body) (sym (cons_tail header s.header bodies s.bodies rest)) s.bodies_are;
    }

-- the first frame of a command is its method frame
first_of : (frame : Frame) (more : List Frame) (call : Call) (content : Option (Properties × List ℕ)) → Spelled call content (frame ∷ more) → IsMethodFrame call frame
first_of frame more call None s = subst (IsMethodFrame call) (sym (cons_head frame s.1.first more [] s.1.are)) s.1.method
first_of frame more call (Some content) s = subst (IsMethodFrame call) (sym (cons_head frame s.first more (s.header ∷ s.bodies) s.are)) s.method

-- a command of two frames at least is one with content
no_more : (frame : Frame) (more : List Frame) → frame ∷ more ≡ [] → ⊥
no_more frame more e = absurd cc

content_of : (first header : Frame) (bodies : List Frame) (call : Call) (content : Option (Properties × List ℕ)) → Spelled call content (first ∷ header ∷ bodies)
    → (x : Properties × List ℕ) × (content ≡ Some x) × Heads first header bodies call (length x.1) x.0 x.1
content_of first header bodies call None s = absurd (no_more header bodies (cons_tail first s.1.first (header ∷ bodies) [] s.1.are))
content_of first header bodies call (Some x) s = (x, refl, heads_of first header bodies call (length x.1) x.0 x.1 s)

-- ---- a frame that is refused begins no command

no_ok : {A : Type 0} (r : Result A ContentFault) (x : A) (fault : ContentFault) → r ≡ Ok x → r ≡ Err fault → ⊥
no_ok r x fault e f = absurd cc

headers_agree : (frame : Frame) (m n : ℕ) (p q : Properties) → IsHeaderFrame m p frame → IsHeaderFrame n q frame → (m ≡ n) × (p ≡ q)
headers_agree frame m n p q one two = headers_one m n p q one.is_header two.is_header (sym one.spelled ∙ two.spelled)

refused_first : (frame : Frame) (fault : ContentFault) (more : List Frame) (command : Whole) → opened_at frame ≡ Err fault → IsCommand (frame ∷ more) command → ⊥
refused_first frame fault more command e is =
    no_ok (opened_at frame) (begun command.method) fault (opened_again frame command.method (first_of frame more command.method command.content is.spelled)) e

refused_header : (call : Call) (first frame : Frame) (fault : ContentFault) (more : List Frame) (command : Whole) → with_next call None frame ≡ Err fault → IsCommand (first ∷ frame ∷ more) command → ⊥
refused_header call first frame fault more command e is =
    let t = content_of first frame more command.method command.content is.spelled in
    no_ok (with_next call None frame) _ fault (header_again call frame (length t.0.1) t.0.0 t.2.header_is) e

bodies_fit : (size : ℕ) (bodies : List Frame) (frame : Frame) (more : List Frame) (body : List ℕ) → body ≡ payloads (bodies ++ frame ∷ more) → size ≡ length body → length (payloads bodies) + length frame.payload ≤ size
bodies_fit size bodies frame more body octets is =
    let parts : body ≡ payloads bodies ++ (frame.payload ++ payloads more) = octets ∙ flat_map-append (λ (f : Frame). f.payload) bodies (frame ∷ more) in
    omega (arith, is, ap (λ (xs : List ℕ). length xs) parts, length-append (payloads bodies) (frame.payload ++ payloads more), length-append frame.payload (payloads more))

refused_body : (call : Call) (received : Received) (first header : Frame) (bodies : List Frame) (frame : Frame) (fault : ContentFault) (more : List Frame) (command : Whole)
    → Heads first header bodies call received.size received.props received.body → with_next call (Some received) frame ≡ Err fault → IsCommand (first ∷ header ∷ (bodies ++ frame ∷ more)) command → ⊥
refused_body call received first header bodies frame fault more command heads e is =
    let t = content_of first header (bodies ++ frame ∷ more) command.method command.content is.spelled in
    let size = headers_agree header received.size (length t.0.1) received.props t.0.0 heads.header_is t.2.header_is in
    let kind : frame.kind ≡ 3 = each_at (λ (f : Frame). f.kind ≡ 3) bodies frame more t.2.bodies_are.kinds in
    let fits : length (payloads bodies) + length frame.payload ≤ received.size = bodies_fit received.size bodies frame more t.0.1 t.2.bodies_are.octets size.0 in
    let within : length received.body + length frame.payload ≤ received.size = omega (arith, fits, ap (λ (xs : List ℕ). length xs) heads.bodies_are.octets) in
    no_ok (with_next call (Some received) frame) _ fault (body_again call received frame kind within) e

refused_next : (call : Call) (content : Option Received) (frames : List Frame) (frame : Frame) (fault : ContentFault) (more : List Frame) (command : Whole) → Begins call content frames → with_next call content frame ≡ Err fault
    → IsCommand (frames ++ frame ∷ more) command → ⊥
refused_next call None frames frame fault more command begins e is =
    refused_header call begins.1.first frame fault more command e (subst (λ (xs : List Frame). IsCommand (xs ++ frame ∷ more) command) begins.1.are is)
refused_next call (Some received) frames frame fault more command begins e is =
    let s = begins.0 in
    refused_body call received s.first s.header s.bodies frame fault more command (record { carries = s.carries; method = s.method; header_is = s.header_is; bodies_are = s.bodies_are }) e
    (subst (λ (xs : List Frame). IsCommand (xs ++ frame ∷ more) command) s.are is)

refused_at : (channel : ℕ) (old : Option Open) (frames : List Frame) (frame : Frame) (fault : ContentFault) (more : List Frame) (command : Whole) → AreOpen channel frames old → taken old frame ≡ Err fault
    → IsCommand (frames ++ frame ∷ more) command → ⊥
unfolding with_frame
refused_at channel None frames frame fault more command part e is = refused_first frame fault more command e (subst (λ (xs : List Frame). IsCommand (xs ++ frame ∷ more) command) part is)
refused_at channel (Some old) frames frame fault more command part e is = refused_next old.method old.content frames frame fault more command part.1 e is

pub frame_refused : (channel : ℕ) (old : Option Open) (frames : List Frame) (frame : Frame) (fault : ContentFault) → AreOpen channel frames old → taken old frame ≡ Err fault → NoCommand (frames ++ frame ∷ [])
frame_refused channel old frames frame fault part e more command is =
    refused_at channel old frames frame fault more command part e (subst (λ (xs : List Frame). IsCommand xs command) (append_assoc frames (frame ∷ []) more) is)

-- ---- frames are one command at most

abbrev done : Call → Result Open ContentFault
done call = Ok (begun call)

method_is : (c d : Call) → done c ≡ done d → c ≡ d
method_is c d e = ap (λ (part : Open). part.method) (ok_is (begun c) (begun d) e)

methods_agree : (frame : Frame) (c d : Call) → IsMethodFrame c frame → IsMethodFrame d frame → c ≡ d
methods_agree frame c d one two = method_is c d (sym (opened_again frame c one) ∙ opened_again frame d two)

abbrev some : Properties → List ℕ → Option (Properties × List ℕ)
some props body = Some (props, body)

contents_agree : (first header : Frame) (bodies : List Frame) (c d : Call) (m n : ℕ) (p q : Properties) (xs ys : List ℕ) → Heads first header bodies c m p xs → Heads first header bodies d n q ys → (m ≡ n) × (p ≡ q) × (xs ≡ ys)
contents_agree first header bodies c d m n p q xs ys one two =
    let both = headers_agree header m n p q one.header_is two.header_is in
    (both.0, both.1, one.bodies_are.octets ∙ sym two.bodies_are.octets)

heads_in : (frames : List Frame) (c : Call) (m : ℕ) (p : Properties) (xs : List ℕ) (s : AreContent c m p xs frames) → Heads s.first s.header s.bodies c m p xs
heads_in frames c m p xs s = record { carries = s.carries; method = s.method; header_is = s.header_is; bodies_are = s.bodies_are }

none_not : (x : Properties × List ℕ) → None ≡ Some x → ⊥
none_not x e = absurd cc

spelled_agree : (frames : List Frame) (c d : Call) (p q : Option (Properties × List ℕ)) → Spelled c p frames → Spelled d q frames → (c ≡ d) × (p ≡ q)
spelled_agree frames c d None None one two =
    (methods_agree one.1.first c d one.1.method (first_of one.1.first [] d None (subst (λ (xs : List Frame). Spelled d None xs) one.1.are two)), refl)
spelled_agree frames c d None (Some y) one two =
    let t = content_of two.first two.header two.bodies c None (subst (λ (xs : List Frame). Spelled c None xs) two.are one) in
    absurd (none_not t.0 t.1)
spelled_agree frames c d (Some x) None one two =
    let t = content_of one.first one.header one.bodies d None (subst (λ (xs : List Frame). Spelled d None xs) one.are two) in
    absurd (none_not t.0 t.1)
spelled_agree frames c d (Some x) (Some y) one two =
    let t = heads_of one.first one.header one.bodies d (length y.1) y.0 y.1 (subst (AreContent d (length y.1) y.0 y.1) one.are two) in
    let both = contents_agree one.first one.header one.bodies c d (length x.1) (length y.1) x.0 y.0 x.1 y.1 (heads_in frames c (length x.1) x.0 x.1 one) t in
    (methods_agree one.first c d one.method t.method, λ i. some (both.1 i) (both.2 i))

-- a command has a first frame
has_first : (frames : List Frame) (call : Call) (content : Option (Properties × List ℕ)) → Spelled call content frames → (frame : Frame) × (more : List Frame) × (frames ≡ frame ∷ more)
has_first frames call None s = (s.1.first, [], s.1.are)
has_first frames call (Some content) s = (s.first, s.header ∷ s.bodies, s.are)

pub one_command : (frames : List Frame) (v w : Whole) → IsCommand frames v → IsCommand frames w → v ≡ w
one_command frames v w one two =
    let both = spelled_agree frames v.method w.method v.content w.content one.spelled two.spelled in
    let front = has_first frames v.method v.content one.spelled in
    let on_one : AreOn v.channel (front.0 ∷ front.1) = subst (AreOn v.channel) front.2 one.channel in
    let on_two : AreOn w.channel (front.0 ∷ front.1) = subst (AreOn w.channel) front.2 two.channel in
    let channel : v.channel ≡ w.channel = sym on_one.0 ∙ on_two.0 in
    λ i. record { channel = channel i; method = both.0 i; content = both.1 i }

-- ---- a part of a command

differ : (a b : Bool) → a ≡ true → b ≡ false → a ≡ b → ⊥
differ a b e f g = absurd cc

cons_not_nil : (frame : Frame) (more : List Frame) → [] ≡ frame ∷ more → ⊥
cons_not_nil frame more e = absurd cc

alone_not : (f g h : Frame) (bodies : List Frame) → f ∷ [] ≡ g ∷ h ∷ bodies → ⊥
alone_not f g h bodies e = cons_not_nil h bodies (cons_tail f g [] (h ∷ bodies) e)

part_is_none : (call : Call) (content : Option Received) (frames : List Frame) (d : Call) (q : Option (Properties × List ℕ)) → Begins call content frames → Spelled d q frames → ⊥
part_is_none call None frames d None begins two =
    let same : call ≡ d = methods_agree begins.1.first call d begins.1.method (first_of begins.1.first [] d None (subst (λ (xs : List Frame). Spelled d None xs) begins.1.are two)) in
    differ (has_content call) (has_content d) begins.0 two.0 (ap has_content same)
part_is_none call None frames d (Some y) begins two = alone_not begins.1.first two.first two.header two.bodies (sym begins.1.are ∙ two.are)
part_is_none call (Some received) frames d None begins two =
    let t = content_of begins.0.first begins.0.header begins.0.bodies d None (subst (λ (xs : List Frame). Spelled d None xs) begins.0.are two) in
    absurd (none_not t.0 t.1)
part_is_none call (Some received) frames d (Some y) begins two =
    let one = begins.0 in
    let t = heads_of one.first one.header one.bodies d (length y.1) y.0 y.1 (subst (AreContent d (length y.1) y.0 y.1) one.are two) in
    let both = contents_agree one.first one.header one.bodies call d received.size (length y.1) received.props y.0 received.body y.1 (heads_in frames call received.size received.props received.body one) t in
    absurd (omega (arith, begins.1, both.0, ap (λ (xs : List ℕ). length xs) both.2))

pub part_is_no_command : (channel : ℕ) (frames : List Frame) (part : Open) (command : Whole) → AreOpen channel frames (Some part) → IsCommand frames command → ⊥
part_is_no_command channel frames part command begins is = part_is_none part.method part.content frames command.method command.content begins.1 is.spelled

-- ---- each part begins a command

no_props : Properties
no_props = record {
  content_type = None;
  content_encoding = None;
  headers = None;
  delivery_mode = None;
  priority = None;
  correlation_id = None;
  reply_to = None;
  expiration = None;
  message_id = None;
  timestamp = None;
  type_name = None;
  user_id = None;
  app_id = None;
  reserved = None;
}

empty_header : IsHeader 0 no_props
unfolding no_props values_of
empty_header = record { size_fits = omega arith; values_fit = (tt, (tt, (tt, (tt, (tt, (tt, (tt, (tt, (tt, (tt, (tt, (tt, (tt, (tt, tt)))))))))))))) }

octets_of : ℕ → List ℕ
octets_of zero = []
octets_of (suc n) = 0 ∷ octets_of n

length-octets_of : (n : ℕ) → length (octets_of n) ≡ n
unfolding octets_of
length-octets_of zero = refl
length-octets_of (suc n) = ap suc (length-octets_of n)

-- some more frames make a command of these
abbrev Continues : ℕ → List Frame → Type 0
Continues channel frames = (more : List Frame) × (command : Whole) × IsCommand (frames ++ more) command

header_frame : ℕ → Frame
header_frame channel = record { kind = 2; channel = channel; payload = header_spelling 0 no_props }

continues_alone : (channel : ℕ) (call : Call) (frames : List Frame) → AreOn channel frames → has_content call ≡ true → IsMethodAlone call frames → Continues channel frames
unfolding header_frame
continues_alone channel call frames on carries alone =
    let frame = header_frame channel in
    let content : AreContent call 0 no_props [] (frames ++ frame ∷ []) = record {
      first = alone.first;
      header = frame;
      bodies = [];
      are = ap (λ (xs : List Frame). xs ++ frame ∷ []) alone.are;
      carries = carries;
      method = alone.method;
      header_is = record { kind = refl; is_header = empty_header; within = omega arith; spelled = refl };
      bodies_are = no_bodies 0;
    } in (
      frame ∷ [],
      record { channel = channel; method = call; content = Some (no_props, []) },
      record { channel = each_append (λ (f : Frame). f.channel ≡ channel) frames (frame ∷ []) on (refl, tt); spelled = content },
    )

body_frame : ℕ → ℕ → Frame
body_frame channel n = record { kind = 3; channel = channel; payload = octets_of n }

continues_content : (channel : ℕ) (call : Call) (received : Received) (frames : List Frame) → AreOn channel frames → AreContent call received.size received.props received.body frames → length received.body < received.size
    → Continues channel frames
unfolding body_frame
continues_content channel call received frames on s missing =
    let n = received.size - length received.body in
    let frame = body_frame channel n in
    let body = received.body ++ octets_of n in
    let len : received.size ≡ length body = omega (arith, length-append received.body (octets_of n), length-octets_of n, missing) in
    let content : AreContent call received.size received.props body (frames ++ frame ∷ []) = record {
      first = s.first;
      header = s.header;
      bodies = s.bodies ++ frame ∷ [];
      are = ap (λ (xs : List Frame). xs ++ frame ∷ []) s.are;
      carries = s.carries;
      method = s.method;
      header_is = s.header_is;
      bodies_are = one_more_body received.size received.body s.bodies frame s.bodies_are missing refl;
    } in (
      frame ∷ [],
      record { channel = channel; method = call; content = Some (received.props, body) },
      record {
        channel = each_append (λ (f : Frame). f.channel ≡ channel) frames (frame ∷ []) on (refl, tt);
        spelled = subst (λ (size : ℕ). AreContent call size received.props body (frames ++ frame ∷ [])) len content;
      },
    )

continues_by : (channel : ℕ) (call : Call) (content : Option Received) (frames : List Frame) → AreOn channel frames → Begins call content frames → Continues channel frames
continues_by channel call None frames on begins = continues_alone channel call frames on begins.0 begins.1
continues_by channel call (Some received) frames on begins = continues_content channel call received frames on begins.0 begins.1

pub part_begins : (channel : ℕ) (frames : List Frame) (part : Open) → AreOpen channel frames (Some part) → Continues channel frames
part_begins channel frames part begins = continues_by channel part.method part.content frames begins.0 begins.1
