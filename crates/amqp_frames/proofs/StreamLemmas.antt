-- A stream goes on: what a splitter has read, with the next piece.
use Rattle.std.proofs.Common.{◌≡◌, ◌≢◌, ℕ, ◌+◌, ◌<◌, ◌≤◌, Bool, true, List, [], ◌∷◌, ◌++◌, length, take, drop, min, Option, Some, None, Result, Ok, Err, refl, sym, ap, subst, ◌∙◌, append_assoc, arith, inl, inr}
use Rattle.std.proofs.lemmas.List.{take-append-drop, take-append-le, take-take, take_all, drop-take, length-take, length-append, append-nil, drop_at, drop_all, take_at, length-take-le}
use Rattle.std.proofs.lemmas.Bool.{cases_lt}
use Rattle.std.specs.Prelude.{MatchOption}
use Rattle.std.specs.List.{flat_map}
use Rattle.amqp_frames.specs.declared.frame.Frame.{Frame}
use Rattle.amqp_frames.specs.declared.fault.FrameFault.{FrameFault}
use Rattle.amqp_frames.specs.declared.fault.FrameFault.TheVariants.{BadHeader, BadKind, TooLarge, BadEnd, Failed, Memory}
use Rattle.amqp_frames.specs.declared.stage.Stage.{Stage}
use Rattle.amqp_frames.specs.declared.stage.Stage.TheVariants as stage
use Rattle.amqp_frames.specs.Frames.{frame_spelling, unended}
use Rattle.amqp_frames.specs.Streams
use Rattle.amqp_frames.specs.Streams.{protocol_header, header_count, octets_of, offset_behind, IsStream, AgreesWithHeader, Announces, EndsIn, IsFault, HasFault, offset_of, Progress, ReadAt, HasRead, ReadsOn, Faults, Fed}
use Rattle.amqp_frames.specs.Cuts.{IsEnd, Advances}
use Rattle.amqp_frames.proofs.CutLemmas.{each_append, take_add}

pub flat_map_both : (frames more : List Frame) → flat_map frame_spelling (frames ++ more) ≡ flat_map frame_spelling frames ++ flat_map frame_spelling more
flat_map_both [] more = refl
flat_map_both (f ∷ frames) more = ap (λ (t : List ℕ). frame_spelling f ++ t) (flat_map_both frames more) ∙ sym (append_assoc (frame_spelling f) (flat_map frame_spelling frames) (flat_map frame_spelling more))

octets_both : (asked : Bool) (frames more : List Frame) → octets_of asked (frames ++ more) ≡ octets_of asked frames ++ flat_map frame_spelling more
octets_both asked frames more =
    ap (λ (t : List ℕ). Streams.opening asked ++ t) (flat_map_both frames more)
    ∙ sym (append_assoc (Streams.opening asked) (flat_map frame_spelling frames) (flat_map frame_spelling more))

offset_on : (a b all at behind : ℕ) → at ≡ min a 18446744073709551615 → behind ≡ min (at + b) 18446744073709551615 → all ≡ a + b → behind ≡ min all 18446744073709551615
offset_on a b all at behind h k l = omega arith

-- a stream with the frames that the rest and the piece begin with
pub stream_on : (asked : Bool) (read : List Frame) (held text piece : List ℕ) (found : List Frame) (rest : List ℕ) (at behind : ℕ) (fault : Option FrameFault)
    → IsStream asked read held text → at ≡ offset_behind (octets_of asked read) → Advances at (held ++ piece) found rest behind fault
    → IsStream asked (read ++ found) rest (text ++ piece) × (behind ≡ offset_behind (octets_of asked (read ++ found)))
stream_on asked read held text piece found rest at behind fault s at-is a =
    let both = octets_both asked read found in
    let all : text ++ piece ≡ octets_of asked (read ++ found) ++ rest =
    ap (λ (t : List ℕ). t ++ piece) s.whole
    ∙ append_assoc (octets_of asked read) held piece
    ∙ ap (λ (t : List ℕ). octets_of asked read ++ t) a.spelled
    ∙ sym (append_assoc (octets_of asked read) (flat_map frame_spelling found) rest)
    ∙ ap (λ (t : List ℕ). t ++ rest) (sym both) in
    let width : length (octets_of asked (read ++ found)) ≡ length (octets_of asked read) + length (flat_map frame_spelling found) =
    ap (λ (t : List ℕ). length t) both ∙ length-append (octets_of asked read) (flat_map frame_spelling found) in
    (record { whole = all; each = each_append read found s.each a.each }, offset_on (length (octets_of asked read)) _ _ at behind at-is a.offset width)

-- the fault names the place where it stands
pub offset_is : (place : ℕ) (rest : List ℕ) (fault : FrameFault) → IsFault place rest fault → offset_of fault ≡ place
offset_is place rest (BadHeader at) h = absurd h
offset_is place rest (BadKind at octet) h = h.0
offset_is place rest (TooLarge at size) h = h.0
offset_is place rest (BadEnd at octet) h = h.0
offset_is place rest (Failed at) h = absurd h
offset_is place rest Memory h = absurd h

-- a fault of what stands in a frame's place is one of the stream
pub fault_there : (asked : Bool) (text : List ℕ) (frames : List Frame) (rest : List ℕ) (fault : FrameFault) → IsStream asked frames rest text
    → IsFault (offset_behind (octets_of asked frames)) rest fault → HasFault asked text frames fault
fault_there asked text frames rest (BadHeader at) s h = absurd h
fault_there asked text frames rest (BadKind at octet) s h = (rest, s, h)
fault_there asked text frames rest (TooLarge at size) s h = (rest, s, h)
fault_there asked text frames rest (BadEnd at octet) s h = (rest, s, h)
fault_there asked text frames rest (Failed at) s h = absurd h
fault_there asked text frames rest Memory s h = absurd h

stream_longer : (asked : Bool) (frames : List Frame) (rest text piece : List ℕ) → IsStream asked frames rest text → IsStream asked frames (rest ++ piece) (text ++ piece)
stream_longer asked frames rest text piece s = record {
  whole = ap (λ (t : List ℕ). t ++ piece) s.whole ∙ append_assoc (octets_of asked frames) rest piece;
  each = s.each;
}

-- the header still agrees without the last piece
agrees_less : (text piece : List ℕ) → AgreesWithHeader (text ++ piece) → AgreesWithHeader text
agrees_less text piece h =
    let cut : take (length text) (take 8 (text ++ piece)) ≡ take (length text) (take (length (text ++ piece)) protocol_header) =
    ap (λ (t : List ℕ). take (length text) t) h in
    let all : take (length text) (take (length (text ++ piece)) protocol_header) ≡ take (length text) protocol_header =
    take-take (length text) (length (text ++ piece)) protocol_header (omega (arith, length-append text piece)) in
    let front : take 8 text ≡ take (length text) (take 8 (text ++ piece)) =
    elim (cases_lt 8 (length text)) [
      | inl long ↦ sym (take_all (length text) (take 8 (text ++ piece)) (omega (arith, length-take 8 (text ++ piece))) ∙ take-append-le 8 text piece (omega arith))
      | inr short ↦ take_all 8 text short ∙ sym (take-take (length text) 8 (text ++ piece) short ∙ take_at text piece (length text) refl)
    ] in
    front ∙ cut ∙ all

announces_longer : (size : ℕ) (rest piece : List ℕ) → Announces size rest → Announces size (rest ++ piece)
announces_longer size rest piece a = record {
  kind = a.kind;
  channel = a.channel;
  more = a.more ++ piece;
  is_kind = a.is_kind;
  fits = a.fits;
  spelled = ap (λ (t : List ℕ). t ++ piece) a.spelled;
}

ends_longer : (octet : ℕ) (rest piece : List ℕ) → EndsIn octet rest → EndsIn octet (rest ++ piece)
ends_longer octet rest piece a = record {
  frame = a.frame;
  is_frame = a.is_frame;
  more = a.more ++ piece;
  spelled = ap (λ (t : List ℕ). t ++ piece) a.spelled ∙ append_assoc (unended a.frame) (octet ∷ a.more) piece;
}

-- a fault stays, whatever follows
pub fault_stays : (asked : Bool) (text piece : List ℕ) (frames : List Frame) (fault : FrameFault) → HasFault asked text frames fault
    → HasFault asked (text ++ piece) frames fault
fault_stays asked text piece frames (BadHeader at) h = (h.0, h.1, h.2, λ agrees. h.3 (agrees_less text piece agrees))
fault_stays asked text piece frames (BadKind at octet) h =
    let f = h.2 in (
      h.0 ++ piece,
      stream_longer asked frames h.0 text piece h.1,
      (f.0, f.1, f.2 ++ piece, ap (λ (t : List ℕ). t ++ piece) f.3),
    )
fault_stays asked text piece frames (TooLarge at size) h =
    let f = h.2 in
    (h.0 ++ piece, stream_longer asked frames h.0 text piece h.1, (f.0, f.1, announces_longer size h.0 piece f.2))
fault_stays asked text piece frames (BadEnd at octet) h =
    let f = h.2 in
    (h.0 ++ piece, stream_longer asked frames h.0 text piece h.1, (f.0, f.1, ends_longer octet h.0 piece f.2))
fault_stays asked text piece frames (Failed at) h = absurd h.2
fault_stays asked text piece frames Memory h = absurd h.2

-- ---- the answer of `feed`

fed_fault : (old new : Progress) (piece : List ℕ) (found : List Frame) (place : ℕ) (rest : List ℕ) (fault : FrameFault) → IsFault place rest fault
    → Faults old piece found fault → (old.stage ≢ stage.Failed) → new ≡ record { stage = stage.Failed; at = offset_of fault; held = [] }
    → Fed old new piece found (Err fault)
fed_fault old new piece found place rest (BadHeader at) h faults live now = absurd h
fed_fault old new piece found place rest (BadKind at octet) h faults live now = (faults, live, now)
fed_fault old new piece found place rest (TooLarge at size) h faults live now = (faults, live, now)
fed_fault old new piece found place rest (BadEnd at octet) h faults live now = (faults, live, now)
fed_fault old new piece found place rest (Failed at) h faults live now = absurd h
fed_fault old new piece found place rest Memory h faults live now = absurd h

-- whatever came before, the stream has these further frames and this rest, at this offset
abbrev pub Reaches : Progress → List ℕ → List Frame → List ℕ → ℕ → Type 0
Reaches old piece found rest behind = (asked : Bool) (text : List ℕ) (read : List Frame) → HasRead asked text read old
    → IsStream asked (read ++ found) rest (text ++ piece) × (behind ≡ offset_behind (octets_of asked (read ++ found)))

-- a splitter that has cut frames off answers by what stands behind them
pub settled : (old new : Progress) (piece : List ℕ) (found : List Frame) (rest : List ℕ) (behind : ℕ) (fault : Option FrameFault)
    (result : Result (Unit {0}) FrameFault) → (old.stage ≢ stage.Failed) → Reaches old piece found rest behind → IsEnd behind rest fault
    → MatchOption fault ((result ≡ Ok tt) × (new ≡ record { stage = stage.Frames; at = behind; held = rest }))
    (λ f. (result ≡ Err f) × (new ≡ record { stage = stage.Failed; at = behind; held = [] }))
    → Fed old new piece found result
settled old new piece found rest behind None result live reaches end now =
    let P : Result (Unit {0}) FrameFault → Type 0 = λ r. Fed old new piece found r in
    let Q : Progress → Type 0 = λ n. Fed old n piece found (Ok tt) in
    subst P (sym now.0) (subst Q (sym now.1) ((λ asked text read h. let r = reaches asked text read h in (r.0, end, r.1)), live, λ e. absurd cc))
settled old new piece found rest behind (Some fault) result live reaches end now =
    let P : Result (Unit {0}) FrameFault → Type 0 = λ r. Fed old new piece found r in
    let at-is = offset_is behind rest fault end in
    let made : ℕ → Progress = λ n. record { stage = stage.Failed; at = n; held = [] } in
    subst P (sym now.0) (fed_fault old new piece found behind rest fault end
    (λ asked text read h. let r = reaches asked text read h in
    fault_there asked (text ++ piece) (read ++ found) rest fault r.0 (subst (λ (place : ℕ). IsFault place rest fault) r.1 end))
    live (now.1 ∙ ap made (sym at-is)))

-- frames follow frames
pub frames_on : (old : Progress) (piece : List ℕ) (found : List Frame) (rest : List ℕ) (behind : ℕ) (fault : Option FrameFault) → old.stage ≡ stage.Frames
    → Advances old.at (old.held ++ piece) found rest behind fault → Reaches old piece found rest behind
frames_on old piece found rest behind fault is a asked text read h =
    let P : Stage → Type 0 = λ s. ReadAt s old.at old.held asked text read in
    let now = subst P is h in
    stream_on asked read old.held text piece found rest old.at behind fault now.0 now.2 a

pub advances_same : (at at' : ℕ) (octets octets' : List ℕ) (found : List Frame) (rest : List ℕ) (behind : ℕ) (fault : Option FrameFault)
    → Advances at octets found rest behind fault → at ≡ at' → octets ≡ octets' → Advances at' octets' found rest behind fault
advances_same at at' octets octets' found rest behind fault a p q =
    let A : ℕ → Type 0 = λ n. Advances n octets found rest behind fault in
    let B : List ℕ → Type 0 = λ t. Advances at' t found rest behind fault in
    subst B q (subst A p a)

pub live_frames : (s : Stage) → s ≡ stage.Frames → (s ≢ stage.Failed)
live_frames s e f = absurd cc

pub live_header : (s : Stage) (came : ℕ) → s ≡ stage.Header came → (s ≢ stage.Failed)
live_header s came e f = absurd cc

-- ---- in the protocol header

in_header : (old : Progress) (came : ℕ) (asked : Bool) (text : List ℕ) (read : List Frame) → old.stage ≡ stage.Header came → HasRead asked text read old
    → ReadAt (stage.Header came) old.at old.held asked text read
in_header old came asked text read is h =
    let P : Stage → Type 0 = λ s. ReadAt s old.at old.held asked text read in
    subst P is h

-- the octets of the header that came, and those of the piece
joined : (came count : ℕ) (text piece : List ℕ) → text ≡ take came protocol_header → take count piece ≡ take count (drop came protocol_header)
    → text ++ piece ≡ take (came + count) protocol_header ++ drop count piece
joined came count text piece t p =
    ap (λ (x : List ℕ). x ++ piece) t
    ∙ ap (λ (x : List ℕ). take came protocol_header ++ x) (sym (take-append-drop count piece))
    ∙ sym (append_assoc (take came protocol_header) (take count piece) (drop count piece))
    ∙ ap (λ (x : List ℕ). (take came protocol_header ++ x) ++ drop count piece) p
    ∙ ap (λ (x : List ℕ). x ++ drop count piece) (sym (take_add came count protocol_header))

agrees_behind : (came : ℕ) (text piece : List ℕ) → came < 8 → text ≡ take came protocol_header → AgreesWithHeader (text ++ piece)
    → take (header_count came piece) piece ≡ take (header_count came piece) (drop came protocol_header)
agrees_behind came text piece began text-is agrees =
    let n = header_count came piece in
    let width : length text ≡ came = ap (λ (t : List ℕ). length t) text-is ∙ length-take-le came protocol_header (omega arith) in
    let long : length (text ++ piece) ≡ came + length piece = omega (arith, length-append text piece) in
    let left : take (came + n) (take 8 (text ++ piece)) ≡ take (came + n) (text ++ piece) = take-take (came + n) 8 (text ++ piece) (omega arith) in
    let right : take (came + n) (take (length (text ++ piece)) protocol_header) ≡ take (came + n) protocol_header =
    take-take (came + n) (length (text ++ piece)) protocol_header (omega arith) in
    let both : take (came + n) (text ++ piece) ≡ take (came + n) protocol_header =
    sym left ∙ ap (λ (t : List ℕ). take (came + n) t) agrees ∙ right in
    let behind : take n (drop came (text ++ piece)) ≡ take n (drop came protocol_header) =
    sym (drop-take came n (text ++ piece)) ∙ ap (λ (t : List ℕ). drop came t) both ∙ drop-take came n protocol_header in
    ap (λ (t : List ℕ). take n t) (sym (drop_at text piece came width)) ∙ behind

-- the header goes on
pub header_more : (old : Progress) (came count at : ℕ) (piece held : List ℕ) → old.stage ≡ stage.Header came → count ≡ header_count came piece
    → take count piece ≡ take count (drop came protocol_header) → came + count < 8 → at ≡ old.at → held ≡ old.held
    → ReadsOn old (record { stage = stage.Header (came + count); at = at; held = held }) piece []
header_more old came count at piece held is counted agrees short at-is held-is asked text read h =
    let now = in_header old came asked text read is h in
    let all : length piece ≡ count = omega arith in
    let none : drop count piece ≡ [] = rw (← all) (drop_all (length piece) piece (omega arith)) in
    let text-is : text ++ piece ≡ take (came + count) protocol_header =
    joined came count text piece now.2 agrees ∙ ap (λ (x : List ℕ). take (came + count) protocol_header ++ x) none
    ∙ append-nil (take (came + count) protocol_header) in
    (now.0, short, text-is, append-nil read ∙ now.3, at-is ∙ now.4, held-is ∙ now.5)

-- the header is whole
pub header_on : (old : Progress) (came count : ℕ) (piece : List ℕ) (found : List Frame) (rest : List ℕ) (behind : ℕ) (fault : Option FrameFault)
    → old.stage ≡ stage.Header came → came < 8 → count ≡ header_count came piece → take count piece ≡ take count (drop came protocol_header)
    → 8 ≤ came + count → Advances 8 (drop count piece) found rest behind fault → Reaches old piece found rest behind
header_on old came count piece found rest behind fault is began counted agrees whole a asked text read h =
    let now = in_header old came asked text read is h in
    let eight : came + count ≡ 8 = omega arith in
    let text-is : text ++ piece ≡ protocol_header ++ drop count piece =
    joined came count text piece now.2 agrees ∙ ap (λ (n : ℕ). take n protocol_header ++ drop count piece) eight in
    let start : IsStream true [] [] protocol_header = record { whole = refl; each = tt } in
    rw (now.0, now.3, text-is) (stream_on true [] [] protocol_header (drop count piece) found rest 8 behind fault start refl a)

-- the header has a wrong octet
pub header_fault : (old : Progress) (came : ℕ) (piece : List ℕ) → old.stage ≡ stage.Header came → came < 8
    → (take (header_count came piece) piece ≡ take (header_count came piece) (drop came protocol_header) → ⊥) → Faults old piece [] (BadHeader 0)
header_fault old came piece is began differs asked text read h =
    let now = in_header old came asked text read is h in
    (now.0, refl, append-nil read ∙ now.3, λ agrees. differs (agrees_behind came text piece began now.2 agrees))
