-- Octets are read in one way: what a spelling says is found in it again.
use Rattle.std.proofs.Common.{◌≡◌, ℕ, ◌+◌, ◌<◌, ◌≤◌, ◌^◌, Bool, true, false, List, [], ◌∷◌, ◌++◌, length, get_or, take, drop, refl, sym, ap, subst, ◌∙◌, append_assoc, arith, inl, inr}
use Rattle.std.proofs.lemmas.List.{take_at, drop_at, length-append}
use Rattle.std.proofs.lemmas.Bool.{cases_lt, lt-ltb, le-ltb}
use Rattle.std.specs.Prelude.{nat_lt}
use Rattle.std.specs.List.{flat_map, AllByRecursion}
use Rattle.byteorder.specs.Endian.{big_bytes, big_number}
use Rattle.byteorder.specs.Numbers.{big_number-reads_back}
use Rattle.amqp_frames.specs.declared.frame.Frame.{Frame}
use Rattle.amqp_frames.specs.declared.fault.FrameFault.{FrameFault}
use Rattle.amqp_frames.specs.declared.fault.FrameFault.TheVariants.{BadHeader, BadKind, TooLarge, BadEnd, Failed, Memory}
use Rattle.amqp_frames.specs.Frames.{is_kind, IsFrame, unended, frame_spelling, announced_size, IsUnfinished}
use Rattle.amqp_frames.specs.Streams.{opening, IsStream, Stops, Announces, IsFault}

-- the size field, read again
size_again : (kind channel size : ℕ) (more : List ℕ) → size < 2 ^ 32
    → announced_size (kind ∷ (big_bytes 2 channel ++ (big_bytes 4 size ++ more))) ≡ size
size_again kind channel size more h = big_number-reads_back 4 size more (omega arith)

channel_again : (kind channel size : ℕ) (more : List ℕ) → channel < 2 ^ 16
    → big_number 2 (drop 1 (kind ∷ (big_bytes 2 channel ++ (big_bytes 4 size ++ more)))) ≡ channel
channel_again kind channel size more h = big_number-reads_back 2 channel (big_bytes 4 size ++ more) (omega arith)

-- what reading gives of octets that begin with a frame but for its last octet
abbrev pub payload_in : List ℕ → List ℕ
payload_in text = take (announced_size text) (drop 7 text)

abbrev pub behind_in : List ℕ → List ℕ
behind_in text = drop (announced_size text) (drop 7 text)

abbrev pub frame_in : List ℕ → Frame
frame_in text = record { kind = get_or text 0 0; channel = big_number 2 (drop 1 text); payload = payload_in text }

pub record Again (frame : Frame) (tail text : List ℕ) : Type 0 where
  pub same : frame_in text ≡ frame
  pub behind : behind_in text ≡ tail
  pub kind : get_or text 0 0 ≡ frame.kind
  pub size : announced_size text ≡ length frame.payload
  pub long : length text ≡ 7 + length frame.payload + length tail

made : (kind c d : ℕ) (p q : List ℕ) → c ≡ d → p ≡ q
    → ◌≡◌ {A = Frame} (record { kind = kind; channel = c; payload = p }) (record { kind = kind; channel = d; payload = q })
made kind c d p q h k = cc

pub unended_again : (frame : Frame) (tail : List ℕ) → IsFrame frame → Again frame tail (unended frame ++ tail)
unended_again frame tail is =
    let small = is.size in
    let size = size_again frame.kind frame.channel (length frame.payload) (frame.payload ++ tail) (omega arith) in
    let channel = channel_again frame.kind frame.channel (length frame.payload) (frame.payload ++ tail) is.channel in
    let payload : payload_in (unended frame ++ tail) ≡ frame.payload =
    ap (λ (n : ℕ). take n (frame.payload ++ tail)) size ∙ take_at frame.payload tail (length frame.payload) refl in
    record {
      same = made frame.kind (big_number 2 (drop 1 (unended frame ++ tail))) frame.channel (payload_in (unended frame ++ tail)) frame.payload channel payload;
      behind = ap (λ (n : ℕ). drop n (frame.payload ++ tail)) size ∙ drop_at frame.payload tail (length frame.payload) refl;
      kind = refl;
      size = size;
      long = omega (arith, length-append frame.payload tail);
    }

bad_kind : (a b m n : ℕ) → a ≡ b → m ≡ n → BadKind a m ≡ BadKind b n
bad_kind a b m n p q = cc

too_large : (a b m n : ℕ) → a ≡ b → m ≡ n → TooLarge a m ≡ TooLarge b n
too_large a b m n p q = cc

bad_end : (a b m n : ℕ) → a ≡ b → m ≡ n → BadEnd a m ≡ BadEnd b n
bad_end a b m n p q = cc

-- the same of a text that is such octets
again : (frame : Frame) (tail text : List ℕ) → IsFrame frame → text ≡ unended frame ++ tail → Again frame tail text
again frame tail text is e =
    let P : List ℕ → Type 0 = λ t. Again frame tail t in
    subst P (sym e) (unended_again frame tail is)

-- a whole frame's octets, and more
spelled : (frame : Frame) (more text : List ℕ) → text ≡ frame_spelling frame ++ more → text ≡ unended frame ++ 206 ∷ more
unfolding frame_spelling
spelled frame more text e = e ∙ append_assoc (unended frame) (206 ∷ []) more

-- no frame begins the octets
abbrev pub BeginsNoFrame : List ℕ → Type 0
BeginsNoFrame rest = (frame : Frame) (more : List ℕ) → IsFrame frame → rest ≡ frame_spelling frame ++ more → ⊥

known : (octet : ℕ) → is_kind octet ≡ true → is_kind octet ≡ false → ⊥
known octet h k = absurd cc

pub unfinished_begins_none : (rest : List ℕ) → IsUnfinished rest → BeginsNoFrame rest
unfinished_begins_none [] h frame more is e = absurd (let a = (again frame (206 ∷ more) [] is (spelled frame more [] e)).long in omega arith)
unfinished_begins_none (kind ∷ rest) h frame more is e =
    let a = again frame (206 ∷ more) (kind ∷ rest) is (spelled frame more (kind ∷ rest) e) in
    let long = a.long in
    let within = h.1 (omega arith) in
    let size = a.size in
    absurd (omega arith)

announced_in : (size : ℕ) (rest : List ℕ) → Announces size rest → (announced_size rest ≡ size) × (is_kind (get_or rest 0 0) ≡ true) × (7 ≤ length rest)
announced_in size rest a =
    let P : List ℕ → Type 0 = λ t. (announced_size t ≡ size) × (is_kind (get_or t 0 0) ≡ true) × (7 ≤ length t) in
    subst P (sym a.spelled) (size_again a.kind a.channel size a.more a.fits, a.is_kind, omega arith)

-- the octets before the rest don't begin a further frame
pub fault_begins_none : (place : ℕ) (rest : List ℕ) (fault : FrameFault) → IsFault place rest fault → BeginsNoFrame rest
fault_begins_none place rest (BadHeader at) h frame more is e = absurd h
fault_begins_none place rest (BadKind at octet) h frame more is e =
    let a = again frame (206 ∷ more) rest is (spelled frame more rest e) in
    let head : get_or rest 0 0 ≡ octet = ap (λ (t : List ℕ). get_or t 0 0) h.3 in
    known octet (ap is_kind (sym head ∙ a.kind) ∙ is.kind) h.1
fault_begins_none place rest (TooLarge at size) h frame more is e =
    let a = again frame (206 ∷ more) rest is (spelled frame more rest e) in
    let said = (announced_in size rest h.2).0 in
    let same = a.size in
    let small = is.size in
    let over = h.1 in
    absurd (omega arith)
fault_begins_none place rest (BadEnd at octet) h frame more is e =
    let a = again frame (206 ∷ more) rest is (spelled frame more rest e) in
    let b = again h.2.frame (octet ∷ h.2.more) rest h.2.is_frame h.2.spelled in
    let tails : 206 ∷ more ≡ octet ∷ h.2.more = sym a.behind ∙ b.behind in
    h.1 (ap (λ (t : List ℕ). get_or t 0 0) (sym tails))
fault_begins_none place rest (Failed at) h frame more is e = absurd h
fault_begins_none place rest Memory h frame more is e = absurd h

-- a first part of a frame has no fault
pub part_without_fault : (place : ℕ) (rest : List ℕ) (fault : FrameFault) → IsUnfinished rest → IsFault place rest fault → ⊥
part_without_fault place [] (BadHeader at) u h = h
part_without_fault place [] (BadKind at octet) u h = absurd (let e = ap (λ (t : List ℕ). length t) h.3 in omega arith)
part_without_fault place [] (TooLarge at size) u h = absurd (let e = (announced_in size [] h.2).2 in omega arith)
part_without_fault place [] (BadEnd at octet) u h = absurd (let e = (again h.2.frame (octet ∷ h.2.more) [] h.2.is_frame h.2.spelled).long in omega arith)
part_without_fault place [] (Failed at) u h = h
part_without_fault place [] Memory u h = h
part_without_fault place (kind ∷ rest) (BadHeader at) u h = h
part_without_fault place (kind ∷ rest) (BadKind at octet) u h =
    let head : kind ≡ octet = ap (λ (t : List ℕ). get_or t 0 0) h.3 in
    known octet (ap is_kind (sym head) ∙ u.0) h.1
part_without_fault place (kind ∷ rest) (TooLarge at size) u h =
    let said = announced_in size (kind ∷ rest) h.2 in
    let long = said.2 in
    let size-is = said.0 in
    let within = u.1 (omega arith) in
    let over = h.1 in
    absurd (omega arith)
part_without_fault place (kind ∷ rest) (BadEnd at octet) u h =
    let a = again h.2.frame (octet ∷ h.2.more) (kind ∷ rest) h.2.is_frame h.2.spelled in
    let long = a.long in
    let within = u.1 (omega arith) in
    let size = a.size in
    absurd (omega arith)
part_without_fault place (kind ∷ rest) (Failed at) u h = h
part_without_fault place (kind ∷ rest) Memory u h = h

-- a first part of a frame is shorter than the largest frame
pub part_short : (rest : List ℕ) → IsUnfinished rest → length rest < 131072
part_short [] u = omega arith
part_short (kind ∷ rest) u = elim (cases_lt (length rest) 6) [
  | inl short ↦ omega arith
  | inr long ↦ let within = u.1 long in omega arith
]

-- the fault by the tests in their order
fault_from : Bool → Bool → ℕ → ℕ → ℕ → ℕ → FrameFault
fault_from false over place head size end = BadKind place head
fault_from true true place head size end = TooLarge place size
fault_from true false place head size end = BadEnd place end

fault_in : ℕ → List ℕ → FrameFault
fault_in place rest =
    fault_from (is_kind (get_or rest 0 0)) (nat_lt 131064 (announced_size rest)) place (get_or rest 0 0) (announced_size rest) (get_or (behind_in rest) 0 0)

fault_is : (place : ℕ) (rest : List ℕ) (fault : FrameFault) → IsFault place rest fault → fault ≡ fault_in place rest
unfolding fault_from fault_in
fault_is place rest (BadHeader at) h = absurd h
fault_is place rest (BadKind at octet) h =
    let head : get_or rest 0 0 ≡ octet = ap (λ (t : List ℕ). get_or t 0 0) h.3 in
    let test : is_kind (get_or rest 0 0) ≡ false = ap is_kind head ∙ h.1 in
    let same : BadKind at octet ≡ BadKind place (get_or rest 0 0) = bad_kind at place octet (get_or rest 0 0) h.0 (sym head) in
    same ∙ sym (ap (λ (b : Bool). fault_from b (nat_lt 131064 (announced_size rest)) place (get_or rest 0 0) (announced_size rest) (get_or (behind_in rest) 0 0)) test)
fault_is place rest (TooLarge at size) h =
    let said = announced_in size rest h.2 in
    let over : nat_lt 131064 (announced_size rest) ≡ true = lt-ltb 131064 (announced_size rest) (rw (said.0) h.1) in
    let same : TooLarge at size ≡ TooLarge place (announced_size rest) = too_large at place size (announced_size rest) h.0 (sym said.0) in
    same ∙ sym (ap (λ (b : Bool). fault_from b (nat_lt 131064 (announced_size rest)) place (get_or rest 0 0) (announced_size rest) (get_or (behind_in rest) 0 0)) said.1
    ∙ ap (λ (b : Bool). fault_from true b place (get_or rest 0 0) (announced_size rest) (get_or (behind_in rest) 0 0)) over)
fault_is place rest (BadEnd at octet) h =
    let a = again h.2.frame (octet ∷ h.2.more) rest h.2.is_frame h.2.spelled in
    let small : announced_size rest ≤ 131064 = rw a.size h.2.is_frame.size in
    let over : nat_lt 131064 (announced_size rest) ≡ false = le-ltb 131064 (announced_size rest) small in
    let test : is_kind (get_or rest 0 0) ≡ true = ap is_kind a.kind ∙ h.2.is_frame.kind in
    let end : get_or (behind_in rest) 0 0 ≡ octet = ap (λ (t : List ℕ). get_or t 0 0) a.behind in
    let same : BadEnd at octet ≡ BadEnd place (get_or (behind_in rest) 0 0) = bad_end at place octet (get_or (behind_in rest) 0 0) h.0 (sym end) in
    same ∙ sym (ap (λ (b : Bool). fault_from b (nat_lt 131064 (announced_size rest)) place (get_or rest 0 0) (announced_size rest) (get_or (behind_in rest) 0 0)) test
    ∙ ap (λ (b : Bool). fault_from true b place (get_or rest 0 0) (announced_size rest) (get_or (behind_in rest) 0 0)) over)
fault_is place rest (Failed at) h = absurd h
fault_is place rest Memory h = absurd h

pub one_fault : (place : ℕ) (rest : List ℕ) (e f : FrameFault) → IsFault place rest e → IsFault place rest f → e ≡ f
one_fault place rest e f h k = fault_is place rest e h ∙ sym (fault_is place rest f k)

-- the first frame of a text is one, and what follows it
pub first_frame_same : (f g : Frame) (x y : List ℕ) → IsFrame f → IsFrame g → frame_spelling f ++ x ≡ frame_spelling g ++ y → (f ≡ g) × (x ≡ y)
first_frame_same f g x y hf hg e =
    let text = frame_spelling f ++ x in
    let a = again f (206 ∷ x) text hf (spelled f x text refl) in
    let b = again g (206 ∷ y) text hg (spelled g y text e) in
    let tails : 206 ∷ x ≡ 206 ∷ y = sym a.behind ∙ b.behind in
    (sym a.same ∙ b.same, ap (λ (t : List ℕ). drop 1 t) tails)

-- the same octets are the same frames
pub frames_same : (a b : List Frame) (r s : List ℕ) → AllByRecursion IsFrame a → AllByRecursion IsFrame b → BeginsNoFrame r → BeginsNoFrame s
    → flat_map frame_spelling a ++ r ≡ flat_map frame_spelling b ++ s → (a ≡ b) × (r ≡ s)
frames_same [] [] r s ha hb hr hs e = (refl, e)
frames_same [] (g ∷ b) r s ha hb hr hs e =
    absurd (hr g (flat_map frame_spelling b ++ s) hb.0 (e ∙ append_assoc (frame_spelling g) (flat_map frame_spelling b) s))
frames_same (f ∷ a) [] r s ha hb hr hs e =
    absurd (hs f (flat_map frame_spelling a ++ r) ha.0 (sym e ∙ append_assoc (frame_spelling f) (flat_map frame_spelling a) r))
frames_same (f ∷ a) (g ∷ b) r s ha hb hr hs e =
    let left : frame_spelling f ++ (flat_map frame_spelling a ++ r) ≡ frame_spelling g ++ (flat_map frame_spelling b ++ s) =
    sym (append_assoc (frame_spelling f) (flat_map frame_spelling a) r) ∙ e ∙ append_assoc (frame_spelling g) (flat_map frame_spelling b) s in
    let first = first_frame_same f g (flat_map frame_spelling a ++ r) (flat_map frame_spelling b ++ s) ha.0 hb.0 left in
    let rest = frames_same a b r s ha.1 hb.1 hr hs first.1 in
    let frame : f ≡ g = first.0 in
    (cc (frame, rest.0), rest.1)

stops_begin_none : (rest : List ℕ) → Stops rest → BeginsNoFrame rest
stops_begin_none rest (inl u) = unfinished_begins_none rest u
stops_begin_none rest (inr h) = fault_begins_none h.0 rest h.1 h.2

-- the same text is the same frames
pub stream_same : (asked : Bool) (text : List ℕ) (a b : List Frame) (r s : List ℕ) → IsStream asked a r text → IsStream asked b s text
    → Stops r → Stops s → (a ≡ b) × (r ≡ s)
stream_same asked text a b r s x y p q =
    let left = append_assoc (opening asked) (flat_map frame_spelling a) r in
    let right = append_assoc (opening asked) (flat_map frame_spelling b) s in
    let both : opening asked ++ (flat_map frame_spelling a ++ r) ≡ opening asked ++ (flat_map frame_spelling b ++ s) =
    sym left ∙ sym x.whole ∙ y.whole ∙ right in
    let behind : flat_map frame_spelling a ++ r ≡ flat_map frame_spelling b ++ s =
    sym (drop_at (opening asked) (flat_map frame_spelling a ++ r) (length (opening asked)) refl)
    ∙ ap (λ (t : List ℕ). drop (length (opening asked)) t) both
    ∙ drop_at (opening asked) (flat_map frame_spelling b ++ s) (length (opening asked)) refl in
    frames_same a b r s x.each y.each (stops_begin_none r p) (stops_begin_none s q) behind
