-- The frames of a channel, step by step, are a part of a command or a whole one; and where a frame is refused, no command
-- begins so.
use Rattle.std.proofs.Common.{◌≡◌, ℕ, ◌<◌, ◌≤◌, Bool, true, false, cond, eqb, List, [], ◌∷◌, ◌++◌, length, Option, Some, None, Ok, refl, sym, ap, subst, ◌∙◌, arith, length-append}
use Rattle.std.specs.List.{AllByRecursion}
use Rattle.std.proofs.lemmas.Bool.{eqb-true, eqb-false}
use Rattle.std.proofs.lemmas.List.{append-nil}
use Rattle.std.proofs.lemmas.List.Concat.{flat_map-append}
use Rattle.field_tables.proofs.Octets.{IsBytes}
use Rattle.amqp_frames.specs.declared.frame.Frame.{Frame}
use Rattle.amqp_methods.specs.Methods.{Call}
use Rattle.amqp_content.specs.Steps.{Received, Open, has_content, opened_at, with_next, with_frame, taken, is_full, is_whole, whole}
use Rattle.amqp_content.specs.Commands.{AreBodyFrames, IsMethodAlone, AreContent, AreOn, IsCommand, Begins, AreOpen, payloads}
use Rattle.amqp_content.proofs.FrameLemmas.{opened_takes, header_next, body_next}

-- ---- lists

pub each_append : {A : Type 0} (P : A → Type 0) (xs ys : List A) → AllByRecursion P xs → AllByRecursion P ys → AllByRecursion P (xs ++ ys)
each_append P [] ys ps qs = qs
each_append P (x ∷ xs) ys ps qs = (ps.0, each_append P xs ys ps.1 qs)

pub each_at : {A : Type 0} (P : A → Type 0) (xs : List A) (y : A) (ys : List A) → AllByRecursion P (xs ++ y ∷ ys) → P y
each_at P [] y ys ps = ps.0
each_at P (x ∷ xs) y ys ps = each_at P xs y ys ps.1

pub not_nil : {A : Type 0} (xs : List A) (x : A) → [] ≡ xs ++ x ∷ [] → ⊥
not_nil [] x e = absurd cc
not_nil (y ∷ xs) x e = absurd cc

nil_not : {A : Type 0} (xs : List A) (x : A) → xs ++ x ∷ [] ≡ [] → ⊥
nil_not xs x e = not_nil xs x (sym e)

pub cons_tail : {A : Type 0} (x y : A) (xs ys : List A) → x ∷ xs ≡ y ∷ ys → xs ≡ ys
cons_tail x y xs ys e = cc

pub cons_head : {A : Type 0} (x y : A) (xs ys : List A) → x ∷ xs ≡ y ∷ ys → x ≡ y
cons_head x y xs ys e = cc

before_last : {A : Type 0} (xs ys : List A) (x y : A) → xs ++ x ∷ [] ≡ ys ++ y ∷ [] → xs ≡ ys
before_last [] [] x y e = refl
before_last [] (b ∷ ys) x y e = absurd (not_nil ys y (cons_tail x b [] (ys ++ y ∷ []) e))
before_last (a ∷ xs) [] x y e = absurd (nil_not xs x (cons_tail a y (xs ++ x ∷ []) [] e))
before_last (a ∷ xs) (b ∷ ys) x y e =
    let front : a ≡ b = cons_head a b (xs ++ x ∷ []) (ys ++ y ∷ []) e in
    let rest : xs ≡ ys = before_last xs ys x y (cons_tail a b (xs ++ x ∷ []) (ys ++ y ∷ []) e) in
    λ i. front i ∷ rest i

-- ---- the next frame of an open command

-- the frames make this much of a command
pub Makes : Call → Option Received → List Frame → Type 0
Makes call None frames = IsMethodAlone call frames
Makes call (Some received) frames = AreContent call received.size received.props received.body frames × (length received.body ≤ received.size)

makes_first : (frame : Frame) (part : Open) → IsBytes frame.payload → opened_at frame ≡ Ok part → Makes part.method part.content (frame ∷ [])
unfolding Makes
makes_first frame part are e =
    let t = opened_takes frame part are e in
    subst (λ content. Makes part.method content (frame ∷ [])) (sym t.content) (record { first = frame; are = refl; method = t.method })

-- no body frame yet
pub no_bodies : (size : ℕ) → AreBodyFrames size [] []
no_bodies size = record { kinds = tt; octets = refl; needed = λ before last e. absurd (not_nil before last e) }

makes_header : (call : Call) (frames : List Frame) (frame : Frame) (part : Open) → IsBytes frame.payload → has_content call ≡ true → IsMethodAlone call frames → with_next call None frame ≡ Ok part
    → Makes part.method part.content (frames ++ frame ∷ [])
unfolding Makes
makes_header call frames frame part are carries alone e =
    let t = header_next call frame part are e in
    let received = t.0 in
    subst (λ (o : Open). Makes o.method o.content (frames ++ frame ∷ [])) t.1 (
      record {
        first = alone.first;
        header = frame;
        bodies = [];
        are = ap (λ (xs : List Frame). xs ++ frame ∷ []) alone.are;
        carries = carries;
        method = alone.method;
        header_is = t.2.header;
        bodies_are = subst (λ (body : List ℕ). AreBodyFrames received.size body []) (sym t.2.body) (no_bodies received.size);
      },
      omega (arith, ap (λ (body : List ℕ). length body) t.2.body),
    )

pub one_more_body : (size : ℕ) (body : List ℕ) (bodies : List Frame) (frame : Frame) → AreBodyFrames size body bodies → length body < size → frame.kind ≡ 3
    → AreBodyFrames size (body ++ frame.payload) (bodies ++ frame ∷ [])
one_more_body size body bodies frame are missing kind = record {
  kinds = each_append (λ (f : Frame). f.kind ≡ 3) bodies (frame ∷ []) are.kinds (kind, tt);
  octets = (λ i. are.octets i ++ sym (append-nil frame.payload) i) ∙ sym (flat_map-append (λ (f : Frame). f.payload) bodies (frame ∷ []));
  needed = λ before last e.
      let same : bodies ≡ before = before_last bodies before frame last e in
      let octets : length body ≡ length (payloads before) = ap (λ (xs : List ℕ). length xs) are.octets ∙ ap (λ (xs : List Frame). length (payloads xs)) same in
      omega (arith, octets, missing);
}

makes_body : (call : Call) (received : Received) (frames : List Frame) (frame : Frame) (part : Open) → AreContent call received.size received.props received.body frames → length received.body < received.size
    → with_next call (Some received) frame ≡ Ok part → Makes part.method part.content (frames ++ frame ∷ [])
unfolding Makes
makes_body call received frames frame part content missing e =
    let t = body_next call received frame part e in
    subst (λ (o : Open). Makes o.method o.content (frames ++ frame ∷ [])) t.is (
      record {
        first = content.first;
        header = content.header;
        bodies = content.bodies ++ frame ∷ [];
        are = ap (λ (xs : List Frame). xs ++ frame ∷ []) content.are;
        carries = content.carries;
        method = content.method;
        header_is = content.header_is;
        bodies_are = one_more_body received.size received.body content.bodies frame content.bodies_are missing t.kind;
      },
      omega (arith, t.within, length-append received.body frame.payload),
    )

makes_next : (call : Call) (content : Option Received) (frames : List Frame) (frame : Frame) (part : Open) → IsBytes frame.payload → Begins call content frames → with_next call content frame ≡ Ok part
    → Makes part.method part.content (frames ++ frame ∷ [])
makes_next call None frames frame part are begins e = makes_header call frames frame part are begins.0 begins.1 e
makes_next call (Some received) frames frame part are begins e = makes_body call received frames frame part begins.0 begins.1 e

-- ---- whole or not

whole_by : (channel : ℕ) (call : Call) (content : Option Received) (frames : List Frame) → AreOn channel frames → Makes call content frames → cond (has_content call) (is_full content) true ≡ true
    → IsCommand frames (whole channel (record { method = call; content = content }))
unfolding Makes
whole_by channel call None frames on makes e = record { channel = on; spelled = (without (has_content call) e, makes) }
  where
    without : (b : Bool) → cond b false true ≡ true → b ≡ false
    without true e = absurd cc
    without false e = refl
whole_by channel call (Some received) frames on makes e =
    let full : length received.body ≡ received.size = eqb-true (length received.body) received.size (sym (ap (λ b. cond b (eqb (length received.body) received.size) true) makes.0.carries) ∙ e) in
    record { channel = on; spelled = subst (λ (size : ℕ). AreContent call size received.props received.body frames) (sym full) makes.0 }

open_by : (channel : ℕ) (call : Call) (content : Option Received) (frames : List Frame) → AreOn channel frames → Makes call content frames → cond (has_content call) (is_full content) true ≡ false
    → AreOpen channel frames (Some (record { method = call; content = content }))
unfolding Makes
open_by channel call None frames on makes e = (on, (with_it (has_content call) e, makes))
  where
    with_it : (b : Bool) → cond b false true ≡ false → b ≡ true
    with_it true e = refl
    with_it false e = absurd cc
open_by channel call (Some received) frames on makes e =
    let unequal : length received.body ≡ received.size → ⊥ = eqb-false (length received.body) received.size (sym (ap (λ b. cond b (eqb (length received.body) received.size) true) makes.0.carries) ∙ e) in
    (on, (makes.0, less (length received.body) received.size makes.1 unequal))
  where
    less : (a b : ℕ) → a ≤ b → (a ≡ b → ⊥) → a < b
    less a b le unequal = omega (arith, le, unequal)

pub is_command : (channel : ℕ) (part : Open) (frames : List Frame) → AreOn channel frames → Makes part.method part.content frames → is_whole part ≡ true → IsCommand frames (whole channel part)
unfolding is_whole
is_command channel part frames on makes e = whole_by channel part.method part.content frames on makes e

pub stays_open : (channel : ℕ) (part : Open) (frames : List Frame) → AreOn channel frames → Makes part.method part.content frames → is_whole part ≡ false → AreOpen channel frames (Some part)
unfolding is_whole
stays_open channel part frames on makes e = open_by channel part.method part.content frames on makes e

-- the frames with the next one
pub record IsTaken (channel : ℕ) (frames : List Frame) (part : Open) : Type 0 where
  pub on : AreOn channel frames
  pub makes : Makes part.method part.content frames

pub frame_taken : (old : Option Open) (frames : List Frame) (frame : Frame) (part : Open) → IsBytes frame.payload → AreOpen frame.channel frames old → taken old frame ≡ Ok part → IsTaken frame.channel (frames ++ frame ∷ []) part
unfolding with_frame
frame_taken None frames frame part are is e =
    subst (λ (xs : List Frame). IsTaken frame.channel (xs ++ frame ∷ []) part) (sym is) (record { on = (refl, tt); makes = makes_first frame part are e })
frame_taken (Some old) frames frame part are is e = record {
  on = each_append (λ (f : Frame). f.channel ≡ frame.channel) frames (frame ∷ []) is.0 (refl, tt);
  makes = makes_next old.method old.content frames frame part are is.1 e;
}
