-- What `feed` answered, as a statement on the frames of the channel.
use Rattle.std.proofs.Common.{◌≡◌, ℕ, Bool, true, false, cond, List, [], ◌∷◌, ◌++◌, Option, Some, None, option_map, Result, Ok, Err, refl, sym, ap, subst}
use Rattle.field_tables.proofs.Octets.{IsBytes}
use Rattle.amqp_frames.specs.declared.frame.Frame.{Frame}
use Rattle.amqp_content.specs.declared.command.Command.{Command}
use Rattle.amqp_content.specs.declared.fault.ContentFault.{ContentFault}
use Rattle.amqp_content.specs.declared.fault.ContentFault.TheVariants.{Unexpected, Size, Header, Method, Memory}
use Rattle.amqp_content.specs.Steps.{Open, Whole, is_whole, whole, taken, is_heartbeat, settled, feed_frame}
use Rattle.amqp_content.specs.Commands.{IsCommand, AreOpen, NoCommand}
use Rattle.amqp_content.specs.View.{whole_of, Fed, Spells}
use Rattle.amqp_content.proofs.CommandLemmas.{IsTaken, frame_taken, is_command, stays_open}
use Rattle.amqp_content.proofs.LawLemmas.{frame_refused}

abbrev Fate : Type 0
Fate = Option Open × Option Whole

abbrev fate : Fate → Result Fate ContentFault
fate x = Ok x

fate_is : (x y : Fate) → fate x ≡ fate y → x ≡ y
fate_is x y e = cc

some_not : (v : Whole) → Some v ≡ None → ⊥
some_not v e = absurd cc

none_not : (v : Whole) → None ≡ Some v → ⊥
none_not v e = absurd cc

some_whole : (v w : Whole) → Some v ≡ Some w → v ≡ w
some_whole v w e = cc

-- the frame is no heartbeat, and was answered so
abbrev Meant : List Frame → Option Open → Frame → Option Command → Type 0
Meant frames new frame (Some command) = IsCommand (frames ++ frame ∷ []) (whole_of command)
Meant frames new frame None = AreOpen frame.channel (frames ++ frame ∷ []) new

meant_whole : (frames : List Frame) (new : Option Open) (frame : Frame) (answer : Option Command) (part : Open) → IsTaken frame.channel (frames ++ frame ∷ []) part → is_whole part ≡ true
    → fate (None, Some (whole frame.channel part)) ≡ Ok (new, option_map whole_of answer) → Meant frames new frame answer
meant_whole frames new frame None part t w e = absurd (some_not (whole frame.channel part) (ap (λ (x : Fate). x.1) (fate_is (None, Some (whole frame.channel part)) (new, None) e)))
meant_whole frames new frame (Some command) part t w e =
    let same : whole frame.channel part ≡ whole_of command = some_whole (whole frame.channel part) (whole_of command) (ap (λ (x : Fate). x.1) (fate_is (None, Some (whole frame.channel part)) (new, Some (whole_of command)) e)) in
    subst (IsCommand (frames ++ frame ∷ [])) same (is_command frame.channel part (frames ++ frame ∷ []) t.on t.makes w)

meant_part : (frames : List Frame) (new : Option Open) (frame : Frame) (answer : Option Command) (part : Open) → IsTaken frame.channel (frames ++ frame ∷ []) part → is_whole part ≡ false
    → fate (Some part, None) ≡ Ok (new, option_map whole_of answer) → Meant frames new frame answer
meant_part frames new frame None part t w e =
    subst (AreOpen frame.channel (frames ++ frame ∷ [])) (ap (λ (x : Fate). x.0) (fate_is (Some part, None) (new, None) e)) (stays_open frame.channel part (frames ++ frame ∷ []) t.on t.makes w)
meant_part frames new frame (Some command) part t w e = absurd (none_not (whole_of command) (ap (λ (x : Fate). x.1) (fate_is (Some part, None) (new, Some (whole_of command)) e)))

meant_by : (frames : List Frame) (new : Option Open) (frame : Frame) (answer : Option Command) (part : Open) (done : Bool) → IsTaken frame.channel (frames ++ frame ∷ []) part → is_whole part ≡ done
    → cond done (fate (None, Some (whole frame.channel part))) (fate (Some part, None)) ≡ Ok (new, option_map whole_of answer) → Meant frames new frame answer
meant_by frames new frame answer part true t w e = meant_whole frames new frame answer part t w e
meant_by frames new frame answer part false t w e = meant_part frames new frame answer part t w e

settled_means : (frames : List Frame) (old new : Option Open) (frame : Frame) (answer : Option Command) (read : Result Open ContentFault) → IsBytes frame.payload → AreOpen frame.channel frames old → taken old frame ≡ read
    → settled frame.channel read ≡ Ok (new, option_map whole_of answer) → Meant frames new frame answer
settled_means frames old new frame answer (Ok part) are begun read e = meant_by frames new frame answer part (is_whole part) (frame_taken old frames frame part are begun read) refl e
settled_means frames old new frame answer (Err fault) are begun read e = absurd cc

-- the frame as a heartbeat, or as one that is none
spells_answer : (frames : List Frame) (old new : Option Open) (frame : Frame) (answer : Option Command) (beats : Bool) → IsBytes frame.payload → AreOpen frame.channel frames old → is_heartbeat frame ≡ beats
    → cond beats (fate (old, None)) (settled frame.channel (taken old frame)) ≡ Ok (new, option_map whole_of answer) → Spells frames new frame (Ok answer)
spells_answer frames old new frame None true are begun beats e =
    subst (λ b. AreOpen frame.channel (cond b frames (frames ++ frame ∷ [])) new) (sym beats)
    (subst (AreOpen frame.channel frames) (ap (λ (x : Fate). x.0) (fate_is (old, None) (new, None) e)) begun)
spells_answer frames old new frame (Some command) true are begun beats e = absurd (none_not (whole_of command) (ap (λ (x : Fate). x.1) (fate_is (old, None) (new, Some (whole_of command)) e)))
spells_answer frames old new frame None false are begun beats e =
    subst (λ b. AreOpen frame.channel (cond b frames (frames ++ frame ∷ [])) new) (sym beats) (settled_means frames old new frame None (taken old frame) are begun refl e)
spells_answer frames old new frame (Some command) false are begun beats e = settled_means frames old new frame (Some command) (taken old frame) are begun refl e

settled_err : (channel : ℕ) (read : Result Open ContentFault) (done : Bool) (part : Open) (fault : ContentFault) → cond done (fate (None, Some (whole channel part))) (fate (Some part, None)) ≡ Err fault → ⊥
settled_err channel read true part fault e = absurd cc
settled_err channel read false part fault e = absurd cc

settled_fails : (channel : ℕ) (read : Result Open ContentFault) (fault : ContentFault) → settled channel read ≡ Err fault → read ≡ Err fault
settled_fails channel (Ok part) fault e = absurd (settled_err channel (Ok part) (is_whole part) part fault e)
settled_fails channel (Err other) fault e = ap bare e
  where
    bare : Result Fate ContentFault → Result Open ContentFault
    bare (Ok x) = Err fault
    bare (Err f) = Err f

fails_by : (old : Option Open) (frame : Frame) (fault : ContentFault) (beats : Bool) → cond beats (fate (old, None)) (settled frame.channel (taken old frame)) ≡ Err fault → taken old frame ≡ Err fault
fails_by old frame fault true e = absurd cc
fails_by old frame fault false e = settled_fails frame.channel (taken old frame) fault e

refuses : (frames : List Frame) (old : Option Open) (frame : Frame) (fault : ContentFault) → AreOpen frame.channel frames old → feed_frame old frame ≡ Err fault → NoCommand (frames ++ frame ∷ [])
unfolding feed_frame
refuses frames old frame fault begun e = frame_refused frame.channel old frames frame fault begun (fails_by old frame fault (is_heartbeat frame) e)

pub fed_spells : (frames : List Frame) (old new : Option Open) (frame : Frame) (result : Result (Option Command) ContentFault) → IsBytes frame.payload → AreOpen frame.channel frames old → Fed old new frame result
    → Spells frames new frame result
unfolding feed_frame
fed_spells frames old new frame (Ok answer) are begun fed = spells_answer frames old new frame answer (is_heartbeat frame) are begun refl fed
fed_spells frames old new frame (Err Memory) are begun fed = subst (AreOpen frame.channel frames) (sym fed) begun
fed_spells frames old new frame (Err (Unexpected kind)) are begun fed = refuses frames old frame (Unexpected kind) begun fed.0
fed_spells frames old new frame (Err (Size size)) are begun fed = refuses frames old frame (Size size) begun fed.0
fed_spells frames old new frame (Err (Header fault)) are begun fed = refuses frames old frame (Header fault) begun fed.0
fed_spells frames old new frame (Err (Method fault)) are begun fed = refuses frames old frame (Method fault) begun fed.0
