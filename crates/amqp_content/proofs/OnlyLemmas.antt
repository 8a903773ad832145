-- A command that the frames of a channel spell is what `feed` answers.
use Rattle.std.proofs.Common.{◌≡◌, ℕ, ◌<◌, Bool, true, false, cond, eqb, List, [], ◌∷◌, ◌++◌, Option, Some, None, Result, Ok, Err, refl, sym, subst, arith}
use Rattle.std.specs.Prelude.{◌&&◌}
use Rattle.std.specs.List.{AllByRecursion}
use Rattle.std.proofs.lemmas.Bool.{eqb-true}
use Rattle.std.proofs.lemmas.List.{append-nil}
use Rattle.amqp_frames.specs.declared.frame.Frame.{Frame}
use Rattle.amqp_props.specs.declared.properties.Properties.{Properties}
use Rattle.amqp_methods.specs.Methods.{Call}
use Rattle.amqp_content.specs.declared.command.Command.{Command}
use Rattle.amqp_content.specs.declared.fault.ContentFault.{ContentFault}
use Rattle.amqp_content.specs.declared.fault.ContentFault.TheVariants.{Unexpected, Size, Header, Method, Memory}
use Rattle.amqp_content.specs.Steps.{Open, Whole, is_heartbeat}
use Rattle.amqp_content.specs.Commands.{IsCommand, Spelled, AreOpen, NoCommand}
use Rattle.amqp_content.specs.View.{whole_of, Spells, IsAnswer}
use Rattle.amqp_content.proofs.CommandLemmas.{each_at, not_nil}
use Rattle.amqp_content.proofs.LawLemmas.{one_command, part_is_no_command}

-- frames of the types below 4
abbrev Low : List Frame → Type 0
Low frames = AllByRecursion (λ frame. frame.kind < 4) frames

bodies_low : (frames : List Frame) → AllByRecursion (λ frame. frame.kind ≡ 3) frames → Low frames
bodies_low [] are = tt
bodies_low (frame ∷ frames) are = (omega (arith, are.0), bodies_low frames are.1)

spelled_low : (frames : List Frame) (call : Call) (content : Option (Properties × List ℕ)) → Spelled call content frames → Low frames
spelled_low frames call None s = subst Low (sym s.1.are) (omega (arith, s.1.method.kind), tt)
spelled_low frames call (Some content) s = subst Low (sym s.are) (omega (arith, s.method.kind), (omega (arith, s.header_is.kind), bodies_low s.bodies s.bodies_are.kinds))

both_first : (a b : Bool) → (a && b) ≡ true → a ≡ true
both_first true b e = refl
both_first false b e = absurd cc

too_high : (n : ℕ) → n < 4 → n ≡ 8 → ⊥
too_high n lt e = absurd (omega (arith, lt, e))

-- no command has a heartbeat
pub beats_apart : (frames : List Frame) (frame : Frame) (command : Whole) → IsCommand (frames ++ frame ∷ []) command → is_heartbeat frame ≡ true → ⊥
beats_apart frames frame command is beats =
    too_high frame.kind (each_at (λ (f : Frame). f.kind < 4) frames frame [] (spelled_low (frames ++ frame ∷ []) command.method command.content is.spelled))
    (eqb-true frame.kind 8 (both_first (eqb frame.kind 8) (eqb frame.channel 0) beats))

open_apart : (channel : ℕ) (frames : List Frame) (frame : Frame) (new : Option Open) (command : Whole) → AreOpen channel (frames ++ frame ∷ []) new → IsCommand (frames ++ frame ∷ []) command → ⊥
open_apart channel frames frame None command begun is = not_nil frames frame (sym begun)
open_apart channel frames frame (Some part) command begun is = part_is_no_command channel (frames ++ frame ∷ []) part command begun is

none_apart : (frames : List Frame) (frame : Frame) (new : Option Open) (command : Whole) (beats : Bool) → is_heartbeat frame ≡ beats → AreOpen frame.channel (cond beats frames (frames ++ frame ∷ [])) new
    → IsCommand (frames ++ frame ∷ []) command → ⊥
none_apart frames frame new command true beats begun is = beats_apart frames frame command is beats
none_apart frames frame new command false beats begun is = open_apart frame.channel frames frame new command begun is

fault_apart : (frames : List Frame) (frame : Frame) (command : Whole) → NoCommand (frames ++ frame ∷ []) → IsCommand (frames ++ frame ∷ []) command → ⊥
fault_apart frames frame command none is = none [] command (subst (λ (xs : List Frame). IsCommand xs command) (sym (append-nil (frames ++ frame ∷ []))) is)

pub only_answer : (frames : List Frame) (new : Option Open) (frame : Frame) (result : Result (Option Command) ContentFault) (command : Whole) → IsCommand (frames ++ frame ∷ []) command → Spells frames new frame result
    → IsAnswer command result
only_answer frames new frame (Ok (Some found)) command is spells = one_command (frames ++ frame ∷ []) (whole_of found) command spells is
only_answer frames new frame (Ok None) command is spells = none_apart frames frame new command (is_heartbeat frame) refl spells is
only_answer frames new frame (Err Memory) command is spells = tt
only_answer frames new frame (Err (Unexpected kind)) command is spells = fault_apart frames frame command spells is
only_answer frames new frame (Err (Size size)) command is spells = fault_apart frames frame command spells is
only_answer frames new frame (Err (Header fault)) command is spells = fault_apart frames frame command spells is
only_answer frames new frame (Err (Method fault)) command is spells = fault_apart frames frame command spells is
