-- The open and whole commands that values of the program stand for.
use Rattle.std.specs.Prelude.{◌≡◌, ℕ, Bool, List, [], ◌∷◌, ◌++◌, if◌then◌else◌, Option, Some, None, Result, Ok, Err, option_map, IfSome, nat_eq}
use Rattle.std.specs.HashMap.{get}
use Rattle.amqp_frames.specs.declared.frame.Frame.{Frame}
use Rattle.amqp_methods.specs.View.{call_of}
use Rattle.amqp_methods.specs.Methods.{FitArguments}
use Rattle.amqp_methods.specs.declared.method.Method.{Method}
use Rattle.amqp_props.specs.ContentHeader.{AreShort}
use Rattle.amqp_content.specs.declared.fault.ContentFault.{ContentFault}
use Rattle.amqp_content.specs.declared.fault.ContentFault.TheVariants.{Memory}
use Rattle.amqp_content.specs.declared.command.Command.{Command}
use Rattle.amqp_content.specs.declared.part.Content.{Content}
use Rattle.amqp_content.specs.declared.assembler.Assembler.{Assembler}
use Rattle.amqp_content.specs.Steps.{Received, Open, Whole, is_whole, is_heartbeat, taken, feed_frame}
use Rattle.amqp_content.specs.Commands.{IsCommand, AreOpen, NoCommand}

abbrev pub received_of : Content → Received
received_of content = record { size = content.size; props = content.props; body = content.body.items }

-- a part is seen as its method and its content
abbrev pub open_of : Method × Option Content → Open
open_of part = record { method = call_of part.0; content = option_map received_of part.1 }

abbrev pub whole_of : Command → Whole
whole_of command = record {
  channel = command.channel;
  method = call_of command.method;
  content = option_map (λ content. (content.0, content.1.items)) command.content;
}

-- the command of the channel of which frames are missing, if there is one
abbrev pub part_of : ℕ → Assembler → Option Open
part_of channel assembler = option_map open_of (get nat_eq assembler.parts channel)

-- The method of the command can be written again, and so can the header of its content: each argument and each property
-- has a spelling (4.2.5 "AMQP Data Fields").
abbrev pub IsWritable : Command → Type 0
IsWritable command = FitArguments (call_of command.method) × IfSome command.content (λ content. AreShort content.0)

-- What `feed` answered: after a fault nothing of the channel's command stays, and want of memory changes nothing.
abbrev pub Fed : Option Open → Option Open → Frame → Result (Option Command) ContentFault → Type 0
Fed old new frame (Ok answer) = feed_frame old frame ≡ Ok (new, option_map whole_of answer)
Fed old new frame (Err Memory) = new ≡ old
Fed old new frame (Err fault) = (feed_frame old frame ≡ Err fault) × (new ≡ None)

-- The frames of a channel that belong to its commands, with this one; a heartbeat belongs to none.
abbrev pub counted : List Frame → Frame → List Frame
counted frames frame = if is_heartbeat frame then frames else frames ++ frame ∷ []

-- What `feed` answered for the frame behind these frames of its channel, which are a part of a command: a command that
-- they are with it, or nothing where they are still a part of one, or a fault where no command begins so.
abbrev pub Spells : List Frame → Option Open → Frame → Result (Option Command) ContentFault → Type 0
Spells frames new frame (Ok (Some command)) = IsCommand (frames ++ frame ∷ []) (whole_of command)
Spells frames new frame (Ok None) = AreOpen frame.channel (counted frames frame) new
Spells frames new frame (Err Memory) = AreOpen frame.channel frames new
Spells frames new frame (Err fault) = NoCommand (frames ++ frame ∷ [])

-- The answer is this command, unless memory ran out.
abbrev pub IsAnswer : Whole → Result (Option Command) ContentFault → Type 0
IsAnswer whole (Ok (Some command)) = whole_of command ≡ whole
IsAnswer whole (Ok None) = ⊥
IsAnswer whole (Err Memory) = Unit {0}
IsAnswer whole (Err fault) = ⊥

-- What came of adding a frame to an open command: whether it is whole now.
abbrev pub Added : Option Open → Option Open → Frame → Result Bool ContentFault → Type 0
Added old new frame (Ok whole) = (part : Open) × (taken old frame ≡ Ok part) × (new ≡ Some part) × (whole ≡ is_whole part)
Added old new frame (Err Memory) = new ≡ old
Added old new frame (Err fault) = (taken old frame ≡ Err fault) × (new ≡ old)
