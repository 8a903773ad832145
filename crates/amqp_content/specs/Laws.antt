-- What the definition of commands alone says.
use Rattle.std.specs.Prelude.{◌≡◌, ℕ, List, ◌++◌, Some}
use Rattle.amqp_frames.specs.declared.frame.Frame.{Frame}
use Rattle.amqp_content.specs.Steps.{Open, Whole}
use Rattle.amqp_content.specs.Commands.{IsCommand, AreOpen}

-- Frames are one command at most.
abbrev pub CommandsAreOne : Type 0
CommandsAreOne = (frames : List Frame) (v w : Whole) → IsCommand frames v → IsCommand frames w → v ≡ w

-- A part of a command is no command.
abbrev pub PartsAreNoCommands : Type 0
PartsAreNoCommands = (channel : ℕ) (frames : List Frame) (part : Open) (command : Whole) → AreOpen channel frames (Some part) → IsCommand frames command → ⊥

-- Each part of a command begins a command.
abbrev pub PartsBeginCommands : Type 0
PartsBeginCommands =
    (channel : ℕ) (frames : List Frame) (part : Open) → AreOpen channel frames (Some part) → (more : List Frame) × (command : Whole) × IsCommand (frames ++ more) command
