-- What the lines of a trace say.
use Rattle.std.specs.Prelude.{◌≡◌, ℕ, ◌<◌, ◌^◌, Bool, true, false, List, [], ◌∷◌, ◌++◌, codes}
use Rattle.std.specs.Fmt.{decimal}
use Rattle.control_lines.specs.Fields.{SaysBytes}
use Rattle.control_lines.specs.Script.{Says}
use Rattle.trace_replay.specs.Commands.{IsCommand}
use Rattle.trace_replay.specs.declared.lines.TraceLine.{TraceLine}
use Rattle.trace_replay.specs.declared.lines.TraceLine.TheVariants.{Heard, End, Sent, Shut, Started, Printed}

-- the word of a command that was started, and of one that couldn't be
abbrev pub started_word : Bool → List ℕ
started_word true = codes "started "
started_word false = codes "unstarted "

abbrev pub BeginsCommand : List ℕ → Bool → List ℕ → Type 0
BeginsCommand line succeeded text = line ≡ started_word succeeded ++ text

-- The line, without its newline, says this.
abbrev pub SaysLine : List ℕ → TraceLine → Type 0
SaysLine line (Heard event) = Says line event
SaysLine line End = line ≡ codes "end"
SaysLine line (Sent n bytes) = (fields : List ℕ) × (line ≡ codes "sent " ++ fields) × SaysBytes fields n bytes
SaysLine line (Shut n) = (line ≡ codes "shut " ++ decimal n) × (n < 2 ^ 32)
SaysLine line (Started succeeded text) = BeginsCommand line succeeded text × IsCommand text
SaysLine line (Printed text) = line ≡ codes "printed " ++ text

-- Each of the lines says the meaning in its place.
abbrev pub SayLines : List (List ℕ) → List TraceLine → Type 0
SayLines [] [] = Unit {0}
SayLines [] (said ∷ others) = ⊥
SayLines (line ∷ lines) [] = ⊥
SayLines (line ∷ lines) (said ∷ others) = SaysLine line said × SayLines lines others
