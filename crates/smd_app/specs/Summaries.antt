-- The summary of an exercise.
use Rattle.std.specs.Prelude.{◌≡◌, ℕ, ◌+◌, List, [], ◌∷◌, ◌++◌, length, codes}
use Rattle.std.specs.Fmt.{decimal}
use Rattle.sm_world.specs.Effects.{Sends, Shuts, Starts, Prints}
use Rattle.sm_world.specs.declared.events.Event.{Event}
use Rattle.program_frame.specs.Printing.{line}
use Rattle.session_engine.specs.Acts.{commits_in}
use Rattle.session_engine.specs.Machine.{Item, Came, Did}
use Rattle.smd_app.specs.Rehearsals.{whole_run, whole_script}

abbrev pub came_by : Item → ℕ
came_by (Came event) = 1
came_by (Did deed) = 0

abbrev pub sent_by : Item → ℕ
sent_by (Came event) = 0
sent_by (Did (Sends conn bytes)) = length bytes
sent_by (Did (Shuts conn)) = 0
sent_by (Did (Starts command)) = 0
sent_by (Did (Prints text)) = 0

-- how many events there are among what a run shows
abbrev pub came_in : List Item → ℕ
came_in [] = 0
came_in (item ∷ shown) = came_by item + came_in shown

-- how many bytes are sent
abbrev pub sent_in : List Item → ℕ
sent_in [] = 0
sent_in (item ∷ shown) = sent_by item + sent_in shown

abbrev pub summary : ℕ → ℕ → ℕ → List ℕ
summary events bytes commits = codes "exercise: " ++ (decimal events ++ (codes " events, " ++ (decimal bytes ++ (codes " bytes sent, " ++ (decimal commits ++ line (codes " commits"))))))

-- The summary of the run of these events, whose patience is 0: how many came, how many bytes were sent, and how many checkpoints the machine committed.
abbrev pub IsSummary : List Event → List ℕ → Type 0
IsSummary events text = text ≡ summary (came_in (whole_run 0 events)) (sent_in (whole_run 0 events)) (commits_in (whole_script 0 events))
