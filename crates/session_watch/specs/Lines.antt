-- What is answered to the question who is there: a line that says how many there are, and a line for each client.
use Rattle.std.specs.Prelude.{ℕ, ◌-◌, ◌==◌, ◌&&◌, not, nat_le, Bool, true, false, if◌then◌else◌, List, [], ◌∷◌, ◌++◌, codes, decimal, flat_map, Option, Some, None}
use Rattle.std.specs.Str.{bytes_eq}
use Rattle.hex.specs.Hex.{encode_lower}
use Rattle.ice_values.specs.declared.saves.SaveKind.{SaveKind}
use Rattle.ice_values.specs.declared.saves.SaveKind.TheVariants.{Global, Local, Both}
use Rattle.ice_values.specs.declared.saves.SaveStyle.{SaveStyle}
use Rattle.ice_values.specs.declared.saves.SaveStyle.TheVariants.{Nothing, Errors, Any}
use Rattle.session_watch.specs.Story.{Passage}
use Rattle.session_watch.specs.Knowing.{stage_of, is_logout, silent_since, asked_of, answered_of, id_of, program_of, holds_up}
use Rattle.session_watch.specs.declared.asking.Asked.{Asked}
use Rattle.session_watch.specs.declared.asking.Asked.TheVariants.{Save, Interaction, PhaseTwo, Complete, Cancelled, Death}
use Rattle.session_watch.specs.declared.asking.Answered.{Answered}
use Rattle.session_watch.specs.declared.asking.Answered.TheVariants.{Registered, SaveRequested, InteractRequested, InteractEnded, PhaseTwoRequested, Saved, Failed, Closed}
use Rattle.session_watch.specs.declared.stage.Stage.{Stage}
use Rattle.session_watch.specs.declared.stage.Stage.TheVariants.{Joining, Idle, Saving, Interacting, Waiting, Done, Dying, Unreadable}

-- the line that asks, without its newline; no order is spelled so
abbrev pub asks_who_is_there : List ℕ → Bool
asks_who_is_there line = bytes_eq line (codes "clients")

-- ---- words

abbrev pub yes_text : Bool → List ℕ
yes_text true = codes "yes"
yes_text false = codes "no"

abbrev pub stage_text : Stage → List ℕ
stage_text Joining = codes "joining"
stage_text Idle = codes "idle"
stage_text Saving = codes "saving"
stage_text Interacting = codes "interacting"
stage_text Waiting = codes "waiting"
stage_text Done = codes "done"
stage_text Dying = codes "dying"
stage_text Unreadable = codes "unreadable"

abbrev pub kind_text : SaveKind → List ℕ
kind_text Global = codes "global"
kind_text Local = codes "local"
kind_text Both = codes "both"

abbrev pub reason_text : Bool → List ℕ
reason_text true = codes "-logout-"
reason_text false = codes "-checkpoint-"

abbrev pub style_text : SaveStyle → List ℕ
style_text Nothing = codes "none"
style_text Errors = codes "errors"
style_text Any = codes "any"

abbrev pub haste_text : Bool → List ℕ
haste_text true = codes "-fast"
haste_text false = []

abbrev pub asked_word : Asked → List ℕ
asked_word (Save kind shutdown style fast) = codes "save-yourself-"
asked_word Interaction = codes "interact"
asked_word PhaseTwo = codes "save-yourself-phase2"
asked_word Complete = codes "save-complete"
asked_word Cancelled = codes "shutdown-cancelled"
asked_word Death = codes "die"

-- what kind of save is asked
abbrev pub save_text : Asked → List ℕ
save_text (Save kind shutdown style fast) = kind_text kind ++ reason_text shutdown ++ style_text style ++ haste_text fast
save_text Interaction = []
save_text PhaseTwo = []
save_text Complete = []
save_text Cancelled = []
save_text Death = []

abbrev pub asked_text : Option Asked → List ℕ
asked_text None = codes "none"
asked_text (Some asked) = asked_word asked ++ save_text asked

abbrev pub answered_text : Option Answered → List ℕ
answered_text None = codes "none"
answered_text (Some Registered) = codes "register-client"
answered_text (Some SaveRequested) = codes "save-yourself-request"
answered_text (Some InteractRequested) = codes "interact-request"
answered_text (Some InteractEnded) = codes "interact-done"
answered_text (Some PhaseTwoRequested) = codes "save-yourself-phase2-request"
answered_text (Some Saved) = codes "save-yourself-done"
answered_text (Some Failed) = codes "save-yourself-failed"
answered_text (Some Closed) = codes "connection-closed"

-- ---- texts

-- what ASCII prints, but for the blank and the backslash
abbrev pub is_plain : ℕ → Bool
is_plain b = nat_le 33 b && nat_le b 126 && not (b == 92)

-- any other byte is a backslash (92), an x (120) and two hex digits
abbrev pub byte_text : ℕ → List ℕ
byte_text b = if is_plain b then b ∷ [] else 92 ∷ 120 ∷ encode_lower (b ∷ [])

-- A hyphen stands for what isn't known; a text that is one is spelled in hex.
abbrev pub shown : List ℕ → List ℕ
shown text = if bytes_eq text (codes "-") then codes "\\x2d" else flat_map byte_text text

abbrev pub text_of : Option (List ℕ) → List ℕ
text_of None = codes "-"
text_of (Some text) = shown text

-- ---- lines

abbrev pub state_text : ℕ → Stage → Bool → ℕ → List ℕ
state_text conn stage logout silent = codes "conn=" ++ decimal conn ++ codes " holds=" ++ yes_text (holds_up stage) ++ codes " stage=" ++ stage_text stage ++ codes " logout=" ++ yes_text logout ++ codes " silent=" ++ decimal silent

abbrev pub talk_text : Option Asked → Option Answered → List ℕ
talk_text asked answered = codes " asked=" ++ asked_text asked ++ codes " answered=" ++ answered_text answered

abbrev pub names_text : Option (List ℕ) → Option (List ℕ) → List ℕ
names_text id program = codes " id=" ++ text_of id ++ codes " program=" ++ text_of program ++ codes "\n"

-- Of a client that somebody has answered for nobody waits for an answer: it is as far as if it had answered.
abbrev pub stage_excused : Stage → Stage
stage_excused Joining = Joining
stage_excused Idle = Idle
stage_excused Saving = Idle
stage_excused Interacting = Idle
stage_excused Waiting = Idle
stage_excused Done = Done
stage_excused Dying = Dying
stage_excused Unreadable = Unreadable

abbrev pub stage_shown : Bool → Stage → Stage
stage_shown true stage = stage_excused stage
stage_shown false stage = stage

-- the line of a client, answered for or not, whose connection has this number and began then, now
abbrev pub client_line : Bool → ℕ → ℕ → ℕ → List Passage → List ℕ
client_line excused conn now start story =
    state_text conn (stage_shown excused (stage_of story)) (is_logout story) (now - silent_since start story) ++ talk_text (asked_of story) (answered_of story) ++ names_text (id_of story) (program_of story)

-- the line in front of these
abbrev pub count_line : ℕ → List ℕ
count_line count = codes "clients " ++ decimal count ++ codes "\n"

-- a client that is listed: whether somebody has answered for it, the number of its connection, when it began, and what passed on it
pub record Listed : Type 0 where
  pub excused : Bool
  pub conn : ℕ
  pub start : ℕ
  pub story : List Passage

-- the whole answer, now, of the clients in the order in which they came
abbrev pub answer_text : ℕ → ℕ → List Listed → List ℕ
answer_text count now clients = count_line count ++ flat_map (λ (c : Listed). client_line c.excused c.conn now c.start c.story) clients
