-- Where nothing stands against a client, its call comes to the client's own end or behind its last turn, with all done and printed, or to want of memory.
use Rattle.std.specs.Prelude.{◌≡◌, ◌⊎◌, ◌≤◌, ℕ, Bool, false, List, ◌++◌, length, map, Option, Some}
use Rattle.sm_world.specs.Effects.{heard}
use Rattle.sm_world.specs.Outside.{Outside, Rose}
use Rattle.sm_world.specs.declared.effects.Effect.{Effect}
use Rattle.sm_world.specs.declared.effects.Effect.TheVariants.{Printed}
use Rattle.sm_world.specs.declared.failures.Faults.{Faults}
use Rattle.client_callbacks.specs.Doing.{Follows, bytes_in, effects_in, lines_in}
use Rattle.client_callbacks.specs.Running.{answer_of}
use Rattle.client_callbacks.specs.Script.{Came, is_over, run_after, script, start}
use Rattle.client_callbacks.specs.declared.ends.Ending.{Ending}
use Rattle.client_peer.specs.Peers.{file_at, received}
use Rattle.client_words.specs.Reading.{AreChosen}
use Rattle.client_words.specs.declared.choices.Choices.{Choices}
use Rattle.ice_cookie.specs.declared.cookies.Cookie.{Cookie}
use Rattle.program_frame.specs.Printing.{line}
use Rattle.program_frame.specs.Programs.{status_by}
use Rattle.smclient_app.specs.Entries.{HasCookie}
use Rattle.smclient_app.specs.Faults.{end_of, fault_status}
use Rattle.smclient_app.specs.Joining.{Listens, NoReasons, remembers}
use Rattle.smclient_app.specs.Rules.{Answers as AnswersBy}
use Rattle.smclient_app.specs.Statuses.{Answers}

-- The count of the links didn't rise, nor that of the console.
pub record NoneRose (old new : Faults) : Type 0 where
  pub links : ¬ (Rose old.links new.links)
  pub console : ¬ (Rose old.console new.console)

-- The words are good, and the authority file that they name has this cookie for the socket that they name.
pub record LetsIn (words : List (List ℕ)) (files : Option (List (List ℕ × List ℕ))) (cookie : Cookie) : Type 0 where
  pub choices : Choices
  pub chosen : AreChosen words choices
  pub told : List (List ℕ × List ℕ)
  pub files_are : files ≡ Some told
  pub bytes : List ℕ
  pub found : file_at choices.authority.now told ≡ Some bytes
  pub has : HasCookie choices.socket.now bytes cookie

-- the status of a client's end
abbrev pub end_status : Ending → ℕ
end_status ending = status_by fault_status (end_of (answer_of ending))

-- It is the status of the end to which the client came, or 9 where it came to none in all its turns.
abbrev pub IsEndStatus : ℕ → Option Ending → ℕ → ℕ → Type 0
IsEndStatus status ending receives turns = ((end : Ending) × (ending ≡ Some end) × (status ≡ end_status end)) ⊎ ((is_over ending ≡ false) × (receives ≡ turns) × (status ≡ 9))

-- For what was received, and with the answers that the words give, all was done that the script says, each line that it notes was printed, and the status is that of its end.
pub record ComesToItsEnd (words : List (List ℕ)) (cookie : Cookie) (turns status : ℕ) (effects : List Effect) : Type 0 where
  pub choices : Choices
  pub chosen : AreChosen words choices
  pub cames : List Came
  pub heard_are : heard effects ≡ map received (bytes_in cames)
  pub last : Bool
  pub answered : Follows (AnswersBy choices) NoReasons Listens (script cookie choices.id.now choices.saves cames) (remembers false) (remembers last)
  pub done : effects ≡ effects_in (script cookie choices.id.now choices.saves cames) ++ map Printed (map line (lines_in (script cookie choices.id.now choices.saves cames)))
  pub in_turns : length cames ≤ turns
  pub ends : IsEndStatus status (run_after (start cookie choices.id.now choices.saves) cames).keeper.ending (length cames) turns

-- A call whose words and authority file let the client in, and in which no count rose, comes to the client's end, or answers 10.
abbrev pub CallsComplete : Type 0
CallsComplete = (words : List (List ℕ)) (cookie : Cookie) (old new : Outside) (turns status : ℕ) (effects : List Effect) → LetsIn words old.files cookie → NoneRose old.faults new.faults → Answers words old new turns status effects → ComesToItsEnd words cookie turns status effects ⊎ (status ≡ 10)
