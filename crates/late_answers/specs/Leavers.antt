-- What is done for a leaver: a client that has left a logout which it had answered with success, or that leaves so soon behind one that was called off, and whose end is held back. It saved then and has changed nothing since, so each save of it is a success.
use Rattle.std.specs.Prelude.{ℕ, ◌-◌, ◌==◌, ◌&&◌, Bool, true, false, if◌then◌else◌, List, [], ◌∷◌, Option, Some}
use Rattle.ice_values.specs.declared.saves.SaveKind.TheVariants.{Local}
use Rattle.ice_values.specs.declared.saves.SaveStyle.TheVariants.{Nothing as NoDialog}
use Rattle.xsmp_messages.specs.declared.message.XsmpMessage.{XsmpMessage}
use Rattle.xsmp_messages.specs.declared.message.XsmpMessage.TheVariants.{Die, GetProperties, Interact, InteractDone, SaveComplete, SaveYourself, SaveYourselfDone, SaveYourselfPhase2, SaveYourselfRequest, ShutdownCancelled}
use Rattle.session_model.specs.declared.phase.Phase.{Phase}
use Rattle.session_model.specs.declared.phase.Phase.TheVariants.{Done, Idle, Interacting, InteractingTwo, Owing, Saving, SavingTwo}
use Rattle.late_answers.specs.declared.late.Late.{Late}
use Rattle.late_answers.specs.declared.leaver.Stay.{Stay}
use Rattle.late_answers.specs.declared.leaver.Stay.TheVariants.{Leaving, Waiting, Unasked, Unsaved, Saved as StaysSaved, Asking, Expected, Over}
use Rattle.late_answers.specs.declared.leaver.Leaver.{Leaver}
use Rattle.late_answers.specs.declared.leaver.Line.{Line}
use Rattle.late_answers.specs.declared.leaver.Line.TheVariants.{Nothing, Saved, TalkedAndSaved, AsksToSave, FailedAndAsks, AsksForProperties}
use Rattle.late_answers.specs.declared.leaver.Call.{Call}
use Rattle.late_answers.specs.declared.leaver.Call.TheVariants.{Saves, Talks, CallsOff, Completes, Ends, Else}
use Rattle.late_answers.specs.declared.leaver.Parting.{Parting}

-- ---- what is said in its place

abbrev pub messages_of : Line → List XsmpMessage
messages_of Nothing = []
messages_of Saved = SaveYourselfDone true ∷ []
messages_of TalkedAndSaved = InteractDone false ∷ SaveYourselfDone true ∷ []
messages_of AsksToSave = SaveYourselfRequest Local false NoDialog false false ∷ []
messages_of FailedAndAsks = SaveYourselfDone false ∷ SaveYourselfRequest Local false NoDialog false false ∷ []
messages_of AsksForProperties = GetProperties ∷ []

-- ---- what the manager sends

abbrev pub call_of : XsmpMessage → Call
call_of (SaveYourself kind shutdown style fast) = Saves
call_of SaveYourselfPhase2 = Saves
call_of Interact = Talks
call_of ShutdownCancelled = CallsOff
call_of SaveComplete = Completes
call_of Die = Ends
call_of m = Else

-- It answers a save with success. Who waited for its turn to answer waits no more.
abbrev pub stay_answered : Stay → Stay
stay_answered Leaving = Leaving
stay_answered Waiting = Unsaved
stay_answered Unasked = Unasked
stay_answered Unsaved = Unsaved
stay_answered StaysSaved = StaysSaved
stay_answered Asking = Asking
stay_answered Expected = Expected
stay_answered Over = Over

abbrev pub stay_called_off : Stay → Stay
stay_called_off Leaving = Unsaved
stay_called_off Waiting = Unsaved
stay_called_off Unasked = Unsaved
stay_called_off Unsaved = Unsaved
stay_called_off StaysSaved = StaysSaved
stay_called_off Asking = Asking
stay_called_off Expected = Expected
stay_called_off Over = Over

abbrev pub stay_completed : Stay → Stay
stay_completed Leaving = Over
stay_completed Waiting = Waiting
stay_completed Unasked = Unsaved
stay_completed Unsaved = StaysSaved
stay_completed StaysSaved = StaysSaved
stay_completed Asking = Asking
stay_completed Expected = Expected
stay_completed Over = Over

-- Die ends it, wherever it stands.
abbrev pub stay_behind : Call → Stay → Stay
stay_behind Saves stay = stay_answered stay
stay_behind Talks stay = stay_answered stay
stay_behind CallsOff stay = stay_called_off stay
stay_behind Completes stay = stay_completed stay
stay_behind Ends stay = Over
stay_behind Else stay = stay

-- What it had saved in the logout that is called off is to get into a checkpoint. Who waited for its turn owes its answer then.
abbrev pub request_at : Stay → Line
request_at Leaving = AsksToSave
request_at Waiting = FailedAndAsks
request_at Unasked = AsksToSave
request_at Unsaved = AsksToSave
request_at StaysSaved = Nothing
request_at Asking = Nothing
request_at Expected = Nothing
request_at Over = Nothing

-- The checkpoint is without what it had saved, where it has failed in that.
abbrev pub line_completed : Stay → Line
line_completed Leaving = Nothing
line_completed Waiting = Nothing
line_completed Unasked = AsksToSave
line_completed Unsaved = Nothing
line_completed StaysSaved = Nothing
line_completed Asking = Nothing
line_completed Expected = Nothing
line_completed Over = Nothing

abbrev pub line_for : Call → Stay → Line
line_for Saves stay = Saved
line_for Talks stay = TalkedAndSaved
line_for CallsOff stay = request_at stay
line_for Completes stay = line_completed stay
line_for Ends stay = Nothing
line_for Else stay = Nothing

abbrev pub parting : Line → Leaver → Parting
parting line g = record { line = line; leaver = g }

abbrev pub stays : Stay → Leaver → Leaver
stays stay g = record g { stay = stay }

abbrev pub leaver_told : XsmpMessage → Leaver → Parting
leaver_told m g = parting (line_for (call_of m) g.stay) (stays (stay_behind (call_of m) g.stay) g)

-- ---- from its leaving on

-- It is gone for two seconds before it is started again.
abbrev pub leaver_at : Stay → Leaver
leaver_at stay = record { stay = stay; ended = false; left = 2000 }

abbrev pub leaver_at_first : Leaver
leaver_at_first = leaver_at Leaving

-- It leaves in this phase, behind a logout that was called off: it answers what it owes, and asks for a save where none runs.
abbrev pub late_parting : Option Phase → Parting
late_parting (Some Idle) = parting AsksToSave (leaver_at Unsaved)
late_parting (Some Owing) = parting FailedAndAsks (leaver_at Unsaved)
late_parting (Some Saving) = parting Saved (leaver_at Unsaved)
late_parting (Some SavingTwo) = parting Saved (leaver_at Unsaved)
late_parting (Some Interacting) = parting TalkedAndSaved (leaver_at Unsaved)
late_parting (Some InteractingTwo) = parting TalkedAndSaved (leaver_at Unsaved)
late_parting (Some Done) = parting Nothing (leaver_at Unasked)
late_parting phase = parting Nothing (leaver_at Waiting)

-- what is said in its place at once, and what is known then
abbrev pub parting_of : Late → Parting
parting_of l = if l.gone then late_parting l.phase else parting Nothing leaver_at_first

abbrev pub leaver_ended : Leaver → Leaver
leaver_ended g = record g { ended = true }

abbrev pub is_asking : Stay → Bool
is_asking Leaving = false
is_asking Waiting = false
is_asking Unasked = false
is_asking Unsaved = false
is_asking StaysSaved = false
is_asking Asking = true
is_asking Expected = false
is_asking Over = false

abbrev pub is_over : Stay → Bool
is_over Leaving = false
is_over Waiting = false
is_over Unasked = false
is_over Unsaved = false
is_over StaysSaved = false
is_over Asking = false
is_over Expected = false
is_over Over = true

-- Its properties came. What starts it again is among them, and then it has a minute to come back, or it isn't, and its end is handed on.
abbrev pub leaver_known : Bool → Leaver → Leaver
leaver_known true g = record g { stay = Expected; left = 60000 }
leaver_known false g = stays Over g

-- ---- time

abbrev pub is_timed : Stay → Bool
is_timed Leaving = false
is_timed Waiting = false
is_timed Unasked = false
is_timed Unsaved = false
is_timed StaysSaved = true
is_timed Asking = false
is_timed Expected = true
is_timed Over = false

-- Time counts from the end of its stream.
abbrev pub leaver_waits : Leaver → Bool
leaver_waits g = g.ended && is_timed g.stay

abbrev pub stay_due : Stay → Stay
stay_due Leaving = Leaving
stay_due Waiting = Waiting
stay_due Unasked = Unasked
stay_due Unsaved = Unsaved
stay_due StaysSaved = Asking
stay_due Asking = Asking
stay_due Expected = Over
stay_due Over = Over

abbrev pub line_due : Stay → Line
line_due Leaving = Nothing
line_due Waiting = Nothing
line_due Unasked = Nothing
line_due Unsaved = Nothing
line_due StaysSaved = AsksForProperties
line_due Asking = Nothing
line_due Expected = Nothing
line_due Over = Nothing

abbrev pub leaver_due : Leaver → Parting
leaver_due g = parting (line_due g.stay) (stays (stay_due g.stay) g)

abbrev pub leaver_later : ℕ → Leaver → Leaver
leaver_later milliseconds g = record g { left = g.left - milliseconds }

abbrev pub leaver_passed : ℕ → Leaver → Parting
leaver_passed milliseconds g =
    if leaver_waits g then (if g.left - milliseconds == 0 then leaver_due (leaver_later milliseconds g) else parting Nothing (leaver_later milliseconds g))
    else parting Nothing g
