-- What is done about each message of a client and of its manager where a logout was called off before the client had answered. Whatever passes, and whatever the manager hears in the client's place, changes the client's phase by the manager's own table.
use Rattle.std.specs.Prelude.{ℕ, ◌+◌, ◌-◌, ◌==◌, ◌&&◌, ◌||◌, min, nat_lt, not, Bool, true, false, if◌then◌else◌, Option, Some, None}
use Rattle.ice_values.specs.declared.saves.SaveStyle.{SaveStyle}
use Rattle.ice_values.specs.declared.saves.SaveStyle.TheVariants.{Any, Errors, Nothing}
use Rattle.ice_values.specs.declared.saves.Dialog.{Dialog}
use Rattle.ice_values.specs.declared.saves.Dialog.TheVariants.{Error as AboutError, Normal}
use Rattle.xsmp_messages.specs.declared.message.XsmpMessage.{XsmpMessage}
use Rattle.xsmp_messages.specs.declared.message.XsmpMessage.TheVariants.{ConnectionClosed, Interact, InteractDone, InteractRequest, SaveComplete, SaveYourself, SaveYourselfDone, SaveYourselfPhase2Request, ShutdownCancelled}
use Rattle.round_agreement.specs.declared.wanted.Wanted.{Wanted}
use Rattle.session_model.specs.Phases.{is_bound, is_interacting, is_owing, is_saving, is_shutdown, may_interact, phase_given, phase_said}
use Rattle.session_model.specs.declared.phase.Phase.{Phase}
use Rattle.session_model.specs.declared.phase.Phase.TheVariants.{Asked, AskedTwo, Done, Idle, Interacting, InteractingTwo, Saving, SavingTwo, Unregistered, WantsTwo}
use Rattle.late_answers.specs.declared.late.Debt.{Debt}
use Rattle.late_answers.specs.declared.late.Debt.TheVariants.{Paid, Talks, Works, Waits}
use Rattle.late_answers.specs.declared.late.Save.{Save}
use Rattle.late_answers.specs.declared.late.Save.TheVariants.{Shown, Held, Hidden}
use Rattle.late_answers.specs.declared.late.Late.{Late}
use Rattle.late_answers.specs.declared.outcome.Outgoing.{Outgoing}
use Rattle.late_answers.specs.declared.outcome.Outgoing.TheVariants.{Itself, BehindPing, HeldSave, NoBytes}
use Rattle.late_answers.specs.declared.outcome.Word.{Word}
use Rattle.late_answers.specs.declared.outcome.Word.TheVariants.{Failed, AsksFor, TalkOver}
use Rattle.late_answers.specs.declared.outcome.Outcome.{Outcome}
use Rattle.late_answers.specs.declared.outcome.Said.{Said}
use Rattle.late_answers.specs.declared.telling.Order.{Order}
use Rattle.late_answers.specs.declared.telling.Order.TheVariants.{Saves, GivesToken, CallsOff, Completes, Other}
use Rattle.late_answers.specs.declared.saying.Step.{Step}
use Rattle.late_answers.specs.declared.saying.Step.TheVariants.{AsksToTalk, HasTalked, WantsSecond, HasSaved, Leaves, Besides}

-- ---- what is owed

abbrev pub is_paid : Debt → Bool
is_paid Paid = true
is_paid Talks = false
is_paid Works = false
is_paid Waits = false

abbrev pub is_dialog : Debt → Bool
is_dialog Paid = false
is_dialog Talks = true
is_dialog Works = false
is_dialog Waits = false

-- Who owes nothing is asked anew, and so is who waits and may never answer.
abbrev pub is_idle : Debt → Bool
is_idle Paid = true
is_idle Talks = false
is_idle Works = false
is_idle Waits = true

abbrev pub behind_dialog : Debt → Debt
behind_dialog Paid = Paid
behind_dialog Talks = Works
behind_dialog Works = Works
behind_dialog Waits = Waits

-- what a client owes whose logout is called off in this phase
abbrev pub debt_at : Option Phase → Debt
debt_at (Some Saving) = Works
debt_at (Some SavingTwo) = Works
debt_at (Some Interacting) = Talks
debt_at (Some InteractingTwo) = Talks
debt_at (Some Asked) = Waits
debt_at (Some AskedTwo) = Waits
debt_at (Some WantsTwo) = Waits
debt_at phase = Paid

abbrev pub is_done : Option Phase → Bool
is_done (Some Done) = true
is_done phase = false

-- it is registered and saves nothing now
abbrev pub is_resting : Option Phase → Bool
is_resting (Some Idle) = true
is_resting (Some Done) = true
is_resting phase = false

-- it has no save to answer
abbrev pub is_at_rest : Option Phase → Bool
is_at_rest (Some Unregistered) = true
is_at_rest (Some Idle) = true
is_at_rest phase = false

abbrev pub is_shown : Save → Bool
is_shown Shown = true
is_shown Held = false
is_shown Hidden = false

abbrev pub is_held : Save → Bool
is_held Shown = false
is_held Held = true
is_held Hidden = false

abbrev pub is_hidden : Save → Bool
is_hidden Shown = false
is_hidden Held = false
is_hidden Hidden = true

-- ---- what is known at first, and what each message does to the phase

abbrev pub at_first : Late
at_first = record {
  phase = Some Unregistered;
  wanted = None;
  debt = Paid;
  save = Shown;
  posing = false;
  pings = 0;
  wary = false;
  answered = true;
  left = 0;
  saved = false;
  lately = 0;
  gone = false;
}

abbrev pub message_of : Word → XsmpMessage
message_of Failed = SaveYourselfDone false
message_of (AsksFor dialog) = InteractRequest dialog
message_of TalkOver = InteractDone false

-- Nothing of it is late, and no logout runs for it.
abbrev pub is_calm : Late → Bool
is_calm l = not l.wary && is_shown l.save && not l.posing && l.pings == 0 && is_at_rest l.phase

-- Somebody has answered for it, and it hasn't answered itself: nobody waits for it, unless a save is kept back for it.
abbrev pub is_excused : Late → Bool
is_excused l = not (is_paid l.debt) && not (is_held l.save) && not (is_owing l.phase)

-- the manager sends this
abbrev pub given : XsmpMessage → Late → Late
given m l = record l { phase = phase_given m l.phase }

-- the manager hears this word in the client's place
abbrev pub speaking : Word → Late → Late
speaking word l = record l { phase = phase_said (may_interact l.wanted) (message_of word) l.phase }

-- ---- what is done

abbrev pub outcome : Outgoing → Option Word → Late → Outcome
outcome outgoing word l = record { outgoing = outgoing; word = word; late = l }

abbrev pub as_it_came : Late → Outcome
as_it_came l = outcome Itself None l

abbrev pub spoken : Outgoing → Word → Late → Outcome
spoken outgoing word l = outcome outgoing (Some word) (speaking word l)

-- a message of the client's goes on
abbrev pub passing : Late → Said
passing l = record { passes = true; outgoing = NoBytes; word = None; late = l }

-- it is taken away, and this is done
abbrev pub taken : Outcome → Said
taken o = record { passes = false; outgoing = o.outgoing; word = o.word; late = o.late }

-- ---- SaveYourself

-- It goes out behind a Ping: what the client says before it has answered that is of an older save. What it waited for is over.
abbrev pub pinged : Late → Late
pinged l = record l { save = Shown; debt = Paid; pings = min (l.pings + 1) 18446744073709551615 }

-- it is kept back, and the manager waits
abbrev pub hold : Late → Outcome
hold l = outcome NoBytes None (record l { save = Held })

-- it is answered in the client's place: the manager doesn't wait
abbrev pub hide : Late → Outcome
hide l = spoken NoBytes Failed (record l { save = Hidden })

-- the dialog that is asked for in the client's place: one that the save allows
abbrev pub allowed_dialog : SaveStyle → Option Dialog
allowed_dialog Any = Some Normal
allowed_dialog Errors = Some AboutError
allowed_dialog Nothing = None

-- A dialog stands, so it is kept back where one that talks waits, and else as where one saves.
abbrev pub pose : Option Dialog → Late → Outcome
pose None l = hold l
pose (Some dialog) l = spoken NoBytes (AsksFor dialog) (record l { save = Held; posing = true })

-- to who may still answer an older save
abbrev pub asked_wary : Debt → Wanted → Late → Outcome
asked_wary Paid w l = outcome BehindPing None (pinged l)
asked_wary Waits w l = outcome BehindPing None (pinged l)
asked_wary Talks w l = if w.shutdown then pose (allowed_dialog w.style) l else hide l
asked_wary Works w l = if w.shutdown then hold l else hide l

abbrev pub asked : Wanted → Late → Outcome
asked w l = if l.wary then asked_wary l.debt w (record l { wanted = Some w; save = Shown; saved = false }) else as_it_came (record l { wanted = Some w; save = Shown; saved = false })

-- ---- Interact, and what it owes otherwise

-- The token that was asked for in its place goes back, once the dialog is over.
abbrev pub gives_back : Late → Bool
gives_back l = l.posing && is_interacting l.phase && not (is_dialog l.debt)

-- A SaveYourself that was kept back goes out to who isn't at work any more.
abbrev pub goes_out : Late → Bool
goes_out l = is_held l.save && not l.posing && is_idle l.debt

abbrev pub freed : Option Word → Late → Outcome
freed word l = if goes_out l then outcome HeldSave word (pinged l) else outcome NoBytes word l

abbrev pub settled : Late → Outcome
settled l = if gives_back l then freed (Some TalkOver) (speaking TalkOver (record l { posing = false })) else freed None l

abbrev pub with_token : Late → Outcome
with_token l = if l.posing then settled l else as_it_came l

-- ---- ShutdownCancelled

-- In two seconds it is answered for.
abbrev pub owing : Debt → Late → Late
owing debt l = record l { debt = debt; wary = true; answered = false; left = 2000 }

-- Who had answered may do so once more, and where it had saved with success, it may leave for two seconds as if the logout weren't called off.
abbrev pub owing_nothing : Bool → Late → Late
owing_nothing was_done l = record l { wary = was_done || l.wary; lately = if was_done && l.saved then 2000 else l.lately }

-- Who talks is answered for at once.
abbrev pub called_off_owing : Debt → Bool → Late → Outcome
called_off_owing Paid was_done l = as_it_came (owing_nothing was_done l)
called_off_owing Talks was_done l = spoken Itself Failed (owing Talks l)
called_off_owing Works was_done l = as_it_came (owing Works l)
called_off_owing Waits was_done l = as_it_came (owing Waits l)

-- A client that doesn't know of the logout isn't told, and is answered for.
abbrev pub called_off_unseen : Late → Outcome
called_off_unseen l = spoken NoBytes Failed (record l { save = Shown; posing = false })

abbrev pub called_off : XsmpMessage → Late → Outcome
called_off m l = if is_held l.save then called_off_unseen (given m l) else called_off_owing (debt_at l.phase) (is_done l.phase) (given m l)

-- ---- SaveComplete

-- A client that doesn't know of the save isn't told.
abbrev pub completed : Late → Outcome
completed l = if is_hidden l.save then outcome NoBytes None (record l { save = Shown }) else as_it_came l

-- ---- any message of the manager's

abbrev pub order_of : XsmpMessage → Order
order_of (SaveYourself kind shutdown style fast) = Saves (record { only = None; from = None; kind = kind; shutdown = shutdown; style = style; fast = fast })
order_of Interact = GivesToken
order_of ShutdownCancelled = CallsOff
order_of SaveComplete = Completes
order_of m = Other

abbrev pub told_by : Order → XsmpMessage → Late → Outcome
told_by (Saves w) m l = asked w (given m l)
told_by GivesToken m l = with_token (given m l)
told_by CallsOff m l = called_off m l
told_by Completes m l = completed (given m l)
told_by Other m l = as_it_came (given m l)

abbrev pub told : XsmpMessage → Late → Outcome
told m l = told_by (order_of m) m l

-- ---- a client's answers

abbrev pub step_of : XsmpMessage → Step
step_of (InteractRequest dialog) = AsksToTalk
step_of (InteractDone cancel) = HasTalked
step_of SaveYourselfPhase2Request = WantsSecond
step_of (SaveYourselfDone success) = HasSaved
step_of (ConnectionClosed reasons) = Leaves
step_of m = Besides

abbrev pub is_cancel : XsmpMessage → Bool
is_cancel (InteractDone cancel) = cancel
is_cancel m = false

abbrev pub saved_behind : XsmpMessage → Bool → Bool
saved_behind (SaveYourselfDone success) saved = success
saved_behind m saved = saved

-- Who calls its logout off has talked.
abbrev pub phase_behind : Option Wanted → XsmpMessage → Option Phase → Option Phase
phase_behind wanted m phase = if is_cancel m && is_shutdown wanted then phase_said (may_interact wanted) (InteractDone false) phase else phase_said (may_interact wanted) m phase

-- Before a Ping is answered, an answer is of an older save.
abbrev pub answered_early : Step → Late → Late
answered_early HasSaved l = record l { answered = l.answered || is_paid l.debt }
answered_early AsksToTalk l = l
answered_early HasTalked l = l
answered_early WantsSecond l = l
answered_early Leaves l = l
answered_early Besides l = l

abbrev pub answered_late : Step → Late → Late
answered_late HasSaved l = record l { debt = Paid; answered = true }
answered_late HasTalked l = record l { debt = behind_dialog l.debt }
answered_late AsksToTalk l = record l { debt = Waits }
answered_late WantsSecond l = record l { debt = Waits }
answered_late Leaves l = l
answered_late Besides l = l

abbrev pub answered_owing : Step → Late → Late
answered_owing HasTalked l = record l { debt = Works }
answered_owing HasSaved l = answered_late HasSaved l
answered_owing AsksToTalk l = answered_late AsksToTalk l
answered_owing WantsSecond l = answered_late WantsSecond l
answered_owing Leaves l = l
answered_owing Besides l = l

-- The manager would refuse it.
abbrev pub has_no_place : Step → Option Phase → Bool
has_no_place HasSaved phase = not (is_saving phase)
has_no_place AsksToTalk phase = is_resting phase
has_no_place HasTalked phase = is_resting phase
has_no_place WantsSecond phase = is_resting phase
has_no_place Leaves phase = false
has_no_place Besides phase = false

-- It is to a save that was called off.
abbrev pub is_late : Step → Late → Bool
is_late step l = not (is_shown l.save) || l.wary && has_no_place step l.phase

-- said of the save that it was asked for last
abbrev pub behind : XsmpMessage → Late → Late
behind m l = record l { phase = phase_behind l.wanted m l.phase; saved = saved_behind m l.saved }

-- Said of the save of a logout that was called off: where that has succeeded, it may leave for two seconds as if the logout weren't called off.
abbrev pub said_lately : XsmpMessage → Late → Late
said_lately m l = record l { lately = if saved_behind m false then 2000 else l.lately }

-- The first that fits: said before a Ping was answered; owed to the manager; late; of the save that runs.
abbrev pub answers : Step → XsmpMessage → Late → Said
answers step m l =
    if nat_lt 0 l.pings then taken (outcome NoBytes None (answered_early step (said_lately m l)))
    else if is_owing l.phase then passing (answered_owing step (behind m (said_lately m l)))
    else if is_late step l then taken (settled (answered_late step (said_lately m l)))
    else passing (behind m l)

-- It closes: where it is bound to the session and may leave as if its logout weren't called off, its end is held back.
abbrev pub closed : Late → Late
closed l = record l { gone = l.gone || nat_lt 0 l.lately && is_bound l.phase }

abbrev pub said_by : Step → XsmpMessage → Late → Said
said_by AsksToTalk m l = answers AsksToTalk m l
said_by HasTalked m l = answers HasTalked m l
said_by WantsSecond m l = answers WantsSecond m l
said_by HasSaved m l = answers HasSaved m l
said_by Leaves m l = passing (closed l)
said_by Besides m l = passing l

abbrev pub said : XsmpMessage → Late → Said
said m l = said_by (step_of m) m l

-- ---- PingReply

-- Behind the last one, who owes nothing has no more old answers to give. Who answers a Ping stays.
abbrev pub ping_answered : Late → Late
ping_answered l = record l { pings = l.pings - 1; wary = l.wary && not (l.pings - 1 == 0 && l.answered && is_paid l.debt); lately = 0 }

abbrev pub replied : Late → Said
replied l = if nat_lt 0 l.pings then taken (outcome NoBytes None (ping_answered l)) else passing l

-- ---- time

abbrev pub later : ℕ → Late → Late
later milliseconds l = record l { left = l.left - milliseconds; lately = l.lately - milliseconds }

-- It owes an answer for which the manager waits, or may leave as if its logout weren't called off.
abbrev pub waits : Late → Bool
waits l = is_owing l.phase || nat_lt 0 l.lately

-- Who owes an answer for which the manager waits is answered for once the two seconds are over.
abbrev pub passed : ℕ → Late → Outcome
passed milliseconds l = if is_owing l.phase && l.left - milliseconds == 0 then spoken NoBytes Failed (later milliseconds l) else outcome NoBytes None (later milliseconds l)
