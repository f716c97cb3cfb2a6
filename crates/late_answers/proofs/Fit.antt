-- The states that are reached.
use Rattle.std.proofs.Common.{◌≡◌, ◌⊎◌, inl, inr, ℕ, ◌-◌, Bool, true, false, Option, None, Some, refl, sym, subst, ◌∙◌}
use Rattle.std.specs.Prelude.{◌==◌, ◌&&◌, ◌||◌, not, nat_lt, if◌then◌else◌}
use Rattle.std.proofs.lemmas.Bool.{and_parts, false≢true, not-true, or_cases}
use Rattle.ice_values.specs.declared.saves.SaveStyle.{SaveStyle}
use Rattle.ice_values.specs.declared.saves.SaveStyle.TheVariants.{Any, Errors, Nothing}
use Rattle.xsmp_messages.specs.declared.message.XsmpMessage.{XsmpMessage}
use Rattle.xsmp_messages.specs.declared.message.XsmpMessage.TheVariants.{Die, Interact, RegisterClientReply, SaveComplete, SaveYourself, SaveYourselfPhase2, ShutdownCancelled}
use Rattle.round_agreement.specs.declared.wanted.Wanted.{Wanted}
use Rattle.session_model.specs.Phases.{begun_phase, is_asked, is_interacting, is_member, is_owing, is_shutdown, registered_phase}
use Rattle.session_model.specs.declared.phase.Phase.{Phase}
use Rattle.session_model.specs.declared.phase.Phase.TheVariants.{Asked, AskedTwo, Done, Idle, Interacting, InteractingTwo, Saving, Unregistered}
use Rattle.late_answers.specs.Late.{allowed_dialog, answered_early, answered_late, answered_owing, answers, as_it_came, asked_wary, behind, called_off_owing, debt_at, freed, given, gives_back, goes_out, hide, hold, is_done, is_dialog, is_held, is_hidden, is_idle, is_late, is_shown, later, message_of, order_of, outcome, pose, said_by, said_lately, settled, speaking, spoken, step_of, told}
use Rattle.late_answers.specs.Laws.{fits, may_come}
use Rattle.late_answers.specs.LeaverLaws.{is_idle_phase, wants_two}
use Rattle.late_answers.specs.Reached.{is_fit, is_sent, StatesAreFit}
use Rattle.late_answers.specs.declared.late.Debt.{Debt}
use Rattle.late_answers.specs.declared.late.Debt.TheVariants.{Paid, Talks, Works, Waits}
use Rattle.late_answers.specs.declared.late.Save.{Save}
use Rattle.late_answers.specs.declared.late.Save.TheVariants.{Shown, Held, Hidden}
use Rattle.late_answers.specs.declared.late.Late.{Late}
use Rattle.late_answers.specs.declared.outcome.Outgoing.TheVariants.{NoBytes}
use Rattle.late_answers.specs.declared.outcome.Said.{Said}
use Rattle.session_model.specs.Replies.{has_place}
use Rattle.late_answers.specs.declared.outcome.Word.{Word}
use Rattle.late_answers.specs.declared.outcome.Word.TheVariants.{Failed, TalkOver}
use Rattle.late_answers.specs.declared.saying.Step.{Step}
use Rattle.late_answers.specs.declared.saying.Step.TheVariants.{AsksToTalk, HasTalked, WantsSecond, HasSaved, Leaves, Besides}
use Rattle.late_answers.specs.declared.telling.Order.TheVariants.{Completes, GivesToken, Saves}
use Rattle.late_answers.proofs.Parted.{either}
use Rattle.late_answers.proofs.Placed.{failed_placed, freed_word, no_word, settled_word, words_have_their_place}

fits_so : (l : Late) → is_fit l ≡ true → fits l.save l.posing l.phase ≡ true
fits_so l fit = (and_parts (fits l.save l.posing l.phase) (not (is_hidden l.save && is_shutdown l.wanted)) fit).0

-- ---- where nothing is kept back or hidden

abbrev IsOpen : Save → Bool → Type 0
IsOpen save posing = (save ≡ Shown) × (posing ≡ false)

open_fits : (l : Late) → IsOpen l.save l.posing → is_fit l ≡ true
open_fits l is = rw (is.0, is.1) refl

open_idle : (save : Save) (posing : Bool) (phase : Option Phase) → fits save posing phase ≡ true → is_idle_phase phase ≡ true → IsOpen save posing
open_idle Shown false phase fit idle = (refl, refl)
open_idle Held false (Some Saving) fit idle = absurd (false≢true idle)
open_idle Held true (Some Asked) fit idle = absurd (false≢true idle)
open_idle Held true (Some Interacting) fit idle = absurd (false≢true idle)
open_idle Hidden false (Some Done) fit idle = absurd (false≢true idle)
open_idle save posing phase fit idle = absurd (false≢true fit)

open_two : (save : Save) (posing : Bool) (phase : Option Phase) → fits save posing phase ≡ true → wants_two phase ≡ true → IsOpen save posing
open_two Shown false phase fit wants = (refl, refl)
open_two Held false (Some Saving) fit wants = absurd (false≢true wants)
open_two Held true (Some Asked) fit wants = absurd (false≢true wants)
open_two Held true (Some Interacting) fit wants = absurd (false≢true wants)
open_two Hidden false (Some Done) fit wants = absurd (false≢true wants)
open_two save posing phase fit wants = absurd (false≢true fit)

open_owing : (save : Save) (posing : Bool) (phase : Option Phase) → fits save posing phase ≡ true → is_owing phase ≡ true → IsOpen save posing
open_owing Shown false phase fit owes = (refl, refl)
open_owing Held false (Some Saving) fit owes = absurd (false≢true owes)
open_owing Held true (Some Asked) fit owes = absurd (false≢true owes)
open_owing Held true (Some Interacting) fit owes = absurd (false≢true owes)
open_owing Hidden false (Some Done) fit owes = absurd (false≢true owes)
open_owing save posing phase fit owes = absurd (false≢true fit)

open_shown : (save : Save) (posing : Bool) (phase : Option Phase) → fits save posing phase ≡ true → is_shown save ≡ true → IsOpen save posing
open_shown Shown false phase fit shown = (refl, refl)
open_shown Held posing phase fit shown = absurd (false≢true shown)
open_shown Hidden posing phase fit shown = absurd (false≢true shown)
open_shown save posing phase fit shown = absurd (false≢true fit)

-- in a logout nothing is hidden
open_in_logout : (save : Save) (posing : Bool) (phase : Option Phase) (shutdown : Bool) → fits save posing phase ≡ true → not (is_hidden save && shutdown) ≡ true → is_held save ≡ false → shutdown ≡ true → IsOpen save posing
open_in_logout Shown false phase shutdown fit seen held is = (refl, refl)
open_in_logout Held posing phase shutdown fit seen held is = absurd (false≢true (sym held))
open_in_logout Hidden posing phase true fit seen held is = absurd (false≢true seen)
open_in_logout Hidden posing phase false fit seen held is = absurd (false≢true is)
open_in_logout save posing phase shutdown fit seen held is = absurd (false≢true fit)

unheld_done : (save : Save) (posing : Bool) (phase : Option Phase) → fits save posing phase ≡ true → is_done phase ≡ true → is_held save ≡ false
unheld_done Shown posing phase fit done = refl
unheld_done Hidden posing phase fit done = refl
unheld_done Held false (Some Saving) fit done = absurd (false≢true done)
unheld_done Held true (Some Asked) fit done = absurd (false≢true done)
unheld_done Held true (Some Interacting) fit done = absurd (false≢true done)
unheld_done save posing phase fit done = absurd (false≢true fit)

free_done : (save : Save) (posing : Bool) (phase : Option Phase) → fits save posing phase ≡ true → is_done phase ≡ true → posing ≡ false
free_done save false phase fit done = refl
free_done Held true (Some Asked) fit done = absurd (false≢true done)
free_done Held true (Some Interacting) fit done = absurd (false≢true done)
free_done save posing phase fit done = absurd (false≢true fit)

-- ---- SaveYourself

posed_fits : (style : SaveStyle) (w : Wanted) (b : Late) → w.style ≡ style → b.posing ≡ false → b.phase ≡ Some Saving → b.wanted ≡ Some w → is_fit (pose (allowed_dialog style) b).late ≡ true
posed_fits Any w b style free saves wants = rw (wants, saves, style) refl
posed_fits Errors w b style free saves wants = rw (wants, saves, style) refl
posed_fits Nothing w b style free saves wants = rw (free, saves) refl

hid_fits : (w : Wanted) (b : Late) → w.shutdown ≡ false → b.posing ≡ false → b.phase ≡ Some Saving → b.wanted ≡ Some w → is_fit (hide b).late ≡ true
hid_fits w b off free saves wants = rw (free, saves, wants, off) refl

held_fits : (b : Late) → b.posing ≡ false → b.phase ≡ Some Saving → is_fit (hold b).late ≡ true
held_fits b free saves = rw (free, saves) refl

talks_fit : (shutdown : Bool) (w : Wanted) (b : Late) → w.shutdown ≡ shutdown → b.posing ≡ false → b.phase ≡ Some Saving → b.wanted ≡ Some w → is_fit (if shutdown then pose (allowed_dialog w.style) b else hide b).late ≡ true
talks_fit true w b is free saves wants = posed_fits w.style w b refl free saves wants
talks_fit false w b is free saves wants = hid_fits w b is free saves wants

works_fit : (shutdown : Bool) (w : Wanted) (b : Late) → w.shutdown ≡ shutdown → b.posing ≡ false → b.phase ≡ Some Saving → b.wanted ≡ Some w → is_fit (if shutdown then hold b else hide b).late ≡ true
works_fit true w b is free saves wants = held_fits b free saves
works_fit false w b is free saves wants = hid_fits w b is free saves wants

asked_fits : (wary : Bool) (debt : Debt) (w : Wanted) (b : Late) → b.save ≡ Shown → b.posing ≡ false → b.phase ≡ Some Saving → b.wanted ≡ Some w → is_fit (if wary then asked_wary debt w b else as_it_came b).late ≡ true
asked_fits false debt w b shown free saves wants = open_fits b (shown, free)
asked_fits true Paid w b shown free saves wants = rw free refl
asked_fits true Waits w b shown free saves wants = rw free refl
asked_fits true Talks w b shown free saves wants = talks_fit w.shutdown w b refl free saves wants
asked_fits true Works w b shown free saves wants = works_fit w.shutdown w b refl free saves wants

begun : (phase : Option Phase) → is_idle_phase phase ≡ true → begun_phase phase ≡ Some Saving
begun (Some Idle) idle = refl
begun phase idle = absurd (false≢true idle)

-- ---- once it owes something else, or has the token

posing_held : (save : Save) (phase : Option Phase) → fits save true phase ≡ true → is_interacting phase ≡ true → (save ≡ Held) × (phase ≡ Some Interacting)
posing_held Held (Some Interacting) fit has = (refl, refl)
posing_held Held (Some Asked) fit has = absurd (false≢true has)
posing_held save phase fit has = absurd (false≢true fit)

freed_fits : (goes : Bool) (l : Late) → is_fit l ≡ true → goes_out l ≡ goes → is_fit (freed None l).late ≡ true
freed_fits true l fit is =
    let free : l.posing ≡ false = not-true l.posing (and_parts (is_held l.save) (not l.posing) (and_parts (is_held l.save && not l.posing) (is_idle l.debt) is).0).1 in
    rw (is, free) refl
freed_fits false l fit is = rw is fit

back_fits : (goes : Bool) (l : Late) → l.save ≡ Held → l.phase ≡ Some Interacting → goes_out (speaking TalkOver (record l { posing = false })) ≡ goes → is_fit (freed (Some TalkOver) (speaking TalkOver (record l { posing = false }))).late ≡ true
back_fits true l held has is = rw is refl
back_fits false l held has is = rw (is, held, has) refl

settled_fits : (back : Bool) (l : Late) → is_fit l ≡ true → gives_back l ≡ back → is_fit (settled l).late ≡ true
settled_fits true l fit is =
    let poses = and_parts l.posing (is_interacting l.phase) (and_parts (l.posing && is_interacting l.phase) (not (is_dialog l.debt)) is).0 in
    let at = posing_held l.save l.phase (subst (λ (b : Bool). fits l.save b l.phase ≡ true) poses.0 (fits_so l fit)) poses.1 in
    rw is (back_fits (goes_out (speaking TalkOver (record l { posing = false }))) l at.0 at.1 refl)
settled_fits false l fit is = rw is (freed_fits (goes_out l) l fit refl)

-- ---- Interact

posing_asked : (save : Save) (phase : Option Phase) → fits save true phase ≡ true → is_asked phase ≡ true → (save ≡ Held) × (phase ≡ Some Asked)
posing_asked Held (Some Asked) fit asks = (refl, refl)
posing_asked Held (Some Interacting) fit asks = absurd (false≢true asks)
posing_asked save phase fit asks = absurd (false≢true fit)

open_asked : (save : Save) (phase : Option Phase) → fits save false phase ≡ true → is_asked phase ≡ true → save ≡ Shown
open_asked Shown phase fit asks = refl
open_asked Held (Some Saving) fit asks = absurd (false≢true asks)
open_asked Hidden (Some Done) fit asks = absurd (false≢true asks)
open_asked save phase fit asks = absurd (false≢true fit)

given_token : (posing : Bool) (l : Late) → l.posing ≡ posing → fits l.save posing l.phase ≡ true → is_asked l.phase ≡ true → is_fit (given Interact l) ≡ true
given_token true l is fit asks = let at = posing_asked l.save l.phase fit asks in rw (is, at.0, at.1) refl
given_token false l is fit asks = open_fits (given Interact l) (open_asked l.save l.phase fit asks, is)

token_fits : (posing : Bool) (l : Late) → is_fit l ≡ true → is_fit (if posing then settled l else as_it_came l).late ≡ true
token_fits true l fit = settled_fits (gives_back l) l fit refl
token_fits false l fit = fit

-- ---- what ends a save

shown_by : (save : Save) → is_held save ≡ false → is_hidden save ≡ false → save ≡ Shown
shown_by Shown held hidden = refl
shown_by Held held hidden = absurd (false≢true (sym held))
shown_by Hidden held hidden = absurd (false≢true (sym hidden))

completed_fits : (hidden : Bool) (l : Late) → is_hidden l.save ≡ hidden → is_held l.save ≡ false → l.posing ≡ false → is_fit (told SaveComplete l).late ≡ true
completed_fits true l is held free = rw (is, free) refl
completed_fits false l is held free = rw (shown_by l.save held is, free) refl

owing_fits : (debt : Debt) (was_done : Bool) (l : Late) → IsOpen l.save l.posing → is_fit (called_off_owing debt was_done l).late ≡ true
owing_fits Paid was_done l is = rw (is.0, is.1) refl
owing_fits Talks was_done l is = rw (is.0, is.1) refl
owing_fits Works was_done l is = rw (is.0, is.1) refl
owing_fits Waits was_done l is = rw (is.0, is.1) refl

logout_open : (l : Late) → is_fit l ≡ true → is_held l.save ≡ false → is_shutdown l.wanted ≡ true → IsOpen l.save l.posing
logout_open l fit held is =
    let two = and_parts (fits l.save l.posing l.phase) (not (is_hidden l.save && is_shutdown l.wanted)) fit in
    open_in_logout l.save l.posing l.phase (is_shutdown l.wanted) two.0 two.1 held is

off_fits : (held : Bool) (l : Late) → is_held l.save ≡ held → is_fit l ≡ true → is_shutdown l.wanted ≡ true → is_fit (told ShutdownCancelled l).late ≡ true
off_fits true l is fit off = rw is refl
off_fits false l is fit off = rw is (owing_fits (debt_at l.phase) (is_done l.phase) (given ShutdownCancelled l) (logout_open l fit is off))

dies_open : (l : Late) → is_fit l ≡ true → (is_idle_phase l.phase ≡ true) ⊎ ((is_done l.phase && is_shutdown l.wanted) ≡ true) → IsOpen l.save l.posing
dies_open l fit (inl idle) = open_idle l.save l.posing l.phase (fits_so l fit) idle
dies_open l fit (inr done) =
    let two = and_parts (is_done l.phase) (is_shutdown l.wanted) done in
    logout_open l fit (unheld_done l.save l.posing l.phase (fits_so l fit) two.0) two.1

-- ---- any message of the manager's

known : (save : Save) (posing : Bool) (phase : Option Phase) (rest : Bool) → (fits save posing phase && rest) ≡ true → (fits save posing (registered_phase phase) && rest) ≡ true
known Shown false phase rest is = is
known Shown true (Some Unregistered) rest is = absurd (false≢true is)
known Held false (Some Unregistered) rest is = absurd (false≢true is)
known Held true (Some Unregistered) rest is = absurd (false≢true is)
known Hidden false (Some Unregistered) rest is = absurd (false≢true is)
known Hidden true (Some Unregistered) rest is = absurd (false≢true is)
known save posing phase rest is = is

told_fits : (m : XsmpMessage) (l : Late) → is_fit l ≡ true → is_sent m l ≡ true → is_fit (told m l).late ≡ true
told_fits (SaveYourself kind shutdown style fast) l fit sent =
    let w : Wanted = record { only = None; from = None; kind = kind; shutdown = shutdown; style = style; fast = fast } in
    let begins : Late = record l { phase = begun_phase l.phase; wanted = Some w; save = Shown; saved = false } in
    asked_fits l.wary l.debt w begins refl (open_idle l.save l.posing l.phase (fits_so l fit) sent).1 (begun l.phase sent) refl
told_fits Interact l fit sent = token_fits l.posing (given Interact l) (given_token l.posing l refl (fits_so l fit) sent)
told_fits SaveYourselfPhase2 l fit sent = open_fits (given SaveYourselfPhase2 l) (open_two l.save l.posing l.phase (fits_so l fit) sent)
told_fits SaveComplete l fit sent =
    completed_fits (is_hidden l.save) l refl (unheld_done l.save l.posing l.phase (fits_so l fit) sent) (free_done l.save l.posing l.phase (fits_so l fit) sent)
told_fits ShutdownCancelled l fit sent = off_fits (is_held l.save) l refl fit (and_parts (is_member l.phase) (is_shutdown l.wanted) sent).1
told_fits Die l fit sent = open_fits (given Die l) (dies_open l fit (or_cases (is_idle_phase l.phase) (is_done l.phase && is_shutdown l.wanted) sent))
told_fits (RegisterClientReply id) l fit sent = known l.save l.posing l.phase (not (is_hidden l.save && is_shutdown l.wanted)) fit
told_fits m l fit sent = fit

-- ---- what the client says

early_fits : (step : Step) (m : XsmpMessage) (l : Late) → is_fit l ≡ true → is_fit (answered_early step (said_lately m l)) ≡ true
early_fits AsksToTalk m l fit = fit
early_fits HasTalked m l fit = fit
early_fits WantsSecond m l fit = fit
early_fits HasSaved m l fit = fit
early_fits Leaves m l fit = fit
early_fits Besides m l fit = fit

late_fits : (step : Step) (m : XsmpMessage) (l : Late) → is_fit l ≡ true → is_fit (answered_late step (said_lately m l)) ≡ true
late_fits AsksToTalk m l fit = fit
late_fits HasTalked m l fit = fit
late_fits WantsSecond m l fit = fit
late_fits HasSaved m l fit = fit
late_fits Leaves m l fit = fit
late_fits Besides m l fit = fit

owed_fits : (step : Step) (m : XsmpMessage) (l : Late) → IsOpen l.save l.posing → is_fit (answered_owing step (behind m (said_lately m l))) ≡ true
owed_fits AsksToTalk m l is = open_fits (answered_owing AsksToTalk (behind m (said_lately m l))) is
owed_fits HasTalked m l is = open_fits (answered_owing HasTalked (behind m (said_lately m l))) is
owed_fits WantsSecond m l is = open_fits (answered_owing WantsSecond (behind m (said_lately m l))) is
owed_fits HasSaved m l is = open_fits (answered_owing HasSaved (behind m (said_lately m l))) is
owed_fits Leaves m l is = open_fits (answered_owing Leaves (behind m (said_lately m l))) is
owed_fits Besides m l is = open_fits (answered_owing Besides (behind m (said_lately m l))) is

shown_unless : (shown wary : Bool) → (not shown || wary) ≡ false → shown ≡ true
shown_unless true wary is = refl
shown_unless false wary is = absurd (false≢true (sym is))

first_of : {A : Type 0} (P : A → Type 0) (b o t : Bool) (x y z w : A) → P x → (o ≡ true → P y) → P z → (t ≡ false → P w) → P (if b then x else if o then y else if t then z else w)
first_of P true o t x y z w one two three four = one
first_of P false true t x y z w one two three four = two refl
first_of P false false true x y z w one two three four = three
first_of P false false false x y z w one two three four = four refl

answered_fits : (step : Step) (m : XsmpMessage) (l : Late) → is_fit l ≡ true → is_fit (answers step m l).late ≡ true
answered_fits step m l fit =
    let late : Late = answered_late step (said_lately m l) in
    first_of (λ (s : Said). is_fit s.late ≡ true) (nat_lt 0 l.pings) (is_owing l.phase) (is_late step l) _ _ _ _
    (early_fits step m l fit)
    (λ owes. owed_fits step m l (open_owing l.save l.posing l.phase (fits_so l fit) owes))
    (settled_fits (gives_back late) late (late_fits step m l fit) refl)
    (λ not_late. open_fits (behind m l) (open_shown l.save l.posing l.phase (fits_so l fit) (shown_unless (is_shown l.save) _ not_late)))

said_fits : (step : Step) (m : XsmpMessage) (l : Late) → is_fit l ≡ true → is_fit (said_by step m l).late ≡ true
said_fits AsksToTalk m l fit = answered_fits AsksToTalk m l fit
said_fits HasTalked m l fit = answered_fits HasTalked m l fit
said_fits WantsSecond m l fit = answered_fits WantsSecond m l fit
said_fits HasSaved m l fit = answered_fits HasSaved m l fit
said_fits Leaves m l fit = fit
said_fits Besides m l fit = fit

-- ---- time

passed_fits : (due : Bool) (milliseconds : ℕ) (l : Late) → is_fit l ≡ true → (due ≡ true → IsOpen l.save l.posing) → is_fit (if due then spoken NoBytes Failed (later milliseconds l) else outcome NoBytes None (later milliseconds l)).late ≡ true
passed_fits true milliseconds l fit is = open_fits (speaking Failed (later milliseconds l)) (is refl)
passed_fits false milliseconds l fit is = fit

-- ---- a word has its place

idle_comes : (w : Wanted) (phase : Option Phase) → is_idle_phase phase ≡ true → may_come (Saves w) phase ≡ true
idle_comes w (Some Idle) is = refl
idle_comes w phase is = absurd (false≢true is)

asked_comes : (phase : Option Phase) → is_asked phase ≡ true → may_come GivesToken phase ≡ true
asked_comes (Some Asked) is = refl
asked_comes (Some AskedTwo) is = refl
asked_comes phase is = absurd (false≢true is)

done_comes : (phase : Option Phase) → is_done phase ≡ true → may_come Completes phase ≡ true
done_comes (Some Done) is = refl
done_comes phase is = absurd (false≢true is)

comes : (m : XsmpMessage) (l : Late) → is_sent m l ≡ true → may_come (order_of m) l.phase ≡ true
comes (SaveYourself kind shutdown style fast) l sent = idle_comes (record { only = None; from = None; kind = kind; shutdown = shutdown; style = style; fast = fast }) l.phase sent
comes Interact l sent = asked_comes l.phase sent
comes SaveComplete l sent = done_comes l.phase sent
comes ShutdownCancelled l sent = (and_parts (is_member l.phase) (is_shutdown l.wanted) sent).0
comes m l sent = refl

talk_placed : (wanted : Option Wanted) (phase : Option Phase) → is_interacting phase ≡ true → has_place wanted (message_of TalkOver) phase ≡ true
talk_placed wanted (Some Interacting) has = refl
talk_placed wanted (Some InteractingTwo) has = refl
talk_placed wanted phase has = absurd (false≢true has)

settled_placed : (back : Bool) (l : Late) (word : Word) → gives_back l ≡ back → (settled l).word ≡ Some word → has_place l.wanted (message_of word) l.phase ≡ true
settled_placed true l word is says =
    let poses = and_parts l.posing (is_interacting l.phase) (and_parts (l.posing && is_interacting l.phase) (not (is_dialog l.debt)) is).0 in
    subst (λ (v : Word). has_place l.wanted (message_of v) l.phase ≡ true) (settled_word l word true is says) (talk_placed l.wanted l.phase poses.1)
settled_placed false l word is says = no_word word (sym (freed_word None l (goes_out l) refl) ∙ (rw is at says))

late_placed : (step : Step) (m : XsmpMessage) (l : Late) (word : Word) → (settled (answered_late step (said_lately m l))).word ≡ Some word → has_place l.wanted (message_of word) l.phase ≡ true
late_placed AsksToTalk m l word says = settled_placed (gives_back (answered_late AsksToTalk (said_lately m l))) (answered_late AsksToTalk (said_lately m l)) word refl says
late_placed HasTalked m l word says = settled_placed (gives_back (answered_late HasTalked (said_lately m l))) (answered_late HasTalked (said_lately m l)) word refl says
late_placed WantsSecond m l word says = settled_placed (gives_back (answered_late WantsSecond (said_lately m l))) (answered_late WantsSecond (said_lately m l)) word refl says
late_placed HasSaved m l word says = settled_placed (gives_back (answered_late HasSaved (said_lately m l))) (answered_late HasSaved (said_lately m l)) word refl says
late_placed Leaves m l word says = settled_placed (gives_back (answered_late Leaves (said_lately m l))) (answered_late Leaves (said_lately m l)) word refl says
late_placed Besides m l word says = settled_placed (gives_back (answered_late Besides (said_lately m l))) (answered_late Besides (said_lately m l)) word refl says

-- a word that is said about this has its place
abbrev IsPlaced : Late → Said → Type 0
IsPlaced l s = (word : Word) → s.word ≡ Some word → has_place l.wanted (message_of word) l.phase ≡ true

answers_placed : (step : Step) (m : XsmpMessage) (l : Late) → IsPlaced l (answers step m l)
answers_placed step m l =
    first_of (IsPlaced l) (nat_lt 0 l.pings) (is_owing l.phase) (is_late step l) _ _ _ _
    (λ word says. no_word word says)
    (λ owes word says. no_word word says)
    (λ word says. late_placed step m l word says)
    (λ not_late word says. no_word word says)

said_placed : (step : Step) (m : XsmpMessage) (l : Late) → IsPlaced l (said_by step m l)
said_placed AsksToTalk m l = answers_placed AsksToTalk m l
said_placed HasTalked m l = answers_placed HasTalked m l
said_placed WantsSecond m l = answers_placed WantsSecond m l
said_placed HasSaved m l = answers_placed HasSaved m l
said_placed Leaves m l = λ word says. no_word word says
said_placed Besides m l = λ word says. no_word word says

passed_placed : (due : Bool) (milliseconds : ℕ) (l : Late) (word : Word) → (due ≡ true → is_owing l.phase ≡ true) → (if due then spoken NoBytes Failed (later milliseconds l) else outcome NoBytes None (later milliseconds l)).word ≡ Some word → has_place l.wanted (message_of word) l.phase ≡ true
passed_placed true milliseconds l word owes says = failed_placed l.wanted l.phase word (owes refl) says
passed_placed false milliseconds l word owes says = no_word word says

pub states_are_fit : StatesAreFit
states_are_fit = record {
  placed_told = λ m l word fit sent says. words_have_their_place m l word (fits_so l fit) (comes m l sent) says;
  placed_said = λ m l word says. said_placed (step_of m) m l word says;
  placed_passed = λ n l word says. passed_placed (is_owing l.phase && l.left - n == 0) n l word (λ is. (and_parts (is_owing l.phase) (l.left - n == 0) is).0) says;
  first = refl;
  told = told_fits;
  said = λ m l fit. said_fits (step_of m) m l fit;
  replied = λ l fit. either (λ (s : Said). is_fit s.late ≡ true) (nat_lt 0 l.pings) _ _ fit fit;
  closed = λ l fit. fit;
  passed = λ n l fit. passed_fits (is_owing l.phase && l.left - n == 0) n l fit (λ is. open_owing l.save l.posing l.phase (fits_so l fit) (and_parts (is_owing l.phase) (l.left - n == 0) is).0);
}
