-- What the manager hears in a client's place has its place.
use Rattle.std.proofs.Common.{◌≡◌, Bool, true, false, Option, Some, None, refl, sym, ◌∙◌, subst}
use Rattle.std.specs.Prelude.{if◌then◌else◌}
use Rattle.std.proofs.lemmas.Bool.{false≢true}
use Rattle.ice_values.specs.declared.saves.SaveStyle.{SaveStyle}
use Rattle.ice_values.specs.declared.saves.SaveStyle.TheVariants.{Any, Errors, Nothing}
use Rattle.ice_values.specs.declared.saves.Dialog.TheVariants.{Error as AboutError, Normal}
use Rattle.xsmp_messages.specs.declared.message.XsmpMessage.TheVariants.{Interact, SaveComplete, SaveYourself, ShutdownCancelled}
use Rattle.round_agreement.specs.declared.wanted.Wanted.{Wanted}
use Rattle.session_model.specs.Phases.{begun_phase, cancelled_phase, is_owing, phase_given}
use Rattle.session_model.specs.Replies.{has_place}
use Rattle.session_model.specs.declared.phase.Phase.{Phase}
use Rattle.session_model.specs.declared.phase.Phase.TheVariants.{Asked, Idle, Interacting, InteractingTwo, Saving}
use Rattle.late_answers.specs.Late.{allowed_dialog, as_it_came, asked_wary, called_off_owing, debt_at, freed, given, gives_back, goes_out, hide, hold, is_done, is_held, is_hidden, message_of, pose, settled, speaking, told}
use Rattle.late_answers.specs.Laws.{fits, may_come, WordsHaveTheirPlace}
use Rattle.late_answers.specs.declared.late.Debt.{Debt}
use Rattle.late_answers.specs.declared.late.Debt.TheVariants.{Paid, Talks, Works, Waits}
use Rattle.late_answers.specs.declared.late.Save.{Save}
use Rattle.late_answers.specs.declared.late.Save.TheVariants.{Shown, Held, Hidden}
use Rattle.late_answers.specs.declared.late.Late.{Late}
use Rattle.late_answers.specs.declared.outcome.Word.{Word}
use Rattle.late_answers.specs.declared.outcome.Word.TheVariants.{Failed, AsksFor, TalkOver}
use Rattle.late_answers.specs.declared.telling.Order.TheVariants.{Saves, GivesToken}

pub no_word : {A : Type 0} (word : Word) → None ≡ Some word → A
no_word word is = absurd cc

that_word : (one word : Word) → Some one ≡ Some word → one ≡ word
that_word one word is = cc

-- ---- SaveYourself

idle_by : (w : Wanted) (phase : Option Phase) → may_come (Saves w) phase ≡ true → phase ≡ Some Idle
idle_by w (Some Idle) comes = refl
idle_by w phase comes = absurd (false≢true comes)

posed : (style : SaveStyle) (w : Wanted) (l : Late) (word : Word) → w.style ≡ style → l.wanted ≡ Some w → (pose (allowed_dialog style) l).word ≡ Some word → has_place (pose (allowed_dialog style) l).late.wanted (message_of word) (Some Saving) ≡ true
posed Any w l word style wanted is = subst (λ (v : Word). has_place l.wanted (message_of v) (Some Saving) ≡ true) (that_word (AsksFor Normal) word is) (rw (wanted, style) refl)
posed Errors w l word style wanted is = subst (λ (v : Word). has_place l.wanted (message_of v) (Some Saving) ≡ true) (that_word (AsksFor AboutError) word is) (rw (wanted, style) refl)
posed Nothing w l word style wanted is = no_word word is

hid : (l : Late) (word : Word) → (hide l).word ≡ Some word → has_place (hide l).late.wanted (message_of word) (Some Saving) ≡ true
hid l word is = subst (λ (v : Word). has_place l.wanted (message_of v) (Some Saving) ≡ true) (that_word Failed word is) refl

asked_talking : (shutdown : Bool) (w : Wanted) (l : Late) (word : Word) → l.wanted ≡ Some w → (if shutdown then pose (allowed_dialog w.style) l else hide l).word ≡ Some word → has_place (if shutdown then pose (allowed_dialog w.style) l else hide l).late.wanted (message_of word) (Some Saving) ≡ true
asked_talking true w l word wanted is = posed w.style w l word refl wanted is
asked_talking false w l word wanted is = hid l word is

asked_working : (shutdown : Bool) (l : Late) (word : Word) → (if shutdown then hold l else hide l).word ≡ Some word → has_place (if shutdown then hold l else hide l).late.wanted (message_of word) (Some Saving) ≡ true
asked_working true l word is = no_word word is
asked_working false l word is = hid l word is

asked_word : (wary : Bool) (debt : Debt) (w : Wanted) (l : Late) (word : Word) → l.wanted ≡ Some w → (if wary then asked_wary debt w l else as_it_came l).word ≡ Some word → has_place (if wary then asked_wary debt w l else as_it_came l).late.wanted (message_of word) (Some Saving) ≡ true
asked_word false debt w l word wanted is = no_word word is
asked_word true Paid w l word wanted is = no_word word is
asked_word true Waits w l word wanted is = no_word word is
asked_word true Talks w l word wanted is = asked_talking w.shutdown w l word wanted is
asked_word true Works w l word wanted is = asked_working w.shutdown l word is

-- ---- Interact

asked_by : (save : Save) (phase : Option Phase) → fits save true phase ≡ true → may_come GivesToken phase ≡ true → phase ≡ Some Asked
asked_by Held (Some Asked) fit comes = refl
asked_by Held (Some Interacting) fit comes = absurd (false≢true comes)
asked_by save phase fit comes = absurd (false≢true fit)

pub freed_word : (word : Option Word) (l : Late) (goes : Bool) → goes_out l ≡ goes → (freed word l).word ≡ word
freed_word word l true is = rw is refl
freed_word word l false is = rw is refl

pub settled_word : (l : Late) (word : Word) (back : Bool) → gives_back l ≡ back → (settled l).word ≡ Some word → TalkOver ≡ word
settled_word l word true is said =
    let over : Late = speaking TalkOver (record l { posing = false }) in
    that_word TalkOver word (sym (freed_word (Some TalkOver) over (goes_out over) refl) ∙ (rw is at said))
settled_word l word false is said = no_word word (sym (freed_word None l (goes_out l) refl) ∙ (rw is at said))

token_word : (posing : Bool) (l : Late) (phase : Option Phase) (word : Word) → (posing ≡ true → phase ≡ Some Asked) → (if posing then settled l else as_it_came l).word ≡ Some word → has_place (if posing then settled l else as_it_came l).late.wanted (message_of word) (phase_given Interact phase) ≡ true
token_word true l phase word asks is =
    subst (λ (p : Option Phase). has_place (settled l).late.wanted (message_of word) (phase_given Interact p) ≡ true) (sym (asks refl))
    (subst (λ (v : Word). has_place (settled l).late.wanted (message_of v) (Some Interacting) ≡ true) (settled_word l word (gives_back l) refl is) refl)
token_word false l phase word asks is = no_word word is

-- ---- ShutdownCancelled

-- who talks, or doesn't know of its save, owes its answer then
talking_owes : (phase : Option Phase) → debt_at phase ≡ Talks → is_owing (cancelled_phase phase) ≡ true
talking_owes (Some Interacting) talks = refl
talking_owes (Some InteractingTwo) talks = refl
talking_owes phase talks = absurd cc

held_owes : (posing : Bool) (phase : Option Phase) → fits Held posing phase ≡ true → is_owing (cancelled_phase phase) ≡ true
held_owes false (Some Saving) fit = refl
held_owes true (Some Asked) fit = refl
held_owes true (Some Interacting) fit = refl
held_owes posing phase fit = absurd (false≢true fit)

pub failed_placed : (wanted : Option Wanted) (phase : Option Phase) (word : Word) → is_owing phase ≡ true → Some Failed ≡ Some word → has_place wanted (message_of word) phase ≡ true
failed_placed wanted phase word owes is = subst (λ (v : Word). has_place wanted (message_of v) phase ≡ true) (that_word Failed word is) (rw owes refl)

off_owing : (debt : Debt) (was_done : Bool) (l : Late) (phase : Option Phase) (word : Word) → (debt ≡ Talks → is_owing phase ≡ true) → (called_off_owing debt was_done l).word ≡ Some word → has_place (called_off_owing debt was_done l).late.wanted (message_of word) phase ≡ true
off_owing Paid was_done l phase word owes is = no_word word is
off_owing Works was_done l phase word owes is = no_word word is
off_owing Waits was_done l phase word owes is = no_word word is
off_owing Talks was_done l phase word owes is = failed_placed l.wanted phase word (owes refl) is

-- ---- any

held_is : (save : Save) → is_held save ≡ true → save ≡ Held
held_is Held is = refl
held_is Shown is = absurd (false≢true is)
held_is Hidden is = absurd (false≢true is)

off_word : (held : Bool) (l : Late) (word : Word) → is_held l.save ≡ held → fits l.save l.posing l.phase ≡ true → (told ShutdownCancelled l).word ≡ Some word → has_place (told ShutdownCancelled l).late.wanted (message_of word) (cancelled_phase l.phase) ≡ true
off_word true l word is fit said =
    let owes : is_owing (cancelled_phase l.phase) ≡ true = held_owes l.posing l.phase (subst (λ (s : Save). fits s l.posing l.phase ≡ true) (held_is l.save is) fit) in
    rw is (failed_placed l.wanted (cancelled_phase l.phase) word owes (rw is at said))
off_word false l word is fit said =
    rw is (off_owing (debt_at l.phase) (is_done l.phase) (given ShutdownCancelled l) (cancelled_phase l.phase) word (talking_owes l.phase) (rw is at said))

done_word : (hidden : Bool) (l : Late) (word : Word) → is_hidden l.save ≡ hidden → (told SaveComplete l).word ≡ Some word → has_place (told SaveComplete l).late.wanted (message_of word) (phase_given SaveComplete l.phase) ≡ true
done_word true l word is said = no_word word (rw is at said)
done_word false l word is said = no_word word (rw is at said)

pub words_have_their_place : WordsHaveTheirPlace
words_have_their_place (SaveYourself kind shutdown style fast) l word fit comes said =
    let w : Wanted = record { only = None; from = None; kind = kind; shutdown = shutdown; style = style; fast = fast } in
    let asks : Late = record l { phase = begun_phase l.phase; wanted = Some w; save = Shown; saved = false } in
    subst (λ (p : Option Phase). has_place (told (SaveYourself kind shutdown style fast) l).late.wanted (message_of word) (begun_phase p) ≡ true) (sym (idle_by w l.phase comes)) (asked_word l.wary l.debt w asks word refl said)
words_have_their_place Interact l word fit comes said = token_word l.posing (given Interact l) l.phase word (λ poses. asked_by l.save l.phase (subst (λ (b : Bool). fits l.save b l.phase ≡ true) poses fit) comes) said
words_have_their_place ShutdownCancelled l word fit comes said = off_word (is_held l.save) l word refl fit said
words_have_their_place SaveComplete l word fit comes said = done_word (is_hidden l.save) l word refl said
words_have_their_place m l word fit comes said = no_word word said
