-- What the notes say goes on from move to move.
use Rattle.std.proofs.Common.{◌≡◌, refl, ℕ, Bool, true, false, ◌||◌, List, ◌∷◌, sym, ap, ◌∙◌}
use Rattle.xsmp_messages.specs.declared.message.XsmpMessage.{XsmpMessage}
use Rattle.xsmp_messages.specs.declared.message.XsmpMessage.TheVariants.{SaveYourself, InteractRequest, Interact, Die, ShutdownCancelled, SaveComplete}
use Rattle.interact_queue.specs.Queue.{is_in}
use Rattle.session_model.specs.declared.events.SessionEvent.{SessionEvent}
use Rattle.session_model.specs.declared.events.SessionEvent.TheVariants.{Ready, Said, Left}
use Rattle.session_model.specs.Phases.{is_asked, is_shutdown}
use Rattle.session_model.specs.Moves.{Move, Outside, Gave, Blamed, Unset, Closed, Agreed, History, ◌▷◌}
use Rattle.session_model.specs.Readings as of
use Rattle.session_model.proofs.Asked.{phases-tell}
use Rattle.session_model.proofs.Sound.{Sound, or-either}
use Rattle.session_model.proofs.Ruled.{denied, differ}
use Rattle.session_notes.specs.Notes.{Note, Heard, Given}
use Rattle.session_notes.proofs.Seen.{noted_of}
use Rattle.session_notes.proofs.Steps.{asked-works}
use Rattle.session_notes.proofs.Told as told
use Rattle.session_notes.proofs.Open.{WaitsTold, waits-interact, waits-cancelled, waits-given, waits-gone, waits-unset, waits-ready, waits-said, waits-request}
use Rattle.session_notes.proofs.Tests.{or-none, own}
use Rattle.session_notes.proofs.Suits.{Suits}

first-asked : (c : ℕ) (others : List ℕ) (h : History) → of.waiting h ≡ c ∷ others → is_asked (of.phase_of c h) ≡ true
first-asked c others h e = sym (phases-tell h c) ∙ ap (λ (xs : List ℕ). is_in c xs) e ∙ ap (λ (b : Bool). b || is_in c others) (own c)

-- while somebody waits no shutdown was agreed
pub goes-on : (c : ℕ) (others : List ℕ) (h : History) → told.RestTold h → of.waiting h ≡ c ∷ others → of.is_ending h ≡ false
goes-on c others h r e = denied (of.is_ending h) (λ k. differ (asked-works (of.phase_of c h) (first-asked c others h e)) (r k c))

-- The token

token-given : (d : ℕ) (m : XsmpMessage) (h : History) (n : List Note) → Suits (Gave d m) h → told.RestTold h → told.TokenTold h n → told.TokenTold (Gave d m ▷ h) (Given d m ∷ n)
token-given d Interact h n s r t = told.token-interact d h n (first-asked d s.1.0 h s.1.1) t
token-given d ShutdownCancelled h n s r t = told.token-cancelled d h n t
token-given d Die h n s r t = told.token-die d h n (r s.0) t
token-given d m h n s r t = told.token-given d m h n refl t

token-heard : (event : SessionEvent) (h : History) → told.TokenTold h (noted_of h) → told.TokenTold (Outside event ▷ h) (noted_of (Outside event ▷ h))
token-heard (Ready d) h t = told.token-ready d h (noted_of h) t
token-heard (Said d m sequence frame) h t = told.token-said d m sequence frame h (noted_of h) t
token-heard (Left d) h t = told.token-gone d h (noted_of h) t
token-heard event h t = t

token-step : (m : Move) (h : History) → Suits m h → told.RestTold h → told.TokenTold h (noted_of h) → told.TokenTold (m ▷ h) (noted_of (m ▷ h))
token-step (Outside event) h s r t = token-heard event h t
token-step (Gave d m) h s r t = token-given d m h (noted_of h) s r t
token-step (Blamed d error) h s r t = absurd s
token-step (Unset d) h s r t = told.token-unset d h (noted_of h) s t
token-step (Closed d) h s r t = told.token-gone d h (noted_of h) t
token-step m h s r t = t

-- Who was asked to save

asked-given : (d : ℕ) (m : XsmpMessage) (h : History) (n : List Note) → told.AskedTold h n → told.AskedTold (Gave d m ▷ h) (Given d m ∷ n)
asked-given d (SaveYourself kind shutdown style fast) h n t = told.asked-begun d kind shutdown style fast h n t
asked-given d ShutdownCancelled h n t = told.asked-cancelled d h n t
asked-given d m h n t = told.asked-given d m h n refl refl t

asked-heard : (event : SessionEvent) (h : History) → told.AskedTold h (noted_of h) → told.AskedTold (Outside event ▷ h) (noted_of (Outside event ▷ h))
asked-heard (Ready d) h t = told.asked-ready d h (noted_of h) t
asked-heard (Said d m sequence frame) h t = told.asked-said d m sequence frame h (noted_of h) t
asked-heard (Left d) h t = told.asked-gone d h (noted_of h) t
asked-heard event h t = t

asked-step : (m : Move) (h : History) → Suits m h → told.AskedTold h (noted_of h) → told.AskedTold (m ▷ h) (noted_of (m ▷ h))
asked-step (Outside event) h s t = asked-heard event h t
asked-step (Gave d m) h s t = asked-given d m h (noted_of h) t
asked-step (Blamed d error) h s t = absurd s
asked-step (Unset d) h s t = told.asked-unset d h (noted_of h) t
asked-step (Closed d) h s t = told.asked-gone d h (noted_of h) t
asked-step m h s t = t

owing-given : (d : ℕ) (m : XsmpMessage) (h : History) (n : List Note) → Suits (Gave d m) h → told.OwingTold h n → told.OwingTold (Gave d m ▷ h) (Given d m ∷ n)
owing-given d (SaveYourself kind shutdown style fast) h n s t = told.owing-begun d kind shutdown style fast h n s.0 t
owing-given d ShutdownCancelled h n s t = told.owing-cancelled d h n t
owing-given d m h n s t = told.owing-by d m h n refl refl t

owing-heard : (event : SessionEvent) (h : History) → told.OwingTold h (noted_of h) → told.OwingTold (Outside event ▷ h) (noted_of (Outside event ▷ h))
owing-heard (Ready d) h t = told.owing-began d h (noted_of h) t
owing-heard (Said d m sequence frame) h t = told.owing-heard d m sequence frame h (noted_of h) t
owing-heard (Left d) h t = told.owing-left d h (noted_of h) t
owing-heard event h t = t

owing-step : (m : Move) (h : History) → Suits m h → told.OwingTold h (noted_of h) → told.OwingTold (m ▷ h) (noted_of (m ▷ h))
owing-step (Outside event) h s t = owing-heard event h t
owing-step (Gave d m) h s t = owing-given d m h (noted_of h) s t
owing-step (Blamed d error) h s t = absurd s
owing-step (Unset d) h s t = told.owing-unset d h (noted_of h) t
owing-step (Closed d) h s t = told.owing-left d h (noted_of h) t
owing-step m h s t = t

-- Who is to save

saves-given : (d : ℕ) (m : XsmpMessage) (h : History) (n : List Note) → Suits (Gave d m) h → told.SavesTold h n → told.SavesTold (Gave d m ▷ h) (Given d m ∷ n)
saves-given d (SaveYourself kind shutdown style fast) h n s t = told.saves-begun d kind shutdown style fast h n s.0 t
saves-given d SaveComplete h n s t = told.saves-released d SaveComplete h n refl t
saves-given d ShutdownCancelled h n s t = told.saves-released d ShutdownCancelled h n refl t
saves-given d m h n s t = told.saves-given d m h n refl refl t

saves-heard : (event : SessionEvent) (h : History) → told.SavesTold h (noted_of h) → told.SavesTold (Outside event ▷ h) (noted_of (Outside event ▷ h))
saves-heard (Ready d) h t = told.saves-ready d h (noted_of h) t
saves-heard (Said d m sequence frame) h t = told.saves-said d m sequence frame h (noted_of h) t
saves-heard (Left d) h t = told.saves-gone d h (noted_of h) t
saves-heard event h t = t

saves-step : (m : Move) (h : History) → Suits m h → told.SavesTold h (noted_of h) → told.SavesTold (m ▷ h) (noted_of (m ▷ h))
saves-step (Outside event) h s t = saves-heard event h t
saves-step (Gave d m) h s t = saves-given d m h (noted_of h) s t
saves-step (Blamed d error) h s t = absurd s
saves-step (Unset d) h s t = told.saves-unset d h (noted_of h) s t
saves-step (Closed d) h s t = told.saves-gone d h (noted_of h) t
saves-step m h s t = t

answers-given : (d : ℕ) (m : XsmpMessage) (h : History) (n : List Note) → Suits (Gave d m) h → told.AnswersTold h n → told.AnswersTold (Gave d m ▷ h) (Given d m ∷ n)
answers-given d (SaveYourself kind shutdown style fast) h n s t = told.answers-begun d kind shutdown style fast h n s.0 t
answers-given d m h n s t = told.answers-given d m h n refl t

answers-heard : (event : SessionEvent) (h : History) → told.AnswersTold h (noted_of h) → told.AnswersTold (Outside event ▷ h) (noted_of (Outside event ▷ h))
answers-heard (Ready d) h t = told.answers-ready d h (noted_of h) t
answers-heard (Said d m sequence frame) h t = told.answers-said d m sequence frame h (noted_of h) t
answers-heard (Left d) h t = told.answers-gone d h (noted_of h) t
answers-heard event h t = t

answers-step : (m : Move) (h : History) → Suits m h → told.AnswersTold h (noted_of h) → told.AnswersTold (m ▷ h) (noted_of (m ▷ h))
answers-step (Outside event) h s t = answers-heard event h t
answers-step (Gave d m) h s t = answers-given d m h (noted_of h) s t
answers-step (Blamed d error) h s t = absurd s
answers-step (Unset d) h s t = told.answers-unset d h (noted_of h) t
answers-step (Closed d) h s t = told.answers-gone d h (noted_of h) t
answers-step m h s t = t

-- The requests that are open

waits-by : (d : ℕ) (m : XsmpMessage) (h : History) (n : List Note) → Suits (Gave d m) h → WaitsTold h n → WaitsTold (Gave d m ▷ h) (Given d m ∷ n)
waits-by d Interact h n s t = waits-interact d h n t
waits-by d ShutdownCancelled h n s t = waits-cancelled d h n t
waits-by d Die h n s t = λ e. absurd (differ s.0 e)
waits-by d m h n s t = waits-given d m h n refl t

waits-message : (d : ℕ) (m : XsmpMessage) (sequence : ℕ) (frame : List ℕ) (h : History) (n : List Note) → Suits (Outside (Said d m sequence frame)) h → Sound h → told.AskedTold h n → told.OwingTold h n → WaitsTold h n
    → WaitsTold (Outside (Said d m sequence frame) ▷ h) (Heard d m ∷ n)
waits-message d (InteractRequest dialog) sequence frame h n s so a o t = waits-request d dialog sequence frame h n s so.die_at_end a o t
waits-message d m sequence frame h n s so a o t = waits-said d m sequence frame h n refl t

waits-heard : (event : SessionEvent) (h : History) → Suits (Outside event) h → Sound h → told.AskedTold h (noted_of h) → told.OwingTold h (noted_of h) → WaitsTold h (noted_of h) → WaitsTold (Outside event ▷ h) (noted_of (Outside event ▷ h))
waits-heard (Ready d) h s so a o t = waits-ready d h (noted_of h) t
waits-heard (Said d m sequence frame) h s so a o t = waits-message d m sequence frame h (noted_of h) s so a o t
waits-heard (Left d) h s so a o t = waits-gone d h (noted_of h) t
waits-heard event h s so a o t = t

waits-step : (m : Move) (h : History) → Suits m h → Sound h → told.AskedTold h (noted_of h) → told.OwingTold h (noted_of h) → WaitsTold h (noted_of h) → WaitsTold (m ▷ h) (noted_of (m ▷ h))
waits-step (Outside event) h s so a o t = waits-heard event h s so a o t
waits-step (Gave d m) h s so a o t = waits-by d m h (noted_of h) s t
waits-step (Blamed d error) h s so a o t = absurd s
waits-step (Unset d) h s so a o t = waits-unset d h (noted_of h) s t
waits-step (Closed d) h s so a o t = waits-gone d h (noted_of h) t
waits-step Agreed h s so a o t = λ e. t ((or-none (of.is_ending h) (is_shutdown (of.wanted h)) e).0)
waits-step m h s so a o t = t

-- Nobody's save goes on once a shutdown was agreed

rest-given : (d : ℕ) (m : XsmpMessage) (h : History) → Suits (Gave d m) h → told.RestTold h → told.RestTold (Gave d m ▷ h)
rest-given d (SaveYourself kind shutdown style fast) h s t = λ e. absurd (differ e s.1)
rest-given d m h s t = told.rest-given d m h refl t

rest-heard : (event : SessionEvent) (h : History) → told.RestTold h → told.RestTold (Outside event ▷ h)
rest-heard (Ready d) h t = told.rest-ready d h t
rest-heard (Said d m sequence frame) h t = told.rest-said d m sequence frame h t
rest-heard (Left d) h t = told.rest-left d h t
rest-heard event h t = t

rest-step : (m : Move) (h : History) → Suits m h → told.RestTold h → told.RestTold (m ▷ h)
rest-step (Outside event) h s t = rest-heard event h t
rest-step (Gave d m) h s t = rest-given d m h s t
rest-step (Unset d) h s t = told.rest-left d h t
rest-step (Closed d) h s t = told.rest-left d h t
rest-step Agreed h s t = λ e c. or-either (of.is_ending h) (is_shutdown (of.wanted h)) (λ k. t k c) (λ k. s k c) e
rest-step m h s t = t

-- All of it

pub record Told (h : History) (n : List Note) : Type 0 where
  pub token : told.TokenTold h n
  pub asked : told.AskedTold h n
  pub owing : told.OwingTold h n
  pub saves : told.SavesTold h n
  pub answers : told.AnswersTold h n
  pub waits : WaitsTold h n
  pub rest : told.RestTold h

pub told-step : (m : Move) (h : History) → Suits m h → Sound h → Told h (noted_of h) → Told (m ▷ h) (noted_of (m ▷ h))
told-step m h s so t = record {
  token = token-step m h s t.rest t.token;
  asked = asked-step m h s t.asked;
  owing = owing-step m h s t.owing;
  saves = saves-step m h s t.saves;
  answers = answers-step m h s t.answers;
  waits = waits-step m h s so t.asked t.owing t.waits;
  rest = rest-step m h s t.rest;
}
