-- To a client without a phase nothing is sent by what comes from elsewhere, nor as it joins.
use Rattle.std.proofs.Common.{◌≡◌, ◌≢◌, inl, inr, refl, sym, ap, ◌∙◌, subst, ℕ, suc, Bool, true, false, cond, List, [], ◌∷◌, ◌++◌, map, arith}
use Rattle.std.specs.Prelude.{Option, None, ◌==◌}
use Rattle.std.proofs.lemmas.Bool.{cases_eq}
use Rattle.xsmp_messages.specs.declared.message.XsmpMessage.{XsmpMessage}
use Rattle.xsmp_messages.specs.declared.message.XsmpMessage.TheVariants.{Die, Error, Interact, SaveComplete, SaveYourself, SaveYourselfPhase2, ShutdownCancelled}
use Rattle.session_model.specs.declared.events.SessionEvent.{SessionEvent}
use Rattle.session_model.specs.declared.events.SessionEvent.TheVariants.{Joined, Left, Ready, Said}
use Rattle.session_model.specs.declared.phase.Phase.{Phase}
use Rattle.session_model.specs.Moves.{Blamed, Closed, Gave, History, Move, Outside, Unset, onto, ◌▷◌}
use Rattle.session_model.specs.Phases.{phase_given}
use Rattle.session_model.specs.Reading.{reading}
use Rattle.session_model.specs.Readings as of
use Rattle.session_model.specs.Replies.{reply}
use Rattle.session_model.specs.Rules.{taken}
use Rattle.session_engine.proofs.Connections.{other}
use Rattle.end_agreement.specs.Sides.{may_give}
use Rattle.end_agreement.proofs.Calm.{differ}
use Rattle.end_schedules.specs.Laws.{AllPass, IsPassed, Passes, answered_to}
use Rattle.end_schedules.specs.Pairs.{AllMay, Pair, after, is_of}
use Rattle.end_schedules.specs.Pairs.Step.{Happens}
use Rattle.end_schedules.specs.UnderWay.{sent_to}
use Rattle.end_schedules.proofs.Replies.{answer}
use Rattle.end_schedules.proofs.Runs.{Stood, left-passes, others-passed, stood-run, stood-taken, went-passed, went-taken}
use Rattle.end_bytes.specs.BytePairs.{IsOfRun}

-- it has no phase then either, and was sent nothing
pub record IsQuietSince (c : ℕ) (h g : History) : Type 0 where
  pub phase : of.phase_of c g ≡ None
  pub sent : sent_to c g ≡ sent_to c h

not-given : (m : XsmpMessage) → may_give m None ≡ false
not-given (SaveYourself kind shutdown style fast) = refl
not-given Interact = refl
not-given SaveYourselfPhase2 = refl
not-given SaveComplete = refl
not-given ShutdownCancelled = refl
not-given Die = refl
not-given m = refl

quiet-event : (c : ℕ) (event : SessionEvent) (h : History) → of.phase_of c h ≡ None → is_of c event ≡ false → IsQuietSince c h (Outside event ▷ h)
quiet-event c (Ready d) h n f = record { phase = rw f n; sent = rw f refl }
quiet-event c (Said d m sequence frame) h n f = record { phase = rw f n; sent = refl }
quiet-event c (Left d) h n f = record { phase = rw f n; sent = refl }
quiet-event c event h n f = record { phase = n; sent = refl }

none-either : {A : Type 0} (b : Bool) (p : Option A) → p ≡ None → cond b None p ≡ None
none-either true p e = refl
none-either false p e = e

quiet-moved : (c : ℕ) (m : Move) (h : History) → of.phase_of c h ≡ None → Passes c m h → IsQuietSince c h (m ▷ h)
quiet-moved c (Outside event) h n p = quiet-event c event h n p
quiet-moved c (Gave d m) h n p = elim (cases_eq d c) [
  | inl e ↦ absurd (differ (p e) (ap (may_give m) n ∙ not-given m))
  | inr apart ↦ record { phase = ap (λ (b : Bool). cond b (phase_given m (of.phase_of c h)) (of.phase_of c h)) (other d c apart) ∙ n; sent = ap (λ (b : Bool). cond b (sent_to c h ++ m ∷ []) (sent_to c h)) (other d c apart) }
]
quiet-moved c (Blamed d error) h n p = record { phase = n; sent = ap (λ (b : Bool). cond b (sent_to c h ++ Error error ∷ []) (sent_to c h)) (other d c p) }
quiet-moved c (Unset d) h n p = record { phase = none-either (d == c) (of.phase_of c h) n; sent = refl }
quiet-moved c (Closed d) h n p = record { phase = none-either (d == c) (of.phase_of c h) n; sent = refl }
quiet-moved c m h n p = record { phase = n; sent = refl }

quiet-onto : (c : ℕ) (moves : List Move) (h : History) → of.phase_of c h ≡ None → AllPass c moves h → IsQuietSince c h (onto h moves)
quiet-onto c [] h n p = record { phase = n; sent = refl }
quiet-onto c (m ∷ moves) h n p =
    let a : IsQuietSince c h (m ▷ h) = quiet-moved c m h n p.0 in
    let b : IsQuietSince c (m ▷ h) (onto (m ▷ h) moves) = quiet-onto c moves (m ▷ h) a.phase p.1 in
    record { phase = b.phase; sent = b.sent ∙ a.sent }

quiet-both : (c : ℕ) (h g k : History) → IsQuietSince c h g → IsQuietSince c g k → IsQuietSince c h k
quiet-both c h g k a b = record { phase = b.phase; sent = b.sent ∙ a.sent }

quiet-passed : (c : ℕ) (h g : History) → of.phase_of c h ≡ None → IsPassed c h g → IsQuietSince c h g
quiet-passed c h g n p = subst (λ (x : History). IsQuietSince c h x) (sym p.there) (quiet-onto c p.moves h n p.each)

pub stood-there : (h : History) → IsOfRun h → Stood h
stood-there h r = subst (λ (x : History). Stood x) (sym r.is) (stood-run r.began r.events)

happened : (c : ℕ) (events : List SessionEvent) (p : Pair) → AllMay c (map Happens events) p → Stood p.history → of.phase_of c p.history ≡ None → IsQuietSince c p.history (after c (map Happens events) p).history
happened c [] p may s n = record { phase = n; sent = refl }
happened c (event ∷ events) p may s n =
    let q : Pair = record p { history = taken event p.history } in
    let a : IsQuietSince c p.history q.history = quiet-passed c p.history q.history n (others-passed c event p.history may.0 s) in
    quiet-both c p.history q.history (after c (map Happens events) q).history a (happened c events q may.1 (stood-taken event p.history s) a.phase)

pub quiet-happened : (c : ℕ) (events : List SessionEvent) (p : Pair) (g : History) → AllMay c (map Happens events) p → (after c (map Happens events) p).history ≡ g → IsOfRun p.history → of.phase_of c p.history ≡ None → IsQuietSince c p.history g
quiet-happened c events p g may is r n = subst (λ (x : History). IsQuietSince c p.history x) is (happened c events p may (stood-there p.history r) n)

not-next : (c : ℕ) → suc c ≢ c
not-next c e = grind arith

pub quiet-joined : (c : ℕ) (h : History) → IsOfRun h → of.phase_of c h ≡ None → IsQuietSince c h (taken (Joined c) h)
quiet-joined c h r n =
    let s : Stood h = stood-there h r in
    let g : History = answered_to (Joined c) h in
    let a : IsQuietSince c (Outside (Joined c) ▷ h) g = quiet-onto c (reply (reading h) (Joined c)) (Outside (Joined c) ▷ h) n ((answer (Joined c) (suc c) h tt s.good s.steady).pass c (not-next c)) in
    let b : IsQuietSince c g (taken (Joined c) h) = quiet-passed c g (taken (Joined c) h) a.phase (went-passed c g (taken (Joined c) h) (went-taken (Joined c) h s.good s.steady)) in
    record { phase = b.phase; sent = b.sent ∙ a.sent }

pub quiet-left : (c : ℕ) (h : History) → IsOfRun h → of.phase_of c h ≡ None → IsQuietSince c h (taken (Left c) h)
quiet-left c h r n =
    let s : Stood h = stood-there h r in
    let g : History = answered_to (Left c) h in
    let begin : of.phase_of c (Outside (Left c) ▷ h) ≡ None = none-either (c == c) (of.phase_of c h) n in
    let a : IsQuietSince c (Outside (Left c) ▷ h) g = quiet-onto c (reply (reading h) (Left c)) (Outside (Left c) ▷ h) begin (left-passes c h s) in
    let b : IsQuietSince c g (taken (Left c) h) = quiet-passed c g (taken (Left c) h) a.phase (went-passed c g (taken (Left c) h) (went-taken (Left c) h s.good s.steady)) in
    record { phase = b.phase; sent = b.sent ∙ a.sent }
