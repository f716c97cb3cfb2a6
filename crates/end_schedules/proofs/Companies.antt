-- A schedule of a manager and any number of clients is for each of them a schedule of a pair.
use Rattle.std.proofs.Common.{◌≡◌, refl, sym, ap, subst, ℕ, Bool, true, false, cond, List, [], ◌∷◌, eqb, arith}
use Rattle.std.specs.Prelude.{Option, Some, None}
use Rattle.std.proofs.lemmas.Bool.Decides.{nat_tests}
use Rattle.xsmp_messages.specs.declared.message.XsmpMessage.{XsmpMessage}
use Rattle.session_model.specs.declared.events.SessionEvent.{SessionEvent}
use Rattle.session_model.specs.declared.events.SessionEvent.TheVariants.{Joined, Left, Operator, Ready, Said, Tick}
use Rattle.session_model.specs.Moves.{History}
use Rattle.session_model.specs.Readings as of
use Rattle.session_model.specs.Rules as session
use Rattle.client_machine.specs.declared.saves.SaveAsk.{SaveAsk}
use Rattle.end_schedules.specs.Laws.{AllEndsAgree, KeepsAll}
use Rattle.end_schedules.specs.Pairs.{May, Pair, Step, begun, down_of, hand, hear, is_of, step}
use Rattle.end_schedules.specs.Pairs.Step.{Asks, Breaks as GoesDown, Closes, Happens, Hears, Takes}
use Rattle.end_schedules.specs.Schedules.{AllMayTurn, Company, End, MayTurn, Turn, after_turns, company_of, end_of, happens, is_own, paired, stepped, turn, with_end}
use Rattle.end_schedules.specs.Schedules.Turn.{Begins, Breaks, Joins, Orders, Steps, Waits}
use Rattle.end_schedules.proofs.Folds.{Keeps, keeps-all, keeps-begun, keeps-left, keeps-other, keeps-step}
use Rattle.end_schedules.proofs.Runs.{Stood, stood-run, stood-taken}

record Together (t : Company) : Type 0 where
  stood : Stood t.history
  each : (c : ℕ) (e : End) → t.ends c ≡ Some e → Keeps c (paired t.history e)

or_this : End → Option End → End
or_this e None = e
or_this e (Some f) = f

some-same : (e f : End) → Some e ≡ Some f → e ≡ f
unfolding or_this
some-same e f s = ap (λ (o : Option End). or_this e o) s

same-conn : (c d : ℕ) → eqb c d ≡ true → c ≡ d
same-conn c d e = grind (arith, nat_tests)

-- by whether it is this connection
by-at : (P : Type 0) (b : Bool) (c d : ℕ) → eqb c d ≡ b → (c ≡ d → P) → (eqb c d ≡ false → P) → P
by-at P true c d e f g = f (same-conn c d e)
by-at P false c d e f g = g e

by-conn : (P : Type 0) (c d : ℕ) → (c ≡ d → P) → (eqb c d ≡ false → P) → P
by-conn P c d f g = by-at P (eqb c d) c d refl f g

together-orders : (event : SessionEvent) (t : Company) → ((d : ℕ) → is_of d event ≡ false) → Together t → Together (happens event t)
together-orders event t n k = record { stood = stood-taken event t.history k.stood; each = λ d e q. keeps-other d event (paired t.history e) (n d) (k.each d e q) }

-- a connection breaks, whether its client is followed or not
together-breaks : (c : ℕ) (t : Company) → Together t → Together (turn (Breaks c) t)
together-breaks c t k = record {
  stood = stood-taken (Left c) t.history k.stood;
  each = λ d e q.
      by-conn (Keeps d (paired (session.taken (Left c) t.history) e)) c d
      (λ same. subst (λ (x : ℕ). Keeps d (paired (session.taken (Left x) t.history) e)) (sym same) (keeps-left d (paired t.history e) (k.each d e q)))
      (λ other. keeps-other d (Left c) (paired t.history e) other (k.each d e q));
}

-- the end of this connection, or that of another
here : (b : Bool) (o p : Option End) (e : End) → b ≡ true → cond b o p ≡ Some e → o ≡ Some e
here true o p e t q = q
here false o p e t q = absurd (grind arith)

elsewhere : (b : Bool) (o p : Option End) (e : End) → b ≡ false → cond b o p ≡ Some e → p ≡ Some e
elsewhere true o p e t q = absurd (grind arith)
elsewhere false o p e t q = q

own-conn : (c d : ℕ) → c ≡ d → eqb c d ≡ true
own-conn c d e = grind (arith, nat_tests)

-- this connection's end is new, and the others' stay
together-with : (c : ℕ) (o : Option End) (h : History) (t : Company) → Stood h → ((e : End) → o ≡ Some e → Keeps c (paired h e)) → ((d : ℕ) (e : End) → eqb c d ≡ false → Keeps d (paired t.history e) → Keeps d (paired h e)) → Together t
    → Together (record { history = h; ends = with_end c o t.ends })
together-with c o h t s f g k = record {
  stood = s;
  each = λ d e q.
      by-conn (Keeps d (paired h e)) c d
      (λ same. subst (λ (x : ℕ). Keeps x (paired h e)) same (f e (here (eqb c d) o (t.ends d) e (own-conn c d same) q)))
      (λ other. g d e other (k.each d e (elsewhere (eqb c d) o (t.ends d) e other q)));
}

together-joins : (c : ℕ) (t : Company) → Together t → Together (turn (Joins c) t)
together-joins c t k =
    together-with c None (session.taken (Joined c) t.history) t (stood-taken (Joined c) t.history k.stood) (λ e q. absurd cc) (λ d e other w. keeps-other d (Joined c) (paired t.history e) other w) k

together-begins : (c : ℕ) (previous : List ℕ) (asked : SaveAsk) (t : Company) → of.phase_of c t.history ≡ None → Together t → Together (turn (Begins c previous asked) t)
together-begins c previous asked t n k =
    together-with c (Some (end_of (begun c previous asked t.history))) (session.taken (Ready c) t.history) t (stood-taken (Ready c) t.history k.stood)
    (λ e q. subst (λ (x : End). Keeps c (paired (session.taken (Ready c) t.history) x)) (some-same (end_of (begun c previous asked t.history)) e q) (keeps-begun c previous asked t.history n k.stood))
    (λ d e other w. keeps-other d (Ready c) (paired t.history e) other w) k

-- what a step of one does to the others
others-hear : (c sequence : ℕ) (frame : List ℕ) (up : List XsmpMessage) (p : Pair) (d : ℕ) (e : End) → eqb c d ≡ false → Keeps d (paired p.history e) → Keeps d (paired (hear c sequence frame up p).history e)
others-hear c sequence frame [] p d e n k = k
others-hear c sequence frame (m ∷ up) p d e n k = keeps-other d (Said c m sequence frame) (paired p.history e) n k

others-hand : (down : List XsmpMessage) (p : Pair) (d : ℕ) (e : End) → Keeps d (paired p.history e) → Keeps d (paired (hand down p).history e)
others-hand [] p d e k = k
others-hand (m ∷ down) p d e k = k

others-step : (c : ℕ) (s : Step) (p : Pair) (d : ℕ) (e : End) → is_own s ≡ true → eqb c d ≡ false → Keeps d (paired p.history e) → Keeps d (paired (step c s p).history e)
others-step c (Asks request) p d e o n k = k
others-step c (Hears sequence frame) p d e o n k = others-hear c sequence frame p.up p d e n k
others-step c Takes p d e o n k = others-hand (down_of c p) p d e k
others-step c (Closes reasons) p d e o n k = k
others-step c (Happens event) p d e o n k = absurd (grind arith)
others-step c GoesDown p d e o n k = absurd (grind arith)

together-stepped : (c : ℕ) (s : Step) (o : Option End) (t : Company) → t.ends c ≡ o → is_own s ≡ true → ((e : End) → t.ends c ≡ Some e → May c s (paired t.history e)) → Together t → Together (stepped c s o t)
together-stepped c s None t q own may k = k
together-stepped c s (Some e) t q own may k =
    let p : Pair = step c s (paired t.history e) in
    let w : Keeps c p = keeps-step c s (paired t.history e) (may e q) (k.each c e q) in
    together-with c (Some (end_of p)) p.history t w.stood
    (λ f same. subst (λ (x : End). Keeps c (paired p.history x)) (some-same (end_of p) f same) w)
    (λ d f other v. others-step c s (paired t.history e) d f own other v) k

together-turn : (x : Turn) (t : Company) → MayTurn x t → Together t → Together (turn x t)
together-turn (Joins c) t m k = together-joins c t k
together-turn (Begins c previous asked) t m k = together-begins c previous asked t m.1 k
together-turn (Steps c s) t m k = together-stepped c s (t.ends c) t refl m.0 m.1 k
together-turn (Orders order) t m k = together-orders (Operator order) t (λ d. refl) k
together-turn (Waits milliseconds) t m k = together-orders (Tick milliseconds) t (λ d. refl) k
together-turn (Breaks c) t m k = together-breaks c t k

together-after : (turns : List Turn) (t : Company) → AllMayTurn turns t → Together t → Together (after_turns turns t)
together-after [] t m k = k
together-after (x ∷ turns) t m k = together-after turns (turn x t) m.1 (together-turn x t m.0 k)

together-begun : (h : History) → Stood h → Together (company_of h)
together-begun h s = record { stood = s; each = λ c e q. absurd cc }

there-after : (h : History) (turns : List Turn) (c : ℕ) (e : End) → Stood h → AllMayTurn turns (company_of h) → (after_turns turns (company_of h)).ends c ≡ Some e → KeepsAll c (paired (after_turns turns (company_of h)).history e)
there-after h turns c e s m q =
    let t : Company = after_turns turns (company_of h) in
    keeps-all c (paired t.history e) ((together-after turns (company_of h) m (together-begun h s)).each c e q)

pub all-agree : AllEndsAgree
all-agree book events turns m c e q = there-after _ turns c e (stood-run book events) m q
