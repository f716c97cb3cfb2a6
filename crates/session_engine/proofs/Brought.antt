-- What the code gives for a part of a client's stream: what the session hears of it, takes and does.
use Rattle.std.proofs.Common.{◌≡◌, ◌≢◌, ℕ, true, List, Option, Some, None, refl, sym, ◌∙◌, ap, subst}
use Rattle.std.specs.Prelude.{IfSome}
use Rattle.std.specs.Option.{is_some}
use Rattle.manager_machine.specs.Heard.{Hears, message_of}
use Rattle.manager_machine.specs.Keeper.{Keeper, StandsFor}
use Rattle.session_model.specs.declared.events.Act.{Act as SessionAct}
use Rattle.session_model.specs.declared.events.SessionEvent.TheVariants.{Said}
use Rattle.session_model.specs.Moves.{History}
use Rattle.session_model.specs.Rules.{taken}
use Rattle.session_state.specs.Session.{Session, reading_in}
use Rattle.ice_setup.specs.declared.states.AnySetup.{AnySetup}
use Rattle.xsmp_messages.specs.declared.message.XsmpMessage.{XsmpMessage}
use Rattle.xsmp_messages.specs.declared.view.XsmpView.{XsmpView}
use Rattle.session_engine.specs.Answers.{IsSpelled, speaks_xsmp}
use Rattle.session_engine.specs.Bringing.{CanHear, CutsSo, IsHeard, Replies, TakesReply, as_answer}
use Rattle.session_engine.specs.Machine.{Connection, connection_of}
use Rattle.session_engine.specs.Outcomes.{Answer, Outcome, Speaks}
use Rattle.session_engine.specs.Shown.{Agrees, CutsAt, IsShown, Matches, is_speaking, kept_at, to_cut}
use Rattle.session_engine.specs.Telling.{Answers, Follows, IsStanding, TakesAnswer}
use Rattle.session_engine.specs.declared.answers.Answer.{Answer as PlainAnswer}
use Rattle.session_engine.specs.declared.answers.Answer.TheVariants.{Stays as JustStays, Begins as JustBegins, Closes as JustCloses, Asks as JustAsks}
use Rattle.session_engine.specs.declared.connection.Answered.{Answered as PartAnswered}
use Rattle.session_engine.specs.declared.connection.Connection.{Connection as Kept}
use Rattle.session_engine.specs.declared.engine.Engine.{Engine}
use Rattle.session_engine.specs.declared.hearing.Reply.{Reply}
use Rattle.session_engine.specs.declared.hearing.Reply.TheVariants.{Answers as ItAnswers, Did as ItDid}
use Rattle.session_engine.specs.declared.live.Connections.{Connections}
use Rattle.session_engine.proofs.Answering.{gives-spoken, phase-is, takes-left}
use Rattle.session_engine.proofs.Outcomes.{Fits}
use Rattle.session_engine.proofs.Showing.{CutsOne, follows_told, to_cut-same}

-- ---- who can be heard

can_hear-by : (keeper : Keeper) (h : History) (ks : List Connection) (c : ℕ) (left : List ℕ) (kept : Option Kept) (k : Option Connection) → StandsFor keeper h → Agrees ks h → connection_of c ks ≡ k → Matches left kept k → IfSome kept (λ kept. speaks_xsmp kept.setup ≡ true → CanHear c (reading_in keeper.session))
can_hear-by keeper h ks c left None k stands agrees is_k match = tt
can_hear-by keeper h ks c left (Some kept) None stands agrees is_k match = elim match [ ]
can_hear-by keeper h ks c left (Some kept) (Some k) stands agrees is_k match = λ speaks.
    (takes-left keeper h ks c stands agrees (ap is_some is_k), phase-is keeper h ks c stands agrees ∙ (ap is_speaking is_k ∙ (ap speaks_xsmp (sym match.setup) ∙ speaks)))

-- where XSMP is spoken on a live connection it can be heard
pub can_hear : (c : ℕ) (left : List ℕ) (engine : Engine) → IsShown (to_cut c left) engine → IfSome (kept_at engine.live c) (λ kept. speaks_xsmp kept.setup ≡ true → CanHear c (reading_in engine.manager.session))
can_hear c left engine (m, shows) =
    can_hear-by engine.manager m.session m.connections c left (kept_at engine.live c) (connection_of c m.connections) shows.stands shows.agrees refl (rw (to_cut-same c left) at (shows.live.each c))

-- what is spoken on a connection is spoken where XSMP is
pub speaking-hears : (setup : AnySetup) (o : Outcome) (c : ℕ) (view : XsmpView) (sequence : ℕ) (s : Session) → record { setup = setup; answer = Speaks (message_of view) sequence view.frame.now } ≡ o → Fits setup o → IsSpelled (Speaks (message_of view) sequence view.frame.now) → (speaks_xsmp setup ≡ true → CanHear c (reading_in s)) → Hears c view (reading_in s)
speaking-hears setup o c view sequence s is fits spelled can =
    let fits_so : Fits setup (record { setup = setup; answer = Speaks (message_of view) sequence view.frame.now }) = subst (λ (o : Outcome). Fits setup o) (sym is) fits in
    let can_so = can fits_so.0 in
    (can_so.0, can_so.1, spelled.0)

-- ---- what the session takes

plain-spelled : (x : PlainAnswer) → IsSpelled (as_answer x)
plain-spelled (JustStays message) = tt
plain-spelled (JustBegins message) = tt
plain-spelled (JustCloses message) = tt
plain-spelled JustAsks = tt

pub takes-replied : (c : ℕ) (reply : Reply) (answer : Answer) (old new : Keeper) → Replies c answer reply old new → IsStanding old → (IsSpelled answer → TakesAnswer c answer old.session) → TakesReply c reply new.session
takes-replied c (ItAnswers x) answer old new (is, same) standing takes =
    let takes_so : TakesAnswer c (as_answer x) old.session = subst (λ (a : Answer). TakesAnswer c a old.session) is (takes (subst (λ (a : Answer). IsSpelled a) (sym is) (plain-spelled x))) in
    subst (λ (k : Keeper). TakesAnswer c (as_answer x) k.session) (sym same) takes_so
takes-replied c (ItDid acts) answer old new (message, sequence, frame, is, heard) (h, stands) takes = heard.fit h stands

pub stands-replied : (c : ℕ) (reply : Reply) (answer : Answer) (old new : Keeper) → Replies c answer reply old new → IsStanding old → IsStanding new
stands-replied c (ItAnswers x) answer old new (is, same) standing = subst (λ (k : Keeper). IsStanding k) (sym same) standing
stands-replied c (ItDid acts) answer old new (message, sequence, frame, is, heard) (h, stands) = (taken (Said c message sequence frame) h, heard.stands h stands)

-- ---- what is given then

-- an answer is given that told the session nothing before
pub answers-plain : (c : ℕ) (x : PlainAnswer) (answer : Answer) (before : Keeper) (old new : Engine) → answer ≡ as_answer x → old.manager ≡ before → Answers c (as_answer x) old new → Answers c answer (record old { manager = before }) new
answers-plain c x answer before old new is same answers =
    subst (λ (a : Answer). Answers c a (record old { manager = before }) new) (sym is)
    (subst (λ (k : Keeper). Answers c (as_answer x) (record old { manager = k }) new) same answers)

-- what the session did is followed
pub answers-heard : (c : ℕ) (acts : List SessionAct) (message : XsmpMessage) (sequence : ℕ) (frame : List ℕ) (answer : Answer) (before : Keeper) (old new : Engine) → answer ≡ Speaks message sequence frame → IsHeard (Said c message sequence frame) acts before old.manager → Follows acts old new → Answers c answer (record old { manager = before }) new
answers-heard c acts message sequence frame answer before old new is heard follows =
    let told : Engine = record old { manager = before } in
    subst (λ (a : Answer). Answers c a told new) (sym is)
    (gives-spoken c message sequence frame told new (follows_told (Said c message sequence frame) acts told old new refl refl refl heard.stands heard.acts follows))

-- ---- what was cut

-- the answer of the machine, and what was cut with it
pub record HasCut (c : ℕ) (left : List ℕ) (part : PartAnswered) (before after : Connections) (old new : Keeper) : Type 0 where
  pub answer : Answer
  pub cuts : CutsOne c left (Some (record { answer = answer; count = part.count })) before after
  pub replies : Replies c answer part.reply old new

pub has_cut : (c : ℕ) (left : List ℕ) (part : PartAnswered) (given : Option PartAnswered) (before after : Connections) (old new : Keeper) → given ≡ Some part → CutsSo c (λ answered. CutsAt (kept_at before c) left answered (kept_at after c)) given old new → ((q : ℕ) → q ≢ c → kept_at after q ≡ kept_at before q) → HasCut c left part before after old new
has_cut c left part given before after old new is cuts others =
    let cuts_so = subst (λ (o : Option PartAnswered). CutsSo c (λ answered. CutsAt (kept_at before c) left answered (kept_at after c)) o old new) is cuts in
    record { answer = cuts_so.0; cuts = record { here = cuts_so.1; others = others }; replies = cuts_so.2 }

-- nothing was cut
pub cut_none : (c : ℕ) (left : List ℕ) (given : Option PartAnswered) (before after : Connections) (old new : Keeper) → given ≡ None → CutsSo c (λ answered. CutsAt (kept_at before c) left answered (kept_at after c)) given old new → ((q : ℕ) → q ≢ c → kept_at after q ≡ kept_at before q) → CutsOne c left None before after × (new ≡ old)
cut_none c left given before after old new is cuts others =
    let cuts_so = subst (λ (o : Option PartAnswered). CutsSo c (λ answered. CutsAt (kept_at before c) left answered (kept_at after c)) o old new) is cuts in
    (record { here = cuts_so.0; others = others }, cuts_so.1)
