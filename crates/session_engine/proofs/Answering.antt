-- What the session takes as a client is answered, and what the session in memory gives then.
use Rattle.std.proofs.Common.{◌≡◌, ◌≢◌, ℕ, Bool, true, false, List, [], ◌∷◌, ◌++◌, drop, Option, Some, None, refl, sym, ◌∙◌, ap, subst}
use Rattle.std.specs.Option.{is_some}
use Rattle.std.proofs.lemmas.Bool.{false≢true}
use Rattle.ice_messages.specs.declared.message.IceMessage.TheVariants.{NoClose}
use Rattle.interact_queue.specs.Queue.{is_in}
use Rattle.manager_machine.specs.Keeper.{Keeper, StandsFor}
use Rattle.xsmp_messages.specs.declared.message.XsmpMessage.{XsmpMessage}
use Rattle.session_clients.specs.Clients.{phase_in, conns_in}
use Rattle.session_model.specs.declared.phase.Phase.{Phase}
use Rattle.session_model.specs.declared.events.SessionEvent.TheVariants.{Joined as HasJoined, Ready, Said, Left}
use Rattle.session_model.specs.Moves.{History}
use Rattle.session_model.specs.Phases.{is_bound}
use Rattle.session_model.specs.Readings as of
use Rattle.session_model.specs.Rules.{Takes as TakesEvent}
use Rattle.session_state.specs.Session.{reading_in}
use Rattle.ice_framing.specs.Frames.{fed}
use Rattle.ice_framing.specs.Parts.{Part, parts_at}
use Rattle.session_engine.specs.Acts.{says}
use Rattle.session_engine.specs.Answers.{outcome, sequence_after, speaks_xsmp, IsSpelled}
use Rattle.session_engine.specs.Machine.{Connection, Machine, connection_of, changed, counted, does, noted, parted, asked, answered, told}
use Rattle.session_engine.specs.Shown.{Agrees, IsShown, Matches, Shows, ShowsLive, Leaves, CutsAt, TakesPart, is_speaking, kept_at, parts_left, to_cut}
use Rattle.session_engine.specs.Telling.{AgreesFor, Answers, Departs, GivesBehind, IsAnswering, ShowsOthers, TakesAnswer, Tells}
use Rattle.session_engine.specs.declared.acts.Act.{Act}
use Rattle.session_engine.specs.declared.acts.Act.TheVariants.{Say, Shut}
use Rattle.session_engine.specs.Outcomes.{Answer, Stays, Begins, Closes, Speaks, Asks, Outcome, Answered}
use Rattle.session_engine.specs.declared.connection.Connection.{Connection as Kept}
use Rattle.session_engine.specs.declared.engine.Engine.{Engine}
use Rattle.protocol_messages.specs.declared.message.Message.{Message}
use Rattle.protocol_messages.specs.declared.message.Message.TheVariants.{Ice}
use Rattle.session_engine.proofs.Following.{agrees-left, agrees-noted, agrees-ready, agrees-said, numbers-in}
use Rattle.session_engine.proofs.Outcomes.{FitsAnswer, fits-part}
use Rattle.session_engine.proofs.Showing.{CutsOne, acts_noted, everywhere, gives_behind, left_of, noted_shown, others_shown, same_outcome, tell_gives, to_cut-same}

-- ---- what the session takes

-- who is live to the session
pub live-is : (keeper : Keeper) (h : History) (ks : List Connection) (c : ℕ) → StandsFor keeper h → Agrees ks h → is_in c (conns_in keeper.session.clients.rows) ≡ is_some (connection_of c ks)
live-is keeper h ks c stands agrees = ap (is_in c) (stands.stands.live_is ∙ sym agrees.numbers) ∙ numbers-in c ks

-- who has a phase
pub phase-is : (keeper : Keeper) (h : History) (ks : List Connection) (c : ℕ) → StandsFor keeper h → Agrees ks h → is_some (phase_in c keeper.session.clients.rows) ≡ is_speaking (connection_of c ks)
phase-is keeper h ks c stands agrees = ap is_some (stands.stands.phases_are c) ∙ agrees.phases c

none_by : (p : Option Phase) → is_some p ≡ false → p ≡ None
none_by None e = refl
none_by (Some p) e = absurd (false≢true (sym e))

pub takes-joined : (keeper : Keeper) (h : History) (ks : List Connection) (c : ℕ) → StandsFor keeper h → Agrees ks h → connection_of c ks ≡ None → TakesEvent (HasJoined c) (reading_in keeper.session)
takes-joined keeper h ks c stands agrees none = live-is keeper h ks c stands agrees ∙ ap is_some none

pub takes-left : (keeper : Keeper) (h : History) (ks : List Connection) (c : ℕ) → StandsFor keeper h → Agrees ks h → is_some (connection_of c ks) ≡ true → TakesEvent (Left c) (reading_in keeper.session)
takes-left keeper h ks c stands agrees live = live-is keeper h ks c stands agrees ∙ live

pub takes-answer : (keeper : Keeper) (h : History) (ks : List Connection) (c : ℕ) (k : Connection) (after : Bool) (answer : Answer) → StandsFor keeper h → Agrees ks h → connection_of c ks ≡ Some k → FitsAnswer (speaks_xsmp k.setup) after answer → IsSpelled answer → TakesAnswer c answer keeper.session
takes-answer keeper h ks c k after (Stays message) stands agrees is_k fits spelled = tt
takes-answer keeper h ks c k after (Begins message) stands agrees is_k fits spelled = (takes-left keeper h ks c stands agrees (ap is_some is_k), none_by (phase_in c keeper.session.clients.rows) (phase-is keeper h ks c stands agrees ∙ (ap is_speaking is_k ∙ fits.0)))
takes-answer keeper h ks c k after (Closes message) stands agrees is_k fits spelled = takes-left keeper h ks c stands agrees (ap is_some is_k)
takes-answer keeper h ks c k after (Speaks message sequence frame) stands agrees is_k fits spelled =
    (takes-left keeper h ks c stands agrees (ap is_some is_k), phase-is keeper h ks c stands agrees ∙ (ap is_speaking is_k ∙ fits.0), spelled.0, spelled.1)
takes-answer keeper h ks c k after Asks stands agrees is_k fits spelled = takes-left keeper h ks c stands agrees (ap is_some is_k)

-- ---- answers

whole_shown : (pending : ℕ → List ℕ) (c : ℕ) (engine : Engine) (m : Machine) → ShowsOthers pending c engine m → Matches (pending c) (kept_at engine.live c) (connection_of c m.connections) → ShowsLive pending engine.live m.connections
whole_shown pending c engine m others here = record {
  each = everywhere (λ q. Matches (pending q) (kept_at engine.live q) (connection_of q m.connections)) c here others.others;
  distinct = others.distinct;
}

pub gives-said : (pending : ℕ → List ℕ) (c : ℕ) (acts : List Act) (m : Machine) (old new : Engine) → ShowsOthers pending c old m → Matches (pending c) (kept_at old.live c) (connection_of c m.connections) → Agrees m.connections m.session → new.cookie ≡ old.cookie → new.live ≡ old.live → new.manager ≡ old.manager → new.acts ≡ old.acts ++ acts → GivesBehind old.acts pending (does m acts) new
gives-said pending c acts m old new others here agrees cookie live manager gives = record {
  acts = gives ∙ ap (λ xs. old.acts ++ xs) (sym (acts_noted acts));
  shows = record {
    cookie = others.cookie ∙ sym cookie;
    live = rw live (whole_shown pending c old m others here);
    stands = rw manager others.stands;
    agrees = agrees;
  };
}

-- XSMP has begun
pub gives-begun : (c : ℕ) (message : Option Message) (old middle new : Engine) → middle.cookie ≡ old.cookie → middle.live ≡ old.live → middle.manager ≡ old.manager → middle.acts ≡ old.acts ++ says c message → Tells (Ready c) middle new → Answers c (Begins message) old new
gives-begun c message old middle new cookie live manager acts tells = λ pending m is.
    gives_behind old.acts (says c message) pending (told m (Ready c)) new
    (subst (λ (xs : List Act). GivesBehind xs pending (told m (Ready c)) new) acts
    (tell_gives (Ready c) pending m middle new tells (rw live (whole_shown pending c old m is.others (is.here tt))) (is.others.cookie ∙ sym cookie) (rw manager is.others.stands) is.agrees))

pub gives-spoken : (c : ℕ) (message : XsmpMessage) (sequence : ℕ) (frame : List ℕ) (old new : Engine) → Tells (Said c message sequence frame) old new → Answers c (Speaks message sequence frame) old new
gives-spoken c message sequence frame old new tells = λ pending m is.
    tell_gives (Said c message sequence frame) pending m old new tells (whole_shown pending c old m is.others (is.here tt)) is.others.cookie is.others.stands (agrees-said c message sequence frame m.connections m.session is.agrees)

-- a connection is closed
pub gives-parted : (c : ℕ) (acts : List Act) (old middle new : Engine) → middle.cookie ≡ old.cookie → Leaves c old.live middle.live → middle.manager ≡ old.manager → middle.acts ≡ old.acts ++ acts → Tells (Left c) middle new → Departs c acts old new
gives-parted c acts old middle new cookie leaves manager gives tells = λ pending m others agrees.
    gives_behind old.acts acts pending (told (parted m c) (Left c)) new
    (subst (λ (xs : List Act). GivesBehind xs pending (told (parted m c) (Left c)) new) gives
    (tell_gives (Left c) pending (parted m c) middle new tells (others_shown m.connections c pending old.live middle.live leaves others.others others.distinct) (others.cookie ∙ sym cookie) (rw manager others.stands) (agrees-left c m.connections m.session agrees)))

bound_is : (keeper : Keeper) (h : History) (c : ℕ) → StandsFor keeper h → is_bound (phase_in c keeper.session.clients.rows) ≡ is_bound (of.phase_of c h)
bound_is keeper h c stands = ap is_bound (stands.stands.phases_are c)

-- the client may not close
pub gives-kept : (c : ℕ) (old new : Engine) → is_bound (phase_in c old.manager.session.clients.rows) ≡ true → new.cookie ≡ old.cookie → new.live ≡ old.live → new.manager ≡ old.manager → new.acts ≡ old.acts ++ Say c (Ice NoClose) ∷ [] → Answers c Asks old new
gives-kept c old new bound cookie live manager acts = λ pending m is.
    let is_true : is_bound (of.phase_of c m.session) ≡ true = sym (bound_is old.manager m.session c is.others.stands) ∙ bound in
    subst (λ (b : Bool). GivesBehind old.acts pending (asked m c b) new) (sym is_true) (gives-said pending c (Say c (Ice NoClose) ∷ []) m old new is.others (is.here tt) is.agrees cookie live manager acts)

pub gives-closed : (c : ℕ) (old new : Engine) → is_bound (phase_in c old.manager.session.clients.rows) ≡ false → Departs c (Shut c ∷ []) old new → Answers c Asks old new
gives-closed c old new unbound departs_so = λ pending m is.
    let is_false : is_bound (of.phase_of c m.session) ≡ false = sym (bound_is old.manager m.session c is.others.stands) ∙ unbound in
    subst (λ (b : Bool). GivesBehind old.acts pending (asked m c b) new) (sym is_false) (departs_so pending m is.others is.agrees)

-- ---- a part is cut, noted and answered

pub agrees-for : (c : ℕ) (setup : _) (answer : Answer) (ks : List Connection) (h : History) (k : Connection) → connection_of c ks ≡ Some k → FitsAnswer (speaks_xsmp k.setup) (speaks_xsmp setup) answer → Agrees ks h → AgreesFor c answer (changed (counted setup) c ks) h
agrees-for c setup (Stays message) ks h k is_k fits agrees = agrees-noted c setup ks h k is_k fits agrees
agrees-for c setup (Begins message) ks h k is_k fits agrees = agrees-ready c setup ks h (ap is_some is_k) fits.1 agrees
agrees-for c setup (Closes message) ks h k is_k fits agrees = agrees-noted c setup ks h k is_k fits agrees
agrees-for c setup (Speaks message sequence frame) ks h k is_k fits agrees = agrees-noted c setup ks h k is_k fits.1 agrees
agrees-for c setup Asks ks h k is_k fits agrees = agrees-noted c setup ks h k is_k fits agrees

-- the next part of a connection's stream, and what is to be answered
pub record IsCut (m : Machine) (c : ℕ) (left : List ℕ) (answered_so : Answered) (cut_so : Engine) : Type 0 where
  pub k : Connection
  pub is_k : connection_of c m.connections ≡ Some k
  pub part : Part
  pub rest : List Part
  pub is_next : parts_left m c ≡ part ∷ rest
  pub answer : answered_so.answer ≡ (outcome k.setup (sequence_after k.taken) part).answer
  pub fits : FitsAnswer (speaks_xsmp k.setup) (speaks_xsmp (outcome k.setup (sequence_after k.taken) part).setup) answered_so.answer
  pub answering : IsAnswering (to_cut c (drop answered_so.count left)) c answered_so.answer cut_so (noted m c (outcome k.setup (sequence_after k.taken) part).setup)

some_is_not_none : (a : Answered) → Some a ≡ None → ⊥
some_is_not_none a e = cc

cut_by : (m : Machine) (c : ℕ) (left : List ℕ) (answered_so : Answered) (kept : Option Kept) (k : Option Connection) (before cut_so : Engine) → connection_of c m.connections ≡ k → Matches left kept k → CutsAt kept left (Some answered_so) (kept_at cut_so.live c) → ((q : ℕ) → q ≢ c → kept_at cut_so.live q ≡ kept_at before.live q) → cut_so.cookie ≡ before.cookie → cut_so.manager ≡ before.manager → Shows (to_cut c left) before m → IsCut m c left answered_so cut_so
cut_by m c left answered_so None k before cut_so is_k match cuts others cookie manager shows = absurd (some_is_not_none answered_so cuts.0)
cut_by m c left answered_so (Some kept) None before cut_so is_k match cuts others cookie manager shows = elim match [ ]
cut_by m c left answered_so (Some kept) (Some k) before cut_so is_k match (changed_kept, is_changed, takes) others cookie manager shows =
    let o : Outcome = outcome k.setup (sequence_after k.taken) takes.part in
    let is_answer : answered_so.answer ≡ o.answer = takes.answer ∙ ap (λ (o : Outcome). o.answer) (same_outcome left kept k takes.part match) in
    let fits : FitsAnswer (speaks_xsmp k.setup) (speaks_xsmp o.setup) answered_so.answer = subst (λ (answer : Answer). FitsAnswer (speaks_xsmp k.setup) (speaks_xsmp o.setup) answer) (sym is_answer) (fits-part k.setup (sequence_after k.taken) takes.part) in
    record {
      k = k;
      is_k = is_k;
      part = takes.part;
      rest = parts_at (fed changed_kept.splitter (drop answered_so.count left));
      is_next = rw is_k (left_of left kept k match ∙ takes.parts);
      answer = is_answer;
      fits = fits;
      answering = noted_shown m c left answered_so kept changed_kept k before cut_so is_k is_changed match takes others cookie manager shows (agrees-for c o.setup answered_so.answer m.connections m.session k is_k fits shows.agrees);
    }

pub is_cut : (m : Machine) (c : ℕ) (left : List ℕ) (answered_so : Answered) (before cut_so : Engine) → CutsOne c left (Some answered_so) before.live cut_so.live → cut_so.cookie ≡ before.cookie → cut_so.manager ≡ before.manager → Shows (to_cut c left) before m → IsCut m c left answered_so cut_so
is_cut m c left answered_so before cut_so cuts cookie manager shows =
    cut_by m c left answered_so (kept_at before.live c) (connection_of c m.connections) before cut_so refl (rw (to_cut-same c left) at (shows.live.each c)) cuts.here cuts.others cookie manager shows

-- what the part tells the session, it takes
pub takes-cut : (c : ℕ) (left : List ℕ) (answered_so : Answered) (before cut_so : Engine) → CutsOne c left (Some answered_so) before.live cut_so.live → cut_so.cookie ≡ before.cookie → cut_so.manager ≡ before.manager → IsSpelled answered_so.answer → IsShown (to_cut c left) before → TakesAnswer c answered_so.answer before.manager.session
takes-cut c left answered_so before cut_so cuts cookie manager spelled (m, shows) =
    let cut_at : IsCut m c left answered_so cut_so = is_cut m c left answered_so before cut_so cuts cookie manager shows in
    takes-answer before.manager m.session m.connections c cut_at.k (speaks_xsmp (outcome cut_at.k.setup (sequence_after cut_at.k.taken) cut_at.part).setup) answered_so.answer shows.stands shows.agrees cut_at.is_k cut_at.fits spelled

pub takes_part : (m : Machine) (c : ℕ) (left : List ℕ) (answered_so : Answered) (cut_so after : Engine) → cut_so.acts ≡ [] → IsCut m c left answered_so cut_so → Answers c answered_so.answer cut_so after → TakesPart m c (drop answered_so.count left) after
takes_part m c left answered_so cut_so after none cuts answers =
    let o : Outcome = outcome cuts.k.setup (sequence_after cuts.k.taken) cuts.part in
    let given : GivesBehind [] (to_cut c (drop answered_so.count left)) (answered (noted m c o.setup) c o.answer) after =
    subst (λ (answer : Answer). GivesBehind [] (to_cut c (drop answered_so.count left)) (answered (noted m c o.setup) c answer) after) cuts.answer
    (subst (λ (xs : List Act). GivesBehind xs (to_cut c (drop answered_so.count left)) (answered (noted m c o.setup) c answered_so.answer) after) none (answers (to_cut c (drop answered_so.count left)) (noted m c o.setup) cuts.answering)) in
    record {
      part = cuts.part;
      rest = cuts.rest;
      is_next = cuts.is_next;
      acts = rw (cuts.is_k) (given.acts);
      shows = rw (cuts.is_k) (given.shows);
    }
