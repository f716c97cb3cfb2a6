-- What comes from elsewhere is a list of steps at which something happens beside the client.
use Rattle.std.proofs.Common.{◌≡◌, ◌⊎◌, inl, inr, refl, sym, ap, ◌∙◌, subst, ℕ, suc, Bool, true, false, List, [], ◌∷◌, ◌++◌, map, append-nil, append_assoc, arith}
use Rattle.std.specs.Prelude.{Option, None, Some, ◌==◌}
use Rattle.std.specs.List.{flat_map}
use Rattle.std.proofs.lemmas.Bool.{cases_eq}
use Rattle.std.proofs.lemmas.Grind.{flat_map-append}
use Rattle.std.proofs.lemmas.List.{map-append}
use Rattle.sm_world.specs.declared.events.Event.{Event}
use Rattle.sm_world.specs.declared.events.Event.TheVariants.{End as Ends, Gone, Joined, Operator, Piece, Tick}
use Rattle.ice_framing.specs.Parts.{Part, new_parts}
use Rattle.ice_setup.specs.declared.states.AnySetup.{AnySetup}
use Rattle.ice_setup.specs.declared.states.AnySetup.TheVariants.{AwaitCookie as AtCookie, AwaitOrder as AtOrder, AwaitProtocol as AtProtocol, AwaitProtocolCookie as AtProtocolCookie, AwaitSetup as AtSetup, Ready as AtReady}
use Rattle.protocol_messages.specs.declared.message.Message.{Message}
use Rattle.protocol_messages.specs.declared.message.Message.TheVariants.{Xsmp}
use Rattle.session_model.specs.declared.events.Act.{Act as SessionAct}
use Rattle.session_model.specs.declared.events.Act.TheVariants.{Shut as ShutsConn, Unset}
use Rattle.session_model.specs.declared.events.SessionEvent.{SessionEvent}
use Rattle.session_model.specs.declared.events.SessionEvent.TheVariants.{Joined as HasJoined, Left, Operator as Ordered, Ready, Said, Tick as Ticked}
use Rattle.session_model.specs.Moves.{History, Outside, ◌▷◌}
use Rattle.session_model.specs.Phases.{is_bound}
use Rattle.session_model.specs.Readings as of
use Rattle.session_model.specs.Rules.{taken}
use Rattle.session_engine.specs.Acts.{says}
use Rattle.session_engine.specs.Answers.{outcome, sequence_after, without_xsmp}
use Rattle.session_engine.specs.Machine.{Connection, Does, Entry, Machine, Step as Done, act_in, acts_of, acts_since, answered, asked, behind, changed, connection_of, connections_after, connections_through, counted, departs, does, fed_on, fed_with, gone_for, greeted, greeting, join_for, joined, joining, noted, part_for, part_taken, parted, parts_taken, piece_for, stays, step, told, unset_on, without}
use Rattle.session_engine.specs.Outcomes.{Answer, Asks, Begins, Closes, Outcome, Speaks, Stays}
use Rattle.session_engine.specs.Shown.{Agrees}
use Rattle.session_engine.specs.Telling.{AgreesFor}
use Rattle.session_engine.specs.declared.acts.Act.{Act}
use Rattle.session_engine.specs.declared.acts.Act.TheVariants.{Shut}
use Rattle.session_engine.proofs.Answering.{agrees-for}
use Rattle.session_engine.proofs.Connections.{connection_of-append, connection_of-changed, connection_of-without, other, same}
use Rattle.session_engine.proofs.Following.{agrees-changed, agrees-joined, agrees-left, agrees-ordered, agrees-said, agrees-ticked, agrees-told}
use Rattle.session_engine.proofs.Outcomes.{fits-part}
use Rattle.session_engine.proofs.Showing.{acts_noted}
use Rattle.end_agreement.proofs.Calm.{differ}
use Rattle.end_schedules.specs.Pairs.{AllMay, Pair, Step, after, is_of}
use Rattle.end_schedules.specs.Pairs.Step.{Happens}
use Rattle.end_schedules.specs.Schedules.{paired}
use Rattle.end_schedules.specs.UnderWay.{sent_to}
use Rattle.stream_clients.proofs.Stepping.{after-both, may-both}
use Rattle.end_bytes.specs.Elsewhere.{HappensBeside, OthersHappenBeside, StaysAs, is_from}
use Rattle.end_bytes.specs.Saying.{said_by, said_on}
use Rattle.end_bytes.proofs.Said.{all-sent}

-- The connection

apart-of : (c d : ℕ) → (d == c) ≡ false → c ≡ d → ⊥
apart-of c d f e = differ (same d c (sym e)) f

silent-twice : (setup : AnySetup) → without_xsmp (without_xsmp setup) ≡ without_xsmp setup
silent-twice (AtOrder s) = refl
silent-twice (AtSetup s) = refl
silent-twice (AtCookie s) = refl
silent-twice (AtProtocol s) = refl
silent-twice (AtProtocolCookie s) = refl
silent-twice (AtReady s) = refl

setup-unset : (was now : AnySetup) → (now ≡ was) ⊎ (now ≡ without_xsmp was) → (without_xsmp now ≡ was) ⊎ (without_xsmp now ≡ without_xsmp was)
setup-unset was now (inl e) = inr (ap without_xsmp e)
setup-unset was now (inr e) = inr (ap without_xsmp e ∙ silent-twice was)

pub stays-as : (k : Option Connection) → StaysAs k k
stays-as None = tt
stays-as (Some k) = (refl, refl, inl refl)

unset-as : (before now : Option Connection) → StaysAs before now → (c : ℕ) (ks : List Connection) → connection_of c ks ≡ now → StaysAs before (connection_of c (changed unset_on c ks))
unset-as before None s c ks is = rw (connection_of-changed unset_on (λ x. refl) c c ks, same c c refl, is) tt
unset-as None (Some now) s c ks is = absurd s
unset-as (Some k) (Some now) s c ks is = rw (connection_of-changed unset_on (λ x. refl) c c ks, same c c refl, is) (s.0, s.1, setup-unset k.setup now.setup s.2)

unchanged : (f : Connection → Connection) → ((k : Connection) → (f k).number ≡ k.number) → (c d : ℕ) (ks : List Connection) → (c ≡ d → ⊥) → connection_of c (changed f d ks) ≡ connection_of c ks
unchanged f keeps c d ks apart = rw (connection_of-changed f keeps d c ks, other c d apart) refl

still-there : (c d : ℕ) (ks : List Connection) → (c ≡ d → ⊥) → connection_of c (without d ks) ≡ connection_of c ks
still-there c d ks apart = rw (connection_of-without d c ks, other c d apart) refl

as-after : (before : Option Connection) (act : SessionAct) (c : ℕ) (ks : List Connection) → StaysAs before (connection_of c ks) → StaysAs before (connection_of c (connections_after act ks))
as-after before (Unset d) c ks s = elim (cases_eq c d) [
  | inl e ↦ subst (λ (n : ℕ). StaysAs before (connection_of c (changed unset_on n ks))) e (unset-as before (connection_of c ks) s c ks refl)
  | inr apart ↦ subst (λ (o : Option Connection). StaysAs before o) (sym (unchanged unset_on (λ x. refl) c d ks apart)) s
]
as-after before (ShutsConn d) c ks s = elim (cases_eq c d) [
  | inl e ↦ rw (connection_of-without d c ks, same c d e) tt
  | inr apart ↦ subst (λ (o : Option Connection). StaysAs before o) (sym (still-there c d ks apart)) s
]
as-after before act c ks s = s

pub as-through : (before : Option Connection) (acts : List SessionAct) (c : ℕ) (ks : List Connection) → StaysAs before (connection_of c ks) → StaysAs before (connection_of c (connections_through acts ks))
as-through before [] c ks s = s
as-through before (act ∷ acts) c ks s = as-through before acts c (connections_after act ks) (as-after before act c ks s)

-- What is done

-- nothing is said on c, and nothing comes to the session
beside-still : (c : ℕ) (k : Option Connection) (done : Done) → said_by c done ≡ [] → Agrees done.next.connections done.next.session → StaysAs k (connection_of c done.next.connections) → HappensBeside c k done.next.session done
beside-still c k done none agrees s = record {
  events = [];
  may = λ e. tt;
  there = λ e. refl;
  said = sym (append-nil (map Xsmp (sent_to c done.next.session))) ∙ ap (λ (xs : List Message). map Xsmp (sent_to c done.next.session) ++ xs) (sym none);
  agrees = agrees;
  stays = s;
}

sent-same : (c : ℕ) (event : SessionEvent) (h : History) → is_of c event ≡ false → sent_to c (Outside event ▷ h) ≡ sent_to c h
sent-same c (Ready d) h f = rw f refl
sent-same c event h f = refl

-- the session is told of something that isn't of c
beside-told : (c : ℕ) (k : Option Connection) (m : Machine) (event : SessionEvent) → is_of c event ≡ false → Agrees m.connections (Outside event ▷ m.session) → StaysAs k (connection_of c m.connections) → HappensBeside c k m.session (told m event)
beside-told c k m event f agrees s = record {
  events = event ∷ [];
  may = λ e. (f, tt);
  there = λ e. refl;
  said = all-sent c m event ∙ ap (λ (ms : List _). map Xsmp ms ++ said_by c (told m event)) (sent-same c event m.session f);
  agrees = agrees-told event m.connections m.session agrees;
  stays = as-through k (acts_since m.session (taken event m.session)) c m.connections s;
}

-- something is said on another connection first
beside-behind : (c : ℕ) (k : Option Connection) (h : History) (line : List Entry) (done : Done) → flat_map (said_on c) (flat_map act_in line) ≡ [] → HappensBeside c k h done → HappensBeside c k h (behind line done)
beside-behind c k h line done none b =
    let said : said_by c (behind line done) ≡ said_by c done =
    ap (flat_map (said_on c)) (flat_map-append act_in line done.line) ∙ flat_map-append (said_on c) (flat_map act_in line) (acts_of done) ∙ ap (λ (xs : List Message). xs ++ said_by c done) none in
    record {
      events = b.events;
      may = b.may;
      there = b.there;
      said = b.said ∙ ap (λ (xs : List Message). map Xsmp (sent_to c h) ++ xs) (sym said);
      agrees = b.agrees;
      stays = b.stays;
    }

beside-both : (c : ℕ) (k : Option Connection) (h : History) (first done : Done) → HappensBeside c k h first → HappensBeside c k first.next.session done → HappensBeside c k h (behind first.line done)
beside-both c k h first done a b =
    let steps : map Happens (a.events ++ b.events) ≡ map Happens a.events ++ map Happens b.events = map-append Happens a.events b.events in
    let said : said_by c (behind first.line done) ≡ said_by c first ++ said_by c done =
    ap (flat_map (said_on c)) (flat_map-append act_in first.line done.line) ∙ flat_map-append (said_on c) (acts_of first) (acts_of done) in
    record {
      events = a.events ++ b.events;
      may = λ e. subst (λ (xs : List Step). AllMay c xs (paired h e)) (sym steps) (may-both c (map Happens a.events) (map Happens b.events) (paired h e) (a.may e) (subst (λ (p : Pair). AllMay c (map Happens b.events) p) (sym (a.there e)) (b.may e)));
      there = λ e. ap (λ (xs : List Step). after c xs (paired h e)) steps ∙ after-both c (map Happens a.events) (map Happens b.events) (paired h e) ∙ ap (λ (p : Pair). after c (map Happens b.events) p) (a.there e) ∙ b.there e;
      said = b.said ∙ ap (λ (xs : List Message). xs ++ said_by c done) a.said ∙ append_assoc (map Xsmp (sent_to c h)) (said_by c first) (said_by c done) ∙ ap (λ (xs : List Message). map Xsmp (sent_to c h) ++ xs) (sym said);
      agrees = b.agrees;
      stays = b.stays;
    }

-- Answers to another connection

silent-says : (c d : ℕ) (message : Option Message) → (d == c) ≡ false → flat_map (said_on c) (says d message) ≡ []
silent-says c d None f = refl
silent-says c d (Some message) f = rw f refl

silent-noted : (c : ℕ) (acts : List Act) → flat_map (said_on c) acts ≡ [] → flat_map (said_on c) (flat_map act_in (map Does acts)) ≡ []
silent-noted c acts none = ap (flat_map (said_on c)) (acts_noted acts) ∙ none

silent-closing : (c d : ℕ) (message : Option Message) → (d == c) ≡ false → flat_map (said_on c) (says d message ++ Shut d ∷ []) ≡ []
silent-closing c d message f = flat_map-append (said_on c) (says d message) (Shut d ∷ []) ∙ ap (λ (xs : List Message). xs ++ []) (silent-says c d message f)

beside-departs : (c : ℕ) (k : Option Connection) (m : Machine) (d : ℕ) (acts : List Act) → (d == c) ≡ false → flat_map (said_on c) acts ≡ [] → Agrees m.connections m.session → StaysAs k (connection_of c m.connections) → HappensBeside c k m.session (departs m d acts)
beside-departs c k m d acts f none agrees s =
    beside-behind c k m.session (map Does acts) (told (parted m d) (Left d)) (silent-noted c acts none)
    (beside-told c k (parted m d) (Left d) f (agrees-left d m.connections m.session agrees) (subst (λ (o : Option Connection). StaysAs k o) (sym (still-there c d m.connections (apart-of c d f))) s))

beside-asked : (c : ℕ) (k : Option Connection) (m : Machine) (d : ℕ) (b : Bool) → (d == c) ≡ false → Agrees m.connections m.session → StaysAs k (connection_of c m.connections) → HappensBeside c k m.session (asked m d b)
beside-asked c k m d true f agrees s = beside-still c k (asked m d true) (rw f refl) agrees s
beside-asked c k m d false f agrees s = beside-departs c k m d (Shut d ∷ []) f refl agrees s

beside-answered : (c : ℕ) (k : Option Connection) (m : Machine) (d : ℕ) (answer : Answer) → (d == c) ≡ false → AgreesFor d answer m.connections m.session → StaysAs k (connection_of c m.connections) → HappensBeside c k m.session (answered m d answer)
beside-answered c k m d (Stays message) f agrees s = beside-still c k (does m (says d message)) (silent-noted c (says d message) (silent-says c d message f)) agrees s
beside-answered c k m d (Begins message) f agrees s = beside-behind c k m.session (map Does (says d message)) (told m (Ready d)) (silent-noted c (says d message) (silent-says c d message f)) (beside-told c k m (Ready d) f agrees s)
beside-answered c k m d (Closes message) f agrees s = beside-departs c k m d (says d message ++ Shut d ∷ []) f (silent-closing c d message f) agrees s
beside-answered c k m d (Speaks message sequence frame) f agrees s = beside-told c k m (Said d message sequence frame) f (agrees-said d message sequence frame m.connections m.session agrees) s
beside-answered c k m d Asks f agrees s = beside-asked c k m d (is_bound (of.phase_of d m.session)) f agrees s

beside-part : (c : ℕ) (k : Option Connection) (m : Machine) (d : ℕ) (part : Part) (o : Option Connection) → connection_of d m.connections ≡ o → (d == c) ≡ false → Agrees m.connections m.session → StaysAs k (connection_of c m.connections)
    → HappensBeside c k m.session (part_for m d part o)
beside-part c k m d part None is f agrees s = beside-still c k (stays m) refl agrees s
beside-part c k m d part (Some it) is f agrees s =
    let o : Outcome = outcome it.setup (sequence_after it.taken) part in
    let n : Machine = noted m d o.setup in
    beside-behind c k m.session (_ ∷ []) (answered n d o.answer) refl
    (beside-answered c k n d o.answer f (agrees-for d o.setup o.answer m.connections m.session it is (fits-part it.setup (sequence_after it.taken) part) agrees)
    (subst (λ (x : Option Connection). StaysAs k x) (sym (unchanged (counted o.setup) (λ x. refl) c d m.connections (apart-of c d f))) s))

beside-parts : (c : ℕ) (k : Option Connection) (m : Machine) (d : ℕ) (parts : List Part) → (d == c) ≡ false → Agrees m.connections m.session → StaysAs k (connection_of c m.connections) → HappensBeside c k m.session (parts_taken m d parts)
beside-parts c k m d [] f agrees s = beside-still c k (stays m) refl agrees s
beside-parts c k m d (part ∷ parts) f agrees s =
    let a : HappensBeside c k m.session (part_taken m d part) = beside-part c k m d part (connection_of d m.connections) refl f agrees s in
    let n : Machine = (part_taken m d part).next in
    beside-both c k m.session (part_taken m d part) (parts_taken n d parts) a (beside-parts c k n d parts f a.agrees a.stays)

beside-piece : (c : ℕ) (k : Option Connection) (m : Machine) (d : ℕ) (bytes : List ℕ) (o : Option Connection) → (d == c) ≡ false → Agrees m.connections m.session → StaysAs k (connection_of c m.connections) → HappensBeside c k m.session (piece_for m d bytes o)
beside-piece c k m d bytes None f agrees s = beside-still c k (stays m) refl agrees s
beside-piece c k m d bytes (Some it) f agrees s =
    beside-parts c k (fed_on m d bytes) d (new_parts it.stream bytes) f (agrees-changed (fed_with bytes) (λ x. refl) (λ x. refl) d m.connections m.session agrees)
    (subst (λ (x : Option Connection). StaysAs k x) (sym (unchanged (fed_with bytes) (λ x. refl) c d m.connections (apart-of c d f))) s)

-- Another connection is opened.

silent-greeting : (c d : ℕ) (o : Option Connection) → (d == c) ≡ false → flat_map (said_on c) (greeting d o) ≡ []
silent-greeting c d None f = refl
silent-greeting c d (Some it) f = rw f refl

beside-greeted : (c : ℕ) (k : Option Connection) (h : History) (d : ℕ) (done : Done) → (d == c) ≡ false → HappensBeside c k h done → HappensBeside c k h (greeted d done)
beside-greeted c k h d done f b =
    let hello : List Act = greeting d (connection_of d done.next.connections) in
    let said : said_by c (greeted d done) ≡ said_by c done =
    ap (flat_map (said_on c)) (flat_map-append act_in done.line (map Does hello)) ∙ flat_map-append (said_on c) (acts_of done) (flat_map act_in (map Does hello))
    ∙ ap (λ (xs : List Message). said_by c done ++ xs) (silent-noted c hello (silent-greeting c d (connection_of d done.next.connections) f)) ∙ append-nil (said_by c done) in
    record {
      events = b.events;
      may = b.may;
      there = b.there;
      said = b.said ∙ ap (λ (xs : List Message). map Xsmp (sent_to c h) ++ xs) (sym said);
      agrees = b.agrees;
      stays = b.stays;
    }

joined-beside : (c d : ℕ) (m : Machine) → (c ≡ d → ⊥) → connection_of d m.connections ≡ None → connection_of c (joining m d).connections ≡ connection_of c m.connections
joined-beside c d m apart none = rw (connection_of-append c m.connections (joined m.cookie d) none, other c d apart) refl

beside-join : (c : ℕ) (m : Machine) (d : ℕ) (o : Option Connection) → connection_of d m.connections ≡ o → (d == c) ≡ false → Agrees m.connections m.session → HappensBeside c (connection_of c m.connections) m.session (join_for m d o)
beside-join c m d None is f agrees =
    let k : Option Connection = connection_of c m.connections in
    beside-greeted c k m.session d (told (joining m d) (HasJoined d)) f
    (beside-told c k (joining m d) (HasJoined d) f (agrees-joined m.cookie d m.connections m.session is agrees) (subst (λ (x : Option Connection). StaysAs k x) (sym (joined-beside c d m (apart-of c d f) is)) (stays-as k)))
beside-join c m d (Some it) is f agrees = beside-still c (connection_of c m.connections) (stays m) refl agrees (stays-as (connection_of c m.connections))

beside-gone : (c : ℕ) (m : Machine) (d : ℕ) (o : Option Connection) → (d == c) ≡ false → Agrees m.connections m.session → HappensBeside c (connection_of c m.connections) m.session (gone_for m d o)
beside-gone c m d None f agrees = beside-still c (connection_of c m.connections) (stays m) refl agrees (stays-as (connection_of c m.connections))
beside-gone c m d (Some it) f agrees =
    let k : Option Connection = connection_of c m.connections in
    beside-told c k (parted m d) (Left d) f (agrees-left d m.connections m.session agrees) (subst (λ (o : Option Connection). StaysAs k o) (sym (still-there c d m.connections (apart-of c d f))) (stays-as k))

pub others-beside : OthersHappenBeside
others-beside c m (Joined d) f agrees = beside-join c m d (connection_of d m.connections) refl f agrees
others-beside c m (Piece d bytes) f agrees = beside-piece c (connection_of c m.connections) m d bytes (connection_of d m.connections) f agrees (stays-as (connection_of c m.connections))
others-beside c m (Gone d) f agrees = beside-gone c m d (connection_of d m.connections) f agrees
others-beside c m (Operator order) f agrees = beside-told c (connection_of c m.connections) m (Ordered order) refl (agrees-ordered order m.connections m.session agrees) (stays-as (connection_of c m.connections))
others-beside c m (Tick milliseconds) f agrees = beside-told c (connection_of c m.connections) m (Ticked milliseconds) refl (agrees-ticked milliseconds m.connections m.session agrees) (stays-as (connection_of c m.connections))
others-beside c m Ends f agrees = beside-still c (connection_of c m.connections) (step m Ends) refl agrees (stays-as (connection_of c m.connections))

-- The session and the connections agree behind each event, and behind each part: what there is beside some other connection.

not-next : (d : ℕ) → (d == suc d) ≡ false
not-next d = other d (suc d) (λ e. omega (arith, e))

abbrev somebody : Event → ℕ
somebody (Joined d) = suc d
somebody (Piece d bytes) = suc d
somebody (Gone d) = suc d
somebody event = 0

from-another : (event : Event) → is_from (somebody event) event ≡ false
from-another (Joined d) = not-next d
from-another (Piece d bytes) = not-next d
from-another (Gone d) = not-next d
from-another event = refl

pub agrees-step : (m : Machine) (event : Event) → Agrees m.connections m.session → Agrees (step m event).next.connections (step m event).next.session
agrees-step m event a = (others-beside (somebody event) m event (from-another event) a).agrees

pub agrees-part : (c : ℕ) (m : Machine) (part : Part) → Agrees m.connections m.session → Agrees (part_taken m c part).next.connections (part_taken m c part).next.session
agrees-part c m part a = (beside-part (suc c) (connection_of (suc c) m.connections) m c part (connection_of c m.connections) refl (not-next c) a (stays-as (connection_of (suc c) m.connections))).agrees
