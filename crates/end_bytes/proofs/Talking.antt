-- As long as XSMP is spoken, each step of bytes is a list of steps of a schedule.
use Rattle.std.proofs.Common.{◌≡◌, ◌⊎◌, inl, inr, refl, sym, ap, ◌∙◌, subst, ℕ, ◌+◌, ◌≤◌, Bool, true, false, cond, List, [], ◌∷◌, ◌++◌, map, take, drop, length, append-nil, append_assoc, length-append, length-drop, arith}
use Rattle.std.specs.Prelude.{Option, None, Some, is_some}
use Rattle.std.specs.List.{AllByRecursion}
use Rattle.std.proofs.lemmas.Grind.{flat_map-append}
use Rattle.std.proofs.lemmas.List.{drop-append-le, drop-drop, drop-map, length-map, map-append}
use Rattle.std.proofs.Math.Seq.{drop-append_seam}
use Rattle.sm_world.specs.declared.events.Event.{Event}
use Rattle.sm_world.specs.declared.events.Event.TheVariants.{Piece}
use Rattle.ice_framing.specs.Frames.{Standing, fed, standing_of, unit_limit, units}
use Rattle.ice_framing.specs.Parts.{parts_at}
use Rattle.ice_setup.specs.Opener.{client_opcode}
use Rattle.ice_setup.specs.Setup.{manager_opcode}
use Rattle.ice_setup.specs.declared.opener.Joined.{Joined}
use Rattle.ice_setup.specs.declared.states.AnySetup.{AnySetup}
use Rattle.xsmp_messages.specs.Messages.{IsMessage}
use Rattle.xsmp_messages.specs.declared.message.XsmpMessage.{XsmpMessage}
use Rattle.client_machine.specs.Phases.{ClientState}
use Rattle.client_engine.specs.Driving.{Run, Step as Did, parts_taken, piece_taken, standing_at, stays}
use Rattle.client_engine.specs.Places.{is_listening}
use Rattle.client_engine.specs.declared.place.Place.{Place}
use Rattle.client_engine.specs.declared.place.Place.TheVariants.{Opening, Speaking, Stopped}
use Rattle.protocol_messages.specs.Messages.{spelled_under}
use Rattle.protocol_messages.specs.declared.message.Message.{Message}
use Rattle.protocol_messages.specs.declared.message.Message.TheVariants.{Xsmp}
use Rattle.session_model.specs.Moves.{History}
use Rattle.session_model.specs.Readings as of
use Rattle.session_model.specs.Rules.{opened, run, taken}
use Rattle.session_model.specs.declared.events.SessionEvent.TheVariants.{Left}
use Rattle.session_engine.specs.Answers.{without_xsmp}
use Rattle.session_engine.specs.Machine.{Connection, Machine, Step as Done, acts_since, connection_of, gone_for, parted, step as event_step, told, without}
use Rattle.session_engine.specs.Shown.{Agrees as HaveSame, is_speaking}
use Rattle.session_engine.proofs.Following.{agrees-left, agrees-told}
use Rattle.message_streams.specs.Streams.{HasBytes, HoldsBytes, bytes_of}
use Rattle.end_agreement.proofs.Calm.{differ}
use Rattle.end_schedules.specs.Laws.{ExpectsWhatWaits}
use Rattle.end_schedules.specs.Pairs.{AllMay, Pair, Step, after, begun, down_of}
use Rattle.end_schedules.specs.Pairs.Step.{Happens as HappensThere}
use Rattle.end_schedules.specs.Schedules.{End, end_of, paired}
use Rattle.end_schedules.specs.UnderWay.{sent_to}
use Rattle.end_schedules.proofs.Folds.{no-unexpected}
use Rattle.client_machine.specs.Asking.{after_asked}
use Rattle.client_engine.specs.Places.{on_client}
use Rattle.stream_clients.specs.Clients.{Client, Wish, after_wish, may_wish, reacts, said_in, talk_of, wished}
use Rattle.stream_clients.specs.Clients.Wish.{Asks, Closes}
use Rattle.stream_clients.specs.Following.{Follows, FollowsParts, FollowsPiece, StandsAs}
use Rattle.stream_clients.proofs.Pieces.{pieces-steps}
use Rattle.stream_clients.proofs.Stepping.{after-both, may-both, parts-deaf, wish-step}
use Rattle.setup_agreement.proofs.Wiring.{ordered-more}
use Rattle.end_bytes.specs.BytePairs.{BytePair, after as after_bytes, client_did, manager_did, step}
use Rattle.end_bytes.specs.BytePairs.ByteStep.{Breaks, Comes, Happens, Takes, Wishes}
use Rattle.end_bytes.specs.Elsewhere.{HappensBeside, StaysAs, is_from}
use Rattle.end_bytes.specs.Following.{HasSpoken, HearsParts, HearsPiece, IsHeard, StandsAt}
use Rattle.end_bytes.specs.Hearing.{IsNoError}
use Rattle.end_bytes.specs.Saying.{said_by}
use Rattle.end_bytes.specs.Talking.{AreSayable, IsReached, IsSayable, SpeaksOn, Talks, TalksOn, TalkingGoesOn, TalkingStays, WaitsBelow}
use Rattle.end_bytes.proofs.Beside.{others-beside}
use Rattle.end_bytes.proofs.Errors.{after-no-error}
use Rattle.end_bytes.proofs.Opens.{left-out, none-through}
use Rattle.end_bytes.proofs.Parts.{pieces-heard, spoken-unset}

-- Lists of messages

pub all-right : {A : Type 0} (P : A → Type 0) (xs ys : List A) → AllByRecursion P (xs ++ ys) → AllByRecursion P ys
all-right P [] ys a = a
all-right P (x ∷ xs) ys a = all-right P xs ys a.1

pub all-both : {A : Type 0} (P : A → Type 0) (xs ys : List A) → AllByRecursion P xs → AllByRecursion P ys → AllByRecursion P (xs ++ ys)
all-both P [] ys a b = b
all-both P (x ∷ xs) ys a b = (a.0, all-both P xs ys a.1 b)

pub have-bytes : (opcode : ℕ) (ms : List Message) → AllByRecursion (IsSayable opcode) ms → AllByRecursion (HasBytes opcode) ms
have-bytes opcode [] a = tt
have-bytes opcode (m ∷ ms) a = (a.0.bytes, have-bytes opcode ms a.1)

have-spellings : (opcode : ℕ) (xs : List XsmpMessage) → AllByRecursion (IsSayable opcode) (map Xsmp xs) → AllByRecursion IsMessage xs
have-spellings opcode [] a = tt
have-spellings opcode (x ∷ xs) a = (a.0.fits, have-spellings opcode xs a.1)

pub are-heard : (opcode : ℕ) (xs : List XsmpMessage) → AllByRecursion (IsSayable opcode) (map Xsmp xs) → AllByRecursion IsNoError xs → AllByRecursion IsHeard xs
are-heard opcode [] a n = tt
are-heard opcode (x ∷ xs) a n = (record { fits = a.0.fits; no_error = n.0 }, are-heard opcode xs a.1 n.1)

pub holds-more : (opcode : ℕ) (at : Standing) (later : List ℕ) (ms more : List Message) → HoldsBytes opcode at later ms → AllByRecursion (HasBytes opcode) more → HoldsBytes opcode at (later ++ bytes_of opcode more) (ms ++ more)
holds-more opcode at later ms more h a = record {
  order = ordered-more at.order ms more h.order;
  bytes = sym (append_assoc at.held later (bytes_of opcode more)) ∙ ap (λ (xs : List ℕ). xs ++ bytes_of opcode more) h.bytes ∙ sym (flat_map-append (spelled_under opcode) ms more);
  each = all-both (HasBytes opcode) ms more h.each a;
}

pub down-grown : (n : ℕ) (sent now : List XsmpMessage) (said : List Message) → map Xsmp now ≡ map Xsmp sent ++ said → n ≤ length sent → map Xsmp (drop n now) ≡ map Xsmp (drop n sent) ++ said
down-grown n sent now said e few =
    sym (drop-map Xsmp n now) ∙ ap (λ (ms : List Message). drop n ms) e ∙ drop-append-le n (map Xsmp sent) said (subst (λ (k : ℕ). n ≤ k) (sym (length-map sent Xsmp)) few) ∙ ap (λ (ms : List Message). ms ++ said) (drop-map Xsmp n sent)

sent-longer : (n : ℕ) (sent now : List XsmpMessage) (said : List Message) → map Xsmp now ≡ map Xsmp sent ++ said → n ≤ length sent → n ≤ length now
sent-longer n sent now said e few =
    let long : length (map Xsmp now) ≡ length (map Xsmp sent ++ said) = ap (λ (ms : List Message). length ms) e in
    omega (arith, few, long, length-append (map Xsmp sent) said, length-map now Xsmp, length-map sent Xsmp)

-- A schedule goes on

pub reached-on : (c : ℕ) (p q : Pair) (xs : List Step) → IsReached c p → AllMay c xs p → after c xs p ≡ q → IsReached c q
reached-on c p q xs r may is =
    let start : Pair = begun c r.previous r.asked (run (opened r.began) r.events) in
    record {
      began = r.began;
      events = r.events;
      previous = r.previous;
      asked = r.asked;
      steps = r.steps ++ xs;
      takes = r.takes;
      may = may-both c r.steps xs start r.may (subst (λ (x : Pair). AllMay c xs x) r.is may);
      is = sym is ∙ ap (λ (x : Pair). after c xs x) r.is ∙ sym (after-both c r.steps xs start);
    }

pub expected-there : (c : ℕ) (p : Pair) → IsReached c p → (xs : List Step) → AllMay c xs p → ExpectsWhatWaits c (after c xs p)
expected-there c p r xs may =
    let q : IsReached c (after c xs p) = reached-on c p (after c xs p) xs r may refl in
    subst (λ (x : Pair). ExpectsWhatWaits c x) (sym q.is) (no-unexpected q.began q.events c q.previous q.asked q.steps q.takes q.may)

-- ---- the manager does something

-- what waits for the client is longer by what was said
pub waits-more : (c : ℕ) (b : BytePair) (e : End) (done : Done) (up : List ℕ) (now : End) → now.took ≡ e.took → map Xsmp (sent_to c done.next.session) ≡ map Xsmp (sent_to c b.machine.session) ++ said_by c done
    → AllByRecursion (IsSayable manager_opcode) (said_by c done) → WaitsBelow c b e → WaitsBelow c (manager_did c done (record b { up = up })) now
waits-more c b e done up now took sent sayable w =
    let h : History = b.machine.session in
    let next : History = done.next.session in
    let grown : map Xsmp (drop e.took (sent_to c next)) ≡ map Xsmp (drop e.took (sent_to c h)) ++ said_by c done = down-grown e.took (sent_to c h) (sent_to c next) (said_by c done) sent w.few in
    let there : map Xsmp (drop now.took (sent_to c next)) ≡ map Xsmp (drop e.took (sent_to c h)) ++ said_by c done = ap (λ (k : ℕ). map Xsmp (drop k (sent_to c next))) took ∙ grown in
    record {
      few = subst (λ (k : ℕ). k ≤ length (sent_to c next)) (sym took) (sent-longer e.took (sent_to c h) (sent_to c next) (said_by c done) sent w.few);
      holds = subst (λ (ms : List Message). HoldsBytes manager_opcode b.client.standing (b.down ++ bytes_of manager_opcode (said_by c done)) ms) (sym there)
          (holds-more manager_opcode b.client.standing b.down (map Xsmp (drop e.took (sent_to c h))) (said_by c done) w.holds (have-bytes manager_opcode (said_by c done) sayable));
      sayable = subst (λ (ms : List Message). AllByRecursion (IsSayable manager_opcode) ms) (sym there) (all-both (IsSayable manager_opcode) (map Xsmp (drop e.took (sent_to c h))) (said_by c done) w.sayable sayable);
    }

-- the connection is there still
pub record StandsStill (stream : List ℕ) (o : Option Connection) : Type 0 where
  pub k : Connection
  pub is : o ≡ Some k
  pub stream_is : k.stream ≡ stream
  pub spoken : HasSpoken k.setup

pub there-still : (stream : List ℕ) (o : Option Connection) → is_speaking o ≡ true → StandsAt stream o → StandsStill stream o
there-still stream None speaks s = absurd (differ speaks refl)
there-still stream (Some k) speaks s = record { k = k; is = refl; stream_is = s.0; spoken = s.1 }

comes : (c : ℕ) (joined : Joined) (b : BytePair) (e : End) (count : ℕ) → Talks c joined b e → SpeaksOn c (step c (Comes count) b) → AreSayable (step c (Comes count) b) → TalksOn c joined b.machine.session e (step c (Comes count) b)
comes c joined b e count t speaks sayable =
    let done : Done = event_step b.machine (Piece c (take count b.up)) in
    let p : HearsPiece c (t.connection.stream ++ take count b.up) (drop count b.up) b.machine.session e e.up done =
    pieces-heard c e.up b.machine e t.connection b.up count t.same t.there t.spoken t.within t.up (are-heard client_opcode e.up t.heard t.no_error) (λ s. refl) in
    let hears : HearsParts c (t.connection.stream ++ take count b.up) b.machine.session e p.rest done = p.hears in
    let next : End = record e { up = hears.up } in
    let waits : hears.up ≡ p.rest = hears.waits speaks in
    let sent : map Xsmp (sent_to c done.next.session) ≡ map Xsmp (sent_to c b.machine.session) ++ said_by c done =
    sym (hears.said ∙ ap (λ (ms : List Message). map Xsmp (sent_to c done.next.session) ++ ms) (hears.ended speaks) ∙ append-nil (map Xsmp (sent_to c done.next.session))) in
    let s : StandsStill (t.connection.stream ++ take count b.up) (connection_of c done.next.connections) = there-still (t.connection.stream ++ take count b.up) (connection_of c done.next.connections) (sym (hears.agrees.phases c) ∙ speaks) hears.stands in
    let all_up : AllByRecursion (IsSayable client_opcode) (map Xsmp p.front ++ map Xsmp p.rest) = subst (λ (ms : List Message). AllByRecursion (IsSayable client_opcode) ms) (ap (map Xsmp) p.all ∙ map-append Xsmp p.front p.rest) t.heard in
    let said : AllByRecursion (IsSayable manager_opcode) (said_by c done) = all-right (IsSayable manager_opcode) b.said_down (said_by c done) sayable.down in
    record {
      next = next;
      steps = hears.steps;
      may = hears.may;
      is = hears.there;
      talks = record {
        opcode = t.opcode;
        same = hears.agrees;
        connection = s.k;
        there = s.is;
        spoken = s.spoken;
        within = subst (λ (xs : List ℕ). units (standing_of xs) ≤ unit_limit) (sym s.stream_is) p.within;
        up = subst (λ (ms : List XsmpMessage). HoldsBytes client_opcode (standing_of s.k.stream) (drop count b.up) (map Xsmp ms)) (sym waits) (subst (λ (xs : List ℕ). HoldsBytes client_opcode (standing_of xs) (drop count b.up) (map Xsmp p.rest)) (sym s.stream_is) p.holds);
        heard = subst (λ (ms : List XsmpMessage). AllByRecursion (IsSayable client_opcode) (map Xsmp ms)) (sym waits) (all-right (IsSayable client_opcode) (map Xsmp p.front) (map Xsmp p.rest) all_up);
        no_error = subst (λ (ms : List XsmpMessage). AllByRecursion IsNoError ms) (sym waits) (all-right IsNoError p.front p.rest (subst (λ (ms : List XsmpMessage). AllByRecursion IsNoError ms) p.all t.no_error));
        stands = t.stands;
        down = λ l. waits-more c b e done (drop count b.up) next refl sent said (t.down l);
        reached = reached-on c (paired b.machine.session e) (paired done.next.session next) hears.steps t.reached hears.may hears.there;
      };
    }

setup-still : (was now : AnySetup) → HasSpoken was → (now ≡ was) ⊎ (now ≡ without_xsmp was) → HasSpoken now
setup-still was now h (inl e) = subst (λ (x : AnySetup). HasSpoken x) (sym e) h
setup-still was now h (inr e) = subst (λ (x : AnySetup). HasSpoken x) (sym e) (spoken-unset was h)

pub beside-still : (k : Connection) (o : Option Connection) → is_speaking o ≡ true → StaysAs (Some k) o → HasSpoken k.setup → StandsStill k.stream o
beside-still k None speaks s h = absurd (differ speaks refl)
beside-still k (Some now) speaks s h = record { k = now; is = refl; stream_is = s.0; spoken = setup-still k.setup now.setup h s.2 }

happens : (c : ℕ) (joined : Joined) (b : BytePair) (e : End) (event : Event) → Talks c joined b e → is_from c event ≡ false → SpeaksOn c (step c (Happens event) b) → AreSayable (step c (Happens event) b) → TalksOn c joined b.machine.session e (step c (Happens event) b)
happens c joined b e event t apart speaks sayable =
    let done : Done = event_step b.machine event in
    let o : HappensBeside c (connection_of c b.machine.connections) b.machine.session done = others-beside c b.machine event apart t.same in
    let s : StandsStill t.connection.stream (connection_of c done.next.connections) =
    beside-still t.connection (connection_of c done.next.connections) (sym (o.agrees.phases c) ∙ speaks) (subst (λ (x : Option Connection). StaysAs x (connection_of c done.next.connections)) t.there o.stays) t.spoken in
    let said : AllByRecursion (IsSayable manager_opcode) (said_by c done) = all-right (IsSayable manager_opcode) b.said_down (said_by c done) sayable.down in
    record {
      next = e;
      steps = map HappensThere o.events;
      may = o.may e;
      is = o.there e;
      talks = record {
        opcode = t.opcode;
        same = o.agrees;
        connection = s.k;
        there = s.is;
        spoken = s.spoken;
        within = subst (λ (xs : List ℕ). units (standing_of xs) ≤ unit_limit) (sym s.stream_is) t.within;
        up = subst (λ (xs : List ℕ). HoldsBytes client_opcode (standing_of xs) b.up (map Xsmp e.up)) (sym s.stream_is) t.up;
        heard = t.heard;
        no_error = t.no_error;
        stands = t.stands;
        down = λ l. waits-more c b e done b.up e refl o.said said (t.down l);
        reached = reached-on c (paired b.machine.session e) (paired done.next.session e) (map HappensThere o.events) t.reached (o.may e) (o.there e);
      };
    }

-- a connection that broke isn't spoken on
pub broken : (c : ℕ) (m : Machine) (o : Option Connection) → connection_of c m.connections ≡ o → HaveSame m.connections m.session → is_some (of.phase_of c (gone_for m c o).next.session) ≡ true → ⊥
broken c m None is same speaks = differ speaks (same.phases c ∙ ap is_speaking is)
broken c m (Some k) is same speaks =
    let next : HaveSame (told (parted m c) (Left c)).next.connections (taken (Left c) m.session) = agrees-told (Left c) (without c m.connections) m.session (agrees-left c m.connections m.session same) in
    differ speaks (next.phases c ∙ ap is_speaking (none-through (acts_since m.session (taken (Left c) m.session)) c (without c m.connections) (left-out c m.connections)))

-- ---- the client does something

-- so it was before, and its steps lead to another end
pub record Moves (c : ℕ) (joined : Joined) (h : History) (e : End) (count : ℕ) (line : List Message) (place : Place) : Type 0 where
  pub next : End
  pub steps : List Step
  pub may : AllMay c steps (paired h e)
  pub is : after c steps (paired h e) ≡ paired h next
  pub up : map Xsmp next.up ≡ map Xsmp e.up ++ line
  pub no_error : AllByRecursion IsNoError next.up
  pub took : next.took ≡ e.took + count
  pub stands : StandsAs joined place next.state

paired-end : (h : History) (q : Pair) → q.history ≡ h → q ≡ paired h (end_of q)
paired-end h q e = ap (λ (x : History). paired x (end_of q)) e

pub moved-by : (c : ℕ) (joined : Joined) (h : History) (e : End) (count : ℕ) (did : Did Client Message) → AllByRecursion IsNoError e.up → Follows c joined (paired h e) count did → Moves c joined h e count did.line did.next.talk.place
moved-by c joined h e count did n f = record {
  next = end_of (after c f.steps (paired h e));
  steps = f.steps;
  may = f.may;
  is = paired-end h (after c f.steps (paired h e)) f.history;
  up = f.up;
  no_error = after-no-error c f.steps (paired h e) n;
  took = f.took;
  stands = f.stands;
}

client-on : (c : ℕ) (joined : Joined) (b : BytePair) (e : End) (count : ℕ) (down : List ℕ) (did : Did (Run Client) Message) → Talks c joined b e → (mv : Moves c joined b.machine.session e count did.line did.next.keeper.talk.place) → AreSayable (client_did did (record b { down = down }))
    → (is_listening did.next.keeper.talk.place ≡ true → WaitsBelow c (client_did did (record b { down = down })) mv.next) → TalksOn c joined b.machine.session e (client_did did (record b { down = down }))
client-on c joined b e count down did t mv sayable waits =
    let line : AllByRecursion (IsSayable client_opcode) did.line = all-right (IsSayable client_opcode) b.said_up did.line sayable.up in
    record {
      next = mv.next;
      steps = mv.steps;
      may = mv.may;
      is = mv.is;
      talks = record {
        opcode = t.opcode;
        same = t.same;
        connection = t.connection;
        there = t.there;
        spoken = t.spoken;
        within = t.within;
        up = subst (λ (ms : List Message). HoldsBytes client_opcode (standing_of t.connection.stream) (b.up ++ bytes_of client_opcode did.line) ms) (sym mv.up) (holds-more client_opcode (standing_of t.connection.stream) b.up (map Xsmp e.up) did.line t.up (have-bytes client_opcode did.line line));
        heard = subst (λ (ms : List Message). AllByRecursion (IsSayable client_opcode) ms) (sym mv.up) (all-both (IsSayable client_opcode) (map Xsmp e.up) did.line t.heard line);
        no_error = mv.no_error;
        stands = mv.stands;
        down = waits;
        reached = reached-on c (paired b.machine.session e) (paired b.machine.session mv.next) mv.steps t.reached mv.may mv.is;
      };
    }

-- what it takes is gone from what waits
pub taken-waits : (c : ℕ) (h : History) (took count : ℕ) (front rest : List XsmpMessage) → drop took (sent_to c h) ≡ front ++ rest → count ≡ length front → drop (took + count) (sent_to c h) ≡ rest
taken-waits c h took count front rest all same =
    sym (drop-drop count took (sent_to c h)) ∙ ap (λ (xs : List XsmpMessage). drop count xs) all ∙ ap (λ (k : ℕ). drop k (front ++ rest)) same ∙ drop-append_seam front rest

pub taken-few : (c : ℕ) (h : History) (took count : ℕ) (front rest : List XsmpMessage) → drop took (sent_to c h) ≡ front ++ rest → count ≡ length front → took ≤ length (sent_to c h) → took + count ≤ length (sent_to c h)
taken-few c h took count front rest all same few =
    let long : length (drop took (sent_to c h)) ≡ length (front ++ rest) = ap (λ (xs : List XsmpMessage). length xs) all in
    omega (arith, few, long, same, length-append front rest, length-drop took (sent_to c h))

no-zero : (joined : Joined) → joined.opcode ≡ manager_opcode → joined.opcode ≡ 0 → ⊥
no-zero joined is e = omega (arith, is, e)

-- one that has stopped takes nothing
takes-deaf : (c : ℕ) (joined : Joined) (b : BytePair) (e : End) (count : ℕ) (wishes : List (List Wish)) → Talks c joined b e → is_listening b.client.keeper.talk.place ≡ false → AreSayable (step c (Takes count wishes) b)
    → TalksOn c joined b.machine.session e (step c (Takes count wishes) b)
takes-deaf c joined b e count wishes t deaf sayable =
    let did : Did (Run Client) Message = piece_taken [] talk_of reacts b.client (take count b.down) wishes in
    let still : parts_taken [] talk_of reacts b.client.keeper (parts_at (fed b.client.standing (take count b.down))) wishes ≡ stays b.client.keeper = parts-deaf (parts_at (fed b.client.standing (take count b.down))) wishes b.client.keeper deaf in
    let none : Moves c joined b.machine.session e 0 [] b.client.keeper.talk.place =
    record { next = e; steps = []; may = tt; is = refl; up = sym (append-nil (map Xsmp e.up)); no_error = t.no_error; took = omega arith; stands = t.stands } in
    let mv : Moves c joined b.machine.session e 0 did.line did.next.keeper.talk.place = subst (λ (x : Did Client Message). Moves c joined b.machine.session e 0 x.line x.next.talk.place) (sym still) none in
    client-on c joined b e 0 (drop count b.down) did t mv sayable (λ l. absurd (differ l (ap (λ (x : Did Client Message). is_listening x.next.talk.place) still ∙ deaf)))

takes-on : (c : ℕ) (joined : Joined) (b : BytePair) (e : End) (count : ℕ) (wishes : List (List Wish)) → Talks c joined b e → is_listening b.client.keeper.talk.place ≡ true → AreSayable (step c (Takes count wishes) b)
    → TalksOn c joined b.machine.session e (step c (Takes count wishes) b)
takes-on c joined b e count wishes t listens sayable =
    let h : History = b.machine.session in
    let p : Pair = paired h e in
    let w : WaitsBelow c b e = t.down listens in
    let did : Did (Run Client) Message = piece_taken [] talk_of reacts b.client (take count b.down) wishes in
    let g : FollowsPiece c joined p (drop count b.down) did =
    pieces-steps c joined p b.client b.down count wishes (no-zero joined t.opcode) t.stands (subst (λ (n : ℕ). HoldsBytes n b.client.standing b.down (map Xsmp (down_of c p))) (sym t.opcode) w.holds) (have-spellings manager_opcode (down_of c p) w.sayable)
    (expected-there c p t.reached) in
    let f : FollowsParts c joined p g.front (record { line = did.line; next = did.next.keeper }) = g.follows in
    let mv : Moves c joined h e f.taken did.line did.next.keeper.talk.place = moved-by c joined h e f.taken (record { line = did.line; next = did.next.keeper }) t.no_error f.follows in
    client-on c joined b e f.taken (drop count b.down) did t mv sayable (λ l.
    let rest : drop mv.next.took (sent_to c h) ≡ g.rest = ap (λ (k : ℕ). drop k (sent_to c h)) mv.took ∙ taken-waits c h e.took f.taken g.front g.rest g.all (f.all l) in
    record {
      few = subst (λ (k : ℕ). k ≤ length (sent_to c h)) (sym mv.took) (taken-few c h e.took f.taken g.front g.rest g.all (f.all l) w.few);
      holds = subst (λ (ms : List XsmpMessage). HoldsBytes manager_opcode did.next.standing (drop count b.down) (map Xsmp ms)) (sym rest)
          (subst (λ (n : ℕ). HoldsBytes n did.next.standing (drop count b.down) (map Xsmp g.rest)) t.opcode g.holds);
      sayable = subst (λ (ms : List XsmpMessage). AllByRecursion (IsSayable manager_opcode) (map Xsmp ms)) (sym rest)
          (all-right (IsSayable manager_opcode) (map Xsmp g.front) (map Xsmp g.rest) (subst (λ (ms : List Message). AllByRecursion (IsSayable manager_opcode) ms) (ap (map Xsmp) g.all ∙ map-append Xsmp g.front g.rest) w.sayable));
    })

takes-by : (c : ℕ) (joined : Joined) (b : BytePair) (e : End) (count : ℕ) (wishes : List (List Wish)) (listens : Bool) → is_listening b.client.keeper.talk.place ≡ listens → Talks c joined b e → AreSayable (step c (Takes count wishes) b)
    → TalksOn c joined b.machine.session e (step c (Takes count wishes) b)
takes-by c joined b e count wishes true is t sayable = takes-on c joined b e count wishes t is sayable
takes-by c joined b e count wishes false is t sayable = takes-deaf c joined b e count wishes t is sayable

-- it takes something afterwards only where it did before

same-place : (change : ClientState → ClientState) (place : Place) → is_listening (on_client change place) ≡ is_listening place
same-place change (Opening opener previous) = refl
same-place change (Speaking joined s) = refl
same-place change Stopped = refl

wished-by : (wish : Wish) (client : Client) (may : Bool) → is_listening (cond may (record { line = Xsmp (said_in wish) ∷ []; next = after_wish wish client }) (stays client)).next.talk.place ≡ true → is_listening client.talk.place ≡ true
wished-by wish client false l = l
wished-by (Asks request) client true l = sym (same-place (after_asked request) client.talk.place) ∙ l
wished-by (Closes reasons) client true l = absurd (differ l refl)

wishes-on : (c : ℕ) (joined : Joined) (b : BytePair) (e : End) (wish : Wish) → Talks c joined b e → AreSayable (step c (Wishes wish) b) → TalksOn c joined b.machine.session e (step c (Wishes wish) b)
wishes-on c joined b e wish t sayable =
    let h : History = b.machine.session in
    let did : Did (Run Client) Message = standing_at b.client.standing (wished wish b.client.keeper) in
    let f : Follows c joined (paired h e) 0 (wished wish b.client.keeper) = wish-step c joined (paired h e) wish b.client.keeper t.stands in
    let mv : Moves c joined h e 0 did.line did.next.keeper.talk.place = moved-by c joined h e 0 (wished wish b.client.keeper) t.no_error f in
    client-on c joined b e 0 b.down did t mv sayable (λ l.
    let w : WaitsBelow c b e = t.down (wished-by wish b.client.keeper (may_wish wish b.client.keeper) l) in
    let took : e.took ≡ mv.next.took = omega (arith, mv.took) in
    record {
      few = subst (λ (k : ℕ). k ≤ length (sent_to c h)) took w.few;
      holds = subst (λ (k : ℕ). HoldsBytes manager_opcode b.client.standing b.down (map Xsmp (drop k (sent_to c h)))) took w.holds;
      sayable = subst (λ (k : ℕ). AllByRecursion (IsSayable manager_opcode) (map Xsmp (drop k (sent_to c h)))) took w.sayable;
    })

-- ---- each step

pub talking-goes-on : TalkingGoesOn
talking-goes-on c joined b e (Comes count) t may speaks sayable = comes c joined b e count t speaks sayable
talking-goes-on c joined b e (Takes count wishes) t may speaks sayable = takes-by c joined b e count wishes (is_listening b.client.keeper.talk.place) refl t sayable
talking-goes-on c joined b e (Wishes wish) t may speaks sayable = wishes-on c joined b e wish t sayable
talking-goes-on c joined b e (Happens event) t may speaks sayable = happens c joined b e event t may speaks sayable
talking-goes-on c joined b e Breaks t may speaks sayable = absurd (broken c b.machine (connection_of c b.machine.connections) refl t.same speaks)

pub talking-stays : TalkingStays
talking-stays c joined b e [] t may speaks = record { next = e; steps = []; may = tt; is = refl; talks = t }
talking-stays c joined b e (s ∷ steps) t may speaks =
    let a : TalksOn c joined b.machine.session e (step c s b) = talking-goes-on c joined b e s t may.0 speaks.0 speaks.1 in
    let r : TalksOn c joined (step c s b).machine.session a.next (after_bytes c steps (step c s b)) = talking-stays c joined (step c s b) a.next steps a.talks may.1 speaks.2 in
    record {
      next = r.next;
      steps = a.steps ++ r.steps;
      may = may-both c a.steps r.steps (paired b.machine.session e) a.may (subst (λ (p : Pair). AllMay c r.steps p) (sym a.is) r.may);
      is = after-both c a.steps r.steps (paired b.machine.session e) ∙ ap (λ (p : Pair). after c r.steps p) a.is ∙ r.is;
      talks = r.talks;
    }
