-- Each step of bytes in a set-up.
use Rattle.std.proofs.Common.{◌≡◌, ◌⊎◌, inl, inr, refl, sym, ap, ◌∙◌, subst, ℕ, ◌≤◌, true, false, List, [], ◌∷◌, ◌++◌, map, take, drop, length, append-nil, append_assoc}
use Rattle.std.specs.Prelude.{Option, None, Some, is_some}
use Rattle.std.specs.List.{AllByRecursion, list_any}
use Rattle.std.proofs.lemmas.List.{drop-append-le, map-append}
use Rattle.sm_world.specs.declared.events.Event.{Event}
use Rattle.sm_world.specs.declared.events.Event.TheVariants.{Piece}
use Rattle.interact_queue.specs.Queue.{is_in}
use Rattle.ice_framing.specs.Frames.{Standing, cut, fed, standing_of, unit_limit, units}
use Rattle.ice_framing.specs.Parts.{Part, new_parts, parts_at}
use Rattle.ice_cookie.specs.declared.cookies.Cookie.{Cookie}
use Rattle.ice_messages.specs.Messages.{IsMessage}
use Rattle.ice_messages.specs.declared.message.IceMessage.{IceMessage}
use Rattle.ice_setup.specs.Opener.{client_opcode}
use Rattle.ice_setup.specs.Setup.{manager_opcode, protocol_reply}
use Rattle.ice_setup.specs.declared.opener.AnyOpener.{AnyOpener}
use Rattle.ice_setup.specs.declared.opener.AnyOpener.TheVariants.{OpenProtocol as AtProtocol}
use Rattle.ice_setup.specs.declared.states.AnySetup.{AnySetup}
use Rattle.ice_setup.specs.declared.states.AnySetup.TheVariants.{AwaitCookie as AtCookie, AwaitOrder as AtOrder, AwaitProtocol, AwaitProtocolCookie as AtProtocolCookie, AwaitSetup as AtSetup, Ready as AtReady}
use Rattle.client_machine.specs.Saves.{first_ask}
use Rattle.client_engine.specs.Driving.{Step as Did, parts_taken as client_parts, standing_at}
use Rattle.client_engine.specs.declared.place.Place.TheVariants.{Opening}
use Rattle.protocol_messages.specs.declared.message.Message.{Message}
use Rattle.protocol_messages.specs.declared.message.Message.TheVariants.{Ice, Xsmp}
use Rattle.session_model.specs.Moves.{History}
use Rattle.session_model.specs.Reading.{reading}
use Rattle.session_model.specs.Readings as of
use Rattle.session_model.specs.Rules as session
use Rattle.session_model.specs.Rules.{opened as opened_with, run as ran}
use Rattle.session_model.specs.declared.events.SessionEvent.TheVariants.{Left, Ready}
use Rattle.session_engine.specs.Answers.{speaks_xsmp, without_xsmp}
use Rattle.session_engine.specs.Machine.{Connection, Machine, Step as Done, acts_since, connection_of, fed_on, fed_with, gone_for, parted, parts_taken, piece_for, step as event_step, told, without}
use Rattle.session_engine.specs.Shown.{Agrees as HaveSame, is_speaking}
use Rattle.session_engine.proofs.Following.{agrees-changed, agrees-left, agrees-told, numbers-in}
use Rattle.message_streams.specs.Streams.{BringsFront, BringsNew, HoldsBytes, bytes_of, part_of}
use Rattle.message_streams.proofs.Cutting.{pieces-of, streams-of}
use Rattle.end_agreement.proofs.Calm.{differ}
use Rattle.setup_agreement.specs.SetUps.{SetUp}
use Rattle.setup_agreement.proofs.Entering.{Enters as IsIn, Late, answers, enters-few, late, later}
use Rattle.setup_agreement.proofs.Entering.Late.{Asked, Connected, Joined, Offered, Opened, ShownAgain}
use Rattle.setup_agreement.proofs.Rows.{Early, early}
use Rattle.setup_agreement.proofs.Rows.Early.{Demanded, OrderHeard, OrderTaken, Ordered, Shown, Started}
use Rattle.end_schedules.specs.Pairs.{Pair, begun}
use Rattle.end_schedules.specs.Schedules.{paired}
use Rattle.end_schedules.specs.UnderWay.{sent_to}
use Rattle.stream_clients.specs.Clients.{Client, Wish, reacts, talk_of}
use Rattle.end_bytes.specs.BytePairs.{BytePair, ByteStep, IsOfRun, May, client_did, manager_did, step}
use Rattle.end_bytes.specs.BytePairs.ByteStep.{Breaks, Comes, Happens, Takes, Wishes}
use Rattle.end_bytes.specs.Elsewhere.{HappensBeside, StaysAs, is_from}
use Rattle.end_bytes.specs.Saying.{said_by}
use Rattle.end_bytes.specs.SettingUp.{HasOpened, HasSaid, IsClean, IsLeft, IsOnItsWay, SetsUp, StandsOnceOpened, is_reply, says_bad_state}
use Rattle.end_bytes.specs.Talking.{AreSayable, Enters, IsReached, IsSayable, entered}
use Rattle.end_bytes.proofs.Beside.{others-beside}
use Rattle.end_bytes.proofs.Connecting.{none-behind, none-some, of-run-on}
use Rattle.end_bytes.proofs.HearsSetUp.{GoesOn, HasBegun, IsHeard, StandsIn, all-heard, led-enters}
use Rattle.end_bytes.proofs.Opens.{left-out, none-through}
use Rattle.end_bytes.proofs.Parts.{fed-is}
use Rattle.end_bytes.proofs.Runs.{ran-one, ran-step}
use Rattle.end_bytes.proofs.Said.{all-sent}
use Rattle.end_bytes.proofs.Silence.{IsQuietSince, quiet-happened, quiet-left}
use Rattle.end_bytes.proofs.Tables.{opener_or}
use Rattle.end_bytes.proofs.TakesSetUp.{OpensIn, Said, Took, all-took, no-wish, told_parts}
use Rattle.end_bytes.proofs.Talking.{StandsStill, all-both, all-right, have-bytes, holds-more, there-still}

-- Lists of messages

pub record Split (xs : List IceMessage) (ys zs : List Message) : Type 0 where
  pub front : List IceMessage
  pub rest : List IceMessage
  pub all : xs ≡ front ++ rest
  pub are_front : ys ≡ map Ice front
  pub are_rest : zs ≡ map Ice rest

abbrev ice_in : IceMessage → Message → IceMessage
ice_in d (Ice x) = x
ice_in d (Xsmp x) = d

abbrev first_or : Message → List Message → Message
first_or d [] = d
first_or d (m ∷ ms) = m

abbrev others : List Message → List Message
others [] = []
others (m ∷ ms) = ms

split-at : (xs : List IceMessage) (ys zs : List Message) → map Ice xs ≡ ys ++ zs → Split xs ys zs
split-at xs [] zs e = record { front = []; rest = xs; all = refl; are_front = refl; are_rest = sym e }
split-at [] (y ∷ ys) zs e = absurd cc
split-at (x ∷ xs) (y ∷ ys) zs e =
    let k : Split xs ys zs = split-at xs ys zs (ap others e) in
    record {
      front = x ∷ k.front;
      rest = k.rest;
      all = ap (λ (ms : List IceMessage). x ∷ ms) k.all;
      are_front = ap (λ (m : Message). m ∷ ys) (sym (ap (first_or y) e)) ∙ ap (λ (ms : List Message). Ice x ∷ ms) k.are_front;
      are_rest = k.are_rest;
    }

parts-of : (opcode : ℕ) (ms : List IceMessage) → map (part_of opcode) (map Ice ms) ≡ map (λ (x : IceMessage). part_of opcode (Ice x)) ms
parts-of opcode [] = refl
parts-of opcode (m ∷ ms) = ap (λ (ps : List Part). part_of opcode (Ice m) ∷ ps) (parts-of opcode ms)

spelled-front : (front rest : List IceMessage) → AllByRecursion (IsSayable client_opcode) (map Ice (front ++ rest)) → AllByRecursion IsMessage front
spelled-front [] rest a = tt
spelled-front (m ∷ front) rest a = (a.0.fits, spelled-front front rest a.1)

said-front : (front rest : List IceMessage) → AllByRecursion (IsSayable manager_opcode) (map Ice (front ++ rest)) → AllByRecursion Said front
said-front [] rest a = tt
said-front (m ∷ front) rest a = (a.0, said-front front rest a.1)

sayable-rest : (opcode : ℕ) (front rest : List IceMessage) → AllByRecursion (IsSayable opcode) (map Ice (front ++ rest)) → AllByRecursion (IsSayable opcode) (map Ice rest)
sayable-rest opcode [] rest a = a
sayable-rest opcode (m ∷ front) rest a = sayable-rest opcode front rest a.1

-- what waits is longer by what was said
ice-grown : (n now : ℕ) (before after more : List IceMessage) → now ≡ n → after ≡ before ++ more → n ≤ length before → map Ice (drop now after) ≡ map Ice (drop n before) ++ map Ice more
ice-grown n now before after more same is few =
    ap (λ (k : ℕ). map Ice (drop k after)) same ∙ ap (λ (xs : List IceMessage). map Ice (drop n xs)) is ∙ ap (map Ice) (drop-append-le n before more few) ∙ map-append Ice (drop n before) more

-- ---- the manager takes a piece

-- so far the client stands as it did
abbrev done_with : ℕ → Done → ℕ → BytePair → BytePair
done_with c done count b = manager_did c done (record b { up = drop count b.up })

all-said : (c : ℕ) (b : BytePair) (done : Done) (p q : SetUp) (more : List IceMessage) → q.said_down ≡ p.said_down ++ more → b.said_down ≡ map Ice p.said_down → said_by c done ≡ map Ice more → b.said_down ++ said_by c done ≡ map Ice q.said_down
all-said c b done p q more down before now =
    ap (λ (xs : List Message). xs ++ said_by c done) before ∙ ap (λ (xs : List Message). map Ice p.said_down ++ xs) now ∙ sym (map-append Ice p.said_down more) ∙ ap (map Ice) (sym down)

still-sets : (c : ℕ) (previous : List ℕ) (b : BytePair) (count : ℕ) (stream : List ℕ) (rest : List IceMessage) (done : Done) (t : SetsUp c previous b) → IsOfRun done.next.session → HoldsBytes client_opcode (standing_of stream) (drop count b.up) (map Ice rest) → units (standing_of stream) ≤ unit_limit
    → AllByRecursion (IsSayable client_opcode) (map Ice rest) → GoesOn c t.cookie stream rest b.machine.session t.ends done → AllByRecursion (IsSayable manager_opcode) (said_by c done) → SetsUp c previous (done_with c done count b)
still-sets c previous b count stream rest done t of_run holds within heard g said =
    let grown : map Ice (drop g.ends.took g.ends.said_down) ≡ map Ice (drop t.ends.took t.ends.said_down) ++ said_by c done =
    ice-grown t.ends.took g.ends.took t.ends.said_down g.ends.said_down g.says.more g.says.took g.says.down (enters-few t.cookie t.ends (led-enters t.cookie t.ends t.led)).1 ∙ ap (λ (xs : List Message). map Ice (drop t.ends.took t.ends.said_down) ++ xs) (sym g.said) in
    record {
      same = g.stands.same;
      of_run = of_run;
      cookie = t.cookie;
      ends = g.ends;
      led = g.stands.led;
      connection = g.stands.connection;
      there = g.stands.there;
      setup = g.stands.setup;
      silent = g.stands.silent;
      within = subst (λ (xs : List ℕ). units (standing_of xs) ≤ unit_limit) (sym g.stands.stream_is) within;
      opener = t.opener;
      opens = g.says.client ∙ t.opens;
      place = t.place;
      alive = t.alive;
      said = all-said c b done t.ends g.ends g.says.more g.says.down t.said g.said;
      up = subst (λ (xs : List ℕ). HoldsBytes client_opcode (standing_of xs) (drop count b.up) (map Ice (drop g.ends.heard g.ends.said_up))) (sym g.stands.stream_is)
          (subst (λ (ms : List IceMessage). HoldsBytes client_opcode (standing_of stream) (drop count b.up) (map Ice ms)) (sym g.waits) holds);
      heard = subst (λ (ms : List IceMessage). AllByRecursion (IsSayable client_opcode) (map Ice ms)) (sym g.waits) heard;
      down = subst (λ (ms : List Message). HoldsBytes manager_opcode b.client.standing (b.down ++ bytes_of manager_opcode (said_by c done)) ms) (sym grown)
          (holds-more manager_opcode b.client.standing b.down (map Ice (drop t.ends.took t.ends.said_down)) (said_by c done) t.down (have-bytes manager_opcode (said_by c done) said));
      sayable = subst (λ (ms : List Message). AllByRecursion (IsSayable manager_opcode) ms) (sym grown) (all-both (IsSayable manager_opcode) (map Ice (drop t.ends.took t.ends.said_down)) (said_by c done) t.sayable said);
    }

takes-ready : (c : ℕ) (previous : List ℕ) (b : BytePair) (t : SetsUp c previous b) → session.Takes (Ready c) (reading b.machine.session)
takes-ready c previous b t = (
  ap (λ (xs : List ℕ). is_in c xs) (sym t.same.numbers) ∙ numbers-in c b.machine.connections ∙ ap is_some t.there,
  none-some (of.phase_of c b.machine.session) (t.same.phases c ∙ ap is_speaking t.there ∙ t.silent),
)

reached-so : (c : ℕ) (previous : List ℕ) (h next : History) → IsOfRun h → session.Takes (Ready c) (reading h) → next ≡ session.taken (Ready c) h → IsReached c (paired next (entered previous))
reached-so c previous h next r takes told = record {
  began = r.began;
  events = r.events;
  previous = previous;
  asked = first_ask;
  steps = [];
  takes = subst (λ (x : History). session.Takes (Ready c) (reading x)) r.is takes;
  may = tt;
  is = ap (λ (x : History). paired x (entered previous)) told ∙ ap (λ (x : History). begun c previous first_ask x) r.is;
}

now-enters : (c : ℕ) (previous : List ℕ) (b : BytePair) (count : ℕ) (stream : List ℕ) (rest : List IceMessage) (done : Done) (t : SetsUp c previous b) → HoldsBytes client_opcode (standing_of stream) (drop count b.up) (map Ice rest) → units (standing_of stream) ≤ unit_limit
    → HasBegun c t.cookie stream rest b.machine.session t.ends done → AllByRecursion (IsSayable manager_opcode) (said_by c done) → is_some (of.phase_of c done.next.session) ≡ true → Enters c previous (done_with c done count b)
now-enters c previous b count stream rest done t holds within g said speaks =
    let sent : List Message = map Xsmp (sent_to c done.next.session) in
    let before : List Message = map Ice (drop t.ends.took t.ends.said_down) in
    let s : StandsStill stream (connection_of c done.next.connections) = there-still stream (connection_of c done.next.connections) (sym (g.same.phases c) ∙ speaks) g.stands in
    let grown : map Ice (drop g.ends.took g.ends.said_down) ≡ before ++ map Ice g.says.more = ice-grown t.ends.took g.ends.took t.ends.said_down g.ends.said_down g.says.more g.says.took g.says.down (enters-few t.cookie t.ends (led-enters t.cookie t.ends t.led)).1 in
    let waits : Ice (protocol_reply 0) ∷ sent ≡ before ++ said_by c done =
    ap (λ (x : SetUp). map Ice (drop x.took x.said_down) ++ sent) (sym g.row) ∙ ap (λ (xs : List Message). xs ++ sent) grown ∙ append_assoc before (map Ice g.says.more) sent ∙ ap (λ (xs : List Message). before ++ xs) (sym g.said) in
    let opener_is : t.opener ≡ AtProtocol (record { cookie = t.cookie }) = ap (λ (o : Option AnyOpener). opener_or t.opener o) (sym t.opens ∙ sym g.says.client ∙ ap (λ (x : SetUp). x.client) g.row) in
    record {
      same = g.same;
      connection = s.k;
      there = s.is;
      spoken = s.spoken;
      within = subst (λ (xs : List ℕ). units (standing_of xs) ≤ unit_limit) (sym s.stream_is) within;
      up = subst (λ (xs : List ℕ). HoldsBytes client_opcode (standing_of xs) (drop count b.up) []) (sym s.stream_is) (subst (λ (ms : List IceMessage). HoldsBytes client_opcode (standing_of stream) (drop count b.up) (map Ice ms)) g.none holds);
      opener = record { cookie = t.cookie };
      place = t.place ∙ ap (λ (o : AnyOpener). Opening o previous) opener_is;
      alive = t.alive;
      down = subst (λ (ms : List Message). HoldsBytes manager_opcode b.client.standing (b.down ++ bytes_of manager_opcode (said_by c done)) ms) (sym waits)
          (holds-more manager_opcode b.client.standing b.down before (said_by c done) t.down (have-bytes manager_opcode (said_by c done) said));
      sayable = all-right (IsSayable manager_opcode) (map Ice g.says.more) sent (subst (λ (ms : List Message). AllByRecursion (IsSayable manager_opcode) ms) g.said said);
      reached = reached-so c previous b.machine.session done.next.session t.of_run (takes-ready c previous b t) g.session;
    }

has-said : (c : ℕ) (previous : List ℕ) (b : BytePair) (count : ℕ) (stream : List ℕ) (rest : List IceMessage) (done : Done) (t : SetsUp c previous b) → HasBegun c t.cookie stream rest b.machine.session t.ends done → HasSaid c (done_with c done count b)
has-said c previous b count stream rest done t g =
    let sent : List Message = map Xsmp (sent_to c done.next.session) in
    ap (λ (xs : List Message). xs ++ said_by c done) t.said ∙ ap (λ (xs : List Message). map Ice t.ends.said_down ++ xs) g.said ∙ sym (append_assoc (map Ice t.ends.said_down) (map Ice g.says.more) sent)
    ∙ ap (λ (xs : List Message). xs ++ sent) (sym (map-append Ice t.ends.said_down g.says.more) ∙ ap (map Ice) (sym g.says.down) ∙ ap (λ (x : SetUp). map Ice x.said_down) g.row)

pub opened-by : (c : ℕ) (b : BytePair) → HasSaid c b → HasOpened b
opened-by c b e = subst (λ (xs : List Message). list_any is_reply xs ≡ true) (sym e) refl

by-heard : (c : ℕ) (previous : List ℕ) (b : BytePair) (count : ℕ) (stream : List ℕ) (rest : List IceMessage) (done : Done) (t : SetsUp c previous b) → IsOfRun done.next.session → HoldsBytes client_opcode (standing_of stream) (drop count b.up) (map Ice rest) → units (standing_of stream) ≤ unit_limit
    → AllByRecursion (IsSayable client_opcode) (map Ice rest) → IsHeard c t.cookie stream rest b.machine.session t.ends done → AllByRecursion (IsSayable manager_opcode) (said_by c done) → StandsOnceOpened c (done_with c done count b) → IsOnItsWay c previous (done_with c done count b)
by-heard c previous b count stream rest done t of_run holds within heard (inl g) said stand = inl (still-sets c previous b count stream rest done t of_run holds within heard g said)
by-heard c previous b count stream rest done t of_run holds within heard (inr g) said stand =
    let all : HasSaid c (done_with c done count b) = has-said c previous b count stream rest done t g in
    inr (inl (all, inl (now-enters c previous b count stream rest done t holds within g said (stand (opened-by c (done_with c done count b) all)))))

setup-comes : (c : ℕ) (previous : List ℕ) (b : BytePair) (count : ℕ) → SetsUp c previous b → StandsOnceOpened c (step c (Comes count) b) → AreSayable (step c (Comes count) b) → IsOnItsWay c previous (step c (Comes count) b)
setup-comes c previous b count t stand sayable =
    let bytes : List ℕ = take count b.up in
    let stream : List ℕ = t.connection.stream ++ bytes in
    let waiting : List IceMessage = drop t.ends.heard t.ends.said_up in
    let g : BringsNew client_opcode t.connection.stream bytes (drop count b.up) (map Ice waiting) = streams-of client_opcode (map Ice waiting) t.connection.stream b.up count t.within t.up in
    let at : Split waiting g.front g.back = split-at waiting g.front g.back g.all in
    let parts : new_parts t.connection.stream bytes ≡ map (λ (x : IceMessage). part_of client_opcode (Ice x)) at.front = g.parts ∙ ap (map (part_of client_opcode)) at.are_front ∙ parts-of client_opcode at.front in
    let n : Machine = fed_on b.machine c bytes in
    let all : AllByRecursion (IsSayable client_opcode) (map Ice (at.front ++ at.rest)) = subst (λ (xs : List IceMessage). AllByRecursion (IsSayable client_opcode) (map Ice xs)) at.all t.heard in
    let stands : StandsIn c t.cookie stream n t.ends = record {
      led = t.led;
      same = agrees-changed (fed_with bytes) (λ x. refl) (λ x. refl) c b.machine.connections b.machine.session t.same;
      connection = fed_with bytes t.connection;
      there = fed-is c b.machine.connections t.connection bytes t.there;
      setup = t.setup;
      silent = t.silent;
      stream_is = refl;
    } in
    let heard : IsHeard c t.cookie stream at.rest b.machine.session t.ends (parts_taken n c (map (λ (x : IceMessage). part_of client_opcode (Ice x)) at.front)) = all-heard c t.cookie stream at.front at.rest n t.ends stands at.all (spelled-front at.front at.rest all) in
    let done : Done = event_step b.machine (Piece c bytes) in
    by-heard c previous b count stream at.rest done t (of-run-on b.machine.session done.next.session t.of_run (ran-step b.machine (Piece c bytes)))
    (subst (λ (ms : List Message). HoldsBytes client_opcode (standing_of stream) (drop count b.up) ms) at.are_rest g.holds) g.within (sayable-rest client_opcode at.front at.rest all)
    (subst (λ (o : Option Connection). IsHeard c t.cookie stream at.rest b.machine.session t.ends (piece_for b.machine c bytes o)) (sym t.there) (subst (λ (ps : List Part). IsHeard c t.cookie stream at.rest b.machine.session t.ends (parts_taken n c ps)) (sym parts) heard))
    (all-right (IsSayable manager_opcode) b.said_down (said_by c done) sayable.down) stand

-- ---- the client takes a piece

setup-took : (c : ℕ) (previous : List ℕ) (b : BytePair) (at : Standing) (down : List ℕ) (rest : List IceMessage) (did : Did Client Message) (t : SetsUp c previous b) → HoldsBytes manager_opcode at down (map Ice rest) → AllByRecursion (IsSayable manager_opcode) (map Ice rest)
    → Took t.cookie previous t.connection.setup rest t.ends did → AreSayable (client_did (standing_at at did) (record b { down = down })) → SetsUp c previous (client_did (standing_at at did) (record b { down = down }))
setup-took c previous b at down rest did t holds each g sayable =
    let line : AllByRecursion (IsSayable client_opcode) did.line = all-right (IsSayable client_opcode) b.said_up did.line sayable.up in
    let grown : map Ice (drop g.ends.heard g.ends.said_up) ≡ map Ice (drop t.ends.heard t.ends.said_up) ++ did.line =
    ice-grown t.ends.heard g.ends.heard t.ends.said_up g.ends.said_up g.says.more g.says.heard g.says.up (enters-few t.cookie t.ends (led-enters t.cookie t.ends t.led)).0 ∙ ap (λ (xs : List Message). map Ice (drop t.ends.heard t.ends.said_up) ++ xs) (sym g.said) in
    record {
      same = t.same;
      of_run = t.of_run;
      cookie = t.cookie;
      ends = g.ends;
      led = g.opens.led;
      connection = t.connection;
      there = t.there;
      setup = g.opens.setup_is;
      silent = t.silent;
      within = t.within;
      opener = g.opens.opener;
      opens = g.opens.opens;
      place = g.opens.place;
      alive = g.opens.alive;
      said = t.said ∙ ap (map Ice) (sym g.says.down);
      up = subst (λ (ms : List Message). HoldsBytes client_opcode (standing_of t.connection.stream) (b.up ++ bytes_of client_opcode did.line) ms) (sym grown)
          (holds-more client_opcode (standing_of t.connection.stream) b.up (map Ice (drop t.ends.heard t.ends.said_up)) did.line t.up (have-bytes client_opcode did.line line));
      heard = subst (λ (ms : List Message). AllByRecursion (IsSayable client_opcode) ms) (sym grown) (all-both (IsSayable client_opcode) (map Ice (drop t.ends.heard t.ends.said_up)) did.line t.heard line);
      down = subst (λ (ms : List IceMessage). HoldsBytes manager_opcode at down (map Ice ms)) (sym g.waits) holds;
      sayable = subst (λ (ms : List IceMessage). AllByRecursion (IsSayable manager_opcode) (map Ice ms)) (sym g.waits) each;
    }

setup-takes : (c : ℕ) (previous : List ℕ) (b : BytePair) (count : ℕ) (wishes : List (List Wish)) → SetsUp c previous b → AreSayable (step c (Takes count wishes) b) → SetsUp c previous (step c (Takes count wishes) b)
setup-takes c previous b count wishes t sayable =
    let waiting : List IceMessage = drop t.ends.took t.ends.said_down in
    let at : Standing = fed b.client.standing (take count b.down) in
    let g : BringsFront manager_opcode at (drop count b.down) (map Ice waiting) = pieces-of manager_opcode (map Ice waiting) b.client.standing b.down count t.down in
    let s : Split waiting g.front g.back = split-at waiting g.front g.back g.all in
    let parts : parts_at at ≡ told_parts s.front = g.parts ∙ ap (map (part_of manager_opcode)) s.are_front ∙ parts-of manager_opcode s.front in
    let all : AllByRecursion (IsSayable manager_opcode) (map Ice (s.front ++ s.rest)) = subst (λ (xs : List IceMessage). AllByRecursion (IsSayable manager_opcode) (map Ice xs)) s.all t.sayable in
    let opens : OpensIn t.cookie previous t.connection.setup b.client.keeper t.ends = record { led = t.led; setup_is = t.setup; silent = t.silent; opener = t.opener; opens = t.opens; place = t.place; alive = t.alive } in
    let took : Took t.cookie previous t.connection.setup s.rest t.ends (client_parts [] talk_of reacts b.client.keeper (parts_at at) wishes) =
    subst (λ (ps : List Part). Took t.cookie previous t.connection.setup s.rest t.ends (client_parts [] talk_of reacts b.client.keeper ps wishes)) (sym parts) (all-took t.cookie previous t.connection.setup s.front s.rest b.client.keeper t.ends wishes opens s.all (said-front s.front s.rest all)) in
    setup-took c previous b (cut at).standing (drop count b.down) s.rest (client_parts [] talk_of reacts b.client.keeper (parts_at at) wishes) t
    (subst (λ (ms : List Message). HoldsBytes manager_opcode (cut at).standing (drop count b.down) ms) s.are_rest g.holds) (sayable-rest manager_opcode s.front s.rest all) took sayable

-- ---- something comes from elsewhere, or the connection breaks

early-clean : (k : Cookie) (row : Early) → list_any says_bad_state (map Ice (early k k (later k) answers row).said_down) ≡ false
early-clean k Started = refl
early-clean k OrderHeard = refl
early-clean k OrderTaken = refl
early-clean k Ordered = refl
early-clean k Demanded = refl
early-clean k Shown = refl

late-clean : (k : Cookie) (row : Late) → list_any says_bad_state (map Ice (late k row).said_down) ≡ false
late-clean k Connected = refl
late-clean k Offered = refl
late-clean k Asked = refl
late-clean k ShownAgain = refl
late-clean k Opened = refl
late-clean k Joined = refl

row-clean : (k : Cookie) (p : SetUp) → IsIn k p → list_any says_bad_state (map Ice p.said_down) ≡ false
row-clean k p (inl e) = subst (λ (x : SetUp). list_any says_bad_state (map Ice x.said_down) ≡ false) (sym e.is) (early-clean k e.row)
row-clean k p (inr l) = subst (λ (x : SetUp). list_any says_bad_state (map Ice x.said_down) ≡ false) (sym l.is) (late-clean k l.row)

-- in a set-up no Error was said
pub set-up-clean : (c : ℕ) (previous : List ℕ) (b : BytePair) → SetsUp c previous b → IsClean b
set-up-clean c previous b t = ap (list_any says_bad_state) t.said ∙ row-clean t.cookie t.ends (led-enters t.cookie t.ends t.led)

pub clean-still : (c : ℕ) (b : BytePair) (done : Done) → said_by c done ≡ [] → IsClean b → IsClean (manager_did c done b)
clean-still c b done none clean = ap (λ (xs : List Message). list_any says_bad_state (b.said_down ++ xs)) none ∙ ap (list_any says_bad_state) (append-nil b.said_down) ∙ clean

silent-same : (setup : AnySetup) → speaks_xsmp setup ≡ false → without_xsmp setup ≡ setup
silent-same (AtOrder s) e = refl
silent-same (AtSetup s) e = refl
silent-same (AtCookie s) e = refl
silent-same (AwaitProtocol s) e = refl
silent-same (AtProtocolCookie s) e = refl
silent-same (AtReady s) e = absurd (differ refl e)

same-setup : (was now : AnySetup) → speaks_xsmp was ≡ false → (now ≡ was) ⊎ (now ≡ without_xsmp was) → now ≡ was
same-setup was now silent (inl e) = e
same-setup was now silent (inr e) = e ∙ silent-same was silent

setup-beside : (c : ℕ) (previous : List ℕ) (b : BytePair) (done : Done) (o : Option Connection) (t : SetsUp c previous b) → connection_of c done.next.connections ≡ o → StaysAs (Some t.connection) o → said_by c done ≡ [] → HaveSame done.next.connections done.next.session → IsOfRun done.next.session → IsOnItsWay c previous (manager_did c done b)
setup-beside c previous b done None t is s none same of_run = inr (inr (record { same = same; of_run = of_run; gone = is; clean = clean-still c b done none (set-up-clean c previous b t) }))
setup-beside c previous b done (Some now) t is s none same of_run =
    let setup : now.setup ≡ t.connection.setup = same-setup t.connection.setup now.setup t.silent s.2 in
    inl (record {
      same = same;
      of_run = of_run;
      cookie = t.cookie;
      ends = t.ends;
      led = t.led;
      connection = now;
      there = is;
      setup = t.setup ∙ ap (λ (x : AnySetup). Some x) (sym setup);
      silent = ap speaks_xsmp setup ∙ t.silent;
      within = subst (λ (xs : List ℕ). units (standing_of xs) ≤ unit_limit) (sym s.0) t.within;
      opener = t.opener;
      opens = t.opens;
      place = t.place;
      alive = t.alive;
      said = ap (λ (xs : List Message). b.said_down ++ xs) none ∙ append-nil b.said_down ∙ t.said;
      up = subst (λ (xs : List ℕ). HoldsBytes client_opcode (standing_of xs) b.up (map Ice (drop t.ends.heard t.ends.said_up))) (sym s.0) t.up;
      heard = t.heard;
      down = subst (λ (xs : List ℕ). HoldsBytes manager_opcode b.client.standing xs (map Ice (drop t.ends.took t.ends.said_down))) (sym (ap (λ (xs : List Message). b.down ++ bytes_of manager_opcode xs) none ∙ append-nil b.down)) t.down;
      sayable = t.sayable;
    })

setup-happens : (c : ℕ) (previous : List ℕ) (b : BytePair) (event : Event) → SetsUp c previous b → is_from c event ≡ false → IsOnItsWay c previous (step c (Happens event) b)
setup-happens c previous b event t apart =
    let h : History = b.machine.session in
    let done : Done = event_step b.machine event in
    let o : HappensBeside c (connection_of c b.machine.connections) h done = others-beside c b.machine event apart t.same in
    let none : of.phase_of c h ≡ None = none-some (of.phase_of c h) (t.same.phases c ∙ ap is_speaking t.there ∙ t.silent) in
    let quiet : IsQuietSince c h done.next.session = quiet-happened c o.events (paired h (entered previous)) done.next.session (o.may (entered previous)) (ap (λ (p : Pair). p.history) (o.there (entered previous))) t.of_run none in
    setup-beside c previous b done (connection_of c done.next.connections) t refl (subst (λ (x : Option Connection). StaysAs x (connection_of c done.next.connections)) t.there o.stays) (none-behind (map Xsmp (sent_to c h)) (said_by c done) (ap (map Xsmp) (sym quiet.sent) ∙ o.said)) o.agrees
    (of-run-on h done.next.session t.of_run (ran-step b.machine event))

none-left : (c : ℕ) (m : Machine) → IsOfRun m.session → of.phase_of c m.session ≡ None → said_by c (told (parted m c) (Left c)) ≡ []
none-left c m r n =
    none-behind (map Xsmp (sent_to c m.session)) (said_by c (told (parted m c) (Left c))) (ap (map Xsmp) (sym (quiet-left c m.session r n).sent) ∙ all-sent c (parted m c) (Left c))

pub breaks-off : (c : ℕ) (b : BytePair) (o : Option Connection) → connection_of c b.machine.connections ≡ o → HaveSame b.machine.connections b.machine.session → IsOfRun b.machine.session → of.phase_of c b.machine.session ≡ None → IsClean b → IsLeft c (manager_did c (gone_for b.machine c o) b)
breaks-off c b None is same of_run none clean = record { same = same; of_run = of_run; gone = is; clean = ap (list_any says_bad_state) (append-nil b.said_down) ∙ clean }
breaks-off c b (Some k) is same of_run none clean = record {
  same = agrees-told (Left c) (without c b.machine.connections) b.machine.session (agrees-left c b.machine.connections b.machine.session same);
  of_run = of-run-on b.machine.session (session.taken (Left c) b.machine.session) of_run (ran-one (Left c) b.machine.session);
  gone = none-through (acts_since b.machine.session (session.taken (Left c) b.machine.session)) c (without c b.machine.connections) (left-out c b.machine.connections);
  clean = clean-still c b (told (parted b.machine c) (Left c)) (none-left c b.machine of_run none) clean;
}

pub sets-up-on : (c : ℕ) (previous : List ℕ) (b : BytePair) (s : ByteStep) → SetsUp c previous b → May c s b → StandsOnceOpened c (step c s b) → AreSayable (step c s b) → IsOnItsWay c previous (step c s b)
sets-up-on c previous b (Comes count) t may stand sayable = setup-comes c previous b count t stand sayable
sets-up-on c previous b (Takes count wishes) t may stand sayable = inl (setup-takes c previous b count wishes t sayable)
sets-up-on c previous b (Wishes wish) t may stand sayable = absurd (differ may (no-wish wish b.client.keeper t.opener previous t.place t.alive))
sets-up-on c previous b (Happens event) t may stand sayable = setup-happens c previous b event t may
sets-up-on c previous b Breaks t may stand sayable = inr (inr (breaks-off c b (connection_of c b.machine.connections) refl t.same t.of_run (none-some (of.phase_of c b.machine.session) (t.same.phases c ∙ ap is_speaking t.there ∙ t.silent)) (set-up-clean c previous b t)))
