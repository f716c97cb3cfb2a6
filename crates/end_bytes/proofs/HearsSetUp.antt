-- What the manager does about the frames of a set-up.
use Rattle.std.proofs.Common.{◌≡◌, ◌⊎◌, inl, inr, refl, sym, ap, ◌∙◌, subst, ℕ, ◌+◌, ◌≤◌, Bool, true, false, List, [], ◌∷◌, ◌++◌, map, drop, append-nil, append_assoc}
use Rattle.std.specs.Prelude.{Option, Some}
use Rattle.std.specs.List.{AllByRecursion}
use Rattle.std.proofs.lemmas.List.{drop-drop, map-append}
use Rattle.ice_cookie.specs.declared.cookies.Cookie.{Cookie}
use Rattle.ice_values.specs.declared.numbers.Endian.TheVariants.{Lsb}
use Rattle.ice_framing.specs.Parts.{Part}
use Rattle.ice_messages.specs.Messages.{IsMessage}
use Rattle.ice_messages.specs.declared.message.IceMessage.{IceMessage}
use Rattle.ice_setup.specs.Opener.{client_opcode}
use Rattle.ice_setup.specs.Setup.{moved}
use Rattle.ice_setup.specs.declared.states.AnySetup.{AnySetup}
use Rattle.ice_setup.specs.declared.states.AnySetup.TheVariants.{Ready as AtReady}
use Rattle.ice_setup.specs.declared.states.Moved.{Moved}
use Rattle.protocol_messages.specs.declared.message.Message.{Message}
use Rattle.protocol_messages.specs.declared.message.Message.TheVariants.{Ice, Xsmp}
use Rattle.session_model.specs.declared.events.SessionEvent.TheVariants.{Ready}
use Rattle.session_model.specs.Moves.{History}
use Rattle.session_model.specs.Rules.{taken}
use Rattle.session_engine.specs.Answers.{sequence_after, speaks_xsmp}
use Rattle.session_engine.specs.Machine.{Connection, Machine, Step as Done, behind, connection_of, counted, part_taken, parts_taken, stays}
use Rattle.session_engine.specs.Shown.{Agrees as HaveSame}
use Rattle.message_streams.specs.Streams.{part_of}
use Rattle.setup_agreement.specs.SetUps.{SetUp, Way, after as after_ways, begun, hears, manager_takes, said_by as answer_list, step as way_step}
use Rattle.setup_agreement.specs.SetUps.Way.{Comes}
use Rattle.setup_agreement.proofs.Entering.{Enters, enters-after, enters-start, late}
use Rattle.setup_agreement.proofs.Entering.Late.{Opened}
use Rattle.end_schedules.specs.UnderWay.{sent_to}
use Rattle.end_bytes.specs.Entering.{GoesTo, HeardAs}
use Rattle.end_bytes.specs.Following.{HasSpoken, StandsAt}
use Rattle.end_bytes.specs.Saying.{said_by}
use Rattle.end_bytes.specs.SettingUp.{IsLedTo}
use Rattle.end_bytes.proofs.Beside.{agrees-part}
use Rattle.end_bytes.proofs.Opens.{managers-set-up}
use Rattle.end_bytes.proofs.Parts.{said-behind}
use Rattle.end_bytes.proofs.Tables.{TableGoes, opened-row, setup_or, silent-took, table-goes}

-- A set-up that goes on

ways-on : (ways : List Way) (way : Way) (p : SetUp) → after_ways (ways ++ way ∷ []) p ≡ way_step way (after_ways ways p)
ways-on [] way p = refl
ways-on (w ∷ ways) way p = ways-on ways way (way_step w p)

pub led-on : (k : Cookie) (way : Way) (p : SetUp) → IsLedTo k p → IsLedTo k (way_step way p)
led-on k way p l = record { ways = l.ways ++ way ∷ []; is = ap (λ (x : SetUp). way_step way x) l.is ∙ sym (ways-on l.ways way (begun k k)) }

pub led-enters : (k : Cookie) (p : SetUp) → IsLedTo k p → Enters k p
led-enters k p l = subst (λ (x : SetUp). Enters k x) (sym l.is) (enters-after k l.ways (begun k k) (enters-start k))

pub next-waits : (n : ℕ) (all ws : List IceMessage) (m : IceMessage) → drop n all ≡ m ∷ ws → drop (n + 1) all ≡ ws
next-waits n all ws m e = sym (drop-drop 1 n all) ∙ ap (λ (xs : List IceMessage). drop 1 xs) e

-- Where the manager stands

pub record StandsIn (c : ℕ) (k : Cookie) (stream : List ℕ) (m : Machine) (p : SetUp) : Type 0 where
  pub led : IsLedTo k p
  pub same : HaveSame m.connections m.session
  pub connection : Connection
  pub there : connection_of c m.connections ≡ Some connection
  pub setup : p.manager ≡ Some connection.setup
  pub silent : speaks_xsmp connection.setup ≡ false
  pub stream_is : connection.stream ≡ stream

-- what it has said more
pub record SaysMore (p q : SetUp) : Type 0 where
  pub up : q.said_up ≡ p.said_up
  pub took : q.took ≡ p.took
  pub client : q.client ≡ p.client
  pub more : List IceMessage
  pub down : q.said_down ≡ p.said_down ++ more

-- it is set up still
pub record GoesOn (c : ℕ) (k : Cookie) (stream : List ℕ) (rest : List IceMessage) (h : History) (p : SetUp) (done : Done) : Type 0 where
  pub ends : SetUp
  pub says : SaysMore p ends
  pub stands : StandsIn c k stream done.next ends
  pub session : done.next.session ≡ h
  pub waits : drop ends.heard ends.said_up ≡ rest
  pub said : said_by c done ≡ map Ice says.more

-- XSMP has begun, and nothing is left
pub record HasBegun (c : ℕ) (k : Cookie) (stream : List ℕ) (rest : List IceMessage) (h : History) (p : SetUp) (done : Done) : Type 0 where
  pub ends : SetUp
  pub says : SaysMore p ends
  pub row : ends ≡ late k Opened
  pub none : rest ≡ []
  pub same : HaveSame done.next.connections done.next.session
  pub session : done.next.session ≡ taken (Ready c) h
  pub stands : StandsAt stream (connection_of c done.next.connections)
  pub said : said_by c done ≡ map Ice says.more ++ map Xsmp (sent_to c done.next.session)

abbrev pub IsHeard : ℕ → Cookie → List ℕ → List IceMessage → History → SetUp → Done → Type 0
IsHeard c k stream rest h p done = GoesOn c k stream rest h p done ⊎ HasBegun c k stream rest h p done

-- One message

abbrev goes_to : SetUp → AnySetup → Option IceMessage → SetUp
goes_to p state answer = record p { manager = Some state; said_down = p.said_down ++ answer_list answer; heard = p.heard + 1 }

stepped : (p : SetUp) (setup : AnySetup) (x : IceMessage) (ws : List IceMessage) → p.manager ≡ Some setup → drop p.heard p.said_up ≡ x ∷ ws → way_step Comes p ≡ hears (moved setup x (p.heard + 1)) p
stepped p setup x ws e d = ap (λ (xs : List IceMessage). manager_takes p.manager xs p) d ∙ ap (λ (o : Option AnySetup). manager_takes o (x ∷ ws) p) e

one-goes : (b : Bool) (c : ℕ) (k : Cookie) (stream : List ℕ) (ws : List IceMessage) (m : Machine) (p : SetUp) (state : AnySetup) (answer : Option IceMessage) (done : Done) (a : StandsIn c k stream m p) → speaks_xsmp state ≡ b → GoesTo b c a.connection m.session state answer done
    → HaveSame done.next.connections done.next.session → IsLedTo k (goes_to p state answer) → drop (p.heard + 1) p.said_up ≡ ws → IsHeard c k stream ws m.session p done
one-goes false c k stream ws m p state answer done a e g same led waits =
    inl (record {
      ends = goes_to p state answer;
      says = record { up = refl; took = refl; client = refl; more = answer_list answer; down = refl };
      stands = record { led = led; same = same; connection = counted state a.connection; there = g.stands; setup = refl; silent = e; stream_is = a.stream_is };
      session = g.session;
      waits = waits;
      said = g.said;
    })
one-goes true c k stream ws m p state answer done a e g same led waits =
    let q : SetUp = goes_to p state answer in
    let few : p.took ≤ 4 = silent-took k p a.connection.setup (led-enters k p a.led) a.setup a.silent in
    let row : q ≡ late k Opened = opened-row k q state (led-enters k q led) refl e few in
    let state_is : state ≡ AtReady (record { cookie = k; endian = Lsb; opcode = 1 }) = ap (λ (x : SetUp). setup_or state x.manager) row in
    inr (record {
      ends = q;
      says = record { up = refl; took = refl; client = refl; more = answer_list answer; down = refl };
      row = row;
      none = sym waits ∙ ap (λ (x : SetUp). drop x.heard x.said_up) row;
      same = same;
      session = g.session;
      stands = subst (λ (xs : List ℕ). StandsAt xs (connection_of c done.next.connections)) a.stream_is (g.stands (subst (λ (x : AnySetup). HasSpoken x) (sym state_is) refl));
      said = g.said;
    })

one-heard : (c : ℕ) (k : Cookie) (stream : List ℕ) (m : Machine) (p : SetUp) (x : IceMessage) (ws : List IceMessage) → StandsIn c k stream m p → drop p.heard p.said_up ≡ x ∷ ws → IsMessage x → IsHeard c k stream ws m.session p (part_taken m c (part_of client_opcode (Ice x)))
one-heard c k stream m p x ws a d fits =
    let g : TableGoes a.connection.setup x = table-goes k p a.connection.setup x ws (led-enters k p a.led) a.setup d in
    let done : Done = part_taken m c (part_of client_opcode (Ice x)) in
    let it : HeardAs c a.connection m.session done (moved a.connection.setup x (sequence_after a.connection.taken)) = managers-set-up c m a.connection client_opcode x a.there a.silent g.turn fits in
    let so : GoesTo (speaks_xsmp g.state) c a.connection m.session g.state g.answer done = subst (λ (y : Moved). HeardAs c a.connection m.session done y) (g.is (sequence_after a.connection.taken)) it in
    let is : way_step Comes p ≡ goes_to p g.state g.answer = stepped p a.connection.setup x ws a.setup d ∙ ap (λ (y : Moved). hears y p) (g.is (p.heard + 1)) in
    one-goes (speaks_xsmp g.state) c k stream ws m p g.state g.answer done a refl so (agrees-part c m (part_of client_opcode (Ice x)) a.same) (subst (λ (y : SetUp). IsLedTo k y) is (led-on k Comes p a.led)) (next-waits p.heard p.said_up ws x d)

-- All messages of a piece

abbrev more-both : (p q r : SetUp) → SaysMore p q → SaysMore q r → SaysMore p r
more-both p q r a b = record {
  up = b.up ∙ a.up;
  took = b.took ∙ a.took;
  client = b.client ∙ a.client;
  more = a.more ++ b.more;
  down = b.down ∙ ap (λ (xs : List IceMessage). xs ++ b.more) a.down ∙ append_assoc p.said_down a.more b.more;
}

said-both : (c : ℕ) (first done : Done) (xs ys : List IceMessage) (zs : List Message) → said_by c first ≡ map Ice xs → said_by c done ≡ map Ice ys ++ zs → said_by c (behind first.line done) ≡ map Ice (xs ++ ys) ++ zs
said-both c first done xs ys zs e f =
    said-behind c first done ∙ ap (λ (ms : List Message). ms ++ said_by c done) e ∙ ap (λ (ms : List Message). map Ice xs ++ ms) f ∙ sym (append_assoc (map Ice xs) (map Ice ys) zs) ∙ ap (λ (ms : List Message). ms ++ zs) (sym (map-append Ice xs ys))

both-heard : (c : ℕ) (k : Cookie) (stream : List ℕ) (middle rest : List IceMessage) (h : History) (p : SetUp) (first done : Done) (f : GoesOn c k stream middle h p first) → IsHeard c k stream rest first.next.session f.ends done → IsHeard c k stream rest h p (behind first.line done)
both-heard c k stream middle rest h p first done f (inl g) =
    let said : said_by c (behind first.line done) ≡ map Ice (f.says.more ++ g.says.more) ++ [] = said-both c first done f.says.more g.says.more [] f.said (g.said ∙ sym (append-nil (map Ice g.says.more))) in
    inl (record { ends = g.ends; says = more-both p f.ends g.ends f.says g.says; stands = g.stands; session = g.session ∙ f.session; waits = g.waits; said = said ∙ append-nil (map Ice (f.says.more ++ g.says.more)) })
both-heard c k stream middle rest h p first done f (inr g) =
    inr (record {
      ends = g.ends;
      says = more-both p f.ends g.ends f.says g.says;
      row = g.row;
      none = g.none;
      same = g.same;
      session = g.session ∙ ap (λ (x : History). taken (Ready c) x) f.session;
      stands = g.stands;
      said = said-both c first done f.says.more g.says.more (map Xsmp (sent_to c done.next.session)) f.said g.said;
    })

abbrev ice_parts : List IceMessage → List Part
ice_parts front = map (λ (x : IceMessage). part_of client_opcode (Ice x)) front

last-heard : (c : ℕ) (k : Cookie) (stream : List ℕ) (front rest : List IceMessage) (h : History) (p : SetUp) (first : Done) → HasBegun c k stream (front ++ rest) h p first → IsHeard c k stream rest h p (behind first.line (parts_taken first.next c (ice_parts front)))
last-heard c k stream [] rest h p first g =
    inr (record {
      ends = g.ends;
      says = g.says;
      row = g.row;
      none = g.none;
      same = g.same;
      session = g.session;
      stands = g.stands;
      said = said-behind c first (stays first.next) ∙ append-nil (said_by c first) ∙ g.said;
    })
last-heard c k stream (x ∷ front) rest h p first g = absurd (not-one x (front ++ rest) g.none) where
  not-one : (y : IceMessage) (ys : List IceMessage) → y ∷ ys ≡ [] → ⊥
  not-one y ys e = absurd cc

then-others : (c : ℕ) (k : Cookie) (stream : List ℕ) (front rest : List IceMessage) (h : History) (p : SetUp) (first : Done) → IsHeard c k stream (front ++ rest) h p first
    → ((q : SetUp) → StandsIn c k stream first.next q → drop q.heard q.said_up ≡ front ++ rest → IsHeard c k stream rest first.next.session q (parts_taken first.next c (ice_parts front))) → IsHeard c k stream rest h p (behind first.line (parts_taken first.next c (ice_parts front)))
then-others c k stream front rest h p first (inl g) on = both-heard c k stream (front ++ rest) rest h p first (parts_taken first.next c (ice_parts front)) g (on g.ends g.stands g.waits)
then-others c k stream front rest h p first (inr g) on = last-heard c k stream front rest h p first g

pub all-heard : (c : ℕ) (k : Cookie) (stream : List ℕ) (front rest : List IceMessage) (m : Machine) (p : SetUp) → StandsIn c k stream m p → drop p.heard p.said_up ≡ front ++ rest → AllByRecursion IsMessage front → IsHeard c k stream rest m.session p (parts_taken m c (ice_parts front))
all-heard c k stream [] rest m p a d fits =
    inl (record { ends = p; says = record { up = refl; took = refl; client = refl; more = []; down = sym (append-nil p.said_down) }; stands = a; session = refl; waits = d; said = refl })
all-heard c k stream (x ∷ front) rest m p a d fits =
    let first : Done = part_taken m c (part_of client_opcode (Ice x)) in
    then-others c k stream front rest m.session p first (one-heard c k stream m p x (front ++ rest) a d fits.0) (λ q s w. all-heard c k stream front rest first.next q s w fits.1)
