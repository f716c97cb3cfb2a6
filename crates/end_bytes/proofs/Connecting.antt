-- As a client connects, both set up the connection.
use Rattle.std.proofs.Common.{lit≤, ◌≡◌, ◌⊎◌, inl, inr, refl, sym, ap, ◌∙◌, subst, ℕ, ◌≤◌, Bool, false, cond, List, [], ◌∷◌, ◌++◌, map}
use Rattle.std.specs.Prelude.{Option, None, Some, is_some}
use Rattle.std.specs.List.{flat_map, list_any}
use Rattle.std.proofs.lemmas.Grind.{flat_map-append}
use Rattle.ice_values.specs.declared.numbers.Endian.TheVariants.{Lsb}
use Rattle.ice_framing.specs.Frames.{Standing, beginning, standing_of, unit_limit, units}
use Rattle.ice_framing.proofs.Streams.{standing_of-nil}
use Rattle.ice_messages.specs.declared.message.IceMessage.TheVariants.{ByteOrder}
use Rattle.ice_setup.specs.Opener.{client_opcode}
use Rattle.ice_setup.specs.Setup.{manager_opcode}
use Rattle.ice_setup.specs.declared.opener.AnyOpener.TheVariants.{OpenOrder}
use Rattle.ice_setup.specs.declared.states.AnySetup.{AnySetup}
use Rattle.ice_setup.specs.declared.states.AnySetup.TheVariants.{AwaitOrder as AtOrder}
use Rattle.protocol_messages.specs.declared.message.Message.{Message}
use Rattle.protocol_messages.specs.declared.message.Message.TheVariants.{Ice, Xsmp}
use Rattle.session_model.specs.declared.phase.Phase.{Phase}
use Rattle.session_model.specs.declared.events.SessionEvent.TheVariants.{Joined as HasJoined}
use Rattle.session_model.specs.Moves.{History}
use Rattle.session_model.specs.Readings as of
use Rattle.session_model.specs.Rules.{opened, run, taken}
use Rattle.session_engine.specs.Answers.{speaks_xsmp, without_xsmp}
use Rattle.session_engine.specs.Machine.{Connection, Does, Machine, Step as Done, act_in, acts_of, acts_since, connection_of, greeted, greeting, join_for, joined, joining, told}
use Rattle.session_engine.specs.Shown.{Agrees as HaveSame, is_speaking}
use Rattle.session_engine.specs.declared.acts.Act.{Act}
use Rattle.session_engine.proofs.Connections.{connection_of-append, same}
use Rattle.session_engine.proofs.Following.{agrees-joined, agrees-told}
use Rattle.message_streams.specs.Streams.{HoldsBytes, bytes_of}
use Rattle.end_agreement.proofs.Calm.{differ}
use Rattle.setup_agreement.specs.SetUps.{begun}
use Rattle.setup_agreement.proofs.Spelling.{IsSaid, manager-said}
use Rattle.end_schedules.specs.UnderWay.{sent_to}
use Rattle.end_bytes.specs.BytePairs.{IsOfRun, connecting, manager_did}
use Rattle.end_bytes.specs.Elsewhere.{RunsTo, StaysAs}
use Rattle.end_bytes.specs.Saying.{said_by, said_on}
use Rattle.end_bytes.specs.SettingUp.{IsLeft, SetUpsBegin, SetsUp, says_bad_state}
use Rattle.end_bytes.proofs.Beside.{as-through}
use Rattle.end_bytes.proofs.Runs.{ran-one, run-both}
use Rattle.end_bytes.proofs.Said.{all-sent}
use Rattle.end_bytes.proofs.Silence.{IsQuietSince, quiet-joined}

pub none-some : (p : Option Phase) → is_some p ≡ false → p ≡ None
none-some None e = refl
none-some (Some p) e = absurd (differ refl e)

abbrev others_of : List Message → List Message
others_of [] = []
others_of (m ∷ ms) = ms

pub none-behind : (xs ys : List Message) → xs ≡ xs ++ ys → ys ≡ []
none-behind [] ys e = sym e
none-behind (x ∷ xs) ys e = none-behind xs ys (ap others_of e)

pub of-run-on : (h g : History) → IsOfRun h → RunsTo h g → IsOfRun g
of-run-on h g r t = record { began = r.began; events = r.events ++ t.events; is = t.is ∙ ap (λ (x : History). run x t.events) r.is ∙ sym (run-both r.events t.events (opened r.began)) }

greeting-said : (c : ℕ) (k : Connection) → flat_map (said_on c) (flat_map act_in (map Does (greeting c (Some k)))) ≡ Ice (ByteOrder Lsb) ∷ []
greeting-said c k = ap (λ (b : Bool). cond b (Ice (ByteOrder Lsb) ∷ []) [] ++ []) (same c c refl)

greeted-said : (c : ℕ) (done : Done) → said_by c done ≡ [] → said_by c (greeted c done) ≡ flat_map (said_on c) (flat_map act_in (map Does (greeting c (connection_of c done.next.connections))))
greeted-said c done none =
    let hello : List Act = greeting c (connection_of c done.next.connections) in
    ap (flat_map (said_on c)) (flat_map-append act_in done.line (map Does hello)) ∙ flat_map-append (said_on c) (acts_of done) (flat_map act_in (map Does hello)) ∙ ap (λ (xs : List Message). xs ++ flat_map (said_on c) (flat_map act_in (map Does hello))) none

order-of : (setup first : AnySetup) → without_xsmp first ≡ first → (setup ≡ first) ⊎ (setup ≡ without_xsmp first) → setup ≡ first
order-of setup first e (inl is) = is
order-of setup first e (inr is) = is ∙ e

order_said : IsSaid (ByteOrder Lsb)
order_said = manager-said.0

begins-so : (c : ℕ) (previous : List ℕ) (m : Machine) (done : Done) (now : Connection) → connection_of c done.next.connections ≡ Some now → StaysAs (Some (joined m.cookie c)) (Some now) → said_by c done ≡ Ice (ByteOrder Lsb) ∷ [] → HaveSame done.next.connections done.next.session → IsOfRun done.next.session
    → SetsUp c previous (manager_did c done (connecting previous m))
begins-so c previous m done now is s said agrees of_run =
    let setup : now.setup ≡ AtOrder (record { cookie = m.cookie }) = order-of now.setup (AtOrder (record { cookie = m.cookie })) refl s.2 in
    let new : standing_of now.stream ≡ beginning = ap standing_of s.0 ∙ standing_of-nil in
    let first : HoldsBytes client_opcode beginning (bytes_of client_opcode (Ice (ByteOrder Lsb) ∷ [])) (Ice (ByteOrder Lsb) ∷ []) = record { order = refl; bytes = refl; each = (order_said.bytes, tt) } in
    let back : HoldsBytes manager_opcode beginning (bytes_of manager_opcode (Ice (ByteOrder Lsb) ∷ [])) (Ice (ByteOrder Lsb) ∷ []) = record { order = refl; bytes = refl; each = (order_said.bytes, tt) } in
    record {
      same = agrees;
      of_run = of_run;
      cookie = m.cookie;
      ends = begun m.cookie m.cookie;
      led = record { ways = []; is = refl };
      connection = now;
      there = is;
      setup = ap (λ (x : AnySetup). Some x) (sym setup);
      silent = ap speaks_xsmp setup;
      within = subst (λ (x : Standing). units x ≤ unit_limit) (sym new) (lit≤ tt);
      opener = OpenOrder (record { cookie = m.cookie });
      opens = refl;
      place = refl;
      alive = refl;
      said = said;
      up = subst (λ (x : Standing). HoldsBytes client_opcode x (bytes_of client_opcode (Ice (ByteOrder Lsb) ∷ [])) (Ice (ByteOrder Lsb) ∷ [])) (sym new) first;
      heard = (record { fits = order_said.fits; bytes = order_said.bytes }, tt);
      down = subst (λ (ms : List Message). HoldsBytes manager_opcode beginning ([] ++ bytes_of manager_opcode ms) (Ice (ByteOrder Lsb) ∷ [])) (sym said) back;
      sayable = (record { fits = order_said.fits; bytes = order_said.bytes }, tt);
    }

by-connection : (c : ℕ) (previous : List ℕ) (m : Machine) (first : Done) (o : Option Connection) → connection_of c first.next.connections ≡ o → StaysAs (Some (joined m.cookie c)) o → said_by c first ≡ [] → HaveSame first.next.connections first.next.session → IsOfRun first.next.session
    → SetsUp c previous (manager_did c (greeted c first) (connecting previous m)) ⊎ IsLeft c (manager_did c (greeted c first) (connecting previous m))
by-connection c previous m first None is s none agrees of_run =
    let said : said_by c (greeted c first) ≡ [] = greeted-said c first none ∙ ap (λ (o : Option Connection). flat_map (said_on c) (flat_map act_in (map Does (greeting c o)))) is in
    inr (record { same = agrees; of_run = of_run; gone = is; clean = ap (list_any says_bad_state) said })
by-connection c previous m first (Some now) is s none agrees of_run =
    let said : said_by c (greeted c first) ≡ Ice (ByteOrder Lsb) ∷ [] = greeted-said c first none ∙ ap (λ (o : Option Connection). flat_map (said_on c) (flat_map act_in (map Does (greeting c o)))) is ∙ greeting-said c now in
    inl (begins-so c previous m (greeted c first) now is s said agrees of_run)

joined-there : (c : ℕ) (m : Machine) → connection_of c m.connections ≡ None → connection_of c (joining m c).connections ≡ Some (joined m.cookie c)
joined-there c m none = rw (connection_of-append c m.connections (joined m.cookie c) none, same c c refl) refl

pub set-ups-begin : SetUpsBegin
set-ups-begin c previous m of_run agrees none =
    let h : History = m.session in
    let first : Done = told (joining m c) (HasJoined c) in
    let quiet : IsQuietSince c h (taken (HasJoined c) h) = quiet-joined c h of_run (none-some (of.phase_of c h) (agrees.phases c ∙ ap is_speaking none)) in
    let said : said_by c first ≡ [] = none-behind (map Xsmp (sent_to c h)) (said_by c first) (ap (map Xsmp) (sym quiet.sent) ∙ all-sent c (joining m c) (HasJoined c)) in
    let there : StaysAs (Some (joined m.cookie c)) (connection_of c first.next.connections) =
    as-through (Some (joined m.cookie c)) (acts_since h (taken (HasJoined c) h)) c (joining m c).connections (subst (λ (o : Option Connection). StaysAs (Some (joined m.cookie c)) o) (sym (joined-there c m none)) (refl, refl, inl refl)) in
    subst (λ (o : Option Connection). SetsUp c previous (manager_did c (join_for m c o) (connecting previous m)) ⊎ IsLeft c (manager_did c (join_for m c o) (connecting previous m))) (sym none)
    (by-connection c previous m first (connection_of c first.next.connections) refl there said (agrees-told (HasJoined c) (joining m c).connections h (agrees-joined m.cookie c m.connections h none agrees)) (of-run-on h first.next.session of_run (ran-one (HasJoined c) h)))
