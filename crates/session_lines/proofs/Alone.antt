-- What happens on one connection leaves every other alone.
use Rattle.std.proofs.Common.{◌≡◌, refl, sym, ap, subst, ◌∙◌, ℕ, eqb, Bool, true, false, cond, not, ◌&&◌, ◌||◌, List, [], ◌∷◌, ◌++◌, map, Option, Some, None, if◌then◌else◌, inl, inr, arith}
use Rattle.std.specs.Option.{option_map}
use Rattle.std.specs.List.{AllByRecursion, flat_map}
use Rattle.std.proofs.lemmas.Bool.{cases_eq}
use Rattle.std.proofs.lemmas.List.{append-nil}
use Rattle.sm_world.specs.declared.events.Event.{Event}
use Rattle.sm_world.specs.declared.events.Event.TheVariants.{Gone as HasGone, Joined, Piece, Operator, Tick, End}
use Rattle.ice_messages.specs.declared.message.IceMessage.TheVariants.{NoClose}
use Rattle.interact_queue.specs.Queue.{is_in}
use Rattle.xsmp_messages.specs.declared.message.XsmpMessage.{XsmpMessage}
use Rattle.xsmp_messages.specs.declared.message.XsmpMessage.TheVariants.{RegisterClientReply}
use Rattle.session_model.specs.declared.events.Act.{Act as SessionAct}
use Rattle.session_model.specs.declared.events.SessionEvent.{SessionEvent}
use Rattle.session_model.specs.declared.events.SessionEvent.TheVariants.{Joined as HasJoined, Left, Ready, Said}
use Rattle.session_model.specs.Moves.{Agreed, Began, Blamed, Cancelled, Closed, Committed, Finished, Gave, History, Move, Outside, Over, Printed, Tried, Unset, acts_of as acts_by_one, all_acts, onto, ◌▷◌}
use Rattle.session_model.specs.Phases.{is_bound}
use Rattle.session_model.specs.Readings as of
use Rattle.session_model.specs.Rules.{taken}
use Rattle.session_model.proofs.Lists.{in-append, in-without}
use Rattle.session_model.proofs.Pending.{all-append, all-more}
use Rattle.session_model.proofs.Ruled.{differ}
use Rattle.session_engine.specs.Acts.{acts_for_all, says}
use Rattle.session_engine.specs.Answers.{outcome, sequence_after}
use Rattle.session_engine.specs.Machine.{Connection, Does as DoesAct, Entry, Machine, Step, Took as TookPart, acts_since, answered, asked, behind, changed, connection_of, connections_through, counted, departs, does, fed_on, fed_with, followed, gone_for, greeting, join_for, joined, joining, noted as with_setup, part_for, part_taken, parted, parts_taken, piece_for, step, told, unset_on, without}
use Rattle.ice_framing.specs.Parts.{Part, new_parts}
use Rattle.session_engine.specs.declared.acts.Act.TheVariants.{Say, Shut}
use Rattle.session_engine.specs.Outcomes.{Answer, Stays, Begins, Closes, Speaks, Asks, Outcome}
use Rattle.protocol_messages.specs.declared.message.Message.{Message}
use Rattle.protocol_messages.specs.declared.message.Message.TheVariants.{Ice}
use Rattle.session_engine.proofs.Connections.{other, connection_of-append, connection_of-changed, connection_of-without}
use Rattle.session_engine.proofs.Following.{since-is}
use Rattle.session_model.proofs.Sound.{ends-later}
use Rattle.session_lines.specs.Others.{LeavesAlone, Spares, conn_of, is_shut}
use Rattle.session_lines.proofs.Spared.{AllSparing, IsApart, Spared, Sparing, all-spared}
use Rattle.session_engine.proofs.Opening.{acts-onto}
use Rattle.session_lines.proofs.Told.{turned-eq}

-- a step that leaves d alone, and with it whether d is registered, and that a logout was agreed
record Leaves (d : ℕ) (m : Machine) (s : Step) : Type 0 where
  spares : AllByRecursion (Spares d m s.next) s.line
  connection : connection_of d s.next.connections ≡ cond (is_shut d s.line) None (connection_of d m.connections)
  registered : is_in d (of.registered s.next.session) ≡ is_in d (of.registered m.session)
  ending : of.is_ending m.session ≡ true → of.is_ending s.next.session ≡ true

-- ---- the session's moves

away : (e d : ℕ) → (e ≡ d → ⊥) → (in_there : Bool) → (in_there || (eqb e d || false)) ≡ in_there
away e d a true = refl
away e d a false = ap (λ (b : Bool). b || false) (other e d a)

gave-registered : (d e : ℕ) (m : XsmpMessage) (h : History) → Sparing d (Gave e m) h → is_in d (of.registered (Gave e m ▷ h)) ≡ is_in d (of.registered h)
gave-registered d e (RegisterClientReply id) h s = in-append d (of.registered h) (e ∷ []) ∙ away e d (λ k. no-reply (s k)) (is_in d (of.registered h)) where
  no-reply : false ≡ true → ⊥
  no-reply k = grind arith
gave-registered d e m h s = refl

-- it is out already, or another one goes
closed-in : (b i : Bool) → (b ≡ true → i ≡ false) → (not b && i) ≡ i
closed-in true i k = sym (k refl)
closed-in false i k = refl

by-number : (e d : ℕ) → eqb e d ≡ true → e ≡ d
by-number e d k = elim (cases_eq e d) [ inl s ↦ s | inr apart ↦ absurd (differ k (other e d apart)) ]

move-registered : (d : ℕ) (m : Move) (h : History) → Sparing d m h → is_in d (of.registered (m ▷ h)) ≡ is_in d (of.registered h)
move-registered d (Outside event) h s = absurd s
move-registered d (Gave e m) h s = gave-registered d e m h s
move-registered d (Closed e) h s = in-without d e (of.registered h) ∙ closed-in (eqb e d) (is_in d (of.registered h)) (λ k. (s (by-number e d k)).0)
move-registered d m h s = refl

moves-registered : (d : ℕ) (moves : List Move) (h : History) → AllSparing d moves h → is_in d (of.registered (onto h moves)) ≡ is_in d (of.registered h)
moves-registered d [] h s = refl
moves-registered d (m ∷ moves) h s = moves-registered d moves (m ▷ h) s.1 ∙ move-registered d m h s.0

moves-ending : (moves : List Move) (h : History) → of.is_ending h ≡ true → of.is_ending (onto h moves) ≡ true
moves-ending [] h e = e
moves-ending (m ∷ moves) h e = moves-ending moves (m ▷ h) (ends-later m h e)

-- ---- their acts

abbrev acts_by : List Move → List SessionAct
acts_by moves = flat_map acts_by_one moves

abbrev line_by : List Move → List Entry
line_by moves = map DoesAct (acts_for_all (acts_by moves))

moves-spare : (d : ℕ) (m n : Machine) (moves : List Move) (h : History) → AllSparing d moves h → is_in d (of.registered h) ≡ is_in d (of.registered m.session) → n.session ≡ onto h moves → AllByRecursion (Spares d m n) (line_by moves)
moves-spare d m n [] h s r e = tt
moves-spare d m n (Outside event ∷ moves) h s r e = absurd s.0
moves-spare d m n (Gave c message ∷ moves) h s r e = (s.0, moves-spare d m n moves (Gave c message ▷ h) s.1 (move-registered d (Gave c message) h s.0 ∙ r) e)
moves-spare d m n (Blamed c error ∷ moves) h s r e = (λ k. absurd (s.0 k), moves-spare d m n moves (Blamed c error ▷ h) s.1 r e)
moves-spare d m n (Closed c ∷ moves) h s r e = (
  λ k. (sym r ∙ (s.0 k).0, ap (λ (g : History). of.is_ending g) e ∙ moves-ending (Closed c ∷ moves) h (s.0 k).1),
  moves-spare d m n moves (Closed c ▷ h) s.1 (move-registered d (Closed c) h s.0 ∙ r) e,
)
moves-spare d m n (Unset c ∷ moves) h s r e = moves-spare d m n moves (Unset c ▷ h) s.1 r e
moves-spare d m n (Began conns wanted ∷ moves) h s r e = moves-spare d m n moves (Began conns wanted ▷ h) s.1 r e
moves-spare d m n (Over ∷ moves) h s r e = moves-spare d m n moves (Over ▷ h) s.1 r e
moves-spare d m n (Cancelled ∷ moves) h s r e = moves-spare d m n moves (Cancelled ▷ h) s.1 r e
moves-spare d m n (Agreed ∷ moves) h s r e = moves-spare d m n moves (Agreed ▷ h) s.1 r e
moves-spare d m n (Tried cause command ∷ moves) h s r e = (tt, moves-spare d m n moves (Tried cause command ▷ h) s.1 r e)
moves-spare d m n (Committed written ∷ moves) h s r e = (tt, moves-spare d m n moves (Committed written ▷ h) s.1 r e)
moves-spare d m n (Printed text ∷ moves) h s r e = (tt, moves-spare d m n moves (Printed text ▷ h) s.1 r e)
moves-spare d m n (Finished ∷ moves) h s r e = (tt, moves-spare d m n moves (Finished ▷ h) s.1 r e)

-- ---- connections

changed-apart : (f : Connection → Connection) → ((k : Connection) → (f k).number ≡ k.number) → (c d : ℕ) (ks : List Connection) → (c ≡ d → ⊥) → connection_of d (changed f c ks) ≡ connection_of d ks
changed-apart f keeps c d ks a =
    connection_of-changed f keeps c d ks ∙ ap (λ (b : Bool). if◌then◌else◌ {A = Option Connection} b (option_map f (connection_of d ks)) (connection_of d ks)) (other d c (λ k. a (sym k)))

without-apart : (c d : ℕ) (ks : List Connection) → (c ≡ d → ⊥) → connection_of d (without c ks) ≡ connection_of d ks
without-apart c d ks a = connection_of-without c d ks ∙ ap (λ (b : Bool). if◌then◌else◌ {A = Option Connection} b None (connection_of d ks)) (other d c (λ k. a (sym k)))

-- shut now or later
shut-either : (b s : Bool) (k : Option Connection) → cond s None (if◌then◌else◌ {A = Option Connection} b None k) ≡ cond (b || s) None k
shut-either true true k = refl
shut-either true false k = refl
shut-either false s k = refl

-- after its acts, of which one may shut d
moves-connections : (d : ℕ) (moves : List Move) (h : History) (ks : List Connection) → AllSparing d moves h → connection_of d (connections_through (acts_by moves) ks) ≡ cond (is_shut d (line_by moves)) None (connection_of d ks)
moves-connections d [] h ks s = refl
moves-connections d (Outside event ∷ moves) h ks s = absurd s.0
moves-connections d (Gave c message ∷ moves) h ks s = moves-connections d moves (Gave c message ▷ h) ks s.1
moves-connections d (Blamed c error ∷ moves) h ks s = moves-connections d moves (Blamed c error ▷ h) ks s.1
moves-connections d (Closed c ∷ moves) h ks s =
    moves-connections d moves (Closed c ▷ h) (without c ks) s.1
    ∙ ap (λ (k : Option Connection). cond (is_shut d (line_by moves)) None k) (connection_of-without c d ks ∙ ap (λ (b : Bool). if◌then◌else◌ {A = Option Connection} b None (connection_of d ks)) (sym (turned-eq d c)))
    ∙ shut-either (eqb c d) (is_shut d (line_by moves)) (connection_of d ks)
moves-connections d (Unset c ∷ moves) h ks s =
    moves-connections d moves (Unset c ▷ h) (changed unset_on c ks) s.1 ∙ ap (λ (k : Option Connection). cond (is_shut d (line_by moves)) None k) (changed-apart unset_on (λ x. refl) c d ks s.0)
moves-connections d (Began conns wanted ∷ moves) h ks s = moves-connections d moves (Began conns wanted ▷ h) ks s.1
moves-connections d (Over ∷ moves) h ks s = moves-connections d moves (Over ▷ h) ks s.1
moves-connections d (Cancelled ∷ moves) h ks s = moves-connections d moves (Cancelled ▷ h) ks s.1
moves-connections d (Agreed ∷ moves) h ks s = moves-connections d moves (Agreed ▷ h) ks s.1
moves-connections d (Tried cause command ∷ moves) h ks s = moves-connections d moves (Tried cause command ▷ h) ks s.1
moves-connections d (Committed written ∷ moves) h ks s = moves-connections d moves (Committed written ▷ h) ks s.1
moves-connections d (Printed text ∷ moves) h ks s = moves-connections d moves (Printed text ▷ h) ks s.1
moves-connections d (Finished ∷ moves) h ks s = moves-connections d moves (Finished ▷ h) ks s.1

-- ---- the session is told

heard-registered : (d : ℕ) (event : SessionEvent) (h : History) → IsApart d event → is_in d (of.registered (Outside event ▷ h)) ≡ is_in d (of.registered h)
heard-registered d (Left c) h a = in-without d c (of.registered h) ∙ ap (λ (b : Bool). not b && is_in d (of.registered h)) (other c d a)
heard-registered d event h a = refl

told-leaves : (d : ℕ) (m : Machine) (event : SessionEvent) → IsApart d event → Leaves d m (told m event)
told-leaves d m event a =
    let s : Spared d event m.session = all-spared d event m.session a in
    let heard : History = Outside event ▷ m.session in
    let since : acts_since m.session (taken event m.session) ≡ acts_by s.moves =
    since-is m.session (taken event m.session) (acts_by s.moves)
    (ap (λ (g : History). all_acts g) s.is ∙ acts-onto s.moves heard ∙ ap (λ (xs : List SessionAct). xs ++ acts_by s.moves) (append-nil (all_acts m.session))) in
    let same_in : is_in d (of.registered heard) ≡ is_in d (of.registered m.session) = heard-registered d event m.session a in
    subst (λ (acts : List SessionAct). Leaves d m (followed m acts (taken event m.session))) (sym since) (record {
      spares = moves-spare d m (followed m (acts_by s.moves) (taken event m.session)).next s.moves heard s.spared same_in s.is;
      connection = moves-connections d s.moves heard m.connections s.spared;
      registered = ap (λ (g : History). is_in d (of.registered g)) s.is ∙ moves-registered d s.moves heard s.spared ∙ same_in;
      ending = λ k. ap (λ (g : History). of.is_ending g) s.is ∙ moves-ending s.moves heard k;
    })

-- ---- steps

spares-from : (d : ℕ) (m n o p : Machine) → is_in d (of.registered n.session) ≡ is_in d (of.registered m.session) → (of.is_ending o.session ≡ true → of.is_ending p.session ≡ true) → (entry : Entry) → Spares d n o entry → Spares d m p entry
spares-from d m n o p r e (TookPart c part) s = s
spares-from d m n o p r e (DoesAct (Say c message)) s = s
spares-from d m n o p r e (DoesAct (Shut c)) s = λ k. (sym r ∙ (s k).0, e (s k).1)
spares-from d m n o p r e (DoesAct act) s = s

shut-append : (d : ℕ) (xs ys : List Entry) → is_shut d (xs ++ ys) ≡ (is_shut d xs || is_shut d ys)
shut-append d [] ys = refl
shut-append d (DoesAct (Shut c) ∷ xs) ys = ap (λ (b : Bool). eqb c d || b) (shut-append d xs ys) ∙ grouped (eqb c d) (is_shut d xs) (is_shut d ys) where
  grouped : (x y z : Bool) → (x || (y || z)) ≡ ((x || y) || z)
  grouped true y z = refl
  grouped false y z = refl
shut-append d (entry ∷ xs) ys = shut-append d xs ys

leaves-stays : (d : ℕ) (m : Machine) → Leaves d m (record { line = []; next = m })
leaves-stays d m = record { spares = tt; connection = refl; registered = refl; ending = λ k. k }

-- one step after another
leaves-then : (d : ℕ) (m : Machine) (s t : Step) → Leaves d m s → Leaves d s.next t → Leaves d m (behind s.line t)
leaves-then d m s t p q = record {
  spares = all-append (Spares d m t.next) s.line t.line (all-more (Spares d m s.next) (Spares d m t.next) (spares-from d m m s.next t.next refl q.ending) s.line p.spares)
      (all-more (Spares d s.next t.next) (Spares d m t.next) (spares-from d m s.next t.next t.next p.registered (λ k. k)) t.line q.spares);
  connection = q.connection ∙ ap (λ (k : Option Connection). cond (is_shut d t.line) None k) p.connection ∙ shut-then (is_shut d s.line) (is_shut d t.line) (connection_of d m.connections)
      ∙ ap (λ (b : Bool). cond b None (connection_of d m.connections)) (sym (shut-append d s.line t.line));
  registered = q.registered ∙ p.registered;
  ending = λ k. q.ending (p.ending k);
} where
  shut-then : (b c : Bool) (k : Option Connection) → cond c None (cond b None k) ≡ cond (b || c) None k
  shut-then true true k = refl
  shut-then true false k = refl
  shut-then false c k = refl

-- only another connection changed before the step
leaves-from : (d : ℕ) (m : Machine) (ks : List Connection) (s : Step) → connection_of d ks ≡ connection_of d m.connections → Leaves d (record m { connections = ks }) s → Leaves d m s
leaves-from d m ks s e p = record {
  spares = all-more (Spares d (record m { connections = ks }) s.next) (Spares d m s.next) (spares-from d m (record m { connections = ks }) s.next s.next refl (λ k. k)) s.line p.spares;
  connection = p.connection ∙ ap (λ (k : Option Connection). cond (is_shut d s.line) None k) e;
  registered = p.registered;
  ending = p.ending;
}

-- what is done to c alone
leaves-done : (d : ℕ) (m : Machine) (line : List Entry) → AllByRecursion (Spares d m m) line → is_shut d line ≡ false → Leaves d m (record { line = line; next = m })
leaves-done d m line s e = record { spares = s; connection = ap (λ (b : Bool). cond b None (connection_of d m.connections)) (sym e); registered = refl; ending = λ k. k }

leaves-says : (d : ℕ) (m : Machine) (c : ℕ) (message : Option Message) → (c ≡ d → ⊥) → Leaves d m (does m (says c message))
leaves-says d m c None a = leaves-stays d m
leaves-says d m c (Some message) a = leaves-done d m (map DoesAct (Say c message ∷ [])) (λ k. absurd (a k), tt) refl

leaves-shut : (d : ℕ) (m : Machine) (c : ℕ) (message : Option Message) → (c ≡ d → ⊥) → Leaves d m (does m (says c message ++ Shut c ∷ []))
leaves-shut d m c None a = leaves-done d m (map DoesAct (Shut c ∷ [])) (λ k. absurd (a k), tt) (ap (λ (b : Bool). b || false) (other c d a))
leaves-shut d m c (Some message) a = leaves-done d m (map DoesAct (Say c message ∷ Shut c ∷ [])) (λ k. absurd (a k), (λ k. absurd (a k), tt)) (ap (λ (b : Bool). b || false) (other c d a))

leaves-departs : (d : ℕ) (m : Machine) (c : ℕ) (message : Option Message) → (c ≡ d → ⊥) → Leaves d m (departs m c (says c message ++ Shut c ∷ []))
leaves-departs d m c message a =
    leaves-then d m (does m (says c message ++ Shut c ∷ [])) (told (parted m c) (Left c)) (leaves-shut d m c message a)
    (leaves-from d m (without c m.connections) (told (parted m c) (Left c)) (without-apart c d m.connections a) (told-leaves d (parted m c) (Left c) a))

leaves-asked : (d : ℕ) (m : Machine) (c : ℕ) (b : Bool) → (c ≡ d → ⊥) → Leaves d m (asked m c b)
leaves-asked d m c true a = leaves-says d m c (Some (Ice NoClose)) a
leaves-asked d m c false a = leaves-departs d m c None a

leaves-answered : (d : ℕ) (m : Machine) (c : ℕ) (answer : Answer) → (c ≡ d → ⊥) → Leaves d m (answered m c answer)
leaves-answered d m c (Stays message) a = leaves-says d m c message a
leaves-answered d m c (Begins message) a = leaves-then d m (does m (says c message)) (told m (Ready c)) (leaves-says d m c message a) (told-leaves d m (Ready c) a)
leaves-answered d m c (Closes message) a = leaves-departs d m c message a
leaves-answered d m c (Speaks message sequence frame) a = told-leaves d m (Said c message sequence frame) a
leaves-answered d m c Asks a = leaves-asked d m c (is_bound (of.phase_of c m.session)) a

leaves-part : (d : ℕ) (m : Machine) (c : ℕ) (part : Part) (k : Option Connection) → (c ≡ d → ⊥) → Leaves d m (part_for m c part k)
leaves-part d m c part None a = leaves-stays d m
leaves-part d m c part (Some k) a =
    let o : Outcome = outcome k.setup (sequence_after k.taken) part in
    leaves-then d m (record { line = TookPart c part ∷ []; next = m }) (answered (with_setup m c o.setup) c o.answer) (leaves-done d m (TookPart c part ∷ []) (a, tt) refl)
    (leaves-from d m (changed (counted o.setup) c m.connections) (answered (with_setup m c o.setup) c o.answer) (changed-apart (counted o.setup) (λ x. refl) c d m.connections a) (leaves-answered d (with_setup m c o.setup) c o.answer a))

leaves-parts : (d : ℕ) (m : Machine) (c : ℕ) (parts : List Part) → (c ≡ d → ⊥) → Leaves d m (parts_taken m c parts)
leaves-parts d m c [] a = leaves-stays d m
leaves-parts d m c (part ∷ parts) a =
    leaves-then d m (part_taken m c part) (parts_taken (part_taken m c part).next c parts) (leaves-part d m c part (connection_of c m.connections) a) (leaves-parts d (part_taken m c part).next c parts a)

leaves-piece : (d : ℕ) (m : Machine) (c : ℕ) (bytes : List ℕ) (k : Option Connection) → (c ≡ d → ⊥) → Leaves d m (piece_for m c bytes k)
leaves-piece d m c bytes None a = leaves-stays d m
leaves-piece d m c bytes (Some k) a =
    leaves-from d m (changed (fed_with bytes) c m.connections) (parts_taken (fed_on m c bytes) c (new_parts k.stream bytes)) (changed-apart (fed_with bytes) (λ x. refl) c d m.connections a)
    (leaves-parts d (fed_on m c bytes) c (new_parts k.stream bytes) a)

leaves-greeting : (d : ℕ) (m : Machine) (c : ℕ) (k : Option Connection) → (c ≡ d → ⊥) → Leaves d m (does m (greeting c k))
leaves-greeting d m c None a = leaves-stays d m
leaves-greeting d m c (Some k) a = leaves-done d m (map DoesAct (greeting c (Some k))) (λ j. absurd (a j), tt) refl

leaves-joined : (d : ℕ) (m : Machine) (c : ℕ) (k : Option Connection) → connection_of c m.connections ≡ k → (c ≡ d → ⊥) → Leaves d m (join_for m c k)
leaves-joined d m c None none a =
    let s : Step = told (joining m c) (HasJoined c) in
    let apart : connection_of d (m.connections ++ joined m.cookie c ∷ []) ≡ connection_of d m.connections =
    connection_of-append d m.connections (joined m.cookie c) none ∙ ap (λ (b : Bool). if◌then◌else◌ {A = Option Connection} b (Some (joined m.cookie c)) (connection_of d m.connections)) (other d c (λ j. a (sym j))) in
    leaves-then d m s (does s.next (greeting c (connection_of c s.next.connections)))
    (leaves-from d m (m.connections ++ joined m.cookie c ∷ []) s apart (told-leaves d (joining m c) (HasJoined c) a))
    (leaves-greeting d s.next c (connection_of c s.next.connections) a)
leaves-joined d m c (Some k) is_k a = leaves-stays d m

leaves-gone : (d : ℕ) (m : Machine) (c : ℕ) (k : Option Connection) → (c ≡ d → ⊥) → Leaves d m (gone_for m c k)
leaves-gone d m c None a = leaves-stays d m
leaves-gone d m c (Some k) a = leaves-from d m (without c m.connections) (told (parted m c) (Left c)) (without-apart c d m.connections a) (told-leaves d (parted m c) (Left c) a)

no-conn : (c : ℕ) → None ≡ Some c → ⊥
no-conn c e = grind arith

leaves-step : (d : ℕ) (m : Machine) (event : Event) → ((c : ℕ) → conn_of event ≡ Some c → c ≡ d → ⊥) → (c : ℕ) → conn_of event ≡ Some c → Leaves d m (step m event)
leaves-step d m (Joined c) a q e = leaves-joined d m c (connection_of c m.connections) refl (a c refl)
leaves-step d m (Piece c bytes) a q e = leaves-piece d m c bytes (connection_of c m.connections) (a c refl)
leaves-step d m (HasGone c) a q e = leaves-gone d m c (connection_of c m.connections) (a c refl)
leaves-step d m (Operator order) a q e = absurd (no-conn q e)
leaves-step d m (Tick milliseconds) a q e = absurd (no-conn q e)
leaves-step d m End a q e = absurd (no-conn q e)

-- it happened on c, and so not on d
pub only-conn : (b c d : ℕ) (o : Option ℕ) → o ≡ Some c → (d ≡ c → ⊥) → o ≡ Some b → b ≡ d → ⊥
only-conn b c d o e a f k = a (sym k ∙ same_conn b c (sym f ∙ e)) where
  same_conn : (b c : ℕ) → Some b ≡ Some c → b ≡ c
  same_conn b c e = cc

pub others-left-alone : (m : Machine) (event : Event) (c d : ℕ) → conn_of event ≡ Some c → (d ≡ c → ⊥) → LeavesAlone d m (step m event)
others-left-alone m event c d e a =
    let s : Leaves d m (step m event) = leaves-step d m event (λ b f k. only-conn b c d (conn_of event) e a f k) c e in
    record { spares = s.spares; connection = s.connection }
