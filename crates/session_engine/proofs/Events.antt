-- What the session in memory gives as a connection joins or is gone, and for an order.
use Rattle.std.proofs.Common.{◌≡◌, ℕ, true, false, List, [], ◌∷◌, ◌++◌, map, Option, Some, None, refl, sym, ◌∙◌, ap}
use Rattle.std.specs.Option.{is_some}
use Rattle.std.proofs.lemmas.List.{append-nil}
use Rattle.std.proofs.lemmas.Bool.{false≢true}
use Rattle.std.proofs.lemmas.Grind.{flat_map-append}
use Rattle.std.specs.List.{flat_map}
use Rattle.ice_messages.specs.declared.message.IceMessage.TheVariants.{ByteOrder}
use Rattle.ice_values.specs.declared.numbers.Endian.TheVariants.{Lsb}
use Rattle.sm_world.specs.declared.events.Event.TheVariants.{Joined, Gone, Operator, Tick}
use Rattle.sm_world.specs.declared.events.Order.{Order}
use Rattle.session_model.specs.Rules.{Takes as TakesEvent}
use Rattle.session_model.specs.declared.events.SessionEvent.TheVariants.{Joined as HasJoined, Left, Operator as Ordered, Tick as Ticked}
use Rattle.session_state.specs.Session.{reading_in}
use Rattle.session_engine.specs.Cutting.{IsNew}
use Rattle.session_engine.specs.Machine.{Connection, Machine, Step, Does, act_in, acts_of, connection_of, joining, greeting, greeted, gone_for, join_for, parted, stays, told, step}
use Rattle.session_engine.specs.Shown.{ChangesAt, Gives, IsShown, Leaves, Shows, all_cut, kept_at}
use Rattle.session_engine.specs.Telling.{GivesBehind, Tells}
use Rattle.session_engine.specs.declared.acts.Act.{Act}
use Rattle.session_engine.specs.declared.acts.Act.TheVariants.{Say}
use Rattle.session_engine.specs.declared.connection.Connection.{Connection as Kept}
use Rattle.session_engine.specs.declared.engine.Engine.{Engine}
use Rattle.protocol_messages.specs.declared.message.Message.TheVariants.{Ice}
use Rattle.session_engine.proofs.Answering.{takes-joined, takes-left}
use Rattle.session_engine.proofs.Following.{agrees-joined, agrees-left, agrees-ordered, agrees-ticked}
use Rattle.session_engine.proofs.Showing.{acts_noted, joined_shows, live_some, others_shown, tell_gives}

-- acts behind none
gives-all : (before : List Act) (s : Step) (engine : Engine) → before ≡ [] → GivesBehind before all_cut s engine → Gives s engine
gives-all before s engine none gives = record { acts = gives.acts ∙ ap (λ xs. xs ++ acts_of s) none; shows = gives.shows }

-- nothing changes
same-shown : (m : Machine) (before after : Engine) → Shows all_cut before m → after.cookie ≡ before.cookie → after.live ≡ before.live → after.manager ≡ before.manager → Shows all_cut after m
same-shown m before after shows cookie live manager = record {
  cookie = shows.cookie ∙ sym cookie;
  live = rw live shows.live;
  stands = rw manager shows.stands;
  agrees = shows.agrees;
}

gives-none : (m : Machine) (before after : Engine) → Shows all_cut before m → after.cookie ≡ before.cookie → after.live ≡ before.live → after.manager ≡ before.manager → after.acts ≡ [] → Gives (stays m) after
gives-none m before after shows cookie live manager none = record { acts = none; shows = same-shown m before after shows cookie live manager }

-- who is live
pub is-live : (m : Machine) (c : ℕ) (engine : Engine) → Shows all_cut engine m → is_some (connection_of c m.connections) ≡ is_some (kept_at engine.live c)
is-live m c engine shows = sym (live_some [] (kept_at engine.live c) (connection_of c m.connections) (shows.live.each c))

none_by : (k : Option Connection) → is_some k ≡ false → k ≡ None
none_by None e = refl
none_by (Some k) e = absurd (false≢true (sym e))

-- ---- an order

pub gives-order : (order : Order) (m : Machine) (before middle after : Engine) → Shows all_cut before m → middle.cookie ≡ before.cookie → middle.live ≡ before.live → middle.manager ≡ before.manager → middle.acts ≡ [] → Tells (Ordered order) middle after → Gives (step m (Operator order)) after
gives-order order m before middle after shows cookie live manager none tells =
    let same : Shows all_cut middle m = same-shown m before middle shows cookie live manager in
    gives-all middle.acts (told m (Ordered order)) after none (tell_gives (Ordered order) all_cut m middle after tells same.live same.cookie same.stands (agrees-ordered order m.connections m.session shows.agrees))

-- ---- time passes

pub gives-tick : (milliseconds : ℕ) (m : Machine) (before middle after : Engine) → Shows all_cut before m → middle.cookie ≡ before.cookie → middle.live ≡ before.live → middle.manager ≡ before.manager → middle.acts ≡ [] → Tells (Ticked milliseconds) middle after → Gives (step m (Tick milliseconds)) after
gives-tick milliseconds m before middle after shows cookie live manager none tells =
    let same : Shows all_cut middle m = same-shown m before middle shows cookie live manager in
    gives-all middle.acts (told m (Ticked milliseconds)) after none (tell_gives (Ticked milliseconds) all_cut m middle after tells same.live same.cookie same.stands (agrees-ticked milliseconds m.connections m.session shows.agrees))

-- ---- a connection is gone

pub takes-gone : (c : ℕ) (engine : Engine) → IsShown all_cut engine → is_some (kept_at engine.live c) ≡ true → TakesEvent (Left c) (reading_in engine.manager.session)
takes-gone c engine (m, shows) live = takes-left engine.manager m.session m.connections c shows.stands shows.agrees (is-live m c engine shows ∙ live)

gone-by : (m : Machine) (c : ℕ) (k : Option Connection) (engine : Engine) → is_some k ≡ true → Gives (told (parted m c) (Left c)) engine → Gives (gone_for m c k) engine
gone-by m c None engine live gives = absurd (false≢true live)
gone-by m c (Some k) engine live gives = gives

pub gives-gone : (c : ℕ) (m : Machine) (before middle after : Engine) → Shows all_cut before m → is_some (kept_at before.live c) ≡ true → middle.cookie ≡ before.cookie → Leaves c before.live middle.live → middle.manager ≡ before.manager → middle.acts ≡ [] → Tells (Left c) middle after → Gives (step m (Gone c)) after
gives-gone c m before middle after shows live cookie leaves manager none tells =
    gone-by m c (connection_of c m.connections) after (is-live m c before shows ∙ live)
    (gives-all middle.acts (told (parted m c) (Left c)) after none
    (tell_gives (Left c) all_cut (parted m c) middle after tells (others_shown m.connections c all_cut before.live middle.live leaves (λ q apart. shows.live.each q) shows.live.distinct) (shows.cookie ∙ sym cookie) (rw manager shows.stands) (agrees-left c m.connections m.session shows.agrees)))

pub gives-absent : (c : ℕ) (m : Machine) (before after : Engine) → Shows all_cut before m → is_some (kept_at before.live c) ≡ false → after.cookie ≡ before.cookie → after.live ≡ before.live → after.manager ≡ before.manager → after.acts ≡ [] → Gives (step m (Gone c)) after
gives-absent c m before after shows absent cookie live manager none =
    let is_none : connection_of c m.connections ≡ None = none_by (connection_of c m.connections) (is-live m c before shows ∙ absent) in
    rw is_none (gives-none m before after shows cookie live manager none)

-- ---- a connection joins

again-by : (m : Machine) (c : ℕ) (k : Option Connection) (engine : Engine) → is_some k ≡ true → Gives (stays m) engine → Gives (join_for m c k) engine
again-by m c None engine live gives = absurd (false≢true live)
again-by m c (Some k) engine live gives = gives

pub gives-again : (c : ℕ) (m : Machine) (before after : Engine) → Shows all_cut before m → is_some (kept_at before.live c) ≡ true → after.cookie ≡ before.cookie → after.live ≡ before.live → after.manager ≡ before.manager → after.acts ≡ [] → Gives (step m (Joined c)) after
gives-again c m before after shows here cookie live manager none = again-by m c (connection_of c m.connections) after (is-live m c before shows ∙ here) (gives-none m before after shows cookie live manager none)

pub takes-join : (c : ℕ) (engine : Engine) → IsShown all_cut engine → is_some (kept_at engine.live c) ≡ false → TakesEvent (HasJoined c) (reading_in engine.manager.session)
takes-join c engine (m, shows) absent = takes-joined engine.manager m.session m.connections c shows.stands shows.agrees (none_by (connection_of c m.connections) (is-live m c engine shows ∙ absent))

-- the session was told of a connection that joined
pub gives-joined : (c : ℕ) (m : Machine) (kept : Kept) (before middle after : Engine) → Shows all_cut before m → is_some (kept_at before.live c) ≡ false → IsNew before.cookie kept → middle.cookie ≡ before.cookie → ChangesAt before.live middle.live c (Some kept) → middle.manager ≡ before.manager → middle.acts ≡ [] → Tells (HasJoined c) middle after → Gives (told (joining m c) (HasJoined c)) after
gives-joined c m kept before middle after shows absent new cookie changes manager none tells =
    let is_none : connection_of c m.connections ≡ None = none_by (connection_of c m.connections) (is-live m c before shows ∙ absent) in
    let is_new : IsNew m.cookie kept = rw (shows.cookie) new in
    gives-all middle.acts (told (joining m c) (HasJoined c)) after none
    (tell_gives (HasJoined c) all_cut (joining m c) middle after tells (joined_shows m.cookie m.connections c kept before.live middle.live is_none is_new changes shows.live) (shows.cookie ∙ sym cookie) (rw manager shows.stands) (agrees-joined m.cookie c m.connections m.session is_none shows.agrees))

-- what is given behind a step, where it is a greeting
greeted-by : (c : ℕ) (s : Step) (k : Option Connection) (engine after : Engine) → connection_of c s.next.connections ≡ k → Gives s engine → after.cookie ≡ engine.cookie → after.live ≡ engine.live → after.manager ≡ engine.manager → after.acts ≡ engine.acts ++ greeting c k → Gives (greeted c s) after
greeted-by c s k engine after is_k gives cookie live manager acts = record {
  acts = acts ∙ (ap (λ xs. xs ++ greeting c k) gives.acts ∙ (ap (λ xs. acts_of s ++ xs) (sym (acts_noted (greeting c k)) ∙ ap (λ o. flat_map act_in (map Does (greeting c o))) (sym is_k)) ∙ sym (flat_map-append act_in s.line (map Does (greeting c (connection_of c s.next.connections))))));
  shows = same-shown s.next engine after gives.shows cookie live manager;
}

greeting_some : (c : ℕ) (k : Option Connection) → is_some k ≡ true → greeting c k ≡ Say c (Ice (ByteOrder Lsb)) ∷ []
greeting_some c None live = absurd (false≢true live)
greeting_some c (Some k) live = refl

join-by : (m : Machine) (c : ℕ) (engine : Engine) → connection_of c m.connections ≡ None → Gives (greeted c (told (joining m c) (HasJoined c))) engine → Gives (step m (Joined c)) engine
join-by m c engine none gives = rw none gives

-- it is live, and is greeted
pub gives-greeted : (c : ℕ) (m : Machine) (before engine after : Engine) → Shows all_cut before m → is_some (kept_at before.live c) ≡ false → Gives (told (joining m c) (HasJoined c)) engine → is_some (kept_at engine.live c) ≡ true → after.cookie ≡ engine.cookie → after.live ≡ engine.live → after.manager ≡ engine.manager → after.acts ≡ engine.acts ++ Say c (Ice (ByteOrder Lsb)) ∷ [] → Gives (step m (Joined c)) after
gives-greeted c m before engine after shows absent gives live cookie same manager acts =
    let s : Step = told (joining m c) (HasJoined c) in
    let k : Option Connection = connection_of c s.next.connections in
    join-by m c after (none_by (connection_of c m.connections) (is-live m c before shows ∙ absent))
    (greeted-by c s k engine after refl gives cookie same manager (acts ∙ ap (λ xs. engine.acts ++ xs) (sym (greeting_some c k (is-live s.next c engine gives.shows ∙ live)))))

-- it was closed at once
pub gives-refused : (c : ℕ) (m : Machine) (before engine : Engine) → Shows all_cut before m → is_some (kept_at before.live c) ≡ false → Gives (told (joining m c) (HasJoined c)) engine → is_some (kept_at engine.live c) ≡ false → Gives (step m (Joined c)) engine
gives-refused c m before engine shows absent gives gone =
    let s : Step = told (joining m c) (HasJoined c) in
    join-by m c engine (none_by (connection_of c m.connections) (is-live m c before shows ∙ absent))
    (greeted-by c s None engine engine (none_by (connection_of c s.next.connections) (is-live s.next c engine gives.shows ∙ gone)) gives refl refl refl (sym (append-nil engine.acts)))
