-- The acts of an agent, one after another.
use Rattle.std.proofs.Common.{◌≡◌, ◌≢◌, refl, sym, ap, subst, ◌∙◌, ℕ, Bool, true, false, List, [], ◌∷◌, ◌++◌, append_assoc, map, Option, None, Some, Result, Ok, Err}
use Rattle.std.specs.Prelude.{if◌then◌else◌}
use Rattle.std.specs.List.{list_any}
use Rattle.std.proofs.lemmas.List.{append-nil}
use Rattle.sm_world.specs.Effects.{Shuts, heard}
use Rattle.sm_world.specs.Outside.{adds}
use Rattle.sm_world.specs.declared.effects.Effect.{Effect}
use Rattle.sm_world.specs.declared.effects.Effect.TheVariants.{Sent, Shut}
use Rattle.sm_world.specs.declared.events.Event.{Event}
use Rattle.sm_world.specs.declared.events.Event.TheVariants.{Operator}
use Rattle.sm_world.specs.declared.events.Order.{Order}
use Rattle.sm_world.specs.declared.events.Order.TheVariants.{Checkpoint as ToCheckpoint, Shutdown as ToShutdown}
use Rattle.sm_world.proofs.Adding.{adds-adds, adds-none}
use Rattle.checkpoint_records.specs.declared.records.Book.{Book}
use Rattle.checkpoint_slots.specs.declared.turn.Current.{Current}
use Rattle.client_engine.specs.Driving.{behind, stays}
use Rattle.outer_agent.specs.declared.acts.AgentAct.{AgentAct}
use Rattle.outer_agent.specs.declared.acts.AgentAct.TheVariants.{Checkpoint, Drop, Send, Shutdown}
use Rattle.session_engine.specs.Doing.{item_of}
use Rattle.session_engine.specs.Machine.{Did, Item, Machine, after_all, start}
use Rattle.session_engine.specs.Session.{StandsFor}
use Rattle.session_engine.specs.declared.config.Config.{Config}
use Rattle.session_engine.specs.declared.fault.ServeFault.{ServeFault}
use Rattle.session_model.specs.Readings as of
use Rattle.nested_session.specs.Nesting.{Nested, Shows, all_carried, awaits, carried, is_void, puts, sent, stepped, unless_finished}
use Rattle.nested_session.specs.Nests.{IsApart, session_of, success}
use Rattle.nested_session.specs.Standing.{Brings, GoesOn, HasEnded, IsCutShort, IsOfOuter, Makes, Ready, SayNoSuccess, Waits, Wove, sent_on}
use Rattle.nested_session.specs.Woven.{Outer, Put, Woven, all_inner, effects_of, is_of_outer, shown, shown_of}
use Rattle.nested_session.specs.declared.nest.Answered.{Answered}
use Rattle.nested_session.specs.declared.nest.Answered.TheVariants.{Finished, Goes}
use Rattle.nested_session.specs.declared.nest.Nest.{Nest}
use Rattle.nested_session.proofs.Backing.{backed_by}
use Rattle.nested_session.proofs.Feeding.{cut_further}
use Rattle.nested_session.proofs.SaidLaws.{cut_said, ready_said, said_on, waits_said}
use Rattle.nested_session.proofs.Stepping.{waits_more}
use Rattle.nested_session.proofs.Weaving.{all_append, effects_append, heard_append, inner_append, shown_append}

-- What the test on the acts behind it makes of the end of a save

pub awaits_none : (void : Bool) (later : List AgentAct) (begun : ℕ) (o : Option ℕ) → void ≡ true → void ≡ list_any is_void later → o ≡ None → o ≡ awaits later begun
awaits_none void later begun o test is none = none ∙ ap (λ (b : Bool). if b then None else Some begun) (sym test ∙ is)

pub awaits_some : (void : Bool) (later : List AgentAct) (k begun : ℕ) (o : Option ℕ) → void ≡ false → void ≡ list_any is_void later → o ≡ Some k → k ≡ begun → o ≡ awaits later begun
awaits_some void later k begun o test is some same = some ∙ ap (λ (x : ℕ). Some x) same ∙ ap (λ (b : Bool). if b then None else Some begun) (sym test ∙ is)

inner_outer : (all : List (Woven Effect)) (effect : Effect) → all_inner (all ++ Outer effect ∷ []) ≡ all_inner all
inner_outer all effect = inner_append all (Outer effect ∷ []) ∙ append-nil (all_inner all)

shown_outer : (all : List (Woven Effect)) (effect : Effect) → shown (all ++ Outer effect ∷ []) ≡ shown all ++ map Outer (item_of effect)
shown_outer all effect = shown_append all (Outer effect ∷ []) ∙ ap (λ (xs : List (Woven Item)). shown all ++ xs) (append-nil (map Outer (item_of effect)))

module _ (config : Config) (opening : Book) (current : Option Current) (base : Option (List Effect)) where
  -- what the answer to an event or an order is to make
  abbrev pub Feeding : Option (List Effect) → Option (List Effect) → Nest → Event → Result Answered ServeFault → Type 0
  Feeding told new nest event answer =
      (before : Option (List Effect)) (earlier events : List Event) (n : Nested) (script : List (Woven Item)) (all : List (Woven Effect)) (how : Woven Effect) → Brings event how before told earlier events → Ready config opening current base earlier before nest n script all
      → Waits config opening n.awaited (all ++ how ∷ []) → Makes config opening current base events new (script ++ shown_of how) (stepped event n) answer

  -- One effect of the outer connection more, which says no success

  wove_outer : (earlier events : List Event) (old new : Option (List Effect)) (all : List (Woven Effect)) (effect : Effect) → is_of_outer effect ≡ true → (Outer (Sent 0 success) ≡ Outer effect → ⊥) → new ≡ adds old (effect ∷ []) → events ≡ earlier ++ heard (effect ∷ [])
      → Wove config opening current base earlier old all → Wove config opening current base events new (all ++ Outer effect ∷ [])
  wove_outer earlier events old new all effect outer other added later wove = record {
    told_is =
        added ∙ ap (λ (t : Option (List Effect)). adds t (effect ∷ [])) wove.told_is ∙ adds-adds base (effects_of all) (effect ∷ [])
        ∙ ap (λ (xs : List Effect). adds base xs) (sym (effects_append all (Outer effect ∷ [])));
    heard_is =
        ap (λ (xs : List Effect). heard xs) (effects_append all (Outer effect ∷ [])) ∙ heard_append (effects_of all) (effect ∷ [])
        ∙ ap (λ (xs : List Event). xs ++ heard (effect ∷ [])) wove.heard_is ∙ sym later;
    apart = all_append IsApart all (Outer effect ∷ []) wove.apart (outer, tt);
    backed = backed_by config opening current all (Outer effect) (λ is. absurd (other is)) wove.backed;
  }

  pub ready_outer : (earlier events : List Event) (old new : Option (List Effect)) (nest : Nest) (n : Nested) (script : List (Woven Item)) (all : List (Woven Effect)) (effect : Effect)
      → is_of_outer effect ≡ true → (Outer (Sent 0 success) ≡ Outer effect → ⊥) → new ≡ adds old (effect ∷ []) → events ≡ earlier ++ heard (effect ∷ []) → Ready config opening current base earlier old nest n script all
      → Ready config opening current base events new nest n (script ++ map Outer (item_of effect)) (all ++ Outer effect ∷ [])
  ready_outer earlier events old new nest n script all effect outer other added later ready = record {
    wove = wove_outer earlier events old new all effect outer other added later ready.wove;
    all_shown = shown_outer all effect ∙ ap (λ (xs : List (Woven Item)). xs ++ map Outer (item_of effect)) ready.all_shown;
    stands = subst (λ (xs : List Effect). StandsFor config opening current nest.session xs) (sym (inner_outer all effect)) ready.stands;
    machine = ready.machine ∙ ap (λ (xs : List Effect). after_all (start config opening) (heard xs)) (sym (inner_outer all effect));
    unfinished = ready.unfinished;
    agent = ready.agent;
    awaited = ready.awaited;
  }

module _ (config : Config) (opening : Book) (current : Option Current) (base : Option (List Effect)) (events : List Event) where
  -- What is shown in front may be counted as shown before.
  pub makes_behind : (told : Option (List Effect)) (script front : List (Woven Item)) (made : Shows) (answer : Result Answered ServeFault) → Makes config opening current base events told (script ++ front) made answer → Makes config opening current base events told script (behind front made) answer
  makes_behind told script front made (Ok (Goes nest)) makes = (makes.0, subst (λ (s : List (Woven Item)). GoesOn config opening current base events told nest made.next s makes.0) (append_assoc script front made.line) makes.1)
  makes_behind told script front made (Ok Finished) makes = (makes.0, subst (λ (s : List (Woven Item)). HasEnded config opening current base events told made.next s makes.0) (append_assoc script front made.line) makes.1)
  makes_behind told script front made (Err fault) makes = (makes.0, subst (λ (s : List (Woven Item)). IsCutShort config opening current base events told fault s makes.0) (append_assoc script front made.line) makes.1)

  -- nothing is shown
  pub makes_stay : (told : Option (List Effect)) (nest : Nest) (n : Nested) (script : List (Woven Item)) (all : List (Woven Effect)) → GoesOn config opening current base events told nest n script all → Makes config opening current base events told script (stays n) (Ok (Goes nest))
  makes_stay told nest n script all goes = (all, subst (λ (s : List (Woven Item)). GoesOn config opening current base events told nest n s all) (sym (append-nil script)) goes)

  -- an order is put to the inner session
  pub put_brings : (order : Order) (told : Option (List Effect)) → Brings (Operator order) (Put order) told told events events
  put_brings order told = record { inner = refl; apart = tt; told = sym (adds-none told); heard_is = sym (append-nil events) }

  -- a save whose end may be awaited
  awaits_at : (void : Bool) (begun : ℕ) (all : List (Woven Effect)) → begun ≡ (of.marks (session_of config opening all)).begun → Waits config opening (if void then None else Some begun) (all ++ Put ToCheckpoint ∷ [])
  awaits_at true begun all is = tt
  awaits_at false begun all is = record { save = record { early = all; late = []; parts = refl; last = tt }; begun_then = is }

  pub save_waits : (told : Option (List Effect)) (nest : Nest) (n : Nested) (script : List (Woven Item)) (all : List (Woven Effect)) (later : List AgentAct) → Ready config opening current base events told nest n script all → Waits config opening (awaits later (of.marks n.machine.session).begun) (all ++ Put ToCheckpoint ∷ [])
  save_waits told nest n script all later ready = awaits_at (list_any is_void later) (of.marks n.machine.session).begun all (ap (λ (m : Machine). (of.marks m.session).begun) ready.machine)

  -- it stands there with another save awaited, or none
  pub ready_awaiting : (told : Option (List Effect)) (nest : Nest) (n : Nested) (script : List (Woven Item)) (all : List (Woven Effect)) (awaited : Option ℕ) → Ready config opening current base events told nest n script all → Ready config opening current base events told (record nest { awaited = awaited }) (record n { awaited = awaited }) script all
  ready_awaiting told nest n script all awaited ready = record { wove = ready.wove; all_shown = ready.all_shown; stands = ready.stands; machine = ready.machine; unfinished = ready.unfinished; agent = ready.agent; awaited = refl }

  -- and without the agent
  pub ready_alone : (told : Option (List Effect)) (nest : Nest) (n : Nested) (script : List (Woven Item)) (all : List (Woven Effect)) → Ready config opening current base events told nest n script all → Ready config opening current base events told (record nest { agent = None }) (record n { agent = None }) script all
  ready_alone told nest n script all ready = record { wove = ready.wove; all_shown = ready.all_shown; stands = ready.stands; machine = ready.machine; unfinished = ready.unfinished; agent = tt; awaited = ready.awaited }

  pub saves : (told new : Option (List Effect)) (nest : Nest) (n : Nested) (script : List (Woven Item)) (all : List (Woven Effect)) (later : List AgentAct) (o : Option ℕ) (answer : Result Answered ServeFault) → o ≡ awaits later (of.marks n.machine.session).begun
      → GoesOn config opening current base events told nest n script all → Feeding config opening current base told new (record nest { awaited = o }) (Operator ToCheckpoint) answer → Makes config opening current base events new script (carried Checkpoint later n) answer
  saves told new nest n script all later o answer is goes feeds =
      let n1 : Nested = record n { awaited = o } in
      let ready : Ready config opening current base events told (record nest { awaited = o }) n1 script all = ready_awaiting told nest n script all o goes.ready in
      let waits : Waits config opening o (all ++ Put ToCheckpoint ∷ []) = subst (λ (x : Option ℕ). Waits config opening x (all ++ Put ToCheckpoint ∷ [])) (sym is) (save_waits told nest n script all later goes.ready) in
      subst (λ (x : Option ℕ). Makes config opening current base events new script (puts ToCheckpoint (record n { awaited = x })) answer) is
      (makes_behind new script (Put ToCheckpoint ∷ []) (stepped (Operator ToCheckpoint) n1) answer (feeds told events events n1 script all (Put ToCheckpoint) (put_brings ToCheckpoint told) ready waits))

  pub shuts_down : (told new : Option (List Effect)) (nest : Nest) (n : Nested) (script : List (Woven Item)) (all : List (Woven Effect)) (later : List AgentAct) (answer : Result Answered ServeFault)
      → GoesOn config opening current base events told nest n script all → Feeding config opening current base told new (record nest { agent = None }) (Operator ToShutdown) answer → Makes config opening current base events new script (carried Shutdown later n) answer
  shuts_down told new nest n script all later answer goes feeds =
      let n1 : Nested = record n { agent = None } in
      makes_behind new script (Put ToShutdown ∷ []) (stepped (Operator ToShutdown) n1) answer
      (feeds told events events n1 script all (Put ToShutdown) (put_brings ToShutdown told) (ready_alone told nest n script all goes.ready) (waits_more config opening current base events events n.awaited all (Put ToShutdown ∷ []) (tt, tt) goes.waits))

  pub forgotten : (told : Option (List Effect)) (nest : Nest) (n : Nested) (script : List (Woven Item)) (all : List (Woven Effect)) → GoesOn config opening current base events told nest n script all → Makes config opening current base events told script (stays (record n { awaited = None })) (Ok (Goes (record nest { awaited = None })))
  forgotten told nest n script all goes = makes_stay told (record nest { awaited = None }) (record n { awaited = None }) script all (record { ready = ready_awaiting told nest n script all None goes.ready; waits = tt })

  pub parted : (told : Option (List Effect)) (nest : Nest) (n : Nested) (script : List (Woven Item)) (all : List (Woven Effect)) → GoesOn config opening current base events told nest n script all → Makes config opening current base events told script (stays (record n { agent = None })) (Ok (Goes (record nest { agent = None })))
  parted told nest n script all goes = makes_stay told (record nest { agent = None }) (record n { agent = None }) script all (record { ready = ready_alone told nest n script all goes.ready; waits = goes.waits })

  never_shut : (xs : List ℕ) → Outer (Sent 0 xs) ≡ Outer (Shut 0) → ⊥
  never_shut xs e = cc

  pub dropped : (old new : Option (List Effect)) (nest : Nest) (n : Nested) (script : List (Woven Item)) (all : List (Woven Effect)) (later : List AgentAct) → new ≡ adds old (Shut 0 ∷ []) → GoesOn config opening current base events old nest n script all
      → Makes config opening current base events new script (carried Drop later n) (Ok (Goes (record nest { agent = None })))
  dropped old new nest n script all later added goes =
      let more : List (Woven Effect) = all ++ Outer (Shut 0) ∷ [] in
      let ready : Ready config opening current base events new nest n (script ++ Outer (Did (Shuts 0)) ∷ []) more =
      ready_outer config opening current base events events old new nest n script all (Shut 0) refl (never_shut success) added (sym (append-nil events)) goes.ready in (
        more,
        record { ready = ready_alone new nest n (script ++ Outer (Did (Shuts 0)) ∷ []) more ready; waits = waits_more config opening current base events events n.awaited all (Outer (Shut 0) ∷ []) (tt, tt) goes.waits },
      )

  -- a fault kept back what was to be said
  pub unsaid : (old new : Option (List Effect)) (nest : Nest) (n : Nested) (script : List (Woven Item)) (all : List (Woven Effect)) (made : Shows) (fault : ServeFault) → new ≡ adds old [] → IsOfOuter fault → GoesOn config opening current base events old nest n script all
      → Makes config opening current base events new script made (Err fault)
  unsaid old new nest n script all made fault added of_outer goes = (all, cut_said config opening current base events old new nest n script made.line all fault (added ∙ adds-none old) of_outer goes.ready)

  -- what the agent sends of itself
  pub sent_act : (old new : Option (List Effect)) (nest : Nest) (n : Nested) (script : List (Woven Item)) (all : List (Woven Effect)) (bytes : List ℕ) (later : List AgentAct) → new ≡ adds old (sent_on bytes) → Send bytes ≢ Send success → GoesOn config opening current base events old nest n script all → Makes config opening current base events new script (carried (Send bytes) later n) (Ok (Goes nest))
  sent_act old new nest n script all bytes later added other goes =
      let ready : Ready config opening current base events new (record nest { awaited = n.awaited }) n (script ++ sent bytes) (all ++ said_on bytes) =
      ready_said config opening current base events old new nest n script all bytes nest.agent n.agent n.awaited added (λ same. absurd (other (ap (λ (xs : List ℕ). Send xs) same))) goes.ready.agent goes.ready in (
        all ++ said_on bytes,
        record {
          ready = subst (λ (o : Option ℕ). Ready config opening current base events new (record nest { awaited = o }) n (script ++ sent bytes) (all ++ said_on bytes)) (sym goes.ready.awaited) ready;
          waits = waits_said config opening current base events n.awaited all bytes goes.waits;
        },
      )

  -- the acts, one after another

  finishes_by : (b : Bool) (n : Nested) (further : Nested → Shows) → n.finished ≡ b → unless_finished further n ≡ (if b then stays n else further n)
  finishes_by b n further e = ap (λ (c : Bool). if c then stays n else further n) e

  -- how far it is: these were carried out, and the others are left
  pub record CarriesOn (old now : Option (List Effect)) (nest : Nest) (n : Nested) (script : List (Woven Item)) (acts left : List AgentAct) : Type 0 where
    pub line : List (Woven Item)
    pub next : Nested
    pub all : List (Woven Effect)
    pub goes : GoesOn config opening current base events now nest next (script ++ line) all
    pub parts : all_carried acts n ≡ behind line (all_carried left next)

  pub carries_none : (told : Option (List Effect)) (nest : Nest) (n : Nested) (script : List (Woven Item)) (all : List (Woven Effect)) (acts : List AgentAct) → GoesOn config opening current base events told nest n script all → CarriesOn told told nest n script acts acts
  carries_none told nest n script all acts goes = record { line = []; next = n; all = all; goes = subst (λ (s : List (Woven Item)). GoesOn config opening current base events told nest n s all) (sym (append-nil script)) goes; parts = refl }

  behind_both : (one two : List (Woven Item)) (made : Shows) → behind one (behind two made) ≡ behind (one ++ two) made
  behind_both one two made = ap (λ (s : List (Woven Item)). record { line = s; next = made.next }) (sym (append_assoc one two made.line))

  pub carries_more : (old now new : Option (List Effect)) (nest next : Nest) (n : Nested) (script : List (Woven Item)) (acts later : List AgentAct) (act : AgentAct) → (on : CarriesOn old now nest n script acts (act ∷ later))
      → Makes config opening current base events new (script ++ on.line) (carried act later on.next) (Ok (Goes next)) → CarriesOn old new next n script acts later
  carries_more old now new nest next n script acts later act on makes =
      let made : Shows = carried act later on.next in
      record {
        line = on.line ++ made.line;
        next = made.next;
        all = makes.0;
        goes = subst (λ (s : List (Woven Item)). GoesOn config opening current base events new next made.next s makes.0) (append_assoc script on.line made.line) makes.1;
        parts =
            on.parts ∙ ap (λ (s : Shows). behind on.line (behind made.line s)) (finishes_by false made.next (all_carried later) makes.1.ready.unfinished)
            ∙ behind_both on.line made.line (all_carried later made.next);
      }

  pub carries_over : (old now new : Option (List Effect)) (nest : Nest) (n : Nested) (script : List (Woven Item)) (acts later : List AgentAct) (act : AgentAct) → (on : CarriesOn old now nest n script acts (act ∷ later))
      → Makes config opening current base events new (script ++ on.line) (carried act later on.next) (Ok Finished) → Makes config opening current base events new script (all_carried acts n) (Ok Finished)
  carries_over old now new nest n script acts later act on makes =
      let made : Shows = carried act later on.next in
      subst (λ (s : Shows). Makes config opening current base events new script s (Ok Finished))
      (sym (on.parts ∙ ap (λ (s : Shows). behind on.line (behind made.line s)) (finishes_by true made.next (all_carried later) makes.1.finished) ∙ behind_both on.line made.line (stays made.next) ∙ ap (λ (xs : List (Woven Item)). record { line = xs; next = made.next }) (append-nil (on.line ++ made.line))))
      (makes.0, subst (λ (s : List (Woven Item)). HasEnded config opening current base events new made.next s makes.0) (append_assoc script on.line made.line) makes.1)

  pub carries_cut : (old now new : Option (List Effect)) (nest : Nest) (n : Nested) (script : List (Woven Item)) (acts later : List AgentAct) (act : AgentAct) (fault : ServeFault) → (on : CarriesOn old now nest n script acts (act ∷ later))
      → Makes config opening current base events new (script ++ on.line) (carried act later on.next) (Err fault) → Makes config opening current base events new script (all_carried acts n) (Err fault)
  carries_cut old now new nest n script acts later act fault on makes =
      let made : Shows = carried act later on.next in
      let rest : Shows = unless_finished (all_carried later) made.next in
      subst (λ (s : Shows). Makes config opening current base events new script s (Err fault)) (sym on.parts) (
        makes.0,
        subst (λ (s : List (Woven Item)). IsCutShort config opening current base events new fault s makes.0) (append_assoc (script ++ on.line) made.line rest.line ∙ append_assoc script on.line (made.line ++ rest.line))
            (cut_further config opening current base events new fault ((script ++ on.line) ++ made.line) rest.line makes.0 makes.1),
      )

  pub carries_all : (old now : Option (List Effect)) (nest : Nest) (n : Nested) (script : List (Woven Item)) (acts : List AgentAct) → CarriesOn old now nest n script acts [] → Makes config opening current base events now script (all_carried acts n) (Ok (Goes nest))
  carries_all old now nest n script acts on =
      subst (λ (s : Shows). Makes config opening current base events now script s (Ok (Goes nest))) (sym on.parts)
      (on.all, subst (λ (s : List (Woven Item)). GoesOn config opening current base events now nest on.next (script ++ s) on.all) (sym (append-nil on.line)) on.goes)

  -- what the next act is to make
  abbrev pub Carrying : Option (List Effect) → Option (List Effect) → Nest → AgentAct → List AgentAct → Result Answered ServeFault → Type 0
  Carrying now new nest act later answer =
      (n : Nested) (script : List (Woven Item)) (all : List (Woven Effect)) → act ≢ Send success → GoesOn config opening current base events now nest n script all → Makes config opening current base events new script (carried act later n) answer

  pub carried_on : (old now new : Option (List Effect)) (nest next : Nest) (n : Nested) (script : List (Woven Item)) (acts left later : List AgentAct) (act : AgentAct) → left ≡ act ∷ later → SayNoSuccess left → CarriesOn old now nest n script acts left
      → Carrying now new nest act later (Ok (Goes next)) → CarriesOn old new next n script acts later
  carried_on old now new nest next n script acts left later act is none on carrying =
      let at : CarriesOn old now nest n script acts (act ∷ later) = subst (λ (xs : List AgentAct). CarriesOn old now nest n script acts xs) is on in
      let none_at : SayNoSuccess (act ∷ later) = subst (λ (xs : List AgentAct). SayNoSuccess xs) is none in
      carries_more old now new nest next n script acts later act at (carrying at.next (script ++ at.line) at.all none_at.0 at.goes)

  pub carried_over : (old now new : Option (List Effect)) (nest : Nest) (n : Nested) (script : List (Woven Item)) (acts left later : List AgentAct) (act : AgentAct) → left ≡ act ∷ later → SayNoSuccess left → CarriesOn old now nest n script acts left
      → Carrying now new nest act later (Ok Finished) → Makes config opening current base events new script (all_carried acts n) (Ok Finished)
  carried_over old now new nest n script acts left later act is none on carrying =
      let at : CarriesOn old now nest n script acts (act ∷ later) = subst (λ (xs : List AgentAct). CarriesOn old now nest n script acts xs) is on in
      let none_at : SayNoSuccess (act ∷ later) = subst (λ (xs : List AgentAct). SayNoSuccess xs) is none in
      carries_over old now new nest n script acts later act at (carrying at.next (script ++ at.line) at.all none_at.0 at.goes)

  pub carried_cut : (old now new : Option (List Effect)) (nest : Nest) (n : Nested) (script : List (Woven Item)) (acts left later : List AgentAct) (act : AgentAct) (fault : ServeFault) → left ≡ act ∷ later → SayNoSuccess left → CarriesOn old now nest n script acts left
      → Carrying now new nest act later (Err fault) → Makes config opening current base events new script (all_carried acts n) (Err fault)
  carried_cut old now new nest n script acts left later act fault is none on carrying =
      let at : CarriesOn old now nest n script acts (act ∷ later) = subst (λ (xs : List AgentAct). CarriesOn old now nest n script acts xs) is on in
      let none_at : SayNoSuccess (act ∷ later) = subst (λ (xs : List AgentAct). SayNoSuccess xs) is none in
      carries_cut old now new nest n script acts later act fault at (carrying at.next (script ++ at.line) at.all none_at.0 at.goes)

  pub carried_all : (old now : Option (List Effect)) (nest : Nest) (n : Nested) (script : List (Woven Item)) (acts left : List AgentAct) → left ≡ [] → CarriesOn old now nest n script acts left → Makes config opening current base events now script (all_carried acts n) (Ok (Goes nest))
  carried_all old now nest n script acts left is on = carries_all old now nest n script acts (subst (λ (xs : List AgentAct). CarriesOn old now nest n script acts xs) is on)

-- what is left says no success either
pub none_left : (left later : List AgentAct) (act : AgentAct) → left ≡ act ∷ later → SayNoSuccess left → SayNoSuccess later
none_left left later act is none =
    let none_at : SayNoSuccess (act ∷ later) = subst (λ (xs : List AgentAct). SayNoSuccess xs) is none in
    none_at.1
