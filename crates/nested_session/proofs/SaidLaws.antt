-- What is said on the outer connection, behind what was woven so far.
use Rattle.std.proofs.Common.{◌≡◌, refl, sym, ap, subst, ◌∙◌, ℕ, ◌<◌, Bool, true, false, List, [], ◌∷◌, ◌++◌, map, append_assoc, Option, None, Some, Ok, Err, arith}
use Rattle.std.specs.Prelude.{nat_lt, if◌then◌else◌}
use Rattle.std.proofs.lemmas.List.{append-nil}
use Rattle.std.proofs.lemmas.Bool.Decides.{nat_tests}
use Rattle.std.specs.List.{AllByRecursion}
use Rattle.std.proofs.Common.{inl}
use Rattle.sm_world.specs.Effects.{heard}
use Rattle.sm_world.specs.Outside.{adds}
use Rattle.sm_world.specs.declared.effects.Effect.{Effect}
use Rattle.sm_world.specs.declared.effects.Effect.TheVariants.{Sent}
use Rattle.sm_world.specs.declared.events.Event.{Event}
use Rattle.sm_world.specs.declared.events.Order.TheVariants.{Checkpoint}
use Rattle.sm_world.proofs.Adding.{adds-adds}
use Rattle.checkpoint_records.specs.declared.records.Book.{Book}
use Rattle.checkpoint_slots.specs.declared.turn.Current.{Current}
use Rattle.client_engine.specs.Driving.{Run, Step}
use Rattle.outer_agent.specs.Script.{Keeper}
use Rattle.outer_agent.specs.Standing.{Stand}
use Rattle.session_engine.specs.Machine.{Item, Machine, after_all, start}
use Rattle.session_engine.specs.Session.{IsCut, StandsFor}
use Rattle.session_engine.specs.declared.config.Config.{Config}
use Rattle.session_engine.specs.declared.fault.ServeFault.{ServeFault}
use Rattle.session_engine.specs.declared.fault.ServeFault.TheVariants.{ConsoleFault, Damaged, DiskFault, LinkFault, NoMemory, Spent, TooManySessions, Worn, WrongSize}
use Rattle.session_engine.specs.declared.session.Session.{Session}
use Rattle.session_engine.specs.Stops.{StopsAt}
use Rattle.session_engine.specs.Causes.{IsOfRun}
use Rattle.session_engine.proofs.Sessions.{runs_over}
use Rattle.session_model.specs.Readings as of
use Rattle.session_model.specs.declared.marks.Marks.{Marks}
use Rattle.nested_session.specs.Nesting.{Nested, ended_for, outcome, sent, tells, tells_end}
use Rattle.nested_session.specs.Nests.{IsApart, IsBacked, IsCurrentAt, IsNoCheckpoint, Since, SuccessIsBacked, session_of, success}
use Rattle.nested_session.specs.Standing.{GoesBy, GoesOn, HasAgent, IsCutShort, IsOfOuter, Ready, Talks, Waits, Wove, sent_on}
use Rattle.nested_session.specs.Woven.{Outer, Put, Woven, all_inner, effects_of, shown}
use Rattle.nested_session.specs.declared.nest.Nest.{Nest}
use Rattle.nested_session.proofs.Backing.{backed_by, backed_since}
use Rattle.nested_session.proofs.Failing.{failure_other}
use Rattle.nested_session.proofs.Weaving.{all_append, effects_append, heard_append, inner_append, shown_append}

-- what is woven as these bytes are sent
abbrev pub said_on : List ℕ → List (Woven Effect)
said_on bytes = map Outer (sent_on bytes)

effects_said : (bytes : List ℕ) → effects_of (said_on bytes) ≡ sent_on bytes
effects_said [] = refl
effects_said (b ∷ bytes) = refl

deaf_said : (bytes : List ℕ) → heard (effects_of (said_on bytes)) ≡ []
deaf_said [] = refl
deaf_said (b ∷ bytes) = refl

inner_said : (bytes : List ℕ) → all_inner (said_on bytes) ≡ []
inner_said [] = refl
inner_said (b ∷ bytes) = refl

shown_said : (bytes : List ℕ) → shown (said_on bytes) ≡ sent bytes
shown_said [] = refl
shown_said (b ∷ bytes) = refl

apart_said : (bytes : List ℕ) → AllByRecursion IsApart (said_on bytes)
apart_said [] = tt
apart_said (b ∷ bytes) = (refl, tt)

no_order_said : (bytes : List ℕ) → AllByRecursion IsNoCheckpoint (said_on bytes)
no_order_said [] = tt
no_order_said (b ∷ bytes) = (tt, tt)

pub inner_same : (all : List (Woven Effect)) (bytes : List ℕ) → all_inner (all ++ said_on bytes) ≡ all_inner all
inner_same all bytes = inner_append all (said_on bytes) ∙ ap (λ (xs : List Effect). all_inner all ++ xs) (inner_said bytes) ∙ append-nil (all_inner all)

pub shown_more : (all : List (Woven Effect)) (bytes : List ℕ) → shown (all ++ said_on bytes) ≡ shown all ++ sent bytes
shown_more all bytes = shown_append all (said_on bytes) ∙ ap (λ (xs : List (Woven Item)). shown all ++ xs) (shown_said bytes)

sent_both : (xs ys : List ℕ) → Outer (Sent 0 xs) ≡ Outer (Sent 0 ys) → ys ≡ xs
sent_both xs ys e = cc

sent_is : (b : ℕ) (bytes : List ℕ) → Outer (Sent 0 success) ≡ Outer (Sent 0 (b ∷ bytes)) → b ∷ bytes ≡ success
sent_is b bytes e = sent_both success (b ∷ bytes) e

-- the faults of what is said leave the inner session as it was
pub stops_outer : (fault : ServeFault) → IsOfOuter fault → StopsAt fault []
stops_outer (Damaged at) of_outer = absurd of_outer
stops_outer (WrongSize size) of_outer = absurd of_outer
stops_outer TooManySessions of_outer = absurd of_outer
stops_outer DiskFault of_outer = absurd of_outer
stops_outer LinkFault of_outer = inl refl
stops_outer ConsoleFault of_outer = absurd of_outer
stops_outer Worn of_outer = absurd of_outer
stops_outer Spent of_outer = absurd of_outer
stops_outer NoMemory of_outer = tt

outer_run : (fault : ServeFault) → IsOfOuter fault → IsOfRun fault
outer_run (Damaged at) of_outer = absurd of_outer
outer_run (WrongSize size) of_outer = absurd of_outer
outer_run TooManySessions of_outer = absurd of_outer
outer_run DiskFault of_outer = absurd of_outer
outer_run LinkFault of_outer = tt
outer_run ConsoleFault of_outer = absurd of_outer
outer_run Worn of_outer = absurd of_outer
outer_run Spent of_outer = absurd of_outer
outer_run NoMemory of_outer = tt

outer_not_worn : (fault : ServeFault) → IsOfOuter fault → fault ≡ Worn → ⊥
outer_not_worn fault of_outer e = subst IsOfOuter e of_outer

outer_not_spent : (fault : ServeFault) → IsOfOuter fault → fault ≡ Spent → ⊥
outer_not_spent fault of_outer e = subst IsOfOuter e of_outer

-- how the awaited save ended, by what is held
pub outcome_at : (a b : Option ℕ) (k m : Marks) (o : Option Bool) → a ≡ b → k ≡ m → o ≡ outcome a k → outcome b m ≡ o
outcome_at a b k m o one two e = sym (subst (λ (x : Marks). o ≡ outcome b x) two (subst (λ (x : Option ℕ). o ≡ outcome x k) one e))

module _ (config : Config) (opening : Book) (current : Option Current) (base : Option (List Effect)) (events : List Event) where
  pub cut_outer : (session : Session) (fault : ServeFault) (effects : List Effect) → IsOfOuter fault → StandsFor config opening current session effects → IsCut config opening current fault effects
  cut_outer session fault effects of_outer stands = record {
    runs = runs_over config opening current session fault effects (outer_not_worn fault of_outer) (stops_outer fault of_outer) (outer_run fault of_outer) stands;
    in_time = outer_not_spent fault of_outer;
  }

  pub is_current : (session : Session) (all : List (Woven Effect)) → StandsFor config opening current session (all_inner all) → IsCurrentAt config opening current all
  is_current session all stands first before steady file image = ((stands.store first before steady).images file image).recovers

  pub backed_said : (all : List (Woven Effect)) (bytes : List ℕ) → (bytes ≡ success → IsBacked config opening current all) → SuccessIsBacked config opening current all → SuccessIsBacked config opening current (all ++ said_on bytes)
  backed_said all [] now backed = subst (λ (xs : List (Woven Effect)). SuccessIsBacked config opening current xs) (sym (append-nil all)) backed
  backed_said all (b ∷ bytes) now backed = backed_by config opening current all (Outer (Sent 0 (b ∷ bytes))) (λ is. now (sent_is b bytes is)) backed

  pub wove_said : (old new : Option (List Effect)) (all : List (Woven Effect)) (bytes : List ℕ) → new ≡ adds old (sent_on bytes) → (bytes ≡ success → IsBacked config opening current all)
      → Wove config opening current base events old all → Wove config opening current base events new (all ++ said_on bytes)
  wove_said old new all bytes added now wove = record {
    told_is =
        added ∙ ap (λ (t : Option (List Effect)). adds t (sent_on bytes)) wove.told_is ∙ adds-adds base (effects_of all) (sent_on bytes)
        ∙ ap (λ (xs : List Effect). adds base (effects_of all ++ xs)) (sym (effects_said bytes)) ∙ ap (λ (xs : List Effect). adds base xs) (sym (effects_append all (said_on bytes)));
    heard_is = ap (λ (xs : List Effect). heard xs) (effects_append all (said_on bytes)) ∙ heard_append (effects_of all) (effects_of (said_on bytes)) ∙ ap (λ (xs : List Event). heard (effects_of all) ++ xs) (deaf_said bytes) ∙ append-nil (heard (effects_of all)) ∙ wove.heard_is;
    apart = all_append IsApart all (said_on bytes) wove.apart (apart_said bytes);
    backed = backed_said all bytes now wove.backed;
  }

  since_said : (begun : ℕ) (all : List (Woven Effect)) (bytes : List ℕ) → Since config opening begun all → Since config opening begun (all ++ said_on bytes)
  since_said begun all bytes since = record {
    save = record {
      early = since.save.early;
      late = since.save.late ++ said_on bytes;
      parts = sym (append_assoc since.save.early (Put Checkpoint ∷ since.save.late) (said_on bytes)) ∙ ap (λ (xs : List (Woven Effect)). xs ++ said_on bytes) since.save.parts;
      last = all_append IsNoCheckpoint since.save.late (said_on bytes) since.save.last (no_order_said bytes);
    };
    begun_then = since.begun_then;
  }

  pub waits_said : (awaited : Option ℕ) (all : List (Woven Effect)) (bytes : List ℕ) → Waits config opening awaited all → Waits config opening awaited (all ++ said_on bytes)
  waits_said None all bytes waits = tt
  waits_said (Some begun) all bytes waits = since_said begun all bytes waits

  -- it goes on, with these bytes said, an agent and a save that may be awaited
  pub ready_said : (old new : Option (List Effect)) (nest : Nest) (n : Nested) (script : List (Woven Item)) (all : List (Woven Effect)) (bytes : List ℕ) (agent : Option Stand) (run : Option (Run Keeper)) (awaited : Option ℕ)
      → new ≡ adds old (sent_on bytes) → (bytes ≡ success → IsBacked config opening current all) → HasAgent agent run → Ready config opening current base events old nest n script all
      → Ready config opening current base events new (record { session = nest.session; agent = agent; awaited = awaited }) (record n { agent = run; awaited = awaited }) (script ++ sent bytes) (all ++ said_on bytes)
  ready_said old new nest n script all bytes agent run awaited added now has ready = record {
    wove = wove_said old new all bytes added now ready.wove;
    all_shown = shown_more all bytes ∙ ap (λ (xs : List (Woven Item)). xs ++ sent bytes) ready.all_shown;
    stands = subst (λ (xs : List Effect). StandsFor config opening current nest.session xs) (sym (inner_same all bytes)) ready.stands;
    machine = ready.machine ∙ ap (λ (xs : List Effect). after_all (start config opening) (heard xs)) (sym (inner_same all bytes));
    unfinished = ready.unfinished;
    agent = has;
    awaited = refl;
  }

  -- A fault kept it back.
  pub cut_said : (old new : Option (List Effect)) (nest : Nest) (n : Nested) (script line : List (Woven Item)) (all : List (Woven Effect)) (fault : ServeFault)
      → new ≡ old → IsOfOuter fault → Ready config opening current base events old nest n script all → IsCutShort config opening current base events new fault (script ++ line) all
  cut_said old new nest n script line all fault same of_outer ready = record {
    wove = record { told_is = same ∙ ready.wove.told_is; heard_is = ready.wove.heard_is; apart = ready.wove.apart; backed = ready.wove.backed };
    front = (line, ap (λ (xs : List (Woven Item)). xs ++ line) ready.all_shown);
    cut = cut_outer nest.session fault (all_inner all) of_outer ready.stands;
  }

  -- The end of the awaited save

  -- a save that succeeded is one of which a later round was agreed
  agreed_later : (a b : Bool) (success : Bool) → (if a then Some true else if b then Some false else None) ≡ Some success → success ≡ true → a ≡ true
  agreed_later true b success e is = refl
  agreed_later false true success e is = absurd cc
  agreed_later false false success e is = absurd cc

  above : (m n : ℕ) → nat_lt m n ≡ true → m < n
  above m n e = grind (arith, nat_tests)

  ended_backed : (awaited : Option ℕ) (marks : Marks) (all : List (Woven Effect)) → outcome awaited marks ≡ Some true → marks ≡ of.marks (session_of config opening all) → AllByRecursion IsApart all → IsCurrentAt config opening current all → Waits config opening awaited all → IsBacked config opening current all
  ended_backed None marks all e is apart current_at waits = absurd cc
  ended_backed (Some begun) marks all e is apart current_at waits =
      backed_since config opening current begun all waits apart current_at
      (subst (λ (k : Marks). begun < k.agreed) is (above begun marks.agreed (agreed_later (nat_lt begun marks.agreed) (nat_lt begun marks.ended) true e refl)))

  -- so what is said about an end is backed where it says success
  pub end_backed : (awaited : Option ℕ) (marks : Marks) (all : List (Woven Effect)) (ended : Bool) (run : Option (Run Keeper)) → outcome awaited marks ≡ Some ended → marks ≡ of.marks (session_of config opening all) → AllByRecursion IsApart all → IsCurrentAt config opening current all → Waits config opening awaited all → (ended_for ended run).line ≡ success → IsBacked config opening current all
  end_backed awaited marks all true run e is apart current_at waits said = ended_backed awaited marks all e is apart current_at waits
  end_backed awaited marks all false run e is apart current_at waits said = absurd (failure_other run said)

  pub tell_none : (told : Option (List Effect)) (nest : Nest) (n : Nested) (script : List (Woven Item)) (all : List (Woven Effect)) → outcome n.awaited (of.marks n.machine.session) ≡ None → GoesOn config opening current base events told nest n script all → GoesBy config opening current base events told script (tells n) (Ok nest)
  tell_none told nest n script all e goes =
      subst (λ (o : Option Bool). GoesBy config opening current base events told script (tells_end o n) (Ok nest)) (sym e)
      (all, subst (λ (s : List (Woven Item)). GoesOn config opening current base events told nest n s all) (sym (append-nil script)) goes)

  pub tell_said : (old new : Option (List Effect)) (nest : Nest) (n : Nested) (script : List (Woven Item)) (all : List (Woven Effect)) (ended : Bool) (agent : Option Stand) → outcome n.awaited (of.marks n.machine.session) ≡ Some ended
      → Talks old new (ended_for ended n.agent) (Ok agent) → GoesOn config opening current base events old nest n script all
      → GoesBy config opening current base events new script (tells n) (Ok (record { session = nest.session; agent = agent; awaited = None }))
  tell_said old new nest n script all ended agent e talks goes =
      subst (λ (o : Option Bool). GoesBy config opening current base events new script (tells_end o n) (Ok (record { session = nest.session; agent = agent; awaited = None }))) (sym e) (
        all ++ said_on (ended_for ended n.agent).line,
        record {
          ready = ready_said old new nest n script all (ended_for ended n.agent).line agent (ended_for ended n.agent).next None talks.0
              (end_backed n.awaited (of.marks n.machine.session) all ended n.agent e (ap (λ (m : Machine). of.marks m.session) goes.ready.machine) goes.ready.wove.apart (is_current nest.session all goes.ready.stands) goes.waits)
              talks.1 goes.ready;
          waits = tt;
        },
      )

  pub tell_cut : (old new : Option (List Effect)) (nest : Nest) (n : Nested) (script : List (Woven Item)) (all : List (Woven Effect)) (fault : ServeFault) (run : Step (Option (Run Keeper)) ℕ) → Talks old new run (Err fault) → GoesOn config opening current base events old nest n script all → GoesBy config opening current base events new script (tells n) (Err fault)
  tell_cut old new nest n script all fault run talks goes = (all, cut_said old new nest n script (tells n).line all fault talks.0 talks.1 goes.ready)
