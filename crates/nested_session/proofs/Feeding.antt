-- A step of the inner session with what the agent says about it.
use Rattle.std.proofs.Common.{◌≡◌, refl, sym, ap, subst, ◌∙◌, Bool, true, false, List, [], ◌∷◌, ◌++◌, append_assoc, Option, None, Some, Result, Ok, Err}
use Rattle.std.proofs.lemmas.List.{append-nil}
use Rattle.sm_world.specs.Effects.{heard}
use Rattle.sm_world.specs.declared.effects.Effect.{Effect}
use Rattle.sm_world.specs.declared.events.Event.{Event}
use Rattle.checkpoint_records.specs.declared.records.Book.{Book}
use Rattle.checkpoint_slots.specs.declared.turn.Current.{Current}
use Rattle.session_engine.specs.Machine.{Item, Machine, after_all, start, step}
use Rattle.session_engine.specs.Shown.{Shows as ShowsMachine, all_cut}
use Rattle.session_engine.specs.declared.config.Config.{Config}
use Rattle.session_engine.specs.declared.fault.ServeFault.{ServeFault}
use Rattle.session_engine.specs.declared.session.Session.{Session}
use Rattle.session_engine.specs.declared.session.Stepped.TheVariants.{Goes as GoesAhead}
use Rattle.session_model.specs.Readings as of
use Rattle.session_model.specs.declared.marks.Marks.{Marks}
use Rattle.nested_session.specs.Nesting.{Nested, Shows, chain, closes, does, ended_said, outcome, stepped, tells, tells_end}
use Rattle.nested_session.specs.Standing.{Brings, GoesBy, GoesOn, HasEnded, IsCutShort, Makes, Ready, Waits}
use Rattle.nested_session.specs.Woven.{Woven, all_inner, shown, shown_of}
use Rattle.nested_session.specs.declared.nest.Answered.{Answered}
use Rattle.nested_session.specs.declared.nest.Answered.TheVariants.{Finished, Goes}
use Rattle.nested_session.specs.declared.nest.Nest.{Nest}
use Rattle.nested_session.proofs.Stepping.{Stepping, stepped_on}

tells_finished : (o : Option Bool) (n : Nested) → (tells_end o n).next.finished ≡ n.finished
tells_finished None n = refl
tells_finished (Some success) n = refl

-- what is said behind the deeds of a step
abbrev pub line_of : Shows → List (Woven Item)
line_of made = made.line ++ (closes made.next.finished made.next).line

abbrev pub after_line : Nested → Event → List (Woven Item)
after_line n event = line_of (tells (does n (step n.machine event)).next)

module _ (config : Config) (opening : Book) (current : Option Current) (base : Option (List Effect)) (events : List Event) where
  pub cut_further : (told : Option (List Effect)) (fault : ServeFault) (line rest : List (Woven Item)) (all : List (Woven Effect)) → IsCutShort config opening current base events told fault line all → IsCutShort config opening current base events told fault (line ++ rest) all
  cut_further told fault line rest all cut = record {
    wove = cut.wove;
    front = (cut.front.0 ++ rest, sym (append_assoc (shown all) cut.front.0 rest) ∙ ap (λ (xs : List (Woven Item)). xs ++ rest) cut.front.1);
    cut = cut.cut;
  }

  -- Where the inner session goes on, the agent closes nothing.
  stepped_by : (b : Bool) (told : Option (List Effect)) (nest : Nest) (script : List (Woven Item)) (does_line : List (Woven Item)) (tells_step : Shows) → tells_step.next.finished ≡ b → b ≡ false → GoesBy config opening current base events told (script ++ does_line) tells_step (Ok nest)
      → Makes config opening current base events told script (chain (record { line = does_line ++ tells_step.line; next = tells_step.next }) (λ next. closes b next)) (Ok (Goes nest))
  stepped_by true told nest script does_line tells_step is e goes = absurd cc
  stepped_by false told nest script does_line tells_step is e goes = (
    goes.0,
    subst (λ (s : List (Woven Item)). GoesOn config opening current base events told nest tells_step.next s goes.0)
        (append_assoc script does_line tells_step.line ∙ ap (λ (xs : List (Woven Item)). script ++ xs) (sym (append-nil (does_line ++ tells_step.line)))) goes.1,
  )

  pub fed_on : (told : Option (List Effect)) (nest : Nest) (n : Nested) (script : List (Woven Item)) (event : Event) → GoesBy config opening current base events told (script ++ (does n (step n.machine event)).line) (tells (does n (step n.machine event)).next) (Ok nest)
      → Makes config opening current base events told script (stepped event n) (Ok (Goes nest))
  fed_on told nest n script event goes =
      let made : Shows = tells (does n (step n.machine event)).next in
      stepped_by made.next.finished told nest script (does n (step n.machine event)).line made refl goes.1.ready.unfinished goes

  pub fed_cut : (told : Option (List Effect)) (fault : ServeFault) (n : Nested) (script : List (Woven Item)) (event : Event) → GoesBy config opening current base events told (script ++ (does n (step n.machine event)).line) (tells (does n (step n.machine event)).next) (Err fault)
      → Makes config opening current base events told script (stepped event n) (Err fault)
  fed_cut told fault n script event cut =
      let doing : Shows = does n (step n.machine event) in
      let made : Shows = tells doing.next in
      let closing : Shows = closes made.next.finished made.next in (
        cut.0,
        subst (λ (s : List (Woven Item)). IsCutShort config opening current base events told fault s cut.0)
            (ap (λ (xs : List (Woven Item)). xs ++ closing.line) (append_assoc script doing.line made.line) ∙ append_assoc script (doing.line ++ made.line) closing.line)
            (cut_further told fault ((script ++ doing.line) ++ made.line) closing.line cut.0 cut.1),
      )

  -- Where the inner session was cut short, nothing more is said.
  pub fed_short : (told : Option (List Effect)) (fault : ServeFault) (n : Nested) (script : List (Woven Item)) (event : Event) (all : List (Woven Effect)) → IsCutShort config opening current base events told fault (script ++ ((does n (step n.machine event)).line ++ after_line n event)) all
      → IsCutShort config opening current base events told fault (script ++ (stepped event n).line) all
  fed_short told fault n script event all cut =
      let doing : Shows = does n (step n.machine event) in
      let made : Shows = tells doing.next in
      let closing : Shows = closes made.next.finished made.next in
      subst (λ (xs : List (Woven Item)). IsCutShort config opening current base events told fault (script ++ xs) all) (sym (append_assoc doing.line made.line closing.line)) cut

  -- Where it came to its end, the agent closes.

  ended_line : (script : List (Woven Item)) (doing made closing : List (Woven Item)) → (script ++ doing) ++ (made ++ closing) ≡ script ++ ((doing ++ made) ++ closing)
  ended_line script doing made closing = append_assoc script doing (made ++ closing) ∙ ap (λ (xs : List (Woven Item)). script ++ xs) (sym (append_assoc doing made closing))

  abbrev closed_by : Bool → Shows → Shows → Shows
  closed_by b doing made = chain (record { line = doing.line ++ made.line; next = made.next }) (λ next. closes b next)

  over_by : (b : Bool) (told : Option (List Effect)) (script : List (Woven Item)) (doing made : Shows) (answer : Result Answered ServeFault) → b ≡ true → Makes config opening current base events told (script ++ doing.line) (chain made (closes true)) answer → Makes config opening current base events told script (closed_by b doing made) answer
  over_by false told script doing made answer e makes = absurd cc
  over_by true told script doing made (Ok (Goes nest)) e makes = (
    makes.0,
    subst (λ (s : List (Woven Item)). GoesOn config opening current base events told nest (closes true made.next).next s makes.0) (ended_line script doing.line made.line (closes true made.next).line) makes.1,
  )
  over_by true told script doing made (Ok Finished) e makes = (
    makes.0,
    subst (λ (s : List (Woven Item)). HasEnded config opening current base events told (closes true made.next).next s makes.0) (ended_line script doing.line made.line (closes true made.next).line) makes.1,
  )
  over_by true told script doing made (Err fault) e makes = (
    makes.0,
    subst (λ (s : List (Woven Item)). IsCutShort config opening current base events told fault s makes.0) (ended_line script doing.line made.line (closes true made.next).line) makes.1,
  )

  pub fed_out : (told : Option (List Effect)) (n : Nested) (script : List (Woven Item)) (event : Event) (answer : Result Answered ServeFault) → (does n (step n.machine event)).next.finished ≡ true
      → Makes config opening current base events told (script ++ (does n (step n.machine event)).line) (ended_said (does n (step n.machine event)).next) answer → Makes config opening current base events told script (stepped event n) answer
  fed_out told n script event answer finished makes =
      let doing : Shows = does n (step n.machine event) in
      let made : Shows = tells doing.next in
      over_by made.next.finished told script doing made answer (tells_finished (outcome doing.next.awaited (of.marks doing.next.machine.session)) doing.next ∙ finished) makes

-- The inner session's step, and what is told behind it.
module _ (config : Config) (opening : Book) (current : Option Current) (base : Option (List Effect)) (earlier events : List Event) where
  -- what a held session says of its rounds
  abbrev MarksOf : Marks → Session → Type 0
  MarksOf marks session = (m : Machine) → ShowsMachine all_cut session.engine m → marks ≡ of.marks m.session

  abbrev TellsOn : Marks → Option (List Effect) → Option (List Effect) → Nest → Result Nest ServeFault → Type 0
  TellsOn marks new told nest answer =
      (n : Nested) (script : List (Woven Item)) (all : List (Woven Effect)) → marks ≡ of.marks n.machine.session → GoesOn config opening current base events new nest n script all → GoesBy config opening current base events told script (tells n) answer

  told_behind : (before old new told : Option (List Effect)) (nest : Nest) (next : Session) (marks : Marks) (n : Nested) (script : List (Woven Item)) (all : List (Woven Effect)) (how : Woven Effect) (event : Event) (answer : Result Nest ServeFault)
      → Brings event how before old earlier events → Ready config opening current base earlier before nest n script all → Waits config opening n.awaited (all ++ how ∷ []) → Stepping config opening current base earlier events old new nest.session event (Ok (GoesAhead next)) → MarksOf marks next
      → TellsOn marks new told (record { session = next; agent = nest.agent; awaited = nest.awaited }) answer → GoesBy config opening current base events told ((script ++ shown_of how) ++ (does n (step n.machine event)).line) (tells (does n (step n.machine event)).next) answer
  told_behind before old new told nest next marks n script all how event answer brings ready waits steps are telling =
      let on = stepped_on config opening current base earlier events before old new nest next n script all how event brings ready waits steps in
      telling (does n (step n.machine event)).next ((script ++ shown_of how) ++ (does n (step n.machine event)).line) on.0
      (are (after_all (start config opening) (heard (all_inner on.0))) on.1.ready.stands.shows ∙ ap (λ (m : Machine). of.marks m.session) (sym on.1.ready.machine)) on.1

  pub fed_goes : (before old new told : Option (List Effect)) (nest : Nest) (next : Session) (marks : Marks) (n : Nested) (script : List (Woven Item)) (all : List (Woven Effect)) (how : Woven Effect) (event : Event) (then_nest : Nest)
      → Brings event how before old earlier events → Ready config opening current base earlier before nest n script all → Waits config opening n.awaited (all ++ how ∷ []) → Stepping config opening current base earlier events old new nest.session event (Ok (GoesAhead next)) → MarksOf marks next
      → TellsOn marks new told (record { session = next; agent = nest.agent; awaited = nest.awaited }) (Ok then_nest) → Makes config opening current base events told (script ++ shown_of how) (stepped event n) (Ok (Goes then_nest))
  fed_goes before old new told nest next marks n script all how event then_nest brings ready waits steps are telling =
      fed_on config opening current base events told then_nest n (script ++ shown_of how) event (told_behind before old new told nest next marks n script all how event (Ok then_nest) brings ready waits steps are telling)

  pub fed_stops : (before old new told : Option (List Effect)) (nest : Nest) (next : Session) (marks : Marks) (n : Nested) (script : List (Woven Item)) (all : List (Woven Effect)) (how : Woven Effect) (event : Event) (fault : ServeFault)
      → Brings event how before old earlier events → Ready config opening current base earlier before nest n script all → Waits config opening n.awaited (all ++ how ∷ []) → Stepping config opening current base earlier events old new nest.session event (Ok (GoesAhead next)) → MarksOf marks next
      → TellsOn marks new told (record { session = next; agent = nest.agent; awaited = nest.awaited }) (Err fault) → Makes config opening current base events told (script ++ shown_of how) (stepped event n) (Err fault)
  fed_stops before old new told nest next marks n script all how event fault brings ready waits steps are telling =
      fed_cut config opening current base events told fault n (script ++ shown_of how) event (told_behind before old new told nest next marks n script all how event (Err fault) brings ready waits steps are telling)
