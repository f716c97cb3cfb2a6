-- Where the end of a save is awaited, the agent has it due.
use Rattle.std.proofs.Common.{◌≡◌, refl, sym, ap, subst, ◌∙◌, ℕ, Bool, true, false, List, [], ◌∷◌, ◌++◌, Option, None, Some}
use Rattle.std.specs.Prelude.{◌&&◌, ◌||◌, if◌then◌else◌}
use Rattle.std.specs.List.{list_any}
use Rattle.sm_world.specs.declared.events.Event.{Event}
use Rattle.sm_world.specs.declared.events.Event.TheVariants.{End, Gone, Joined, Operator, Piece as HasPiece, Tick}
use Rattle.sm_world.specs.declared.events.Order.TheVariants.{Checkpoint as ToCheckpoint, Shutdown as ToShutdown}
use Rattle.checkpoint_records.specs.declared.records.Book.{Book}
use Rattle.client_engine.specs.Driving.{Run, stays}
use Rattle.client_engine.specs.Messages.{spelled}
use Rattle.client_engine.specs.Places.{is_listening}
use Rattle.ice_cookie.specs.declared.cookies.Cookie.{Cookie}
use Rattle.outer_agent.specs.Ends.{AreOneByOne, Came, Life, Piece, SaveEnded, after, after_all, is_due, life_of}
use Rattle.outer_agent.specs.Script.{Keeper, piece_heard, start, told}
use Rattle.outer_agent.specs.declared.acts.AgentAct.{AgentAct}
use Rattle.outer_agent.specs.declared.acts.AgentAct.TheVariants.{Checkpoint, Drop, Forget, Send, Shutdown}
use Rattle.outer_agent.proofs.EndLaws.{one_by_one, said_where_due}
use Rattle.protocol_messages.specs.declared.message.Message.TheVariants.{Xsmp}
use Rattle.session_engine.specs.Machine.{step}
use Rattle.session_engine.specs.declared.config.Config.{Config}
use Rattle.session_model.specs.Readings as of
use Rattle.session_model.specs.declared.marks.Marks.{Marks}
use Rattle.xsmp_messages.specs.declared.message.XsmpMessage.TheVariants.{SaveYourselfDone}
use Rattle.nested_session.specs.Awaited.{AwaitedEndsAreSaid, AwaitedIsDue, IsLife, is_awaited, nested_by}
use Rattle.nested_session.specs.Nesting.{Nested, Shows, all_carried, all_taken, awaits, begun, carried, closes, does, ended_for, is_void, outcome, outer_heard, piece_for, stepped, taken, taken_by, tells, tells_end}
use Rattle.nested_session.specs.Woven.{is_outer}

differ : true ≡ false → ⊥
differ e = cc

-- an end comes of what is awaited alone
awaited_some : (awaited : Option ℕ) (marks : Marks) (success : Bool) → outcome awaited marks ≡ Some success → is_awaited awaited ≡ true
awaited_some None marks success e = absurd cc
awaited_some (Some begun) marks success e = refl

-- unless it is at its end
abbrev by_end : Bool → (Nested → Shows) → Nested → Shows
by_end b further n = if b then stays n else further n

none_is_none : (run : Run Keeper) → None ≡ Some run → ⊥
none_is_none run e = cc

some_is : (a b : Run Keeper) → Some a ≡ Some b → a ≡ b
some_is a b e = cc

-- ---- acts behind one that asks for a save

void_first : (act : AgentAct) (later : List AgentAct) → is_void act ≡ true → list_any is_void (act ∷ later) ≡ true
void_first act later is = ap (λ (b : Bool). b || list_any is_void later) is

-- where one voids the save, what was due doesn't matter
due_void : (later : List AgentAct) → list_any is_void later ≡ true → is_due true later ≡ is_due false later
due_void [] e = absurd cc
due_void (Send bytes ∷ later) e = due_void later e
due_void (Checkpoint ∷ later) e = refl
due_void (Forget ∷ later) e = refl
due_void (Shutdown ∷ later) e = refl
due_void (Drop ∷ later) e = refl

due_on : (later : List AgentAct) → AreOneByOne true later → AreOneByOne false later
due_on [] one = tt
due_on (Send bytes ∷ later) one = due_on later one
due_on (Checkpoint ∷ later) one = absurd (differ one.0)
due_on (Forget ∷ later) one = one
due_on (Shutdown ∷ later) one = absurd (differ one.0)
due_on (Drop ∷ later) one = one

-- where none does, they only say something
due_never : (later : List AgentAct) → AreOneByOne true later → list_any is_void later ≡ false → is_due false later ≡ false
due_never [] one e = refl
due_never (Send bytes ∷ later) one e = due_never later one e
due_never (Checkpoint ∷ later) one e = absurd (differ one.0)
due_never (Forget ∷ later) one e = absurd (differ (sym (void_first Forget later refl) ∙ e))
due_never (Shutdown ∷ later) one e = absurd (differ one.0)
due_never (Drop ∷ later) one e = absurd (differ (sym (void_first Drop later refl) ∙ e))

-- ---- what came to an agent

after_more : (life : Life) (xs : List Came) (came : Came) → after_all life (xs ++ came ∷ []) ≡ after (after_all life xs) came
after_more life [] came = refl
after_more life (x ∷ xs) came = after_more (after life x) xs came

module _ (cookie : Cookie) (previous : List ℕ) (words : List (List ℕ)) where
  abbrev Lives : Run Keeper → Bool → Type 0
  Lives run due = IsLife cookie previous words run due

  lives_on : (run : Run Keeper) (due : Bool) (came : Came) (next : Run Keeper) (then_due : Bool) → (lives : Lives run due) → ((life : Life) → life.run ≡ run → life.due ≡ due → ((after life came).run ≡ next) × ((after life came).due ≡ then_due)) → Lives next then_due
  lives_on run due came next then_due lives goes =
      let life : Life = life_of cookie previous words lives.came in
      let more : life_of cookie previous words (lives.came ++ came ∷ []) ≡ after life came = after_more (record { run = start cookie previous words; due = false }) lives.came came in
      let both = goes life lives.run_is lives.due_is in
      record {
        came = lives.came ++ came ∷ [];
        run_is = ap (λ (l : Life). l.run) more ∙ both.0;
        due_is = ap (λ (l : Life). l.due) more ∙ both.1;
      }

  lives_as : (run : Run Keeper) (a b : Bool) → a ≡ b → Lives run a → Lives run b
  lives_as run a b e lives = subst (λ (d : Bool). Lives run d) e lives

  -- a piece came
  piece_lives : (run : Run Keeper) (due : Bool) (bytes : List ℕ) → Lives run due → Lives (piece_heard run bytes).next (is_due due (piece_heard run bytes).line)
  piece_lives run due bytes lives =
      lives_on run due (Piece bytes) (piece_heard run bytes).next (is_due due (piece_heard run bytes).line) lives (λ life one two. (
        ap (λ (r : Run Keeper). (piece_heard r bytes).next) one,
        ap (λ (r : Run Keeper). is_due life.due (piece_heard r bytes).line) one ∙ ap (λ (d : Bool). is_due d (piece_heard run bytes).line) two,
      ))

  -- it was told of an end
  told_lives : (run : Run Keeper) (due success : Bool) → Lives run due → Lives (told run success).next false
  told_lives run due success lives = lives_on run due (SaveEnded success) (told run success).next false lives (λ life one two. (ap (λ (r : Run Keeper). (told r success).next) one, refl))

  pieces_one_by_one : (run : Run Keeper) (due : Bool) (bytes : List ℕ) → Lives run due → AreOneByOne due (piece_heard run bytes).line
  pieces_one_by_one run due bytes lives =
      subst (λ (r : Run Keeper). AreOneByOne due (piece_heard r bytes).line) lives.run_is
      (subst (λ (d : Bool). AreOneByOne d (piece_heard (life_of cookie previous words lives.came).run bytes).line) lives.due_is (one_by_one cookie previous words lives.came bytes))

  -- ---- an agent of which these acts are still to be carried out

  record Stands (awaited : Option ℕ) (later : List AgentAct) (run : Run Keeper) : Type 0 where
    lives : Lives run (is_due (is_awaited awaited) later)
    one : AreOneByOne (is_awaited awaited) later

  -- no act to come voids what is awaited
  abbrev IsKept : Option ℕ → List AgentAct → Type 0
  IsKept awaited later = is_awaited awaited ≡ true → list_any is_void later ≡ false

  abbrev Fits : List AgentAct → Nested → Type 0
  Fits later n = (run : Run Keeper) → n.agent ≡ Some run → Stands n.awaited later run

  abbrev Keeps : List AgentAct → Nested → Type 0
  Keeps later n = (run : Run Keeper) → n.agent ≡ Some run → Stands n.awaited later run × IsKept n.awaited later

  -- an end came
  ended_stands : (success : Bool) (agent : Option (Run Keeper)) (awaited : Option ℕ) (later : List AgentAct) → is_awaited awaited ≡ true → ((run : Run Keeper) → agent ≡ Some run → Stands awaited later run × IsKept awaited later)
      → (run : Run Keeper) → (ended_for success agent).next ≡ Some run → Stands None later run
  ended_stands success None awaited later is keeps run e = absurd (none_is_none run e)
  ended_stands success (Some before) awaited later is keeps run e =
      let held = keeps before refl in
      let one : AreOneByOne true later = subst (λ (d : Bool). AreOneByOne d later) is held.0.one in
      subst (λ (r : Run Keeper). Stands None later r) (some_is (told before success).next run e) (record {
        lives = lives_as (told before success).next false (is_due false later) (sym (due_never later one (held.1 is))) (told_lives before (is_due (is_awaited awaited) later) success held.0.lives);
        one = due_on later one;
      })

  told_fits : (o : Option Bool) (n : Nested) (later : List AgentAct) → outcome n.awaited (of.marks n.machine.session) ≡ o → Keeps later n → Fits later (tells_end o n).next
  told_fits None n later e keeps = λ run is. (keeps run is).0
  told_fits (Some success) n later e keeps = λ run is. ended_stands success n.agent n.awaited later (awaited_some n.awaited (of.marks n.machine.session) success e) keeps run is

  closes_fits : (b : Bool) (n : Nested) (later : List AgentAct) → n.finished ≡ b → (closes b n).next.finished ≡ false → Fits later n → Fits later (closes b n).next
  closes_fits true n later is e fits = absurd (differ (sym is ∙ e))
  closes_fits false n later is e fits = fits

  stepped_fits : (event : Event) (later : List AgentAct) (n : Nested) → Keeps later n → (stepped event n).next.finished ≡ false → Fits later (stepped event n).next
  stepped_fits event later n keeps e =
      let doing : Nested = (does n (step n.machine event)).next in
      let telling : Nested = (tells doing).next in
      closes_fits telling.finished telling later refl e (told_fits (outcome doing.awaited (of.marks doing.machine.session)) doing later refl keeps)

  -- ---- acts

  saves_by : (void : Bool) (later : List AgentAct) (run : Run Keeper) (begun : ℕ) → list_any is_void later ≡ void → Lives run (is_due true later) → AreOneByOne true later
      → (awaited : Option ℕ) → awaited ≡ (if void then None else Some begun) → Stands awaited later run × IsKept awaited later
  saves_by true later run begun e lives one awaited is = subst (λ (o : Option ℕ). Stands o later run × IsKept o later) (sym is) (record { lives = lives_as run (is_due true later) (is_due false later) (due_void later e) lives; one = due_on later one }, λ kept. absurd (differ (sym kept)))
  saves_by false later run begun e lives one awaited is = subst (λ (o : Option ℕ). Stands o later run × IsKept o later) (sym is) (record { lives = lives; one = one }, λ kept. e)

  carried_fits : (act : AgentAct) (later : List AgentAct) (n : Nested) → Fits (act ∷ later) n → (carried act later n).next.finished ≡ false → Fits later (carried act later n).next
  carried_fits (Send bytes) later n fits e = λ run is. record { lives = (fits run is).lives; one = (fits run is).one }
  carried_fits Checkpoint later n fits e =
      let before : ℕ = (of.marks n.machine.session).begun in
      stepped_fits (Operator ToCheckpoint) later (record n { awaited = awaits later before }) (λ run is. saves_by (list_any is_void later) later run before refl (fits run is).lives (fits run is).one.1 (awaits later before) refl) e
  carried_fits Forget later n fits e = λ run is. record { lives = (fits run is).lives; one = (fits run is).one }
  carried_fits Shutdown later n fits e = stepped_fits (Operator ToShutdown) later (record n { agent = None }) (λ run is. absurd (none_is_none run is)) e
  carried_fits Drop later n fits e = λ run is. absurd (none_is_none run is)

  unless_fits : (b : Bool) (n : Nested) (further : Nested → Shows) → n.finished ≡ b → (by_end b further n).next.finished ≡ false → (n.finished ≡ false → (further n).next.finished ≡ false → Fits [] (further n).next) → Fits [] (by_end b further n).next
  unless_fits true n further is e on = absurd (differ (sym is ∙ e))
  unless_fits false n further is e on = on is e

  acts_fit : (acts : List AgentAct) (n : Nested) → Fits acts n → (all_carried acts n).next.finished ≡ false → Fits [] (all_carried acts n).next
  acts_fit [] n fits e = fits
  acts_fit (act ∷ acts) n fits e =
      let next : Nested = (carried act acts n).next in
      unless_fits next.finished next (λ m. all_carried acts m) refl e (λ goes done. acts_fit acts next (carried_fits act acts n fits goes) done)

  -- ---- events

  heard_stands : (run : Run Keeper) (awaited : Option ℕ) (bytes : List ℕ) → Stands awaited [] run → Stands awaited (piece_heard run bytes).line (piece_heard run bytes).next
  heard_stands run awaited bytes stands = record { lives = piece_lives run (is_awaited awaited) bytes stands.lives; one = pieces_one_by_one run (is_awaited awaited) bytes stands.lives }

  piece_fits : (bytes : List ℕ) (n : Nested) (agent : Option (Run Keeper)) → n.agent ≡ agent → Fits [] n → (piece_for bytes n agent).next.finished ≡ false → Fits [] (piece_for bytes n agent).next
  piece_fits bytes n None is fits e = fits
  piece_fits bytes n (Some run) is fits e =
      acts_fit (piece_heard run bytes).line (record n { agent = Some (piece_heard run bytes).next })
      (λ r same. subst (λ (x : Run Keeper). Stands n.awaited (piece_heard run bytes).line x) (some_is (piece_heard run bytes).next r same) (heard_stands run n.awaited bytes (fits run is))) e

  outer_fits : (event : Event) (n : Nested) → Fits [] n → (outer_heard event n).next.finished ≡ false → Fits [] (outer_heard event n).next
  outer_fits (HasPiece conn bytes) n fits e = piece_fits bytes n n.agent refl fits e
  outer_fits (Gone conn) n fits e = λ run is. absurd (none_is_none run is)
  outer_fits (Joined conn) n fits e = fits
  outer_fits (Operator order) n fits e = fits
  outer_fits (Tick milliseconds) n fits e = fits
  outer_fits End n fits e = fits

  taken_fits : (b : Bool) (event : Event) (n : Nested) → Fits [] n → (taken_by b event n).next.finished ≡ false → Fits [] (taken_by b event n).next
  taken_fits true event n fits e = outer_fits event n fits e
  taken_fits false event n fits e = stepped_fits event [] n (λ run is. (fits run is, λ kept. refl)) e

  all_fit : (events : List Event) (n : Nested) → Fits [] n → (all_taken events n).next.finished ≡ false → Fits [] (all_taken events n).next
  all_fit [] n fits e = fits
  all_fit (event ∷ events) n fits e =
      let next : Nested = (taken event n).next in
      unless_fits next.finished next (λ m. all_taken events m) refl e (λ goes done. all_fit events next (taken_fits (is_outer event) event n fits goes) done)

  begun_fits : (config : Config) (opening : Book) → Fits [] (begun config opening (start cookie previous words))
  begun_fits config opening = λ run is.
      subst (λ (r : Run Keeper). Stands None [] r) (some_is (start cookie previous words) run is) (record { lives = record { came = []; run_is = refl; due_is = refl }; one = tt })

  -- ---- what it says of an end

  said_by : (run : Run Keeper) (due success : Bool) → Lives run due → (told run success).line ≡ (if due && is_listening run.keeper.talk.place then spelled (Xsmp (SaveYourselfDone success)) else [])
  said_by run due success lives =
      let life : Life = life_of cookie previous words lives.came in
      sym (ap (λ (r : Run Keeper). (told r success).line) lives.run_is) ∙ said_where_due cookie previous words lives.came success
      ∙ ap (λ (r : Run Keeper). if life.due && is_listening r.keeper.talk.place then spelled (Xsmp (SaveYourselfDone success)) else []) lives.run_is
      ∙ ap (λ (d : Bool). if d && is_listening run.keeper.talk.place then spelled (Xsmp (SaveYourselfDone success)) else []) lives.due_is

pub awaited_is_due : AwaitedIsDue
awaited_is_due config opening cookie previous words first events run e is = (all_fit cookie previous words events (begun config opening (start cookie previous words)) (begun_fits cookie previous words config opening) e run is).lives

pub awaited_ends_are_said : AwaitedEndsAreSaid
awaited_ends_are_said config opening cookie previous words first events run success e is =
    said_by cookie previous words run (is_awaited (nested_by config opening cookie previous words first events).awaited) success (awaited_is_due config opening cookie previous words first events run e is)
