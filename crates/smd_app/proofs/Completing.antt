-- Completeness: each ending that says more than 0, 9 or 10 has a cause that isn't there.
use Rattle.std.proofs.Common.{◌≤◌, ◌≡◌, ◌⊎◌, inl, inr, ℕ, ◌+◌, ◌<◌, true, false, List, [], ◌∷◌, ◌++◌, drop, length, get_or, map, Option, Some, None, Result, Ok, Err, refl, sym, ◌∙◌, ap, subst, arith, codes, append-nil, is_ok, is_some, IfSome}
use Rattle.std.proofs.lemmas.Bool.{false≢true}
use Rattle.std.specs.Fmt.{decimal}
use Rattle.std.proofs.lemmas.Fmt.{decimal_injective}
use Rattle.std.proofs.lemmas.Grind.{flat_map-append}
use Rattle.sm_world.specs.Effects.{event_of, heard}
use Rattle.sm_world.specs.Outside.{Outside, Rose}
use Rattle.sm_world.specs.declared.effects.Effect.{Effect}
use Rattle.sm_world.specs.declared.effects.Effect.TheVariants.{Printed}
use Rattle.sm_world.specs.declared.events.Event.{Event}
use Rattle.checkpoint_records.specs.declared.records.Book.{Book}
use Rattle.checkpoint_slots.specs.Turns.{next_generation}
use Rattle.checkpoint_slots.specs.Recovery.{Recovers}
use Rattle.checkpoint_slots.proofs.Once.{recovers-once}
use Rattle.program_frame.specs.Printing.{ArePrinted, Tries}
use Rattle.program_frame.specs.Programs.{status_by, line_by}
use Rattle.session_engine.specs.Acts.{commits_in, has_finish}
use Rattle.session_engine.specs.Carries.{is_whole, script}
use Rattle.session_engine.specs.Saved.{WearsOut}
use Rattle.session_engine.specs.Store.{store_of}
use Rattle.session_engine.specs.declared.acts.Act.{Act}
use Rattle.session_engine.specs.declared.acts.Act.TheVariants.{Commit}
use Rattle.session_engine.specs.declared.fault.ServeFault.{ServeFault}
use Rattle.session_engine.specs.declared.fault.ServeFault.TheVariants.{Damaged as IsDamaged, WrongSize as HasWrongSize, TooManySessions as HasTooMany, DiskFault, LinkFault, ConsoleFault, Worn as IsWorn, Spent as HasSpent, NoMemory as WantsMemory}
use Rattle.smd_app.specs.Completeness.{NoneRose, CanServe, EndsWith, HasDoneAll, RehearsesWell, ExercisesWell, ServesWell, Completes, CallsComplete, WordsMeanOne}
use Rattle.smd_app.specs.Exercises.{exercise_events}
use Rattle.smd_app.specs.FaultLines.{fault_line, fault_status, served}
use Rattle.smd_app.specs.Rehearsals.{script_of, Finishes, Outlasts, whole_trace, first_trace}
use Rattle.smd_app.specs.Script.{ScriptSays}
use Rattle.smd_app.specs.Sessions.{config_of, handing_out, announcing, Opened, IsSession, HasServed, WasCutShort, IsOfDisk, IsOfEdge}
use Rattle.smd_app.specs.Statuses.{Ending, HasRehearsed, HasExercised, RunsTask}
use Rattle.word_pairs.specs.Words.{HasPath, option_in, options_of}
use Rattle.smd_app.specs.Words.{Places, Task, Rehearse, Exercise, Serve, IsPatienceOf, IsSessionOf, AreServe, AreRehearse, AreExercise}
use Rattle.smd_app.specs.declared.fault.Fault.{Fault}
use Rattle.smd_app.specs.declared.fault.Fault.TheVariants.{BadWords, Damaged, WrongSize, TooManySessions, Disk, Links, Console, BadLine, Worn, Spent, NoMemory}
use Rattle.smd_app.specs.declared.identity.Identity.{Identity}
use Rattle.smd_app.proofs.Excluding.{fits_once}
use Rattle.checkpoint_records.specs.Books.{choose}
use Rattle.checkpoint_records.specs.Rules.{KeepsRules}
use Rattle.session_engine.specs.Standing.{as_stored}
use Rattle.session_engine.proofs.Standing.{stands_chosen}

-- What words mean

some_is : (x y : List ℕ) → ◌≡◌ {A = Option (List ℕ)} (Some x) (Some y) → x ≡ y
some_is x y same = cc

pub same_path : (pairs : List (List ℕ × List ℕ)) (name one two : List ℕ) → HasPath pairs name one → HasPath pairs name two → one ≡ two
same_path pairs name one two first second = some_is one two (sym first.found ∙ second.found)

pub same_patience : (named : Option (List ℕ)) (one two : ℕ) → IsPatienceOf named one → IsPatienceOf named two → one ≡ two
same_patience None one two first second = first ∙ sym second
same_patience (Some word) one two first second = decimal_injective one two first.0.small second.0.small (sym first.1 ∙ second.1)

pub same_session : (named : Option (List ℕ)) (one two : List ℕ) → IsSessionOf named one → IsSessionOf named two → one ≡ two
same_session None one two first second = first ∙ sym second
same_session (Some word) one two first second = sym first.1 ∙ second.1

abbrev made : List ℕ → List ℕ → List ℕ → List ℕ → ℕ → List ℕ → Places
made socket control store authority patience session = record { socket = socket; control = control; store = store; authority = authority; patience = patience; session = session }

same_made : (a b c d e r s t u v : List ℕ) (p q : ℕ) → a ≡ r → b ≡ s → c ≡ t → d ≡ u → p ≡ q → e ≡ v → made a b c d p e ≡ made r s t u q v
same_made a b c d e r s t u v p q first second third fourth fifth sixth = rw (first, second, third, fourth, fifth, sixth) refl

same_places : (words : List (List ℕ)) (one two : Places) → AreServe words one → AreServe words two → one ≡ two
same_places words one two first second =
    let pairs : List (List ℕ × List ℕ) = options_of words in
    let socket : one.socket ≡ two.socket = same_path pairs (codes "--socket") _ _ first.paths.socket second.paths.socket in
    let control : one.control ≡ two.control = same_path pairs (codes "--control") _ _ first.paths.control second.paths.control in
    let store : one.store ≡ two.store = same_path pairs (codes "--store") _ _ first.paths.store second.paths.store in
    let authority : one.authority ≡ two.authority = same_path pairs (codes "--authority") _ _ first.paths.authority second.paths.authority in
    let patience : one.patience ≡ two.patience = same_patience (option_in words (codes "--patience")) _ _ first.patience second.patience in
    let session : one.session ≡ two.session = same_session (option_in words (codes "--session")) _ _ first.session second.session in
    same_made one.socket one.control one.store one.authority one.session two.socket two.control two.store two.authority two.session one.patience two.patience socket control store authority patience session

-- there are more words than an exercise has
serve_length : (words : List (List ℕ)) (places : Places) → AreServe words places → 4 ≤ length words
serve_length words places are = omega (arith, are.count)

exercise_length : (words : List (List ℕ)) (pattern rounds : ℕ) → AreExercise words pattern rounds → length words ≡ 3
exercise_length words pattern rounds are = ap length are.are

rehearse_length : (words : List (List ℕ)) (patience : ℕ) → AreRehearse words patience → length words ≤ 2
rehearse_length words patience (inl one) = omega (arith, ap length one.0)
rehearse_length words patience (inr two) = omega (arith, ap length two.0)

same_rehearsal : (words : List (List ℕ)) (n k : ℕ) → AreRehearse words n → AreRehearse words k → n ≡ k
same_rehearsal words n k (inl first) (inl second) = first.1 ∙ sym second.1
same_rehearsal words n k (inl first) (inr second) = absurd (omega (arith, ap length first.0, ap length second.0))
same_rehearsal words n k (inr first) (inl second) = absurd (omega (arith, ap length first.0, ap length second.0))
same_rehearsal words n k (inr first) (inr second) = decimal_injective n k first.1.small second.1.small (ap (λ ws. get_or ws 1 []) (sym first.0 ∙ second.0))

same_exercise : (words : List (List ℕ)) (pattern rounds a b : ℕ) → AreExercise words pattern rounds → AreExercise words a b → Exercise pattern rounds ≡ Exercise a b
same_exercise words pattern rounds a b one two =
    let both = sym one.are ∙ two.are in
    let first : pattern ≡ a = decimal_injective pattern a one.small two.small (ap (λ ws. get_or ws 1 []) both) in
    let second : rounds ≡ b = decimal_injective rounds b (omega (arith, one.few)) (omega (arith, two.few)) (ap (λ ws. get_or ws 2 []) both) in
    ap (λ n. Exercise n rounds) first ∙ ap (λ n. Exercise a n) second

pub mean_one : WordsMeanOne
mean_one words (Rehearse n) (Rehearse k) one two = ap Rehearse (same_rehearsal words n k one two)
mean_one words (Rehearse n) (Exercise a b) one two = absurd (omega (arith, rehearse_length words n one, exercise_length words a b two))
mean_one words (Rehearse n) (Serve places) one two = absurd (omega (arith, rehearse_length words n one, serve_length words places two))
mean_one words (Exercise a b) (Rehearse n) one two = absurd (omega (arith, rehearse_length words n two, exercise_length words a b one))
mean_one words (Exercise a b) (Exercise n k) one two = same_exercise words a b n k one two
mean_one words (Exercise a b) (Serve places) one two = absurd (omega (arith, exercise_length words a b one, serve_length words places two))
mean_one words (Serve places) (Rehearse n) one two = absurd (omega (arith, rehearse_length words n two, serve_length words places one))
mean_one words (Serve places) (Exercise a b) one two = absurd (omega (arith, exercise_length words a b two, serve_length words places one))
mean_one words (Serve places) (Serve others) one two = ap Serve (same_places words places others one two)

-- What stands behind a run

-- the status of its ending, and the ending's line
record Closing (ending : Ending) (first effects : List Effect) (status : ℕ) : Type 0 where
  last : List Effect
  number : status ≡ status_by fault_status ending
  parts : effects ≡ first ++ last
  tried : Tries (line_by fault_line ending) last

ends_with : (own first effects : List Effect) (ending : Ending) (status : ℕ) → first ≡ own → Closing ending first effects status → EndsWith own ending effects
ends_with own first effects ending status same closing = record {
  last = closing.last;
  parts = closing.parts ∙ ap (λ front. front ++ closing.last) same;
  tried = closing.tried;
}

-- A run in memory

rehearsed : (patience : ℕ) (bytes : List ℕ) (events : List Event) (before after turns status : ℕ) (texts : List (List ℕ)) (first effects : List Effect) (ending : Ending) → ScriptSays bytes events → (Rose before after → ⊥) → ArePrinted texts first → HasRehearsed before after patience bytes turns texts ending → Closing ending first effects status → RehearsesWell patience bytes events turns status effects
rehearsed patience bytes events before after turns status texts first effects (Ok x) says calm printed has closing =
    let same = (fits_once patience bytes turns).one_script has.0 events has.1.says says in
    let shown : first ≡ Printed (whole_trace patience events) ∷ [] = printed ∙ ap (map Printed) (has.2 ∙ ap (λ es. whole_trace patience es ∷ []) same) in
    inl (closing.number, (subst (Finishes patience bytes turns) same has.1, ends_with _ first effects (Ok tt) status shown closing))
rehearsed patience bytes events before after turns status texts first effects (Err Spent) says calm printed has closing =
    let same = (fits_once patience bytes turns).one_script has.0 events has.1.says says in
    let shown : first ≡ Printed (first_trace patience turns events) ∷ [] = printed ∙ ap (map Printed) (has.2 ∙ ap (λ es. first_trace patience turns es ∷ []) same) in
    inr (inl (closing.number, (subst (Outlasts patience bytes turns) same has.1, ends_with _ first effects (Err Spent) status shown closing)))
rehearsed patience bytes events before after turns status texts first effects (Err NoMemory) says calm printed has closing = inr (inr closing.number)
rehearsed patience bytes events before after turns status texts first effects (Err Console) says calm printed has closing = absurd (calm has.0)
rehearsed patience bytes events before after turns status texts first effects (Err (BadLine n)) says calm printed has closing = absurd ((fits_once patience bytes turns).said_or_bad events n says has.0)
rehearsed patience bytes events before after turns status texts first effects (Err BadWords) says calm printed has closing = absurd has
rehearsed patience bytes events before after turns status texts first effects (Err (Damaged at)) says calm printed has closing = absurd has
rehearsed patience bytes events before after turns status texts first effects (Err (WrongSize size)) says calm printed has closing = absurd has
rehearsed patience bytes events before after turns status texts first effects (Err TooManySessions) says calm printed has closing = absurd has
rehearsed patience bytes events before after turns status texts first effects (Err Disk) says calm printed has closing = absurd has
rehearsed patience bytes events before after turns status texts first effects (Err Links) says calm printed has closing = absurd has
rehearsed patience bytes events before after turns status texts first effects (Err Worn) says calm printed has closing = absurd has

exercised : (events : List Event) (before after turns status : ℕ) (texts : List (List ℕ)) (first effects : List Effect) (ending : Ending) → (Rose before after → ⊥) → ArePrinted texts first → HasExercised before after events turns texts ending → Closing ending first effects status → ExercisesWell events turns status effects
exercised events before after turns status texts first effects (Ok x) calm printed has closing =
    let shown : first ≡ Printed has.1.0 ∷ [] = printed ∙ ap (map Printed) has.1.2 in
    inl (closing.number, (has.0, (has.1.0, has.1.1, ends_with _ first effects (Ok tt) status shown closing)))
exercised events before after turns status texts first effects (Err Spent) calm printed has closing =
    let shown : first ≡ [] = printed ∙ ap (map Printed) has.2 in
    inr (inl (closing.number, (has.0, has.1, ends_with _ first effects (Err Spent) status shown closing)))
exercised events before after turns status texts first effects (Err NoMemory) calm printed has closing = inr (inr closing.number)
exercised events before after turns status texts first effects (Err Console) calm printed has closing = absurd (calm has.0)
exercised events before after turns status texts first effects (Err (BadLine n)) calm printed has closing = absurd has
exercised events before after turns status texts first effects (Err BadWords) calm printed has closing = absurd has
exercised events before after turns status texts first effects (Err (Damaged at)) calm printed has closing = absurd has
exercised events before after turns status texts first effects (Err (WrongSize size)) calm printed has closing = absurd has
exercised events before after turns status texts first effects (Err TooManySessions) calm printed has closing = absurd has
exercised events before after turns status texts first effects (Err Disk) calm printed has closing = absurd has
exercised events before after turns status texts first effects (Err Links) calm printed has closing = absurd has
exercised events before after turns status texts first effects (Err Worn) calm printed has closing = absurd has

-- A session

abbrev book_or : Book → Result Book ℕ → Book
book_or other (Ok book) = book
book_or other (Err at) = other

one_book : (file : List ℕ) (one two : Book) → Recovers file (Ok one) → Recovers file (Ok two) → one ≡ two
one_book file one two first second = ap (book_or one) (recovers-once file (Ok one) (Ok two) first second)

not_damaged : (file : List ℕ) (book : Book) (at : ℕ) → Recovers file (Ok book) → Recovers file (Err at) → ⊥
not_damaged file book at whole damaged = false≢true (ap is_ok (recovers-once file (Err at) (Ok book) damaged whole))

-- printing hears nothing
deaf : (texts : List (List ℕ)) → heard (map Printed texts) ≡ []
deaf [] = refl
deaf (text ∷ texts) = deaf texts

-- what the whole call heard is what the session heard
all_heard : (identity : Identity) (places : Places) (own effects : List Effect) (ending : Ending) → EndsWith (handing_out identity places ++ (announcing identity places ++ own)) ending effects → heard effects ≡ heard own
all_heard identity places own effects ending all =
    ap heard all.parts
    ∙ (flat_map-append event_of (handing_out identity places ++ (announcing identity places ++ own)) all.last
    ∙ (ap (λ (events : List Event). heard own ++ events) (ap heard all.tried.printed ∙ deaf all.tried.texts)
    ∙ append-nil (heard own)))

-- a commit more than those in front of it
one_more : (front rest : List Act) (book : Book) → commits_in front < commits_in (front ++ Commit book ∷ rest)
one_more [] rest book = omega arith
one_more (act ∷ front) rest book = omega (arith, one_more front rest book)

module _ (identity : Identity) (places : Places) (old new : Outside) (turns status : ℕ) (file : List ℕ) (book : Book) (own effects : List Effect) (can : CanServe (config_of identity places) old file book (heard effects)) where
  abbrev begun : List Effect
  begun = handing_out identity places ++ (announcing identity places ++ own)

  -- a book of this session that stands in the store is the one that is served
  the_same : (found : Book) → KeepsRules found → found.name ≡ places.session → Recovers file (Ok (as_stored found)) → found ≡ book
  the_same found rules called recovers =
      sym (stands_chosen places.session found rules called) ∙ (ap (choose places.session) (one_book file (as_stored found) can.stored recovers can.recovers) ∙ can.chosen)

  same_book : (answer : Result (Unit {0}) ServeFault) → (opened : Opened (config_of identity places) turns old new answer own) → opened.book ≡ book
  same_book answer opened = the_same opened.book opened.rules opened.called (opened.recovered file can.settled).1.recovers

  done_all : (answer : Result (Unit {0}) ServeFault) (ending : Ending) → (opened : Opened (config_of identity places) turns old new answer own) → is_whole answer ≡ true → has_finish (script (config_of identity places) opened.book (heard own)) ≡ is_ok ending → EndsWith begun ending effects → HasDoneAll identity places old.coming book turns ending effects
  done_all answer ending opened whole finish all =
      subst (λ (b : Book). HasDoneAll identity places old.coming b turns ending effects) (same_book answer opened) (record {
        own = own;
        all = all;
        brought = opened.serves.brought;
        in_turns = opened.serves.in_turns;
        done = opened.serves.runs.carries.all_done whole;
        finish = finish;
      })

  not_worn : (answer : Result (Unit {0}) ServeFault) (ending : Ending) → (opened : Opened (config_of identity places) turns old new answer own) → EndsWith begun ending effects → WearsOut (store_of opened.current opened.book) (script (config_of identity places) opened.book (heard own)) own → ⊥
  not_worn answer ending opened all worn =
      let left = can.generations opened.current (opened.recovered file can.settled).1.chooses in
      let same : commits_in (script (config_of identity places) book (heard effects)) ≡ commits_in (script (config_of identity places) opened.book (heard own)) = ap (λ (b : Book). commits_in (script (config_of identity places) b (heard effects))) (sym (same_book answer opened)) ∙ ap (λ (events : List Event). commits_in (script (config_of identity places) opened.book events)) (all_heard identity places own effects ending all) in
      let more = subst (λ (acts : List Act). commits_in worn.front < commits_in acts) worn.parts (one_more worn.front worn.rest worn.book) in
      let most : next_generation worn.now.journal ≤ next_generation opened.current + commits_in worn.front = worn.raised.at_most in
      omega (arith, left, same, more, most, worn.last)

  session_ends : (answer : Result (Unit {0}) ServeFault) → NoneRose old.faults new.faults → IsSession (config_of identity places) turns old new answer own → Closing (served answer) begun effects status → ServesWell identity places old.coming book turns status effects
  session_ends (Ok x) calm session closing =
      inl (closing.number, done_all (Ok x) (Ok tt) session.serves refl (session.serves.serves.runs.carries.ended refl) (ends_with begun begun effects (Ok tt) status refl closing))
  session_ends (Err HasSpent) calm session closing = elim session.serves [
    | inl unopened ↦ absurd unopened.cause
    | inr opened ↦
        let all = ends_with begun begun effects (Err Spent) status refl closing in
        inr (inl (closing.number, (done_all (Err HasSpent) (Err Spent) opened refl (opened.serves.spent refl).1 all, ap length (all_heard identity places own effects (Err Spent) all) ∙ (opened.serves.spent refl).0)))
  ]
  session_ends (Err WantsMemory) calm session closing = inr (inr closing.number)
  session_ends (Err DiskFault) calm session closing = absurd (calm.disk session.cause)
  session_ends (Err LinkFault) calm session closing = absurd (calm.links session.cause)
  session_ends (Err ConsoleFault) calm session closing = absurd (calm.console session.cause)
  session_ends (Err (IsDamaged at)) calm session closing = elim session.serves [
    | inl unopened ↦ absurd (not_damaged file can.stored at can.recovers (unopened.cause.1 file can.settled))
    | inr opened ↦ absurd opened.serves.runs.opened
  ]
  session_ends (Err (HasWrongSize size)) calm session closing = elim session.serves [
    | inl unopened ↦ absurd (unopened.cause.1 (unopened.cause.0 ∙ (unopened.kept can.settled.began can.settled.first ∙ can.size)))
    | inr opened ↦ absurd opened.serves.runs.opened
  ]
  session_ends (Err HasTooMany) calm session closing = elim session.serves [
    | inl unopened ↦
        let same = the_same unopened.cause.1.0 unopened.cause.1.2.rules unopened.cause.1.2.called (unopened.cause.1.2.recovered file can.settled).1.recovers in
        absurd (omega (arith, can.few, ap (λ (b : Book). length b.others) same, unopened.cause.1.3))
    | inr opened ↦ absurd opened.serves.runs.opened
  ]
  session_ends (Err IsWorn) calm session closing = elim session.serves [
    | inl unopened ↦
        let same = the_same unopened.cause.1.0 unopened.cause.1.2.rules unopened.cause.1.2.called (unopened.cause.1.2.recovered file can.settled).1.recovers in
        absurd (omega (arith, can.epoch, ap (λ (b : Book). b.epoch) same, unopened.cause.1.4))
    | inr opened ↦ absurd (not_worn (Err IsWorn) (Err Worn) opened (ends_with begun begun effects (Err Worn) status refl closing) (opened.serves.runs.worn refl))
  ]

lacks_memory : (old new : Outside) (fault : Fault) → NoneRose old.faults new.faults → IsOfDisk old new fault ⊎ IsOfEdge old new fault → fault ≡ NoMemory
lacks_memory old new fault calm (inl (inl disk)) = absurd (calm.disk disk.1)
lacks_memory old new fault calm (inl (inr memory)) = memory
lacks_memory old new fault calm (inr (inl links)) = absurd (calm.links links.1)
lacks_memory old new fault calm (inr (inr (inl console))) = absurd (calm.console console.1)
lacks_memory old new fault calm (inr (inr (inr memory))) = memory

cut_short : (identity : Identity) (places : Places) (old new : Outside) (status : ℕ) (first effects : List Effect) (ending : Ending) → NoneRose old.faults new.faults → WasCutShort identity places old new ending first → Closing ending first effects status → status ≡ 10
cut_short identity places old new status first effects (Ok x) calm cut closing = absurd cut
cut_short identity places old new status first effects (Err fault) calm cut closing =
    let cause : IsOfDisk old new fault ⊎ IsOfEdge old new fault = elim cut [
      | inl disk ↦ inl disk.0
      | inr edge ↦ inr edge.0
    ] in
    closing.number ∙ ap fault_status (lacks_memory old new fault calm cause)

has_served : (identity : Identity) (places : Places) (old new : Outside) (turns status : ℕ) (file : List ℕ) (book : Book) (first effects : List Effect) (ending : Ending) → CanServe (config_of identity places) old file book (heard effects) → NoneRose old.faults new.faults → HasServed identity places turns old new ending first → Closing ending first effects status → ServesWell identity places old.coming book turns status effects
has_served identity places old new turns status file book first effects ending can calm has closing =
    session_ends identity places old new turns status file book has.own effects can has.answer calm has.session (record {
      last = closing.last;
      number = closing.number ∙ ap (status_by fault_status) has.ends;
      parts = closing.parts ∙ ap (λ front. front ++ closing.last) has.parts;
      tried = subst (λ (e : Ending). Tries (line_by fault_line e) closing.last) has.ends closing.tried;
    })

-- Each task

some_input : (input bytes : List ℕ) (told : Option (List ℕ)) → told ≡ Some bytes → IfSome told (λ b. b ≡ input) → input ≡ bytes
some_input input bytes None e is = absurd (false≢true (ap is_some e))
some_input input bytes (Some other) e is = sym is ∙ some_is other bytes e

completes : (task : Task) (identity : Identity) (old new : Outside) (turns status : ℕ) (first effects : List Effect) (ending : Ending) → NoneRose old.faults new.faults → RunsTask task identity turns old new ending first → Closing ending first effects status → Completes task identity old turns status effects
completes (Rehearse patience) identity old new turns status first effects ending calm runs closing = λ input events told says.
    let same = some_input runs.input input old.input told runs.is_input in
    rehearsed patience (script_of input) events old.faults.console new.faults.console turns status runs.texts first effects ending says calm.console runs.printed (subst (λ (bytes : List ℕ). HasRehearsed old.faults.console new.faults.console patience (script_of bytes) turns runs.texts ending) same runs.holds) closing
completes (Exercise pattern rounds) identity old new turns status first effects ending calm runs closing =
    exercised (exercise_events pattern rounds) old.faults.console new.faults.console turns status runs.texts first effects ending calm.console runs.printed runs.holds closing
completes (Serve places) identity old new turns status first effects ending calm runs closing = λ file book can. elim runs [
  | inl cut ↦ inr (inr (cut_short identity places old new status first effects ending calm cut closing))
  | inr has ↦ has_served identity places old new turns status file book first effects ending can calm has closing
]

lacking : (task : Task) (identity : Identity) (old : Outside) (turns status : ℕ) (effects : List Effect) → status ≡ 10 → Completes task identity old turns status effects
lacking (Rehearse patience) identity old turns status effects ten = λ input events told says. inr (inr ten)
lacking (Exercise pattern rounds) identity old turns status effects ten = inr (inr ten)
lacking (Serve places) identity old turns status effects ten = λ file book can. inr (inr ten)

pub complete : CallsComplete
complete words task identity old new turns status effects means calm answers = elim answers.ran [
  | inl does ↦
      let same = mean_one words does.task task does.means means in
      completes task identity old new turns status answers.first effects answers.ending calm
      (subst (λ (t : Task). RunsTask t identity turns old new answers.ending answers.first) same does.ran)
      (record { last = answers.last; number = answers.number; parts = answers.parts; tried = answers.tried })
  | inr nothing ↦ elim nothing.cause [
    | inl none ↦ absurd (none.0 task means)
    | inr memory ↦ lacking task identity old turns status effects (answers.number ∙ ap (status_by fault_status) memory)
  ]
]
