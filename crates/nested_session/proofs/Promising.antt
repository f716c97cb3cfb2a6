-- The headline of a nested session: what is said of the inner session alone, said of both.
use Rattle.std.proofs.Common.{◌≡◌, ◌≢◌, inl, inr, refl, sym, ap, subst, ◌∙◌, ℕ, zero, suc, true, false, List, [], ◌∷◌, ◌++◌, length, take, drop, Option, Result, Ok, Err, IfErr, IsTrue}
use Rattle.std.proofs.lemmas.Bool.{false≢true}
use Rattle.std.proofs.lemmas.List.{take_at}
use Rattle.std.specs.List.{AllByRecursion}
use Rattle.sm_world.specs.Crash.{Cell, Image}
use Rattle.sm_world.specs.Effects.{deeds, heard}
use Rattle.sm_world.specs.Outside.{Added, Outside}
use Rattle.sm_world.specs.declared.effects.Effect.{Effect}
use Rattle.sm_world.specs.declared.effects.Effect.TheVariants.{Heard, Sent}
use Rattle.sm_world.specs.declared.events.Event.{Event}
use Rattle.sm_world.proofs.Adding.{adds-none}
use Rattle.heard_events.specs.Brought.{IsPrefix}
use Rattle.checkpoint_records.specs.Books.{choose}
use Rattle.checkpoint_records.specs.Rules.{IsName, KeepsRules}
use Rattle.checkpoint_records.specs.declared.records.Book.{Book}
use Rattle.checkpoint_records.proofs.ChoiceLaws.{choices_keep_rules}
use Rattle.checkpoint_slots.specs.Causes.{IsSettled}
use Rattle.checkpoint_slots.specs.Recovery.{Recovers}
use Rattle.checkpoint_slots.specs.Turns.{SteadyStands}
use Rattle.checkpoint_slots.specs.declared.turn.Current.{Current}
use Rattle.checkpoint_slots.proofs.Leading.{book-chosen, book-rules}
use Rattle.checkpoint_slots.proofs.Once.{only-file, recovers-once, settled-stands}
use Rattle.client_engine.specs.Driving.{Run}
use Rattle.outer_agent.specs.Script.{Keeper}
use Rattle.session_engine.specs.Acts.{deeds_in}
use Rattle.session_engine.specs.Carries.{IsCutShort, IsReady, IsUnopened, KeepsItsWord, Opens, Rests, is_whole, script}
use Rattle.session_engine.specs.Saved.{IsSaved}
use Rattle.session_engine.specs.Settled.{Settle}
use Rattle.session_engine.specs.Standing.{as_stored}
use Rattle.session_engine.specs.Stops.{Stops, StopsAt}
use Rattle.session_engine.specs.declared.config.Config.{Config}
use Rattle.session_engine.specs.declared.fault.ServeFault.{ServeFault}
use Rattle.session_engine.specs.declared.fault.ServeFault.TheVariants.{ConsoleFault, Damaged, DiskFault, LinkFault, NoMemory, Spent, TooManySessions, Worn, WrongSize}
use Rattle.session_engine.proofs.Performing.{err_map}
use Rattle.session_engine.proofs.Settling.{is_ready, settle_none}
use Rattle.session_engine.proofs.Standing.{chosen_stands, stands_chosen}
use Rattle.nested_session.specs.Nesting.{nested}
use Rattle.nested_session.specs.Nests.{IsApart, SuccessIsBacked, success}
use Rattle.nested_session.specs.Promise.{IsOnDisk, NestKeepsItsWord}
use Rattle.nested_session.specs.Serving.{Nesting, Weaves}
use Rattle.nested_session.specs.Woven.{Outer, Woven, all_inner, effects_of, shown}
use Rattle.nested_session.proofs.Images.{leave_the_same, same_cells}
use Rattle.nested_session.proofs.Weaving.{inner_append}

-- ---- points of what was woven

of_front : {A : Type 0} (P : A → Type 0) (xs ys : List A) → AllByRecursion P (xs ++ ys) → AllByRecursion P xs
of_front P [] ys all = tt
of_front P (x ∷ xs) ys all = (all.0, of_front P xs ys all.1)

apart_front : (front rest all : List (Woven Effect)) → front ++ rest ≡ all → AllByRecursion IsApart all → AllByRecursion IsApart front
apart_front front rest all parts apart = of_front IsApart front rest (subst (λ (xs : List (Woven Effect)). AllByRecursion IsApart xs) (sym parts) apart)

-- what the inner session did by then is a first part of all that it did
inner_front : (front rest all : List (Woven Effect)) → front ++ rest ≡ all → take (length (all_inner front)) (all_inner all) ≡ all_inner front
inner_front front rest all parts =
    ap (λ (xs : List Effect). take (length (all_inner front)) xs) (ap (λ (xs : List (Woven Effect)). all_inner xs) (sym parts) ∙ inner_append front rest)
    ∙ take_at (all_inner front) (all_inner rest) (length (all_inner front)) refl

module _ (config : Config) (book : Book) (file : List ℕ) where
  saved_at : (answer : Result (Unit {0}) ServeFault) (all : List (Woven Effect)) → AllByRecursion IsApart all → KeepsItsWord config book file answer (all_inner all) → (front rest : List (Woven Effect)) → front ++ rest ≡ all
      → (left : List ℕ) → Image file (effects_of front) left → IsSaved book (script config book (heard (all_inner front))) (deeds (all_inner front)) left
  saved_at answer all apart word front rest parts left image =
      let same : take (length (all_inner front)) (all_inner all) ≡ all_inner front = inner_front front rest all parts in
      let alone : Image file (all_inner front) left = (leave_the_same file [] front (apart_front front rest all parts apart) left).0 image in
      subst (λ (es : List Effect). IsSaved book (script config book (heard es)) (deeds es) left) same
      (word.keeps.saved (length (all_inner front)) left (subst (λ (es : List Effect). Image file es left) (sym same) alone))

  words_of : (agent : Run Keeper) (first : List ℕ) (answer : Result (Unit {0}) ServeFault) (all : List (Woven Effect)) → AllByRecursion IsApart all → IsPrefix (shown all) (nested config book agent first (heard (effects_of all))).line
      → KeepsItsWord config book file answer (all_inner all) → ((front rest : List (Woven Effect)) → front ++ Outer (Sent 0 success) ∷ rest ≡ all → IsOnDisk config book file front) → NestKeepsItsWord config book file agent first answer (effects_of all)
  words_of agent first answer all apart on_script word told = record {
    all = all;
    are = refl;
    apart = apart;
    on_script = on_script;
    inner = word;
    saved = saved_at answer all apart word;
    is_current = λ e left image. word.is_current e left ((leave_the_same file [] all apart left).0 image);
    told = told;
  }

  told_by : (current : Option Current) (all : List (Woven Effect)) → SteadyStands current (as_stored book) file [] → SuccessIsBacked config book current all → (front rest : List (Woven Effect)) → front ++ Outer (Sent 0 success) ∷ rest ≡ all → IsOnDisk config book file front
  told_by current all stands backed front rest parts =
      let is = backed front rest parts in
      record {
        save = is.save;
        moves = is.moves;
        since = is.since;
        saved = is.saved;
        files = λ left image. is.files file [] stands left image;
      }

  -- ---- a run that was opened

  -- what a run promises of where a fault stopped it, for the file that it began with
  stopped_by : (current : Option Current) (answer : Result (Unit {0}) ServeFault) (effects : List Effect) → SteadyStands current (as_stored book) file [] → IfErr answer (λ fault. Stops current book (script config book (heard effects)) fault (StopsAt fault) effects)
      → IfErr answer (λ fault. IsCutShort config book file fault effects)
  stopped_by current answer effects stands stopped = err_map (λ fault. Stops current book (script config book (heard effects)) fault (StopsAt fault) effects) (λ fault. IsCutShort config book file fault effects) answer (λ fault stops. record {
    front = stops.front;
    rest = stops.rest;
    parts = stops.parts;
    same = stops.same;
    at = inr stops.at;
    opens = stops.opens;
    leaves = λ left image. stops.leaves file [] stands left image;
  }) stopped

  -- ---- nothing was done

  take_none : (n : ℕ) → ◌≡◌ {A = List Effect} (take n []) []
  take_none zero = refl
  take_none (suc n) = refl

  drop_none : (n : ℕ) → ◌≡◌ {A = List Effect} (drop n []) []
  drop_none zero = refl
  drop_none (suc n) = refl

  none_behind : (n : ℕ) (event : Event) (more : List Effect) → ◌≡◌ {A = List Effect} (drop n []) (Heard event ∷ more) → ⊥
  none_behind n event more e = never (sym (drop_none n) ∙ e) where
    never : ◌≡◌ {A = List Effect} [] (Heard event ∷ more) → ⊥
    never is = cc

  never_woven : (front : List (Woven Effect)) (it : Woven Effect) (rest : List (Woven Effect)) → front ++ it ∷ rest ≡ [] → ⊥
  never_woven [] it rest e = cc
  never_woven (f ∷ front) it rest e = cc

  unopened_cuts : (session : List ℕ) (outside : Outside) (size : ℕ) (fault : ServeFault) → IsUnopened session outside size fault → is_whole (Err fault) ≡ true → ⊥
  unopened_cuts session outside size (Damaged at) cause e = false≢true e
  unopened_cuts session outside size (WrongSize n) cause e = false≢true e
  unopened_cuts session outside size TooManySessions cause e = false≢true e
  unopened_cuts session outside size DiskFault cause e = false≢true e
  unopened_cuts session outside size LinkFault cause e = false≢true e
  unopened_cuts session outside size ConsoleFault cause e = false≢true e
  unopened_cuts session outside size Worn cause e = false≢true e
  unopened_cuts session outside size Spent cause e = cause
  unopened_cuts session outside size NoMemory cause e = false≢true e

  -- where nothing was done the file is as it was
  word_unopened : (old new : Outside) (fault : ServeFault) → KeepsRules book → book.name ≡ config.session → Recovers file (Ok (as_stored book)) → Rests config.session old new fault → KeepsItsWord config book file (Err fault) []
  word_unopened old new fault rules called recovers rests = record {
    carries = record {
      on_script = record {
        no_other_deed = λ n. rw (take_none n) (deeds_in (script config book []), refl);
        no_deed_missing = λ n event more e. absurd (none_behind n event more e);
        heard_in_time = λ n event more e. absurd (none_behind n event more e);
        none_published = refl;
      };
      all_done = λ e. absurd (unopened_cuts config.session old new.size fault rests.cause e);
      ended = λ e. absurd (false≢true e);
    };
    keeps = record {
      saved = λ n left image. rw (take_none n) (record {
        front = [];
        rest = script config book [];
        parts = refl;
        same = refl;
        recovers = subst (λ (f : List ℕ). Recovers f (Ok (as_stored book))) (sym (only-file file left (rw (take_none n) at image))) recovers;
      });
      none_behind = λ n event more e. absurd (none_behind n event more e);
    };
    is_current = λ e. absurd (unopened_cuts config.session old new.size fault rests.cause e);
    stopped = record {
      front = [];
      rest = script config book [];
      parts = refl;
      same = refl;
      at = inl refl;
      opens = inr refl;
      leaves = λ left image. inl (subst (λ (f : List ℕ). Recovers f (Ok (as_stored book))) (sym (only-file file left image)) recovers);
    };
    rules = rules;
    called = called;
  }

ok_book : (one two : Book) → ◌≡◌ {A = Result Book ℕ} (Ok one) (Ok two) → one ≡ two
ok_book one two e = cc

-- ---- a call

module _ (config : Config) (turns : ℕ) (agent : Run Keeper) (first : List ℕ) (old new : Outside) where
  abbrev Words : List ℕ → Book → Result (Unit {0}) ServeFault → Type 0
  Words file book answer = Added old.told new.told (NestKeepsItsWord config book file agent first answer)

  words_unopened : (file : List ℕ) (book : Book) (fault : ServeFault) → KeepsRules book → book.name ≡ config.session → Recovers file (Ok (as_stored book)) → Rests config.session old new fault → Words file book (Err fault)
  words_unopened file book fault rules called recovers rests = record {
    effects = [];
    added = rests.told ∙ sym (adds-none old.told);
    holds = words_of config book file agent first (Err fault) [] tt ((nested config book agent first []).line, refl) (word_unopened config book file old new fault rules called recovers rests) (λ front rest e. absurd (never_woven config book file front (Outer (Sent 0 success)) rest e));
  }

  -- of the book that was opened
  words_with : (file : List ℕ) (answer : Result (Unit {0}) ServeFault) (opens : Opens config.session old new (Weaves config turns agent first old answer)) → SteadyStands opens.current (as_stored opens.book) file [] → NestKeepsItsWord config opens.book file agent first answer (effects_of opens.adds.holds.all)
  words_with file answer opens stands =
      let nests = opens.adds.holds.nests in
      words_of config opens.book file agent first answer opens.adds.holds.all nests.apart nests.on_script
      (record {
        carries = nests.inner.carries;
        keeps = nests.inner.keeps file [] stands;
        is_current = λ e left image. nests.inner.is_current e file [] stands left image;
        stopped = stopped_by config opens.book file opens.current answer (all_inner opens.adds.holds.all) stands nests.inner.stopped;
        rules = opens.rules;
        called = opens.called;
      })
      (told_by config opens.book file opens.current opens.adds.holds.all stands nests.backed)

  words_opened : (file : List ℕ) (book : Book) (answer : Result (Unit {0}) ServeFault) → IsSettled old file → Recovers file (Ok (as_stored book)) → choose config.session (as_stored book) ≡ book → Opens config.session old new (Weaves config turns agent first old answer) → Words file book answer
  words_opened file book answer settled recovers chosen opens =
      let found = opens.recovered file settled in
      let stored : as_stored opens.book ≡ as_stored book = ok_book (as_stored opens.book) (as_stored book) (recovers-once file (Ok (as_stored opens.book)) (Ok (as_stored book)) found.1.recovers recovers) in
      let same : opens.book ≡ book = sym (stands_chosen config.session opens.book opens.rules opens.called) ∙ (ap (choose config.session) stored ∙ chosen) in
      let stands : SteadyStands opens.current (as_stored opens.book) file [] = settled-stands opens.current (as_stored opens.book) file found.0 found.1 in
      subst (λ (b : Book). Words file b answer) same (record {
        effects = opens.adds.effects;
        added = opens.adds.added;
        holds = subst (λ (es : List Effect). NestKeepsItsWord config opens.book file agent first answer es) opens.adds.holds.are (words_with file answer opens stands);
      })

  words_by : (answer : Result (Unit {0}) ServeFault) → Nesting config turns agent first old new answer → (file : List ℕ) (book : Book) → IsSettled old file → KeepsRules book → book.name ≡ config.session → Recovers file (Ok (as_stored book)) → choose config.session (as_stored book) ≡ book → Words file book answer
  words_by (Ok x) opens file book settled rules called recovers chosen = words_opened file book (Ok x) settled recovers chosen opens
  words_by (Err fault) (inl rests) file book settled rules called recovers chosen = words_unopened file book fault rules called recovers rests
  words_by (Err fault) (inr opens) file book settled rules called recovers chosen = words_opened file book (Err fault) settled recovers chosen opens

  -- of the session that is chosen in what stands in the store
  pub nest_keeps_word : (answer : Result (Unit {0}) ServeFault) → IsName config.session → Nesting config turns agent first old new answer → (file : List ℕ) (stored : Book) → IsSettled old file → Recovers file (Ok stored) → Words file (choose config.session stored) answer
  nest_keeps_word answer may nests file stored settled recovers =
      let rules : KeepsRules stored = book-rules file stored recovers in
      let stands : as_stored (choose config.session stored) ≡ stored = chosen_stands config.session stored rules (book-chosen file stored recovers) in
      words_by answer nests file (choose config.session stored) settled
      (choices_keep_rules config.session stored may rules)
      refl
      (subst (λ (b : Book). Recovers file (Ok b)) (sym stands) recovers)
      (ap (choose config.session) stands)

  -- ---- the next run on the same world

  settle_woven : (all : List (Woven Effect)) → AllByRecursion IsApart all → Settle (all_inner all) → Settle (effects_of all)
  settle_woven all apart settle begin before none =
      let alone = settle begin before none in
      record {
        byte = alone.byte;
        reads = λ i within. ap (λ (c : Cell). c.reads) (same_cells begin before all i apart) ∙ alone.reads i within;
        left = λ i other within is. alone.left i other within (subst (λ (c : Cell). IsTrue (c.left other)) (same_cells begin before all i apart) is);
      }

  abbrev ReadyAgain : List ℕ → Type 0
  ReadyAgain file = Added old.told new.told (IsReady file new)

  ready_opened : (answer : Result (Unit {0}) ServeFault) (file : List ℕ) → new.first ≡ old.first → IsSettled old file → answer ≢ Err DiskFault → Opens config.session old new (Weaves config turns agent first old answer) → ReadyAgain file
  ready_opened answer file same settled able opens =
      let nests = opens.adds.holds.nests in
      let settle : Settle opens.adds.effects = subst (λ (es : List Effect). Settle es) opens.adds.holds.are (settle_woven opens.adds.holds.all nests.apart (nests.inner.settles able)) in
      record { effects = opens.adds.effects; added = opens.adds.added; holds = is_ready file old new opens.adds.effects settled same opens.adds.added settle }

  ready_unopened : (file : List ℕ) → new.first ≡ old.first → new.told ≡ old.told → IsSettled old file → ReadyAgain file
  ready_unopened file same quiet settled =
      let added = quiet ∙ sym (adds-none old.told) in
      record { effects = []; added = added; holds = is_ready file old new [] settled same added settle_none }

  pub ready_again : (answer : Result (Unit {0}) ServeFault) → Nesting config turns agent first old new answer → new.first ≡ old.first → (file : List ℕ) → IsSettled old file → answer ≢ Err DiskFault → ReadyAgain file
  ready_again (Ok x) opens same file settled able = ready_opened (Ok x) file same settled able opens
  ready_again (Err fault) (inl rests) same file settled able = ready_unopened file same rests.told settled
  ready_again (Err fault) (inr opens) same file settled able = ready_opened (Err fault) file same settled able opens
