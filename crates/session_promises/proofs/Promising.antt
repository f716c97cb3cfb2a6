-- A session keeps the laws, by what the top call promises of its headline.
use Rattle.std.proofs.Common.{◌≡◌, ◌⊎◌, ◌<◌, arith, inl, inr, ℕ, List, [], ◌∷◌, ◌++◌, Option, Some, Result, Ok, Err, refl, sym, ◌∙◌, ap, subst}
use Rattle.std.proofs.lemmas.List.{append-nil}
use Rattle.sm_world.specs.Outside.{Added, Outside, adds}
use Rattle.sm_world.specs.declared.effects.Effect.{Effect}
use Rattle.checkpoint_records.specs.declared.records.Book.{Book}
use Rattle.checkpoint_slots.specs.Causes.{IsSettled}
use Rattle.checkpoint_slots.specs.Recovery.{Recovers}
use Rattle.checkpoint_slots.proofs.Once.{recovers-once}
use Rattle.checkpoint_records.specs.Books.{choose}
use Rattle.checkpoint_records.specs.Rules.{IsName, KeepsRules}
use Rattle.session_engine.specs.declared.config.Config.{Config}
use Rattle.program_frame.specs.Printing.{Tries}
use Rattle.heard_events.specs.Brought.{IsPrefix}
use Rattle.session_engine.specs.Carries.{IsOnScript, KeepsItsWord}
use Rattle.session_engine.specs.Session.{Serving}
use Rattle.session_engine.specs.declared.fault.ServeFault.{ServeFault}
use Rattle.session_engine.specs.declared.fault.ServeFault.TheVariants.{NoMemory}
use Rattle.session_engine.proofs.Loop.{keeps_word}
use Rattle.session_engine.proofs.Standing.{stands_chosen}
use Rattle.session_engine.specs.Standing.{as_stored}
use Rattle.session_lines.specs.Files.{HasSaved}
use Rattle.session_lines.specs.Runs.{IsAlwaysLawful}
use Rattle.session_notes.specs.Laws.{IsOpenable}
use Rattle.session_lines.proofs.Crashes.{every-file, others-begin, same-book}
use Rattle.session_lines.proofs.Fronts.{laws-hold}
use Rattle.session_lines.proofs.Passing.{done-is}
use Rattle.smd_app.specs.Sessions.{HasServed, IsSession, Opened, OpensOr, RunsSession, WasCutShort, announcing, config_of, handing_out}
use Rattle.smd_app.specs.Statuses.{Ending, Runs, RunsTask}
use Rattle.smd_app.specs.Words.{Means, Places, Serve, Task}
use Rattle.smd_app.specs.declared.identity.Identity.{Identity}
use Rattle.smd_app.proofs.Completing.{mean_one}
use Rattle.smd_app.proofs.Wording.{session_fits}
use Rattle.session_promises.specs.Promises.{EverySessionIsLawful, EverySessionKeepsTheLaws, HasParts, IsLawfulOver, KeepsAllLaws}

-- the opened book is that of the one store for which the file stands
opened-in : (config : Config) (book was : Book) (file : List ℕ) → HasSaved config file book → Recovers file (Ok was) → choose config.session was ≡ book
opened-in config book was file saved recovers = ap (choose config.session) (same-book was saved.0 (Ok was) (Ok saved.0) (recovers-once file (Ok was) (Ok saved.0) recovers saved.1) refl refl) ∙ saved.2

word-laws : (config : Config) (book : Book) (file : List ℕ) (answer : Result (Unit {0}) ServeFault) (own : List Effect) → HasSaved config file book → KeepsItsWord config book file answer own → KeepsAllLaws config book file own
word-laws config book file answer own saved word = record {
  lawful = λ n.
      let done = done-is config book own word.carries.on_script n in
      record { done = done; laws = laws-hold config book done.front (record { events = _; later = done.later; parts = done.parts }) };
  safe = λ n left kept image recovers. every-file config book kept file left answer own word n image recovers;
  others = λ n left was is first image recovers other differ.
      others-begin config was is file left answer own (subst (λ (b : Book). KeepsItsWord config b file answer own) (sym (opened-in config book was file saved first)) word) n image recovers other differ;
}

abbrev tail-of : List Effect → List Effect
tail-of [] = []
tail-of (x ∷ xs) = xs

none-added : (told es : List Effect) → told ++ es ≡ told → es ≡ []
none-added [] es e = e
none-added (t ∷ told) es e = none-added told es (ap tail-of e)

same-told : (xs ys : List Effect) → Some xs ≡ Some ys → xs ≡ ys
same-told xs ys e = cc

-- the word of a run, for the book of its session
word_for : (config : Config) (turns : ℕ) (old new : Outside) (answer : Result (Unit {0}) ServeFault) → IsName config.session → Serving config turns old new answer → (file : List ℕ) (book : Book) → IsSettled old file → HasSaved config file book → Added old.told new.told (KeepsItsWord config book file answer)
word_for config turns old new answer may serving file book settled saved =
    subst (λ (b : Book). Added old.told new.told (KeepsItsWord config b file answer)) saved.2 (keeps_word config turns old new answer may serving file saved.0 settled saved.1)

-- where nothing was done
no-laws : (config : Config) (book : Book) (file : List ℕ) (old : Outside) → IsName config.session → IsSettled old file → HasSaved config file book → KeepsAllLaws config book file []
no-laws config book file old may settled recovers =
    let word = word_for config 0 old old (Err NoMemory) may (inl (record { told = refl; kept = λ first told. refl; cause = tt })) file book settled recovers in
    let none : word.effects ≡ [] = none-added settled.effects word.effects (same-told (settled.effects ++ word.effects) settled.effects (sym (ap (λ (told : Option (List Effect)). adds told word.effects) settled.told) ∙ (sym word.added ∙ settled.told))) in
    word-laws config book file (Err NoMemory) [] recovers (subst (KeepsItsWord config book file (Err NoMemory)) none word.holds)

-- a book that was opened has room for a new epoch
openable-of : (book : Book) → KeepsRules book → book.epoch < 4294967295 → IsOpenable book
openable-of book rules below = record { rules = rules; room = omega (arith, below) }

-- the book of an opening, where no byte was in doubt, is that of the file
same-opening : (config : Config) (turns : ℕ) (old new : Outside) (answer : Result (Unit {0}) ServeFault) (own : List Effect) (opened : Opened config turns old new answer own) (file : List ℕ) (book : Book) → IsSettled old file → HasSaved config file book → opened.book ≡ book
same-opening config turns old new answer own opened file book settled saved =
    let found = opened.recovered file settled in
    sym (stands_chosen config.session opened.book opened.rules opened.called) ∙ opened-in config book (as_stored opened.book) file saved found.1.recovers

opens-over : (config : Config) (turns : ℕ) (old new : Outside) (answer : Result (Unit {0}) ServeFault) (own : List Effect) → Opened config turns old new answer own → (file : List ℕ) (book : Book) → IsSettled old file → HasSaved config file book → IsOpenable book
opens-over config turns old new answer own opened file book settled saved = subst IsOpenable (same-opening config turns old new answer own opened file book settled saved) (openable-of opened.book opened.rules opened.below)

opens-of : (config : Config) (turns : ℕ) (old new : Outside) (answer : Result (Unit {0}) ServeFault) (own : List Effect) → OpensOr config turns old new answer own → (file : List ℕ) (book : Book) → IsSettled old file → HasSaved config file book → (own ≡ []) ⊎ IsOpenable book
opens-of config turns old new (Ok x) own opened file book settled saved = inr (opens-over config turns old new (Ok x) own opened file book settled saved)
opens-of config turns old new (Err fault) own (inl rests) file book settled saved = inl rests.none
opens-of config turns old new (Err fault) own (inr opened) file book settled saved = inr (opens-over config turns old new (Err fault) own opened file book settled saved)

always-lawful : (config : Config) (book : Book) (own : List Effect) → IsOnScript config book own → IsAlwaysLawful config book own
always-lawful config book own on n =
    let done = done-is config book own on n in
    record { done = done; laws = laws-hold config book done.front (record { events = _; later = done.later; parts = done.parts }) }

over-opened : (config : Config) (turns : ℕ) (old new : Outside) (answer : Result (Unit {0}) ServeFault) (own : List Effect) → Opened config turns old new answer own → (book : Book) × IsLawfulOver config own book
over-opened config turns old new answer own opened = (
  opened.book,
  record {
    called = opened.called;
    openable = openable-of opened.book opened.rules opened.below;
    lawful = always-lawful config opened.book own opened.serves.runs.carries.on_script;
  },
)

lawful-of : (config : Config) (turns : ℕ) (old new : Outside) (answer : Result (Unit {0}) ServeFault) (own : List Effect) → OpensOr config turns old new answer own → (own ≡ []) ⊎ ((book : Book) × IsLawfulOver config own book)
lawful-of config turns old new (Ok x) own opened = inr (over-opened config turns old new (Ok x) own opened)
lawful-of config turns old new (Err fault) own (inl rests) = inl rests.none
lawful-of config turns old new (Err fault) own (inr opened) = inr (over-opened config turns old new (Err fault) own opened)

-- What the top call promises of a session, cut into its parts. What they have is one thing for a world that tells nothing, and another for one that does.
module _ (identity : Identity) (places : Places) (turns : ℕ) (old new : Outside) (Laws : List Effect → Type 0) (idle : Laws []) (ends : (answer : Result (Unit {0}) ServeFault) (own : List Effect) → IsSession (config_of identity places) turns old new answer own → Laws own) where
  abbrev Parted : List Effect → Type 0
  Parted effects = (own : List Effect) × HasParts identity places own effects × Laws own

  -- nothing of the session was done
  unserved : (effects before last : List Effect) (text : Option (List ℕ)) → effects ≡ before ++ last → IsPrefix before (handing_out identity places ++ announcing identity places) → Tries text last → Parted effects
  unserved effects before last text parts begins tried = (
    [],
    record {
      before = before;
      last = last;
      parts = parts;
      begins = begins;
      ends = (text, tried);
    },
    idle,
  )

  cut : (ending : Ending) (effects first last : List Effect) (text : Option (List ℕ)) → effects ≡ first ++ last → Tries text last → WasCutShort identity places old new ending first → Parted effects
  cut (Ok x) effects first last text parts tried short = absurd short
  cut (Err fault) effects first last text parts tried (inl none) = unserved effects [] last text (parts ∙ ap (λ es. es ++ last) none.1) (handing_out identity places ++ announcing identity places, refl) tried
  cut (Err fault) effects first last text parts tried (inr handed) = unserved effects (handing_out identity places) last text (parts ∙ ap (λ es. es ++ last) handed.1) (announcing identity places, refl) tried

  served : (ending : Ending) (effects first last : List Effect) (text : Option (List ℕ)) → effects ≡ first ++ last → Tries text last → HasServed identity places turns old new ending first → Parted effects
  served ending effects first last text parts tried session = (
    session.own,
    record {
      before = handing_out identity places ++ announcing identity places;
      last = last;
      parts = parts ∙ ap (λ es. es ++ last) session.parts;
      begins = ([], append-nil (handing_out identity places ++ announcing identity places));
      ends = (text, tried);
    },
    ends session.answer session.own session.session,
  )

  ran : (ending : Ending) (effects first last : List Effect) (text : Option (List ℕ)) → effects ≡ first ++ last → Tries text last → RunsSession identity places turns old new ending first → Parted effects
  ran ending effects first last text parts tried (inl short) = cut ending effects first last text parts tried short
  ran ending effects first last text parts tried (inr session) = served ending effects first last text parts tried session

  all : (words : List (List ℕ)) (ending : Ending) (effects first last : List Effect) (text : Option (List ℕ)) → Means words (Serve places) → effects ≡ first ++ last → Tries text last → Runs words identity turns old new ending first → Parted effects
  all words ending effects first last text means parts tried (inl does) =
      ran ending effects first last text parts tried (subst (λ (task : Task). RunsTask task identity turns old new ending first) (mean_one words does.task (Serve places) does.means means) does.ran)
  all words ending effects first last text means parts tried (inr nothing) = unserved effects [] last text (parts ∙ ap (λ es. es ++ last) nothing.none) (handing_out identity places ++ announcing identity places, refl) tried

-- What a session over a settled store has.
abbrev OverStore : Config → Book → List ℕ → List Effect → Type 0
OverStore config book file own = ((own ≡ []) ⊎ IsOpenable book) × KeepsAllLaws config book file own

-- it is so of a session that was served
over-store : (config : Config) (turns : ℕ) (old new : Outside) (file : List ℕ) (book : Book) → IsSettled old file → HasSaved config file book → (answer : Result (Unit {0}) ServeFault) (own : List Effect) → IsSession config turns old new answer own → OverStore config book file own
over-store config turns old new file book settled saved answer own session = (
  opens-of config turns old new answer own session.serves file book settled saved,
  word-laws config book file answer own saved (subst (λ (b : Book). KeepsItsWord config b file answer own) saved.2 (session.headline file saved.0 settled saved.1)),
)

pub keeps-all : EverySessionKeepsTheLaws
keeps-all words places identity old new turns status effects means answers file book settled saved =
    let config = config_of identity places in
    let has = all identity places turns old new (OverStore config book file) (inl refl, no-laws config book file old (session_fits _ places.session means.session) settled saved) (over-store config turns old new file book settled saved) words answers.ending effects answers.first answers.last _ means answers.parts answers.tried answers.ran in
    record { own = has.0; all = has.1; opens = has.2.0; laws = has.2.1 }

-- What any session has.
abbrev OverAny : Config → List Effect → Type 0
OverAny config own = (own ≡ []) ⊎ ((book : Book) × IsLawfulOver config own book)

pub all-lawful : EverySessionIsLawful
all-lawful words places identity old new turns status effects means answers =
    let config = config_of identity places in
    let has = all identity places turns old new (OverAny config) (inl refl) (λ answer own session. lawful-of config turns old new answer own session.serves) words answers.ending effects answers.first answers.last _ means answers.parts answers.tried answers.ran in
    record { own = has.0; all = has.1; laws = has.2 }
