-- The laws of what is seen of a session, said of the top call.
use Rattle.std.specs.Prelude.{◌≡◌, ◌≢◌, ◌⊎◌, ℕ, List, [], ◌++◌, take, Ok, Option}
use Rattle.sm_world.specs.Crash.{Image}
use Rattle.sm_world.specs.Outside.{Outside}
use Rattle.sm_world.specs.declared.effects.Effect.{Effect}
use Rattle.checkpoint_records.specs.Books.{choose}
use Rattle.checkpoint_records.specs.declared.records.Book.{Book}
use Rattle.checkpoint_slots.specs.Causes.{IsSettled}
use Rattle.checkpoint_slots.specs.Recovery.{Recovers}
use Rattle.session_engine.specs.declared.config.Config.{Config}
use Rattle.program_frame.specs.Printing.{Tries}
use Rattle.heard_events.specs.Brought.{IsPrefix}
use Rattle.session_lines.specs.Files.{HasSaved, IsSafe}
use Rattle.session_lines.specs.Runs.{IsAlwaysLawful}
use Rattle.session_notes.specs.Laws.{IsOpenable}
use Rattle.smd_app.specs.Sessions.{announcing, config_of, handing_out}
use Rattle.smd_app.specs.Statuses.{Answers}
use Rattle.smd_app.specs.Words.{Means, Places, Serve}
use Rattle.smd_app.specs.declared.identity.Identity.{Identity}

-- At each point of these effects of a session that opens this book, what was done keeps the laws; and each file that a crash could
-- leave then, of a store that began with this one, is safe. In each such file every session of another name has the entries that it had
-- in this one: so a later run of it begins with them.
pub record KeepsAllLaws (config : Config) (book : Book) (file : List ℕ) (own : List Effect) : Type 0 where
  pub lawful : IsAlwaysLawful config book own
  pub safe : (n : ℕ) (left : List ℕ) (saved : Book) → Image file (take n own) left → HasSaved config left saved → IsSafe config book (take n own) saved
  pub others : (n : ℕ) (left : List ℕ) (was is : Book) → Recovers file (Ok was) → Image file (take n own) left → Recovers left (Ok is) → (other : List ℕ) → other ≢ config.session → (choose other is).entries ≡ (choose other was).entries

-- The effects of a call are those before a session, as far as they go, the session's own, and a line that was tried once.
pub record HasParts (identity : Identity) (places : Places) (own effects : List Effect) : Type 0 where
  pub before : List Effect
  pub last : List Effect
  pub parts : effects ≡ before ++ (own ++ last)
  pub begins : IsPrefix before (handing_out identity places ++ announcing identity places)
  pub ends : (text : Option (List ℕ)) × Tries text last

-- The session's own effects keep all laws. Where it did anything, its book keeps the rules and has room for a new epoch, as some of the laws ask.
pub record HasSession (identity : Identity) (places : Places) (book : Book) (file : List ℕ) (effects : List Effect) : Type 0 where
  pub own : List Effect
  pub all : HasParts identity places own effects
  pub opens : (own ≡ []) ⊎ IsOpenable book
  pub laws : KeepsAllLaws (config_of identity places) book file own

-- So it is of every call with the words of a session, over a store of which no byte is in doubt and that has a book for it.
abbrev pub EverySessionKeepsTheLaws : Type 0
EverySessionKeepsTheLaws =
    (words : List (List ℕ)) (places : Places) (identity : Identity) (old new : Outside) (turns status : ℕ) (effects : List Effect) → Means words (Serve places) → Answers words identity old new turns status effects
    → (file : List ℕ) (book : Book) → IsSettled old file → HasSaved (config_of identity places) file book → HasSession identity places book file effects

-- What was seen keeps the laws at each point of these effects of a session over this book, which is the session's, keeps the rules and has room for a new epoch.
pub record IsLawfulOver (config : Config) (own : List Effect) (book : Book) : Type 0 where
  pub called : book.name ≡ config.session
  pub openable : IsOpenable book
  pub lawful : IsAlwaysLawful config book own

-- The session did nothing, or it opened a book over which what was seen keeps the laws.
pub record HasLawfulSession (identity : Identity) (places : Places) (effects : List Effect) : Type 0 where
  pub own : List Effect
  pub all : HasParts identity places own effects
  pub laws : (own ≡ []) ⊎ ((book : Book) × IsLawfulOver (config_of identity places) own book)

-- So it is of every call with the words of a session, over any store, also in a world that tells nothing.
abbrev pub EverySessionIsLawful : Type 0
EverySessionIsLawful =
    (words : List (List ℕ)) (places : Places) (identity : Identity) (old new : Outside) (turns status : ℕ) (effects : List Effect) → Means words (Serve places) → Answers words identity old new turns status effects
    → HasLawfulSession identity places effects
