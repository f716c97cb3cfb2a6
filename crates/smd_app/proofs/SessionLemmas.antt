-- What a session adds to a world, seen from where the call began.
use Rattle.std.specs.Prelude.{◌≢◌}
use Rattle.std.proofs.Common.{◌≡◌, inl, inr, ℕ, ◌≤◌, List, [], ◌∷◌, ◌++◌, length, Option, Some, Result, Ok, Err, IfErr, refl, sym, ◌∙◌, ap, subst, arith, codes, length-append}
use Rattle.sm_world.specs.Crash.{cell_of}
use Rattle.sm_world.specs.Disk.{KeepsToldSize}
use Rattle.sm_world.specs.Outside.{Outside, Added, NotFallen, adds}
use Rattle.sm_world.specs.declared.effects.Effect.{Effect}
use Rattle.sm_world.specs.declared.effects.Effect.TheVariants.{Published, Printed}
use Rattle.sm_world.specs.declared.failures.Faults.{Faults}
use Rattle.sm_world.proofs.Adding.{adds-adds, adds-none}
use Rattle.sm_world.proofs.Cells.{cell_from-append, others_keep}
use Rattle.ice_cookie.specs.Spelling.{HaveSpelling}
use Rattle.ice_cookie.specs.declared.authority.AuthorityEntry.{AuthorityEntry}
use Rattle.session_engine.specs.declared.config.Config.{Config}
use Rattle.checkpoint_records.specs.declared.records.Book.{Book}
use Rattle.checkpoint_slots.specs.Causes.{IsSettled}
use Rattle.checkpoint_slots.specs.Recovery.{Recovers}
use Rattle.sm_world.proofs.Counting.{rose_since}
use Rattle.session_engine.specs.Carries.{IsOpened, IsReady, IsUnopened, KeepsItsWord, Opens, Serves}
use Rattle.session_engine.specs.Causes.{HasCause}
use Rattle.session_engine.specs.Session.{Serving}
use Rattle.session_engine.specs.declared.fault.ServeFault.{ServeFault}
use Rattle.session_engine.specs.declared.fault.ServeFault.TheVariants.{Damaged, WrongSize, TooManySessions, DiskFault, LinkFault, ConsoleFault, Worn, Spent, NoMemory}
use Rattle.smd_app.specs.FaultLines.{served}
use Rattle.smd_app.specs.Sessions.{config_of, network, session_entry, handing_out, announcing, SetsUp, Opened, OpensOr, RunsSession}
use Rattle.smd_app.specs.Words.{Places}
use Rattle.smd_app.specs.declared.identity.Identity.{Identity}
use Rattle.checkpoint_records.specs.Books.{choose}
use Rattle.checkpoint_slots.specs.declared.turn.Current.{Current}

-- The authority file

fits_network : (host socket : List ℕ) → length host ≤ 255 → length socket ≤ 4096 → length (network host socket) ≤ 65535
fits_network host socket few short =
    omega (arith, few, short, length-append (codes "local/") (host ++ (codes ":" ++ socket)), length-append host (codes ":" ++ socket), length-append (codes ":") socket)

fits : (identity : Identity) (socket : List ℕ) → length identity.host ≤ 255 → length socket ≤ 4096 → length identity.cookie.0 ≡ 16 → HaveSpelling (session_entry identity socket (codes "ICE") ∷ session_entry identity socket (codes "XSMP") ∷ [])
fits identity socket few short size =
    let network_fits = fits_network identity.host socket few short in (
      record { protocol = omega arith; details = omega arith; network = network_fits; name = omega arith; proof = omega (arith, size) },
      (record { protocol = omega arith; details = omega arith; network = network_fits; name = omega arith; proof = omega (arith, size) }, tt),
    )

-- no field of its entries is too long
pub never_long : (identity : Identity) (socket : List ℕ) (one two : AuthorityEntry) (none first both : List AuthorityEntry) → length identity.host ≤ 255 → length socket ≤ 4096 → length one.proof ≡ 16 → one ≡ session_entry identity socket (codes "ICE") → two ≡ session_entry identity socket (codes "XSMP") → none ≡ [] → first ≡ none ++ one ∷ [] → both ≡ first ++ two ∷ [] → HaveSpelling both
never_long identity socket one two none first both few short size is_one is_two is_none is_first is_both =
    let same : both ≡ session_entry identity socket (codes "ICE") ∷ session_entry identity socket (codes "XSMP") ∷ [] = is_both
    ∙ (ap (λ xs. xs ++ two ∷ []) (is_first ∙ ap (λ xs. xs ++ one ∷ []) is_none)
    ∙ (ap (λ x. x ∷ two ∷ []) is_one ∙ ap (λ x. session_entry identity socket (codes "ICE") ∷ x ∷ []) is_two)) in
    subst HaveSpelling (sym same) (fits identity socket few short (sym (ap (λ entry. length entry.proof) is_one) ∙ size))

-- From the world behind the set-up to the one before it

same_cell : (began path bytes text : List ℕ) (effects : List Effect) (i : ℕ) → cell_of began (effects ++ Published path bytes ∷ Printed text ∷ []) i ≡ cell_of began effects i
same_cell began path bytes text effects i =
    cell_from-append _ effects (Published path bytes ∷ Printed text ∷ []) i
    ∙ (others_keep (Printed text) i _ tt ∙ others_keep (Published path bytes) i _ tt)

-- what stands behind the set-up
pub record Behind (identity : Identity) (places : Places) (old mid : Outside) : Type 0 where
  pub told : mid.told ≡ adds (adds old.told (handing_out identity places)) (announcing identity places)
  pub first : mid.first ≡ old.first
  pub coming : mid.coming ≡ old.coming
  pub size : KeepsToldSize old mid
  pub counts : NotFallen old.faults mid.faults

pub still_settled : (identity : Identity) (places : Places) (old mid : Outside) → Behind identity places old mid → (file : List ℕ) → IsSettled old file → IsSettled mid file
still_settled identity places old mid behind file settled =
    let cells = same_cell settled.began _ _ _ settled.effects in
    record {
      began = settled.began;
      effects = settled.effects ++ (handing_out identity places ++ announcing identity places);
      first = behind.first ∙ settled.first;
      told = behind.told ∙ (adds-adds old.told (handing_out identity places) (announcing identity places) ∙ ap (λ told. adds told (handing_out identity places ++ announcing identity places)) settled.told);
      size = settled.size;
      reads = λ i within. ap (λ cell. cell.reads) (cells i) ∙ settled.reads i within;
      left = λ i byte within is. settled.left i byte within (rw (cells i) at is);
    }

pub kept_since : (identity : Identity) (places : Places) (old mid new : Outside) → Behind identity places old mid → KeepsToldSize mid new → KeepsToldSize old new
kept_since identity places old mid new behind kept = λ first told. kept first (behind.first ∙ told) ∙ behind.size first told

found_since : (identity : Identity) (places : Places) (session : List ℕ) (old mid : Outside) (book : Book) (current : Option Current) → Behind identity places old mid → IsOpened session mid book current → IsOpened session old book current
found_since identity places session old mid book current behind is = record { recovered = λ file settled. is.recovered file (still_settled identity places old mid behind file settled); called = is.called; rules = is.rules }

pub unopened_since : (identity : Identity) (places : Places) (session : List ℕ) (old mid : Outside) (size : ℕ) (fault : ServeFault) → Behind identity places old mid → IsUnopened session mid size fault → IsUnopened session old size fault
unopened_since identity places session old mid size (WrongSize n) behind cause = cause
unopened_since identity places session old mid size (Damaged at) behind cause = (cause.0, (λ file settled. cause.1 file (still_settled identity places old mid behind file settled)))
unopened_since identity places session old mid size TooManySessions behind cause = (cause.0, (cause.1.0, cause.1.1, found_since identity places session old mid cause.1.0 cause.1.1 behind cause.1.2, cause.1.3))
unopened_since identity places session old mid size Worn behind cause = (cause.0, (cause.1.0, cause.1.1, found_since identity places session old mid cause.1.0 cause.1.1 behind cause.1.2, cause.1.3, cause.1.4))
unopened_since identity places session old mid size DiskFault behind cause = cause
unopened_since identity places session old mid size NoMemory behind cause = cause
unopened_since identity places session old mid size LinkFault behind cause = cause
unopened_since identity places session old mid size ConsoleFault behind cause = cause
unopened_since identity places session old mid size Spent behind cause = cause

opened_since : (identity : Identity) (places : Places) (config : Config) (turns : ℕ) (old mid new : Outside) (answer : Result (Unit {0}) ServeFault) → Behind identity places old mid → (opens : Opens config.session mid new (λ opening current effects. Serves config opening current mid.coming turns answer effects)) → Opened config turns old new answer opens.adds.effects
opened_since identity places config turns old mid new answer behind opens = record {
  book = opens.book;
  current = opens.current;
  recovered = λ file settled. opens.recovered file (still_settled identity places old mid behind file settled);
  called = opens.called;
  size = opens.size;
  below = opens.below;
  few = opens.few;
  rules = opens.rules;
  serves = subst (λ (coming : Option _). Serves config opens.book opens.current coming turns answer opens.adds.effects) behind.coming opens.adds.holds;
}

-- a session's own effects
own : (identity : Identity) (places : Places) (config : Config) (turns : ℕ) (old mid new : Outside) (answer : Result (Unit {0}) ServeFault) → Behind identity places old mid → Serving config turns mid new answer → Added mid.told new.told (OpensOr config turns old new answer)
own identity places config turns old mid new (Ok x) behind opens = record {
  effects = opens.adds.effects;
  added = opens.adds.added;
  holds = opened_since identity places config turns old mid new (Ok x) behind opens;
}
own identity places config turns old mid new (Err fault) behind (inl rests) = record {
  effects = [];
  added = rests.told ∙ sym (adds-none mid.told);
  holds = inl (record { none = refl; kept = kept_since identity places old mid new behind rests.kept; cause = unopened_since identity places config.session old mid new.size fault behind rests.cause });
}
own identity places config turns old mid new (Err fault) behind (inr opens) = record {
  effects = opens.adds.effects;
  added = opens.adds.added;
  holds = inr (opened_since identity places config turns old mid new (Err fault) behind opens);
}

pub caused_since : (old mid new : Faults) (answer : Result (Unit {0}) ServeFault) → NotFallen old mid → IfErr answer (HasCause mid new) → IfErr answer (HasCause old new)
caused_since old mid new (Ok x) counts cause = cause
caused_since old mid new (Err (Damaged at)) counts cause = cause
caused_since old mid new (Err (WrongSize size)) counts cause = cause
caused_since old mid new (Err TooManySessions) counts cause = cause
caused_since old mid new (Err DiskFault) counts cause = rose_since old.disk mid.disk new.disk counts.disk cause
caused_since old mid new (Err LinkFault) counts cause = rose_since old.links mid.links new.links counts.links cause
caused_since old mid new (Err ConsoleFault) counts cause = rose_since old.console mid.console new.console counts.console cause
caused_since old mid new (Err Worn) counts cause = cause
caused_since old mid new (Err Spent) counts cause = cause
caused_since old mid new (Err NoMemory) counts cause = cause

-- What is added to a told list is one list.

abbrev tail_of : List Effect → List Effect
tail_of [] = []
tail_of (x ∷ xs) = xs

same_rest : (told xs ys : List Effect) → told ++ xs ≡ told ++ ys → xs ≡ ys
same_rest [] xs ys e = e
same_rest (t ∷ told) xs ys e = same_rest told xs ys (ap tail_of e)

same_told : (xs ys : List Effect) → Some xs ≡ Some ys → xs ≡ ys
same_told xs ys e = cc

pub same_added : (old new : Option (List Effect)) (told xs ys : List Effect) → old ≡ Some told → new ≡ adds old xs → new ≡ adds old ys → xs ≡ ys
same_added old new told xs ys is one other =
    same_rest told xs ys (same_told (told ++ xs) (told ++ ys) (sym (one ∙ ap (λ o. adds o xs) is) ∙ (other ∙ ap (λ o. adds o ys) is)))

pub served_behind : (identity : Identity) (places : Places) (turns : ℕ) (old first mid new : Outside) (answer : Result (Unit {0}) ServeFault)
    → first.told ≡ adds old.told (handing_out identity places) → SetsUp old first
    → mid.told ≡ adds first.told (announcing identity places) → SetsUp first mid
    → Serving (config_of identity places) turns mid new answer
    → ((file : List ℕ) (stored : Book) → IsSettled mid file → Recovers file (Ok stored) → Added mid.told new.told (KeepsItsWord (config_of identity places) (choose places.session stored) file answer))
    → ((file : List ℕ) → IsSettled mid file → answer ≢ Err DiskFault → Added mid.told new.told (IsReady file new))
    → new.first ≡ mid.first
    → IfErr answer (HasCause mid.faults new.faults)
    → Added old.told new.told (RunsSession identity places turns old new (served answer))
served_behind identity places turns old first mid new answer handed one announced two serving headline ready kept cause =
    let behind : Behind identity places old mid = record {
      told = announced ∙ ap (λ told. adds told (announcing identity places)) handed;
      first = two.first ∙ one.first;
      coming = two.coming ∙ one.coming;
      size = λ bytes told. two.size bytes (one.first ∙ told) ∙ one.size bytes told;
      counts = record {
        disk = omega (arith, one.counts.disk, two.counts.disk);
        links = omega (arith, one.counts.links, two.counts.links);
        spawner = omega (arith, one.counts.spawner, two.counts.spawner);
        console = omega (arith, one.counts.console, two.counts.console);
      };
    } in
    let added = own identity places (config_of identity places) turns old mid new answer behind serving in
    record {
      effects = handing_out identity places ++ (announcing identity places ++ added.effects);
      added = added.added ∙ (ap (λ told. adds told added.effects) behind.told
          ∙ (adds-adds (adds old.told (handing_out identity places)) (announcing identity places) added.effects
          ∙ adds-adds old.told (handing_out identity places) (announcing identity places ++ added.effects)));
      holds = inr (record {
        answer = answer;
        own = added.effects;
        ends = refl;
        parts = refl;
        session = record {
          serves = added.holds;
          headline = λ file stored settled recovers.
              let there = still_settled identity places old mid behind file settled in
              let word = headline file stored there recovers in
              subst (KeepsItsWord (config_of identity places) (choose places.session stored) file answer) (same_added mid.told new.told there.effects word.effects added.effects there.told word.added added.added) word.holds;
          ready = λ file settled fine.
              let there = still_settled identity places old mid behind file settled in
              let again = ready file there fine in
              subst (IsReady file new) (same_added mid.told new.told there.effects again.effects added.effects there.told again.added added.added) again.holds;
          first = kept ∙ behind.first;
          cause = caused_since old.faults mid.faults new.faults answer behind.counts cause;
        };
      });
    }

-- The same of a session with these wishes.
pub served_so : (identity : Identity) (places : Places) (turns : ℕ) (old first mid new : Outside) (config : Config) (answer : Result (Unit {0}) ServeFault) → config ≡ config_of identity places
    → first.told ≡ adds old.told (handing_out identity places) → SetsUp old first
    → mid.told ≡ adds first.told (announcing identity places) → SetsUp first mid
    → Serving config turns mid new answer
    → ((file : List ℕ) (stored : Book) → IsSettled mid file → Recovers file (Ok stored) → Added mid.told new.told (KeepsItsWord config (choose config.session stored) file answer))
    → ((file : List ℕ) → IsSettled mid file → answer ≢ Err DiskFault → Added mid.told new.told (IsReady file new))
    → new.first ≡ mid.first
    → IfErr answer (HasCause mid.faults new.faults)
    → Added old.told new.told (RunsSession identity places turns old new (served answer))
served_so identity places turns old first mid new config answer wished handed one announced two serving headline ready kept cause =
    served_behind identity places turns old first mid new answer handed one announced two
    (subst (λ (made : Config). Serving made turns mid new answer) wished serving)
    (subst (λ (made : Config). (file : List ℕ) (stored : Book) → IsSettled mid file → Recovers file (Ok stored) → Added mid.told new.told (KeepsItsWord made (choose made.session stored) file answer)) wished headline)
    ready
    kept
    cause
