-- How a call of `smwrap` ends.
use Rattle.std.proofs.Common.{◌≡◌, ◌≢◌, ◌⊎◌, inl, inr, ℕ, ◌≤◌, ◌&&◌, Bool, true, false, codes, List, [], ◌∷◌, ◌++◌, length, map, None, Result, Ok, Err, refl, sym, ◌∙◌, ap, subst, arith, append-nil}
use Rattle.std.specs.List.{AllByRecursion, list_all}
use Rattle.std.proofs.lemmas.Bool.{false≢true}
use Rattle.std.proofs.lemmas.Bool.Decides.{nat_tests}
use Rattle.ice_cookie.specs.declared.cookies.Cookie.{Cookie}
use Rattle.sm_world.specs.Disk.{UsesDisk, has_failed}
use Rattle.sm_world.specs.Outside.{Added, NotFallen, Outside, Rose, UsesLinks, UsesSpawner, adds}
use Rattle.sm_world.specs.declared.effects.Effect.{Effect}
use Rattle.sm_world.specs.declared.effects.Effect.TheVariants.{Published, Started}
use Rattle.sm_world.specs.declared.failures.Failure.{Failure}
use Rattle.sm_world.specs.declared.failures.Failure.TheVariants.{Failed, NoMemory as DeviceMemory}
use Rattle.owned_lists.specs.declared.failures.NoMemory.{NoMemory as WantsMemory}
use Rattle.sm_world.proofs.Adding.{adds-adds, adds-none, fallen_never}
use Rattle.program_frame.specs.Printing.{Tries}
use Rattle.program_frame.specs.Programs.{line_by, status_by}
use Rattle.sm_world.proofs.Counting.{rose_since}
use Rattle.program_frame.proofs.ProgramLemmas.{concluded}
use Rattle.state_saver.specs.Files.{Holds}
use Rattle.state_saver.specs.Plans.{IsWord, copy_path}
use Rattle.state_saver.specs.declared.plan.SavePlan.{SavePlan}
use Rattle.smwrap_app.specs.Copies.{Copy, copied}
use Rattle.smwrap_app.specs.Faults.{Ending, fault_line, fault_status, file_fault, peer_fault}
use Rattle.smwrap_app.specs.Running.{IsCaused}
use Rattle.smwrap_app.specs.Starting.{IsFileFault, IsFit, MayBegin, MayJoin, MayPutBack}
use Rattle.smwrap_app.specs.Statuses.{Answers, Follows, LetsIn, NeverJoins, PutsBack, Runs, RunsBy, StopsEarly, command_by, plan_by}
use Rattle.smwrap_app.specs.Words.{AreBad, AreChosen, Chosen, HasId, is_program, is_text}
use Rattle.smwrap_app.specs.declared.fault.Fault.{Fault}
use Rattle.smwrap_app.specs.declared.fault.Fault.TheVariants.{BadWords, Refused, StreamEnded, NoEntry, Link, Spent, NoMemory, Malformed, Disk}

-- ---- what was chosen can be saved

word_by : (text : List ℕ) → is_text text ≡ true → IsWord text
word_by text is = record { some = grind (arith, nat_tests, is); few = grind (arith, nat_tests, is) }

first_true : (a b : Bool) → (a && b) ≡ true → a ≡ true
first_true true b both = refl
first_true false b both = both

second_true : (a b : Bool) → (a && b) ≡ true → b ≡ true
second_true true b both = both
second_true false b both = absurd cc

words_by : (words : List (List ℕ)) → list_all is_text words ≡ true → AllByRecursion IsWord words
words_by [] all = tt
words_by (word ∷ words) all = (word_by word (first_true (is_text word) (list_all is_text words) all), words_by words (second_true (is_text word) (list_all is_text words) all))

record Program (words : List (List ℕ)) : Type 0 where
  some : 1 ≤ length words
  few : length words ≤ 16
  all : list_all is_text words ≡ true

program_by : (words : List (List ℕ)) → is_program words ≡ true → Program words
program_by words is = record { some = grind (arith, nat_tests, is); few = grind (arith, nat_tests, is); all = grind (arith, nat_tests, is) }

id_by : (words : List (List ℕ)) (id : List ℕ) → HasId words id → length id ≤ 512
id_by words id (inl four) = omega (arith, ap length four.1)
id_by words id (inr five) = (word_by id five.1.is).few

pub fits : (words : List (List ℕ)) (chosen : Chosen) → AreChosen words chosen → IsFit chosen
fits words chosen are =
    let texts = are.options.texts in
    let program = program_by chosen.program are.program in
    record {
      plan = record {
        state = word_by chosen.state texts.state.is;
        some = program.some;
        few = program.few;
        words = words_by chosen.program program.all;
        seven = refl;
        before = (word_by (codes "smwrap") refl, (word_by (codes "--socket") refl, (word_by chosen.socket texts.socket.is, (word_by (codes "--authority") refl, (word_by chosen.authority texts.authority.is, (word_by (codes "--state") refl, (word_by chosen.state texts.state.is, tt)))))));
      };
      id = id_by are.front chosen.id texts.id;
    }

-- ---- counts

pub disk_counts : (old new : Outside) (failed : Bool) → UsesDisk old new failed → NotFallen old.faults new.faults
disk_counts old new failed uses = record { disk = uses.disk; links = omega (arith, uses.links); spawner = omega (arith, uses.spawner); console = omega (arith, uses.console) }

spawner_counts : (old new : Outside) (result : Result Bool WantsMemory) → UsesSpawner old new result → NotFallen old.faults new.faults
spawner_counts old new result uses = record { disk = omega (arith, uses.disk); links = omega (arith, uses.links); spawner = uses.spawner; console = omega (arith, uses.console) }

-- ---- before the program is started

-- what stands in the files depends on what is told alone
holds_as : (old new : Outside) (path bytes : List ℕ) → new.files ≡ old.files → new.told ≡ old.told → Holds new path bytes → Holds old path bytes
holds_as old new path bytes files told holds fs ts has_files has_told = holds fs ts (files ∙ has_files) (told ∙ has_told)

pub file_cause : (A : Type 0) (failure : Failure) (old new : Outside) → UsesDisk old new (has_failed {A = A} (Err failure)) → IsFileFault old new (file_fault failure)
file_cause A Failed old new uses = uses.cause refl
file_cause A DeviceMemory old new uses = tt

pub later_cause : (A : Type 0) (failure : Failure) (old mid new : Outside) (failed : Bool) → UsesDisk old mid failed → UsesDisk mid new (has_failed {A = A} (Err failure)) → IsFileFault old new (file_fault failure)
later_cause A Failed old mid new failed first uses = rose_since old.faults.disk mid.faults.disk new.faults.disk first.disk (uses.cause refl)
later_cause A DeviceMemory old mid new failed first uses = tt

-- whatever failed, no other count changed
pub uses_any : (old new : Outside) (failed : Bool) → UsesDisk old new failed → UsesDisk old new false
uses_any old new failed uses = record { cause = λ e. absurd (false≢true e); disk = uses.disk; links = uses.links; spawner = uses.spawner; console = uses.console; first = uses.first; coming = uses.coming; input = uses.input; files = uses.files }

-- the copy took the place of the state
pub put_ok : (plan : SavePlan) (old mid new : Outside) (bytes : List ℕ) (x : Unit {0}) → plan.from ≢ 0 → Holds mid (copy_path plan.state plan.from) bytes → mid.files ≡ old.files → mid.told ≡ old.told → new.told ≡ adds mid.told (Published plan.state bytes ∷ []) → Added old.told new.told (MayPutBack plan old (Ok x))
put_ok plan old mid new bytes x some holds files same told = record {
  effects = Published plan.state bytes ∷ [];
  added = told ∙ ap (λ t. adds t (Published plan.state bytes ∷ [])) same;
  holds = inr (some, (bytes, holds_as old mid (copy_path plan.state plan.from) bytes files same holds, refl));
}

pub put_none : (plan : SavePlan) (old new : Outside) (fault : Fault) → new.told ≡ old.told → Added old.told new.told (MayPutBack plan old (Err fault))
put_none plan old new fault told = record { effects = []; added = told ∙ sym (adds-none old.told); holds = refl }

-- there is no copy
pub put_idle : (plan : SavePlan) (old : Outside) (x : Unit {0}) → plan.from ≡ 0 → Added old.told old.told (MayPutBack plan old (Ok x))
put_idle plan old x none = record { effects = []; added = sym (adds-none old.told); holds = inl (none, refl) }

puts_as : (plan : SavePlan) (old mid : Outside) (effects : List Effect) → mid.files ≡ old.files → mid.told ≡ old.told → PutsBack plan mid effects → PutsBack plan old effects
puts_as plan old mid effects files told (inl none) = inl none
puts_as plan old mid effects files told (inr (some, (bytes, holds, is))) = inr (some, (bytes, holds_as old mid (copy_path plan.state plan.from) bytes files told holds, is))

-- the program was started
pub begun : (chosen : Chosen) (old one two new : Outside) (cookie : Cookie) (succeeded : Bool) (x : Unit {0}) → LetsIn chosen old cookie → one.told ≡ old.told → UsesDisk old one false → Added one.told two.told (MayPutBack (plan_by chosen) one (Ok x)) → UsesDisk one two false → new.told ≡ adds two.told (Started (command_by chosen.program) succeeded ∷ []) → UsesSpawner two new (Ok succeeded) → Added old.told new.told (MayBegin chosen old new (Ok cookie))
begun chosen old one two new cookie succeeded x lets_in told first puts second started third =
    let start : List Effect = Started (command_by chosen.program) succeeded ∷ [] in
    record {
      effects = puts.effects ++ start;
      added = started ∙ (ap (λ t. adds t start) (puts.added ∙ ap (λ t. adds t puts.effects) told) ∙ adds-adds old.told puts.effects start);
      holds = record {
        lets_in = lets_in;
        put = puts.effects;
        puts = puts_as (plan_by chosen) old one puts.effects first.files told puts.holds;
        succeeded = succeeded;
        cause = λ refused. rose_since old.faults.spawner two.faults.spawner new.faults.spawner (omega (arith, first.spawner, second.spawner)) (third.cause (ap Ok refused));
        parts = refl;
        files = third.kept.files ∙ (second.files ∙ first.files);
      };
    }

-- memory was wanting as it was to be started
pub unstarted : (chosen : Chosen) (old one two new : Outside) (x : Unit {0}) → one.told ≡ old.told → UsesDisk old one false → Added one.told two.told (MayPutBack (plan_by chosen) one (Ok x)) → new.told ≡ adds two.told [] → Added old.told new.told (MayBegin chosen old new (Err NoMemory))
unstarted chosen old one two new x told first puts started = record {
  effects = puts.effects;
  added = started ∙ (adds-none two.told ∙ (puts.added ∙ ap (λ t. adds t puts.effects) told));
  holds = inr (puts_as (plan_by chosen) old one puts.effects first.files told puts.holds);
}

pub never_began : (chosen : Chosen) (old new : Outside) (fault : Fault) → new.told ≡ old.told → StopsEarly chosen old new fault [] → Added old.told new.told (MayBegin chosen old new (Err fault))
never_began chosen old new fault told early = record { effects = []; added = told ∙ sym (adds-none old.told); holds = early }

-- the state couldn't be put back
pub unput : (fault : Fault) (chosen : Chosen) (old one two : Outside) → one.told ≡ old.told → UsesDisk old one false → Added one.told two.told (MayPutBack (plan_by chosen) one (Err fault)) → IsFileFault one two fault → Added old.told two.told (MayBegin chosen old two (Err fault))
unput fault chosen old one two told first puts cause =
    let same : two.told ≡ old.told = puts.added ∙ (ap (adds one.told) puts.holds ∙ (adds-none one.told ∙ told)) in
    never_began chosen old two fault same (early fault cause)
  where
    early : (f : Fault) → IsFileFault one two f → StopsEarly chosen old two f []
    early Disk rose = (rose_since old.faults.disk one.faults.disk two.faults.disk first.disk rose, refl)
    early NoMemory any = inl refl
    early BadWords never = absurd never
    early Refused never = absurd never
    early StreamEnded never = absurd never
    early NoEntry never = absurd never
    early Link never = absurd never
    early Spent never = absurd never
    early Malformed never = absurd never

pub started_counts : (old one two new : Outside) (result : Result Bool WantsMemory) → UsesDisk old one false → UsesDisk one two false → UsesSpawner two new result → NotFallen old.faults new.faults
started_counts old one two new result first second third = fallen_never old.faults two.faults new.faults (fallen_never old.faults one.faults two.faults (disk_counts old one false first) (disk_counts one two false second)) (spawner_counts two new result third)

pub put_counts : (old one two : Outside) → UsesDisk old one false → UsesDisk one two false → NotFallen old.faults two.faults
put_counts old one two first second = fallen_never old.faults one.faults two.faults (disk_counts old one false first) (disk_counts one two false second)

-- ---- the whole run

abbrev RunsIn : Chosen → ℕ → Outside → Outside → Outside → Outside → Ending → Type 0
RunsIn chosen turns peer_old peer_new files_old files_new ending = Added files_old.told files_new.told (RunsBy chosen turns peer_old peer_new files_old files_new ending)

pub stopped : (chosen : Chosen) (turns : ℕ) (peer old new : Outside) (fault : Fault) → Added old.told new.told (MayBegin chosen old new (Err fault)) → RunsIn chosen turns peer peer old new (Err fault)
stopped chosen turns peer old new fault begins = record { effects = begins.effects; added = begins.added; holds = inr (record { fault = fault; is = refl; early = begins.holds; peer = refl }) }

pub unplanned : (chosen : Chosen) (turns : ℕ) (peer old : Outside) → RunsIn chosen turns peer peer old old (Err NoMemory)
unplanned chosen turns peer old = record { effects = []; added = sym (adds-none old.told); holds = inr (record { fault = NoMemory; is = refl; early = inl refl; peer = refl }) }

never_by : (failure : Failure) (old new : Outside) → UsesLinks {A = Unit {0}} old new (Err failure) → NeverJoins old new (Err (peer_fault failure)) [] []
never_by Failed old new uses = record { none = refl; silent = refl; cause = inl (refl, uses.cause refl) }
never_by DeviceMemory old new uses = record { none = refl; silent = refl; cause = inr refl }

pub unconnected : (failure : Failure) (chosen : Chosen) (turns : ℕ) (peer_old peer_new old new : Outside) (cookie : Cookie) → Added old.told new.told (MayBegin chosen old new (Ok cookie)) → peer_new.told ≡ peer_old.told → UsesLinks {A = Unit {0}} peer_old peer_new (Err failure) → RunsIn chosen turns peer_old peer_new old new (Err (peer_fault failure))
unconnected failure chosen turns peer_old peer_new old new cookie begins told uses = record {
  effects = begins.effects;
  added = begins.added;
  holds = inl (record {
    cookie = cookie;
    middle = new;
    first = begins.effects;
    begins = begins.holds;
    told = begins.added;
    copies = [];
    parts = sym (append-nil begins.effects);
    run = record { effects = []; added = told ∙ sym (adds-none peer_old.told); holds = inr (never_by failure peer_old peer_new uses) };
  });
}

caused_since : (ending : Ending) (old mid new : Outside) → old.faults.links ≤ mid.faults.links → IsCaused ending mid new → IsCaused ending old new
caused_since (Ok x) old mid new below cause = tt
caused_since (Err BadWords) old mid new below cause = tt
caused_since (Err Refused) old mid new below cause = tt
caused_since (Err StreamEnded) old mid new below cause = tt
caused_since (Err NoEntry) old mid new below cause = tt
caused_since (Err Link) old mid new below cause = rose_since old.faults.links mid.faults.links new.faults.links below cause
caused_since (Err Spent) old mid new below cause = tt
caused_since (Err NoMemory) old mid new below cause = tt
caused_since (Err Malformed) old mid new below cause = tt
caused_since (Err Disk) old mid new below cause = tt

-- what is said of a run from its connection on is said from the call on
run_since : (chosen : Chosen) (cookie : Cookie) (turns : ℕ) (old mid new files_old files_new : Outside) (ending : Ending) (copies : List Copy) (effects : List Effect) → old.faults.links ≤ mid.faults.links → (Follows chosen cookie turns mid new files_old files_new ending copies effects ⊎ NeverJoins mid new ending copies effects) → (Follows chosen cookie turns old new files_old files_new ending copies effects ⊎ NeverJoins old new ending copies effects)
run_since chosen cookie turns old mid new files_old files_new ending copies effects below (inl follows) =
    let joins = follows.joins in
    inl (record {
      last = follows.last;
      joins = record {
        replies = joins.replies;
        pieces = joins.pieces;
        solid = joins.solid;
        received_are = joins.received_are;
        in_turns = joins.in_turns;
        prompt = joins.prompt;
        unsent = joins.unsent;
        sent_are = joins.sent_are;
        done = joins.done;
        undone = joins.undone;
        parts = joins.parts;
        waiting = joins.waiting;
        front = joins.front;
        follows = joins.follows;
        whole = joins.whole;
        end = joins.end;
        cause = caused_since ending old mid new below joins.cause;
      };
      makes = follows.makes;
    })
run_since chosen cookie turns old mid new files_old files_new ending copies effects below (inr never) = inr (record { none = never.none; silent = never.silent; cause = since never.cause })
  where
    since : ((ending ≡ Err Link) × Rose mid.faults.links new.faults.links) ⊎ (ending ≡ Err NoMemory) → ((ending ≡ Err Link) × Rose old.faults.links new.faults.links) ⊎ (ending ≡ Err NoMemory)
    since (inl link) = inl (link.0, rose_since old.faults.links mid.faults.links new.faults.links below link.1)
    since (inr memory) = inr memory

pub wrapped : (chosen : Chosen) (turns : ℕ) (peer_old peer_mid peer_new old mid new : Outside) (cookie : Cookie) (ending : Ending) (x : Unit {0}) → Added old.told mid.told (MayBegin chosen old mid (Ok cookie)) → peer_mid.told ≡ peer_old.told → UsesLinks peer_old peer_mid (Ok x) → MayJoin chosen cookie turns peer_mid peer_new mid new ending → RunsIn chosen turns peer_old peer_new old new ending
wrapped chosen turns peer_old peer_mid peer_new old mid new cookie ending x begins told uses joins =
    let run = joins.run in
    let made : List Effect = map (copied (plan_by chosen)) joins.copies in
    record {
      effects = begins.effects ++ made;
      added = joins.told ∙ (ap (λ t. adds t made) begins.added ∙ adds-adds old.told begins.effects made);
      holds = inl (record {
        cookie = cookie;
        middle = mid;
        first = begins.effects;
        begins = begins.holds;
        told = begins.added;
        copies = joins.copies;
        parts = refl;
        run = record {
          effects = run.effects;
          added = run.added ∙ ap (λ t. adds t run.effects) told;
          holds = run_since chosen cookie turns peer_old peer_mid peer_new mid new ending joins.copies run.effects uses.links run.holds;
        };
      });
    }

-- ---- the words

same_fault : (x y : Fault) → ◌≡◌ {A = Ending} (Err x) (Err y) → x ≡ y
same_fault x y e = cc

never_bad : (peer_old peer_new : Outside) (copies : List Copy) (effects : List Effect) → NeverJoins peer_old peer_new (Err BadWords) copies effects → ⊥
never_bad peer_old peer_new copies effects never = by never.cause
  where
    by : ((◌≡◌ {A = Ending} (Err BadWords) (Err Link)) × Rose peer_old.faults.links peer_new.faults.links) ⊎ (◌≡◌ {A = Ending} (Err BadWords) (Err NoMemory)) → ⊥
    by (inl link) = let e = same_fault BadWords Link link.0 in cc
    by (inr memory) = let e = same_fault BadWords NoMemory memory in cc

-- Good words are never bad.
not_bad : (chosen : Chosen) (turns : ℕ) (peer_old peer_new old new : Outside) (effects : List Effect) → RunsBy chosen turns peer_old peer_new old new (Err BadWords) effects → ⊥
not_bad chosen turns peer_old peer_new old new effects (inl wraps) = by wraps.run.effects wraps.run.holds
  where
    by : (es : List Effect) → (Follows chosen wraps.cookie turns peer_old peer_new wraps.middle new (Err BadWords) wraps.copies es ⊎ NeverJoins peer_old peer_new (Err BadWords) wraps.copies es) → ⊥
    by es (inl follows) = follows.joins.end
    by es (inr never) = never_bad peer_old peer_new wraps.copies es never
not_bad chosen turns peer_old peer_new old new effects (inr stops) =
    subst (λ (fault : Fault). StopsEarly chosen old new fault effects) (sym (same_fault BadWords stops.fault stops.is)) stops.early

chosen_by : (ending : Ending) (words : List (List ℕ)) (chosen : Chosen) (turns : ℕ) (peer_old peer_new old new : Outside) (effects : List Effect) → AreChosen words chosen → RunsBy chosen turns peer_old peer_new old new ending effects → Runs words turns peer_old peer_new old new ending effects
chosen_by (Err BadWords) words chosen turns peer_old peer_new old new effects are runs = absurd (not_bad chosen turns peer_old peer_new old new effects runs)
chosen_by (Ok x) words chosen turns peer_old peer_new old new effects are runs = inl (chosen, are, runs)
chosen_by (Err Refused) words chosen turns peer_old peer_new old new effects are runs = inl (chosen, are, runs)
chosen_by (Err StreamEnded) words chosen turns peer_old peer_new old new effects are runs = inl (chosen, are, runs)
chosen_by (Err NoEntry) words chosen turns peer_old peer_new old new effects are runs = inl (chosen, are, runs)
chosen_by (Err Link) words chosen turns peer_old peer_new old new effects are runs = inl (chosen, are, runs)
chosen_by (Err Spent) words chosen turns peer_old peer_new old new effects are runs = inl (chosen, are, runs)
chosen_by (Err NoMemory) words chosen turns peer_old peer_new old new effects are runs = inl (chosen, are, runs)
chosen_by (Err Malformed) words chosen turns peer_old peer_new old new effects are runs = inl (chosen, are, runs)
chosen_by (Err Disk) words chosen turns peer_old peer_new old new effects are runs = inl (chosen, are, runs)

abbrev AnswersIn : List (List ℕ) → ℕ → Outside → Outside → Outside → Outside → Ending → Type 0
AnswersIn words turns peer_old peer_new files_old files_new ending = Added files_old.told files_new.told (Runs words turns peer_old peer_new files_old files_new ending)

pub by_words : (words : List (List ℕ)) (chosen : Chosen) (turns : ℕ) (peer_old peer_new old new : Outside) (ending : Ending) → AreChosen words chosen → RunsIn chosen turns peer_old peer_new old new ending → AnswersIn words turns peer_old peer_new old new ending
by_words words chosen turns peer_old peer_new old new ending are runs = record { effects = runs.effects; added = runs.added; holds = chosen_by ending words chosen turns peer_old peer_new old new runs.effects are runs.holds }

pub bad_words : (words : List (List ℕ)) (turns : ℕ) (peer old : Outside) → AreBad words → AnswersIn words turns peer peer old old (Err BadWords)
bad_words words turns peer old bad = record { effects = []; added = sym (adds-none old.told); holds = (bad, record { none = refl; peer = refl }) }

pub no_memory : (words : List (List ℕ)) (turns : ℕ) (peer old : Outside) → AnswersIn words turns peer peer old old (Err NoMemory)
no_memory words turns peer old = record { effects = []; added = sym (adds-none old.told); holds = inr (refl, record { none = refl; peer = refl }) }

-- ---- the call

-- The line of bad words changes nothing of what the ending says.
still : (ending : Ending) (words : List (List ℕ)) (turns : ℕ) (peer_old peer_new old mid new : Outside) (effects : List Effect) → (line_by fault_line ending ≡ None → new ≡ mid) → Runs words turns peer_old peer_new old mid ending effects → Runs words turns peer_old peer_new old new ending effects
still (Ok x) words turns peer_old peer_new old mid new effects silent runs = rw (silent refl) runs
still (Err BadWords) words turns peer_old peer_new old mid new effects silent runs = runs
still (Err Refused) words turns peer_old peer_new old mid new effects silent runs = rw (silent refl) runs
still (Err StreamEnded) words turns peer_old peer_new old mid new effects silent runs = rw (silent refl) runs
still (Err NoEntry) words turns peer_old peer_new old mid new effects silent runs = rw (silent refl) runs
still (Err Link) words turns peer_old peer_new old mid new effects silent runs = rw (silent refl) runs
still (Err Spent) words turns peer_old peer_new old mid new effects silent runs = rw (silent refl) runs
still (Err NoMemory) words turns peer_old peer_new old mid new effects silent runs = rw (silent refl) runs
still (Err Malformed) words turns peer_old peer_new old mid new effects silent runs = rw (silent refl) runs
still (Err Disk) words turns peer_old peer_new old mid new effects silent runs = rw (silent refl) runs

pub concludes : (words : List (List ℕ)) (turns : ℕ) (peer_old peer_new old mid new : Outside) (status : ℕ) (ending : Ending) → AnswersIn words turns peer_old peer_new old mid ending → Added mid.told new.told (Tries (line_by fault_line ending)) → (line_by fault_line ending ≡ None → new ≡ mid) → status ≡ status_by fault_status ending → Added old.told new.told (Answers words turns peer_old peer_new old new status)
concludes words turns peer_old peer_new old mid new status ending runs line silent number =
    concluded (Runs words turns peer_old peer_new old mid) (Runs words turns peer_old peer_new old new) (status_by fault_status) (line_by fault_line) old.told mid.told new.told status ending runs line
    (λ effects holds. still ending words turns peer_old peer_new old mid new effects silent holds) number
