-- Effects behind which no byte of the store is in doubt: those that leave it alone, and a write with its sync behind it.
use Rattle.std.proofs.Common.{◌≡◌, ℕ, zero, suc, ◌+◌, ◌-◌, ◌<◌, Bool, true, false, IsTrue, ◌==◌, ◌||◌, nat_le, if◌then◌else◌, List, [], ◌∷◌, ◌++◌, length, slice_index, Option, None, Some, refl, ap, sym, ◌∙◌, append_assoc, arith}
use Rattle.std.proofs.lemmas.Bool.{eqb-true, false≢true}
use Rattle.std.proofs.lemmas.List.{append-nil}
use Rattle.sm_world.specs.Crash.{Cell, LeavesStore, cell_after, cell_from, cell_of, covers, readable, settled, synced, torn, written}
use Rattle.sm_world.specs.Outside.{Outside, adds}
use Rattle.sm_world.specs.declared.effects.Effect.{Effect}
use Rattle.sm_world.specs.declared.events.Event.{Event}
use Rattle.sm_world.specs.declared.effects.Effect.TheVariants.{Heard, Sent, Shut, Started, Wrote, Torn, Synced, SyncFailed, Published, Printed}
use Rattle.sm_world.proofs.Cells.{cell_from-append, quiet_cells}
use Rattle.checkpoint_slots.specs.Causes.{IsSettled}
use Rattle.checkpoint_journal.specs.Writing.{all_put}
use Rattle.session_engine.specs.Carries.{IsReady}
use Rattle.session_engine.specs.Settled.{NoneInDoubt, Settle}

pub settle_none : Settle []
settle_none first before none = rw (append-nil before) none

pub settle_then : (es ds : List Effect) → Settle es → Settle ds → Settle (es ++ ds)
settle_then es ds one two first before none = rw (sym (append_assoc before es ds)) (two first (before ++ es) (one first before none))

pub settle_quiet : (effect : Effect) → LeavesStore effect → Settle (effect ∷ [])
settle_quiet effect leaves first before none =
    let same = quiet_cells first before effect leaves in
    record {
      byte = none.byte;
      reads = λ i within. same.reads i within ∙ none.reads i within;
      left = λ i other within is. none.left i other within (rw (same.left i other within) at is);
    }

-- A write, and a sync

abbrev now_byte : Bool → ℕ → ℕ → ℕ
now_byte true new old = new
now_byte false new old = old

equal_byte : (one two : ℕ) → IsTrue (one == two) → one ≡ two
equal_byte one two is = eqb-true one two is

same_byte : (byte : ℕ) → IsTrue (byte == byte)
same_byte byte = grind arith

-- the cell of one byte behind a write and a sync
put_cell : (at : ℕ) (bytes : List ℕ) (i old : ℕ) (cell : Cell) (inside : Bool) → covers at (length bytes) i ≡ inside → cell.reads ≡ Some old
    → cell_after Synced i (cell_after (Wrote at bytes) i cell) ≡ synced (if inside then written (length bytes) (slice_index bytes (i - at)) cell else cell)
unfolding cell_after
put_cell at bytes i old cell true is reads = rw is refl
put_cell at bytes i old cell false is reads = rw is refl

put_reads : (n new old : ℕ) (cell : Cell) (inside : Bool) → cell.reads ≡ Some old → (synced (if inside then written n new cell else cell)).reads ≡ Some (now_byte inside new old)
put_reads n new old cell true reads = refl
put_reads n new old cell false reads = reads

put_left : (n new old other : ℕ) (cell : Cell) (inside : Bool) → cell.reads ≡ Some old → IsTrue ((synced (if inside then written n new cell else cell)).left other) → other ≡ now_byte inside new old
put_left n new old other cell true reads is = equal_byte other new is
put_left n new old other cell false reads is = equal_byte other old (rw reads at is)

settle_put : (at : ℕ) (bytes : List ℕ) → Settle (Wrote at bytes ∷ Synced ∷ [])
settle_put at bytes first before none =
    let cell : ℕ → Cell = λ i. cell_of first before i in
    let inside : ℕ → Bool = λ i. covers at (length bytes) i in
    let now : (i : ℕ) → i < length first → cell_of first (before ++ Wrote at bytes ∷ Synced ∷ []) i ≡ synced (if inside i then written (length bytes) (slice_index bytes (i - at)) (cell i) else cell i)
    = λ i within. cell_from-append (settled (slice_index first i)) before (Wrote at bytes ∷ Synced ∷ []) i ∙ put_cell at bytes i (none.byte i) (cell i) (inside i) refl (none.reads i within) in
    record {
      byte = λ i. now_byte (inside i) (slice_index bytes (i - at)) (none.byte i);
      reads = λ i within. ap (λ (c : Cell). c.reads) (now i within) ∙ put_reads (length bytes) (slice_index bytes (i - at)) (none.byte i) (cell i) (inside i) (none.reads i within);
      left = λ i other within is. put_left (length bytes) (slice_index bytes (i - at)) (none.byte i) other (cell i) (inside i) (none.reads i within) (rw (now i within) at is);
    }

-- From the bytes to the file

abbrev bytes_to : (ℕ → ℕ) → ℕ → List ℕ
bytes_to byte zero = []
bytes_to byte (suc n) = byte 0 ∷ bytes_to (λ i. byte (i + 1)) n

length_to : (byte : ℕ → ℕ) (n : ℕ) → length (bytes_to byte n) ≡ n
length_to byte zero = refl
length_to byte (suc n) = ap suc (length_to (λ i. byte (i + 1)) n)

index_to : (byte : ℕ → ℕ) (n i : ℕ) → i < n → slice_index (bytes_to byte n) i ≡ byte i
index_to byte zero i within = absurd (omega (arith, within))
index_to byte (suc n) zero within = refl
index_to byte (suc n) (suc i) within = index_to (λ i. byte (i + 1)) n i (omega (arith, within)) ∙ ap byte (omega arith)

-- Some byte is always left

abbrev HasOne : Cell → Type 0
HasOne cell = (byte : ℕ) × IsTrue (cell.left byte)

or_right : (a b : Bool) → IsTrue b → IsTrue (a || b)
or_right true b is = refl
or_right false b is = is

or_left : (a b : Bool) → IsTrue a → IsTrue (a || b)
or_left true b is = refl
or_left false b is = absurd (false≢true is)

one_of : (reads : Option ℕ) → (byte : ℕ) × IsTrue (readable reads byte)
one_of None = (0, refl)
one_of (Some byte) = (byte, same_byte byte)

wrote_one : (inside : Bool) (n new : ℕ) (cell : Cell) → HasOne cell → HasOne (if inside then written n new cell else cell)
wrote_one true n new cell one = (one.0, or_right (nat_le 2 n) (cell.left one.0 || (one.0 == new)) (or_left (cell.left one.0) (one.0 == new) one.1))
wrote_one false n new cell one = one

tore_one : (inside : Bool) (n : ℕ) (cell : Cell) → HasOne cell → HasOne (if inside then torn n cell else cell)
tore_one true n cell one = (one.0, or_right (nat_le 2 n) (cell.left one.0) one.1)
tore_one false n cell one = one

after_one : (effect : Effect) (i : ℕ) (cell : Cell) → HasOne cell → HasOne (cell_after effect i cell)
unfolding cell_after
after_one (Heard event) i cell one = one
after_one (Sent conn bytes) i cell one = one
after_one (Shut conn) i cell one = one
after_one (Started command succeeded) i cell one = one
after_one (Wrote at bytes) i cell one = wrote_one (covers at (length bytes) i) (length bytes) (slice_index bytes (i - at)) cell one
after_one (Torn at n) i cell one = tore_one (covers at n i) n cell one
after_one Synced i cell one = one_of cell.reads
after_one SyncFailed i cell one = one
after_one (Published path bytes) i cell one = one
after_one (Printed text) i cell one = one

from_one : (effects : List Effect) (i : ℕ) (cell : Cell) → HasOne cell → HasOne (cell_from cell effects i)
from_one [] i cell one = one
from_one (effect ∷ effects) i cell one = from_one effects i (cell_after effect i cell) (after_one effect i cell one)

-- Two stores whose bytes read alike

after_reads : (effect : Effect) (i : ℕ) (one two : Cell) → one.reads ≡ two.reads → (cell_after effect i one).reads ≡ (cell_after effect i two).reads
unfolding cell_after
after_reads (Heard event) i one two same = same
after_reads (Sent conn bytes) i one two same = same
after_reads (Shut conn) i one two same = same
after_reads (Started command succeeded) i one two same = same
after_reads (Wrote at bytes) i one two same = wrote_reads (covers at (length bytes) i) where
  wrote_reads : (inside : Bool) → (if inside then written (length bytes) (slice_index bytes (i - at)) one else one).reads ≡ (if inside then written (length bytes) (slice_index bytes (i - at)) two else two).reads
  wrote_reads true = refl
  wrote_reads false = same
after_reads (Torn at n) i one two same = tore_reads (covers at n i) where
  tore_reads : (inside : Bool) → (if inside then torn n one else one).reads ≡ (if inside then torn n two else two).reads
  tore_reads true = refl
  tore_reads false = same
after_reads Synced i one two same = same
after_reads SyncFailed i one two same = same
after_reads (Published path bytes) i one two same = same
after_reads (Printed text) i one two same = same

from_reads : (effects : List Effect) (i : ℕ) (one two : Cell) → one.reads ≡ two.reads → (cell_from one effects i).reads ≡ (cell_from two effects i).reads
from_reads [] i one two same = same
from_reads (effect ∷ effects) i one two same = from_reads effects i (cell_after effect i one) (cell_after effect i two) (after_reads effect i one two same)

-- The end of a run

some_byte : (one two : ℕ) → ◌≡◌ {A = Option ℕ} (Some one) (Some two) → one ≡ two
some_byte one two e = cc

-- a file of which no byte is in doubt, with no effect yet
fresh : (file : List ℕ) → NoneInDoubt file []
fresh file = record { byte = λ i. slice_index file i; reads = λ i within. refl; left = λ i other within is. equal_byte other (slice_index file i) is }

settled_in : (outside : Outside) (file : List ℕ) (is : IsSettled outside file) → NoneInDoubt is.began is.effects
settled_in outside file is = record { byte = λ i. slice_index file i; reads = λ i within. is.reads i within; left = λ i other within left. is.left i other within left }

-- effects that leave no byte in doubt, added to a world's whose store has none
pub is_ready : (file : List ℕ) (old new : Outside) (effects : List Effect) → IsSettled old file → new.first ≡ old.first → new.told ≡ adds old.told effects → Settle effects → IsReady file new effects
is_ready file old new effects is first added settle =
    let whole = settle is.began is.effects (settled_in old file is) in
    let own = settle file [] (fresh file) in
    let n : ℕ = length is.began in
    let size : length (bytes_to whole.byte n) ≡ n = length_to whole.byte n in
    let at : (i : ℕ) → i < n → slice_index (bytes_to whole.byte n) i ≡ whole.byte i = λ i within. index_to whole.byte n i within in
    let alike : (i : ℕ) → i < n → own.byte i ≡ whole.byte i = λ i within. some_byte (own.byte i) (whole.byte i)
    (sym (own.reads i (omega (arith, within, is.size))) ∙ (from_reads effects i (settled (slice_index file i)) (cell_of is.began is.effects i) (sym (is.reads i within))
    ∙ (ap (λ (c : Cell). c.reads) (sym (cell_from-append (settled (slice_index is.began i)) is.effects effects i)) ∙ whole.reads i within))) in
    record {
      left = bytes_to whole.byte n;
      settled = record {
        began = is.began;
        effects = is.effects ++ effects;
        first = first ∙ is.first;
        told = added ∙ ap (λ t. adds t effects) is.told;
        size = size;
        reads = λ i within. whole.reads i within ∙ ap (λ (b : ℕ). Some b) (sym (at i within));
        left = λ i other within left. whole.left i other within left ∙ sym (at i within);
      };
      image = record {
        size = size ∙ sym is.size;
        bytes = λ i within.
            let inside : i < n = omega (arith, within, is.size) in
            let one = from_one effects i (settled (slice_index file i)) (slice_index file i, same_byte (slice_index file i)) in
            let same : one.0 ≡ slice_index (bytes_to whole.byte n) i = own.left i one.0 within one.1 ∙ (alike i inside ∙ sym (at i inside)) in
            rw same at one.1;
      };
    }

-- all of some puts
pub settle_all : (puts : List (ℕ × List ℕ)) → Settle (all_put puts)
settle_all [] = settle_none
settle_all (put ∷ puts) = settle_then (Wrote put.0 put.1 ∷ Synced ∷ []) (all_put puts) (settle_put put.0 put.1) (settle_all puts)

-- what was done about one event more
pub settle_more : (es ds : List Effect) (event : Event) → Settle es → Settle ds → Settle (es ++ Heard event ∷ ds)
settle_more es ds event one two = settle_then es (Heard event ∷ ds) one (settle_then (Heard event ∷ []) ds (settle_quiet (Heard event) tt) two)
