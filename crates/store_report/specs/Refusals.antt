-- Why no session begins over a store that stands for a book.
use Rattle.std.specs.Prelude.{ℕ, Bool, false, nat_lt, ◌==◌, if◌then◌else◌, List, [], length, codes, Option, None, Some}
use Rattle.checkpoint_records.specs.Books.{choose}
use Rattle.checkpoint_records.specs.declared.records.Book.{Book}
use Rattle.store_report.specs.declared.finding.Finding.{Finding}
use Rattle.store_report.specs.declared.finding.Finding.TheVariants.{Opens, Damaged, WrongSize}
use Rattle.store_report.specs.declared.refusals.Refusal.{Refusal}
use Rattle.store_report.specs.declared.refusals.Refusal.TheVariants.{Disk, TooManySessions, Worn}

-- beside a session of this name there would be more than seven others
abbrev pub is_crowded : List ℕ → Book → Bool
is_crowded name book = nat_lt 7 (length (choose name book).others)

-- where no name is said, there is room for each session that the store has
abbrev pub is_crowded_for : Option (List ℕ) → Book → Bool
is_crowded_for None book = false
is_crowded_for (Some name) book = is_crowded name book

-- first there is no room, and then the epoch can't be raised
abbrev pub refusal_over : Option (List ℕ) → Book → Option Refusal
refusal_over session book =
    if is_crowded_for session book then Some TooManySessions else if book.epoch == 4294967295 then Some Worn else None

abbrev pub refusal_of : Option (List ℕ) → Finding → Option Refusal
refusal_of session (Opens book) = refusal_over session book
refusal_of session (Damaged at) = None
refusal_of session (WrongSize size) = None

-- the line and the status of such a session
abbrev pub refusal_line : Refusal → List ℕ
refusal_line Disk = codes "smd: disk fault\n"
refusal_line TooManySessions = codes "smd: too many sessions\n"
refusal_line Worn = codes "smd: store worn\n"

abbrev pub refusal_lines : Option Refusal → List ℕ
refusal_lines None = []
refusal_lines (Some refusal) = refusal_line refusal

abbrev pub refusal_status : Refusal → ℕ
refusal_status Disk = 4
refusal_status TooManySessions = 12
refusal_status Worn = 8
