-- What a login to a session finds: whether much of the session was lost since it began last, whether the store was, and what may come back.
use Rattle.std.specs.Prelude.{ℕ, ◌*◌, ◌==◌, Bool, ◌&&◌, ◌||◌, nat_lt, if◌then◌else◌, List, [], ◌∷◌, length, take, filter}
use Rattle.std.specs.Str.{bytes_eq}
use Rattle.checkpoint_records.specs.Books.{all_entries}
use Rattle.checkpoint_records.specs.declared.records.Book.{Book}
use Rattle.restart_plan.specs.Restarts.{opening_restarts}
use Rattle.kept_books.specs.Shelves.{entries_at, top_epoch}
use Rattle.kept_books.specs.declared.shelves.Kept.{Kept}

-- how many programs a login to the session starts over a book
abbrev pub starts : List ℕ → Book → ℕ
starts name book = length (opening_restarts (entries_at name book))

-- how many the session began with last, 0 where nothing is kept of it
abbrev pub began_with : List ℕ → List Kept → ℕ
began_with name [] = 0
began_with name (kept ∷ shelf) = if bytes_eq name kept.session then starts name kept.book else began_with name shelf

-- the store would start less than half of what the session began with
abbrev pub is_loss : List ℕ → List Kept → Book → Bool
is_loss name shelf present = nat_lt (2 * starts name present) (began_with name shelf)

-- the store has no checkpoint, though a book was kept of one that had: it was lost, and made anew
abbrev pub is_lost : List Kept → Book → Bool
is_lost shelf present = nat_lt 0 (top_epoch shelf) && (present.epoch == 0)

-- what may come back: what is kept of the session and starts something, or, where the store was lost, what has an entry of any session
abbrev pub may_be_offered : Bool → List ℕ → Kept → Bool
may_be_offered lost name kept = if lost then nat_lt 0 (length (all_entries kept.book)) else bytes_eq name kept.session && nat_lt 0 (starts name kept.book)

-- the newest five of it
abbrev pub offered : List ℕ → List Kept → Book → List Kept
offered name shelf present = take 5 (filter (may_be_offered (is_lost shelf present) name) shelf)

-- something was lost, and something may come back
abbrev pub must_ask : List ℕ → List Kept → Book → Bool
must_ask name shelf present = (is_loss name shelf present || is_lost shelf present) && nat_lt 0 (length (offered name shelf present))

-- the store is behind what was kept, so nobody knows which IDs were given since
abbrev pub is_behind : List Kept → Book → Bool
is_behind shelf present = nat_lt present.epoch (top_epoch shelf)
