-- Deltas of two books that hold what differs and nothing else.
use Rattle.std.specs.Prelude.{◌≡◌, ℕ, ◌==◌, Bool, not, ◌&&◌, List, [], ◌∷◌, ◌++◌, length, filter, flat_map, map, true, false, if◌then◌else◌}
use Rattle.std.specs.List.{list_any}
use Rattle.std.specs.Str.{bytes_eq}
use Rattle.std.specs.Cmp.Lexicographic.{pointwise}
use Rattle.owned_lists.specs.declared.commands.Command.{Command}
use Rattle.xsmp_properties.specs.Tables.{equal_property}
use Rattle.checkpoint_records.specs.Books.{entries_in, entries_of, others_than, sessions}
use Rattle.checkpoint_records.specs.Rules.{ids_of}
use Rattle.checkpoint_records.specs.declared.records.Book.{Book}
use Rattle.checkpoint_records.specs.declared.records.Entry.{Entry}
use Rattle.checkpoint_changes.specs.Changes.{has_entry}
use Rattle.checkpoint_changes.specs.declared.changes.Change.{Change}
use Rattle.checkpoint_changes.specs.declared.changes.Change.TheVariants.{Epoch, Pend, Put, Remove, Unpend}

-- Equal in all that they hold

abbrev pub equal_entry : Entry → Entry → Bool
equal_entry e f = bytes_eq e.id f.id && pointwise equal_property e.table f.table

abbrev pub equal_pair : List ℕ × List ℕ → List ℕ × List ℕ → Bool
equal_pair x y = bytes_eq x.0 y.0 && bytes_eq x.1 y.1

abbrev pub equal_command : Command → Command → Bool
equal_command c d = pointwise bytes_eq c.words d.words && bytes_eq c.directory d.directory && pointwise equal_pair c.environment d.environment

-- What a change brings: an epoch,
abbrev pub epoch_in : Change → List ℕ
epoch_in (Epoch epoch) = epoch ∷ []
epoch_in (Remove id) = []
epoch_in (Put name entry) = []
epoch_in (Unpend place) = []
epoch_in (Pend command) = []

-- an ID that goes,
abbrev pub removed_in : Change → List (List ℕ)
removed_in (Epoch epoch) = []
removed_in (Remove id) = id ∷ []
removed_in (Put name entry) = []
removed_in (Unpend place) = []
removed_in (Pend command) = []

-- an entry that comes into a session,
abbrev pub put_in : Change → List (List ℕ × Entry)
put_in (Epoch epoch) = []
put_in (Remove id) = []
put_in (Put name entry) = (name, entry) ∷ []
put_in (Unpend place) = []
put_in (Pend command) = []

-- the place of a pending command that goes,
abbrev pub unpended_in : Change → List ℕ
unpended_in (Epoch epoch) = []
unpended_in (Remove id) = []
unpended_in (Put name entry) = []
unpended_in (Unpend place) = place ∷ []
unpended_in (Pend command) = []

-- and a pending command that comes.
abbrev pub pended_in : Change → List Command
pended_in (Epoch epoch) = []
pended_in (Remove id) = []
pended_in (Put name entry) = []
pended_in (Unpend place) = []
pended_in (Pend command) = command ∷ []

-- the items that are the same as none of the others
abbrev pub missing_from : {K : Type 0} → (K → K → Bool) → List K → List K → List K
missing_from same others items = filter (λ x. not (list_any (same x) others)) items

-- each entry with the name of its session, in the order of the sessions
abbrev pub entries_named : Book → List (List ℕ × Entry)
entries_named book = flat_map (λ session. map (λ entry. (session.name, entry)) session.entries) (sessions book)

abbrev pub equal_named : List ℕ × Entry → List ℕ × Entry → Bool
equal_named x y = bytes_eq x.0 y.0 && equal_entry x.1 y.1

-- A delta of two books is plain where it holds the epoch exactly if it differs, the ID of each entry that only the old book has, each entry
-- that is new or whose table differs, one place for each pending command that only the old book has, and each pending command that only the
-- new book has.
pub record IsPlain (old new : Book) (delta : List Change) : Type 0 where
  pub epoch : flat_map epoch_in delta ≡ (if old.epoch == new.epoch then [] else (new.epoch ∷ []))
  pub removed : flat_map removed_in delta ≡ missing_from bytes_eq (ids_of (entries_in (sessions new))) (ids_of (entries_in (sessions old)))
  pub put : flat_map put_in delta ≡ missing_from equal_named (entries_named old) (entries_named new)
  pub unpended : length (flat_map unpended_in delta) ≡ length (missing_from equal_command new.pending old.pending)
  pub pended : flat_map pended_in delta ≡ missing_from equal_command old.pending new.pending

-- what stays keeps its order, and what is new stands last
abbrev pub KeepsOrder : {K : Type 0} → (K → K → Bool) → List K → List K → Type 0
KeepsOrder {K} same old new = (added : List K) × (new ≡ filter (λ x. list_any (same x) new) old ++ added)

-- So it is with the entries of each session, by their IDs, and with the pending commands; and no entry changes its session.
pub record KeepOrder (old new : Book) : Type 0 where
  pub entries : (name : List ℕ) → KeepsOrder bytes_eq (ids_of (entries_of name (sessions old))) (ids_of (entries_of name (sessions new)))
  pub pending : KeepsOrder equal_command old.pending new.pending
  pub stays : (name id : List ℕ) → has_entry id (entries_of name (sessions old)) ≡ true → has_entry id (entries_in (others_than name (sessions new))) ≡ false
