-- Books that are put together from parts.
use Rattle.std.specs.Prelude.{◌≡◌, false}
use Rattle.std.specs.List.{AllByRecursion, IsDistinct, list_any}
use Rattle.std.specs.Str.{bytes_eq}
use Rattle.checkpoint_records.specs.Books.{all_entries, default_name, names_of}
use Rattle.checkpoint_records.specs.Rules.{AreRising, IsCommand, IsEntry, IsStored, ids_of}
use Rattle.checkpoint_records.specs.declared.records.Book.{Book}

-- Each part could stand in some book in which `default` is chosen, no two entries have the same ID, and the sessions stand in order.
pub record HasParts (book : Book) : Type 0 where
  pub entries : AllByRecursion (IsEntry 4294967295) (all_entries book)
  pub commands : AllByRecursion IsCommand book.pending
  pub ids_differ : IsDistinct bytes_eq (ids_of (all_entries book))
  pub chosen : book.name ≡ default_name
  pub stored : AllByRecursion IsStored book.others
  pub rising : AreRising (names_of book.others)
  pub apart : list_any (λ other. bytes_eq book.name other.name) book.others ≡ false
