-- How the book of a session stands in the store, which is the same whichever session runs.
use Rattle.checkpoint_records.specs.Books.{choose, default_name}
use Rattle.checkpoint_records.specs.declared.records.Book.{Book}

-- The session is chosen that is called where no name is said.
unfoldable pub as_stored : Book → Book
as_stored book = choose default_name book
