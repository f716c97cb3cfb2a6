-- Books byte by byte.
use Rattle.std.proofs.Common.{◌≡◌, [], ◌∷◌, refl, codes}
use Rattle.checkpoint_records.specs.Books.{choose, empty_book, sessions}
use Rattle.checkpoint_records.specs.Spelling.{book_bytes, bytes_in}
use Rattle.checkpoint_records.specs.declared.head.Format.TheVariants.{Single}
use Rattle.checkpoint_records.specs.declared.records.Book.{Book}

-- a store that was opened twice and has no session,
pub opened_twice : book_bytes (record empty_book { epoch = 2 }) ≡ 2 ∷ 0 ∷ 0 ∷ 0 ∷ 2 ∷ 0 ∷ 0 ∷ 0 ∷ 0 ∷ 0 ∷ 0 ∷ 0 ∷ 0 ∷ 0 ∷ 0 ∷ 0 ∷ []
opened_twice = refl

-- and as it stood in the first format
pub opened_before : bytes_in Single (record empty_book { epoch = 2 }) ≡ 1 ∷ 0 ∷ 0 ∷ 0 ∷ 2 ∷ 0 ∷ 0 ∷ 0 ∷ 0 ∷ 0 ∷ 0 ∷ 0 ∷ 0 ∷ 0 ∷ 0 ∷ 0 ∷ []
opened_before = refl

-- a session `s` whose one client has said nothing, behind `default`, which has no entries
abbrev one_of_s : Book
one_of_s = record { entries = []; pending = []; epoch = 1; name = codes "default"; others = record { name = codes "s"; entries = record { id = codes "smd-00000001-00000001"; table = [] } ∷ [] } ∷ [] }

pub one_session : book_bytes one_of_s ≡ 2 ∷ 0 ∷ 0 ∷ 0 ∷ 1 ∷ 0 ∷ 0 ∷ 0 ∷ 1 ∷ 0 ∷ 0 ∷ 0 ∷ 0 ∷ 0 ∷ 0 ∷ 0
    ∷ 1 ∷ 0 ∷ 0 ∷ 0 ∷ 115 ∷ 0 ∷ 0 ∷ 0 ∷ 1 ∷ 0 ∷ 0 ∷ 0 ∷ 0 ∷ 0 ∷ 0 ∷ 0
    ∷ 21 ∷ 0 ∷ 0 ∷ 0 ∷ 115 ∷ 109 ∷ 100 ∷ 45 ∷ 48 ∷ 48 ∷ 48 ∷ 48 ∷ 48 ∷ 48 ∷ 48 ∷ 49 ∷ 45 ∷ 48 ∷ 48 ∷ 48 ∷ 48 ∷ 48 ∷ 48 ∷ 48 ∷ 49 ∷ 0 ∷ 0 ∷ 0 ∷ 0 ∷ 0 ∷ 0 ∷ 0
    ∷ 0 ∷ 0 ∷ 0 ∷ 0 ∷ 0 ∷ 0 ∷ 0 ∷ 0 ∷ []
one_session = refl

-- the sessions are the same whichever is chosen
pub chosen_alike : sessions (choose (codes "s") one_of_s) ≡ sessions one_of_s
chosen_alike = refl
