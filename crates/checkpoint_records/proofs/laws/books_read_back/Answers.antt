use Rattle.std.proofs.Common.{Ok, refl}
use Rattle.checkpoint_records.specs.Spelling.{book_bytes, Spells}
use Rattle.checkpoint_records.specs.declared.head.Format.TheVariants.{Several}
use Rattle.checkpoint_records.proofs.BookLaws.{stands_for_one}
use Rattle.checkpoint_records.proofs.laws.books_read_back.Goals as goal

pub returns : goal.returns
returns c = λ book rules epoch chosen.
    let spells : Spells Several (book_bytes book) book = record { rules = rules; epoch = epoch; chosen = chosen; allowed = tt; is = refl } in
    ((Several, spells), λ answer stands. stands_for_one (book_bytes book) answer (Ok book) stands (Several, spells))
