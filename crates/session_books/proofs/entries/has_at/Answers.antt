use Rattle.std.proofs.Common.{length, sym, rules}
use Rattle.std.proofs.lemmas.Bool.{ltb-true}
use Rattle.session_model.specs.Tables.{is_of}
use Rattle.session_books.proofs.PlaceLaws.{found_at}
use Rattle.session_books.proofs.entries.has_at.Goals as goal

pub returns-in-Some : goal.returns-in-Some
returns-in-Some c = λ same.
    let entries = c.args.entries.now in
    found_at (is_of c.args.id.now) entries c.args.place c.in-Some.entry.now _ (ltb-true c.args.place (length entries) (sym c.in-Some.ensures.lookup.0)) c.in-Some.ensures.lookup.1 (search rules)
