use Rattle.std.proofs.Common.{◌==◌, length, sym}
use Rattle.std.proofs.lemmas.Bool.{ltb-true}
use Rattle.session_books.proofs.PlaceLaws.{any_at}
use Rattle.session_books.proofs.entries.is_at.Goals as goal

pub returns-in-Some : goal.returns-in-Some
returns-in-Some c = λ same.
    let conns = c.args.conns.now in
    any_at (λ other. other == c.args.conn) conns c.args.place c.in-Some.other.now _ (ltb-true c.args.place (length conns) (sym c.in-Some.ensures.lookup.0)) c.in-Some.ensures.lookup.1 same
