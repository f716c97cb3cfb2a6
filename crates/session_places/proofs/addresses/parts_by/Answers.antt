use Rattle.std.proofs.Common.{◌≡◌, ◌++◌}
use Rattle.std.proofs.lemmas.Bool.Decides.{Decides-eqb}
use Rattle.std.proofs.lemmas.Slice.Eq.{strip_prefix_is}
use Rattle.session_places.proofs.ListLaws.{by_split, not_by_word}
use Rattle.session_places.proofs.addresses.parts_by.Goals as goal

pub returns-in-Some : goal.returns-in-Some
returns-in-Some c =
    let begins : c.args.address.now ≡ c.args.word.now ++ c.in-Some.rest.now = rw c.in-Some.is at (strip_prefix_is Decides-eqb c.args.address.now c.args.word.now c.strip_prefix.result c.strip_prefix.ensures.cases) in
    by_split c.args.word.now c.args.address.now c.in-Some.rest.now c.split_at_last.result begins c.split_at_last.ensures

pub returns-in-None : goal.returns-in-None
returns-in-None c = not_by_word c.args.word.now c.args.address.now (rw c.in-None.is at (strip_prefix_is Decides-eqb c.args.address.now c.args.word.now c.strip_prefix.result c.strip_prefix.ensures.cases))
