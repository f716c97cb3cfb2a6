use Rattle.std.proofs.Common.{Ok, refl}
use Rattle.ice_cookie.specs.Meaning.{Spells}
use Rattle.ice_cookie.specs.Spelling.{list_bytes}
use Rattle.ice_cookie.proofs.AuthorityLaws.{stands_for_one}
use Rattle.ice_cookie.proofs.laws.entries_read_back.Goals as goal

pub returns : goal.returns
returns c = λ entries fit.
    let spells : Spells (list_bytes entries) entries = record { fit = fit; is = refl } in
    (spells, λ answer stands. stands_for_one (list_bytes entries) answer (Ok entries) stands spells)
