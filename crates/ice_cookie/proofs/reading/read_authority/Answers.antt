use Rattle.std.proofs.Common.{rules, ◌-◌, Ok, Err, length}
use Rattle.ice_cookie.proofs.AuthorityLaws.{stands_for_one, is_short, is_whole}
use Rattle.ice_cookie.proofs.reading.read_authority.Goals as goal

pub returns-in-None-clause-exact : goal.returns-in-None-clause-exact
returns-in-None-clause-exact c = λ answer stands.
    let bytes = c.args.bytes.now in
    let rest = c.loop-rest.rest.now in
    let short = is_short bytes c.loop-rest.entries rest c.loop-rest.invariant.0 c.loop-rest.invariant.1 (search rules) (search rules) in
    stands_for_one bytes answer (Err (length bytes - length rest)) stands short

pub returns-clause-exact : goal.returns-clause-exact
returns-clause-exact c = λ answer stands.
    let bytes = c.args.bytes.now in
    let whole = is_whole bytes c.loop-rest.entries c.loop-rest.rest.now c.loop-rest.invariant.0 c.loop-rest.invariant.1 (search rules) in
    stands_for_one bytes answer (Ok c.loop-rest.entries) stands whole
