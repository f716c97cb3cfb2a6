use Rattle.std.proofs.Common.{◌≤◌, arith, length}
use Rattle.ice_setup.proofs.OpenerSaid.{proof_said}
use Rattle.ice_setup.proofs.opening.shows_cookie.Goals as goal

pub returns-clause-said : goal.returns-clause-said
returns-clause-said c =
    let few : length c.in_ok-proof.proof ≤ 65528 = omega (arith, c.in_ok-proof.ensures.count) in
    proof_said c.in_ok-proof.proof few
