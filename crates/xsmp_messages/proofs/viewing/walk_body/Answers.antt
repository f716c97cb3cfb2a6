use Rattle.std.proofs.Common.{drop}
use Rattle.xsmp_messages.proofs.ViewLaws.{walks_body, no_walk}
use Rattle.xsmp_messages.proofs.viewing.walk_body.Goals as goal

pub returns-in-Ok : goal.returns-in-Ok
returns-in-Ok c = λ list is.
    let body = c.split_at.result.1.now in
    let found = c.in-Ok.found in
    walks_body c.args.endian c.args.frame.now body list found.0 (drop found.1 body) c.split_at.ensures.back is c.in-Ok.ensures.exact.0 c.in-Ok.ensures.exact.1

pub returns-in-Err : goal.returns-in-Err
returns-in-Err c = λ list is. no_walk c.args.endian c.args.frame.now c.split_at.result.1.now list c.split_at.ensures.back is c.in-Err.ensures.exact
