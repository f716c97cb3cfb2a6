use Rattle.std.proofs.Common.{◌≡◌, ◌-◌, ◌<◌, ◌≤◌, length, arith}
use Rattle.frame_speech.proofs.Walked.{body_walked, body_too_long, body_unread}
use Rattle.frame_speech.proofs.settings.walk_body.Goals as goal

pub returns-then-saturating_sub-lt8 : goal.returns-then-saturating_sub-lt8
returns-then-saturating_sub-lt8 c =
    let body = c.split_at.result.1.now in
    let found = c.in-Ok.found in
    let few : length body - found.1 < 8 = omega (arith, c.if-saturating_sub-lt8.true, c.saturating_sub.ensures) in
    body_walked c.args.endian c.args.frame.now body found.0 found.1 c.split_at.ensures.back c.in-Ok.ensures.exact.0 c.in-Ok.ensures.exact.1 few

pub returns-else-saturating_sub-lt8 : goal.returns-else-saturating_sub-lt8
returns-else-saturating_sub-lt8 c =
    let body = c.split_at.result.1.now in
    let found = c.in-Ok.found in
    let many : 8 ≤ length body - found.1 = omega (arith, c.if-saturating_sub-lt8.false, c.saturating_sub.ensures) in
    body_too_long c.args.endian c.args.frame.now body found.0 found.1 c.split_at.ensures.back c.in-Ok.ensures.exact.1 many

pub returns-in-Err : goal.returns-in-Err
returns-in-Err c = body_unread c.args.endian c.args.frame.now c.split_at.result.1.now c.split_at.ensures.back c.in-Err.ensures.exact
