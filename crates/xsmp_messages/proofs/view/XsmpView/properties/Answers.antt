use Rattle.std.proofs.Common.{◌≡◌, slice_index, arith}
use Rattle.xsmp_messages.proofs.ViewLaws.{minor_read, walks_none, walks_set, walks_reply}
use Rattle.xsmp_messages.proofs.view.XsmpView.properties.Goals as goal

pub returns-in-12 : goal.returns-in-12
returns-in-12 c = λ m is.
    let bytes = c.args.self.now.frame.now in
    let at : slice_index bytes 1 ≡ 12 = omega (arith, c.in-12.is) in
    walks_set c.args.self.now.endian bytes m c.walk_body.result at is c.walk_body.ensures

pub returns-in-15 : goal.returns-in-15
returns-in-15 c = λ m is.
    let bytes = c.args.self.now.frame.now in
    let at : slice_index bytes 1 ≡ 15 = omega (arith, c.in-15.is) in
    walks_reply c.args.self.now.endian bytes m c.walk_body-in-15.result at is c.walk_body-in-15.ensures

pub returns-in_default : goal.returns-in_default
returns-in_default c = λ m is.
    let bytes = c.args.self.now.frame.now in
    let minor = minor_read c.args.self.now.endian bytes m c.args.self.now.framed is in
    walks_none c.args.self.now.endian (slice_index bytes 1) m minor (λ same. omega (arith, same)) (λ same. omega (arith, same))
