use Rattle.std.proofs.Common.{subst, ◌≤◌}
use Rattle.std.proofs.lemmas.Result.{on_ok_weaker}
use Rattle.ice_values.specs.Cells.{byte}
use Rattle.xsmp_messages.specs.Messages.{minor_of, layout}
use Rattle.xsmp_messages.proofs.HeadLaws.{adds_headed}
use Rattle.xsmp_messages.proofs.Dispatch.{canon_is_frame}
use Rattle.xsmp_messages.proofs.encoding.put_message.Goals as goal

pub returns-clause-ok : goal.returns-clause-ok
returns-clause-ok c =
    on_ok_weaker c.put_padded.result
    (λ h. adds_headed c.args.endian c.args.opcode (minor_of c.args.message.now) c.args.count c.pad-padding.result (layout byte c.args.endian c.args.message.now).0 (layout byte c.args.endian c.args.message.now).1
    c.args.out.now c.head-head.result c.put_bytes.new.out c.put_padded.new.out c.requires.body c.pad-padding.ensures.is
    c.head-head.ensures c.in_ok-put_bytes.ensures.ok h)
    c.put_padded.ensures.ok

pub returns-clause-frame : goal.returns-clause-frame
returns-clause-frame c = on_ok_weaker c.put_padded.result (λ h. canon_is_frame c.args.endian c.args.opcode c.args.message.now c.requires.fits (subst (λ n. n ≤ 65536) c.requires.body c.requires.bound)) c.put_padded.ensures.ok
