use Rattle.std.proofs.Common.{slice_index}
use Rattle.ice_values.proofs.DecodeLaws.{is_spelled}
use Rattle.xsmp_messages.specs.Messages.{Spells, Refused}
use Rattle.xsmp_messages.specs.Reading.{decode_at}
use Rattle.xsmp_messages.proofs.Dispatch.{decode_caused}
use Rattle.xsmp_messages.proofs.view.XsmpView.bytes.Goals as goal

pub returns-clause-spells : goal.returns-clause-spells
returns-clause-spells c = λ m is.
    let e = c.args.self.now.endian in
    let bytes = c.args.self.now.frame.now in
    is_spelled (λ m. Spells e (slice_index bytes 0) m bytes) (Refused e bytes) (decode_at e bytes) m (decode_caused e bytes c.args.self.now.framed) is
