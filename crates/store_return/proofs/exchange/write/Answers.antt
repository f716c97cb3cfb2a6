use Rattle.std.proofs.Common.{rules, ◌<◌, ◌^◌, refl}
use Rattle.checkpoint_slots.specs.Turns.{HasRoomFor}
use Rattle.checkpoint_slots.proofs.Turning.{added-by}
use Rattle.checkpoint_journal.specs.Journal.{size_of}
use Rattle.store_return.proofs.Exchanging.{appended, appended_not, compacted, compacted_not, why_exchanged_not}
use Rattle.store_return.proofs.exchange.write.Goals as goal

pub returns-in-Ok-clause-effects : goal.returns-in-Ok-clause-effects
returns-in-Ok-clause-effects g c = λ old applied.
    let room : HasRoomFor c.args.journal (size_of c.args.delta.now) = c.if-fits.ensures.0 refl in
    let epoch : c.args.new.now.epoch < 2 ^ 32 = search rules in
    added-by (λ es did. appended c.args.journal old c.args.new.now c.args.delta.now room c.requires.changes applied c.requires.rules epoch c.in-Ok.journal es did) c.in-Ok.ensures.effects

pub returns-in-Err-clause-effects : goal.returns-in-Err-clause-effects
returns-in-Err-clause-effects g c = λ old applied.
    let room : HasRoomFor c.args.journal (size_of c.args.delta.now) = c.if-fits.ensures.0 refl in
    let epoch : c.args.new.now.epoch < 2 ^ 32 = search rules in
    added-by (λ es did. appended_not c.args.journal old c.args.new.now c.args.delta.now room c.requires.changes applied c.requires.rules epoch c.in-Err.field-0-0 c.in-Err.fault es did) c.in-Err.ensures.effects

pub returns-in-Err-clause-why_not : goal.returns-in-Err-clause-why_not
returns-in-Err-clause-why_not g c =
    let did = c.in-Err.ensures.effects in
    why_exchanged_not c.args.journal did.effects c.in-Err.field-0-0 c.in-Err.fault did.holds.why_not

pub returns-in-Ok-compact-clause-effects : goal.returns-in-Ok-compact-clause-effects
returns-in-Ok-compact-clause-effects g c = λ old applied. added-by (λ es did. compacted c.args.journal old c.args.new.now c.args.delta.now c.in-Ok-compact.journal es did) c.in-Ok-compact.ensures.effects

pub returns-in-Err-compact-clause-effects : goal.returns-in-Err-compact-clause-effects
returns-in-Err-compact-clause-effects g c = λ old applied.
    added-by (λ es did. compacted_not c.args.journal old c.args.new.now c.args.delta.now c.in-Err-compact.field-0-0 c.in-Err-compact.fault es did) c.in-Err-compact.ensures.effects

pub returns-in-Err-compact-clause-why_not : goal.returns-in-Err-compact-clause-why_not
returns-in-Err-compact-clause-why_not g c =
    let did = c.in-Err-compact.ensures.effects in
    why_exchanged_not c.args.journal did.effects c.in-Err-compact.field-0-0 c.in-Err-compact.fault did.holds.why_not
