use Rattle.std.proofs.Common.{rules, ◌<◌, ◌^◌, refl}
use Rattle.std.proofs.lemmas.Bool.{false≢true}
use Rattle.checkpoint_slots.specs.Turns.{HasRoomFor}
use Rattle.checkpoint_slots.proofs.Turning.{added-by}
use Rattle.checkpoint_journal.specs.Journal.{size_of}
use Rattle.session_engine.proofs.Writing.{append_writes, append_writes_not, compact_writes, compact_writes_not}
use Rattle.session_engine.proofs.store.write.Goals as goal

pub returns-in-Ok-clause-effects : goal.returns-in-Ok-clause-effects
returns-in-Ok-clause-effects g c = λ old makes.
    let room : HasRoomFor c.args.journal (size_of c.args.delta.now) = c.if-fits.ensures.0 refl in
    let epoch : c.args.book.now.epoch < 2 ^ 32 = search rules in
    added-by (λ es did. append_writes c.args.journal old c.args.book.now c.args.delta.now room c.requires.rules epoch makes c.in-Ok.journal es c.in-Ok.ensures.numbered did) c.in-Ok.ensures.effects

pub returns-in-Err-clause-effects : goal.returns-in-Err-clause-effects
returns-in-Err-clause-effects g c = λ old makes.
    let room : HasRoomFor c.args.journal (size_of c.args.delta.now) = c.if-fits.ensures.0 refl in
    let epoch : c.args.book.now.epoch < 2 ^ 32 = search rules in
    added-by (λ es did. append_writes_not c.args.journal old c.args.book.now c.args.delta.now room c.requires.rules epoch makes c.in-Err.field-0-0 c.in-Err.fault es c.in-Err.ensures.numbered did) c.in-Err.ensures.effects

pub returns-in-Ok-compact-clause-effects : goal.returns-in-Ok-compact-clause-effects
returns-in-Ok-compact-clause-effects g c = λ old makes.
    added-by (λ es did. compact_writes c.args.journal old c.args.book.now c.args.delta.now (λ room. false≢true (c.if-fits.ensures.1 room)) makes c.in-Ok-compact.journal es c.in-Ok-compact.ensures.numbered did) c.in-Ok-compact.ensures.effects

pub returns-in-Err-compact-clause-effects : goal.returns-in-Err-compact-clause-effects
returns-in-Err-compact-clause-effects g c = λ old makes.
    added-by (λ es did. compact_writes_not c.args.journal old c.args.book.now c.args.delta.now (λ room. false≢true (c.if-fits.ensures.1 room)) makes c.in-Err-compact.field-0-0 c.in-Err-compact.fault es c.in-Err-compact.ensures.numbered did) c.in-Err-compact.ensures.effects
