use Rattle.std.proofs.Common.{refl}
use Rattle.sm_world.specs.declared.effects.Effect.TheVariants.{Printed}
use Rattle.session_recorder.specs.declared.progress.Progress.TheVariants.{Recording}
use Rattle.session_recorder.proofs.Noting.{begins-told, lost-told, starved-told}
use Rattle.session_recorder.proofs.record.Record.note_printed.Goals as goal

pub returns-in-Waiting-clause-keeps : goal.returns-in-Waiting-clause-keeps
returns-in-Waiting-clause-keeps g c = λ told text line. begins-told c.args.self.now.opening c.args.self.now.progress Recording (Printed text) c.in-Waiting.is refl refl told _

pub returns-in-Recording-clause-keeps : goal.returns-in-Recording-clause-keeps
returns-in-Recording-clause-keeps g c = λ told text line. c.keep.ensures.keeps told (Printed text) line

pub returns-in-Lost-clause-keeps : goal.returns-in-Lost-clause-keeps
returns-in-Lost-clause-keeps g c = λ told text line. lost-told c.args.self.now.opening c.args.self.now.progress (Printed text) c.in-Lost.is told _

pub returns-in-Starved-clause-keeps : goal.returns-in-Starved-clause-keeps
returns-in-Starved-clause-keeps g c = λ told text line. starved-told c.args.self.now.opening c.args.self.now.progress (Printed text) c.in-Starved.is told _
