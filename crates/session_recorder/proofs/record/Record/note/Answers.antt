use Rattle.session_recorder.proofs.Noting.{waits-told, lost-told, starved-told}
use Rattle.session_recorder.proofs.record.Record.note.Goals as goal

pub returns-in-Waiting-clause-keeps : goal.returns-in-Waiting-clause-keeps
returns-in-Waiting-clause-keeps g c = λ told effect plain line. waits-told c.args.self.now.opening c.args.self.now.progress effect c.in-Waiting.is plain told _

pub returns-in-Recording-clause-keeps : goal.returns-in-Recording-clause-keeps
returns-in-Recording-clause-keeps g c = λ told effect plain line. c.keep.ensures.keeps told effect line

pub returns-in-Lost-clause-keeps : goal.returns-in-Lost-clause-keeps
returns-in-Lost-clause-keeps g c = λ told effect plain line. lost-told c.args.self.now.opening c.args.self.now.progress effect c.in-Lost.is told _

pub returns-in-Starved-clause-keeps : goal.returns-in-Starved-clause-keeps
returns-in-Starved-clause-keeps g c = λ told effect plain line. starved-told c.args.self.now.opening c.args.self.now.progress effect c.in-Starved.is told _
