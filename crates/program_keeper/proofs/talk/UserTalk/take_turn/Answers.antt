use Rattle.program_keeper.proofs.TalkLaws.{moved_by_none, moved_by_target, none_of}
use Rattle.program_keeper.proofs.talk.UserTalk.take_turn.Goals as goal

pub returns-in-Some-target-clause-may : goal.returns-in-Some-target-clause-may
returns-in-Some-target-clause-may c = moved_by_target c.args.windows.now c.args.self.now c.target.result c.in-Some-target.window c.await_answer.result c.target.ensures c.in-Some-target.is c.await_answer.ensures.moved

pub returns-in-None-clause-may : goal.returns-in-None-clause-may
returns-in-None-clause-may c = moved_by_none c.args.windows.now c.args.self.now c.target.result c.dialog.result c.ask_next.result c.target.ensures c.in-None.is c.dialog.ensures (none_of c.dialog.result c.in_default.not-Some) c.ask_next.ensures.asked
