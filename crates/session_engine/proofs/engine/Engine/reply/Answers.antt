use Rattle.session_engine.proofs.Brought.{answers-heard, answers-plain}
use Rattle.session_engine.proofs.Showing.{given}
use Rattle.session_engine.proofs.engine.Engine.reply.Goals as goal

pub returns-in-Answers : goal.returns-in-Answers
returns-in-Answers c = rw c.in-Answers.is (given c.answer.result c.answer.ensures (λ answers. λ answer before (is, same).
    answers-plain c.args.conn c.in-Answers.answer answer before c.args.self.now c.answer.new.self is same answers))

pub returns-in-Did : goal.returns-in-Did
returns-in-Did c = rw c.in-Did.is (given c.follow_all.result c.follow_all.ensures (λ follows. λ answer before (message, sequence, frame, is, heard).
    answers-heard c.args.conn c.in-Did.acts message sequence frame answer before c.args.self.now c.follow_all.new.self is heard follows))
