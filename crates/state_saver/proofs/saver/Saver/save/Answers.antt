use Rattle.std.proofs.Common.{inl, inr}
use Rattle.state_saver.proofs.SaveLaws.{first_answers, lawful_by, second_answers, talk_answers, talk_lawful, talk_two_answers}
use Rattle.state_saver.proofs.saver.Saver.save.Goals as goal

pub returns-in-First-clause-answers : goal.returns-in-First-clause-answers
returns-in-First-clause-answers g c = first_answers c.save_state.result c.args.self.now.plan c.args.ask _ _ c.in-First.is (rw c.as_slice.ensures at c.save_state.ensures.tried)

pub returns-in-First-clause-lawful : goal.returns-in-First-clause-lawful
returns-in-First-clause-lawful g c = lawful_by c.save_state.result c.args.self.now.plan c.as_slice.result.now _ _ c.args.ask.ask (inl c.in-First.is) c.save_state.ensures.tried c.save_state.ensures.few

pub returns-in-Second-clause-answers : goal.returns-in-Second-clause-answers
returns-in-Second-clause-answers g c = second_answers c.save_state-in-Second.result c.args.self.now.plan c.args.ask _ _ c.in-Second.is (rw c.as_slice-in-Second.ensures at c.save_state-in-Second.ensures.tried)

pub returns-in-Second-clause-lawful : goal.returns-in-Second-clause-lawful
returns-in-Second-clause-lawful g c = lawful_by c.save_state-in-Second.result c.args.self.now.plan c.as_slice-in-Second.result.now _ _ c.args.ask.ask (inr c.in-Second.is) c.save_state-in-Second.ensures.tried c.save_state-in-Second.ensures.few

pub returns-in-Talking-clause-answers : goal.returns-in-Talking-clause-answers
returns-in-Talking-clause-answers g c = talk_answers c.bare_answer.result c.args.self.now.plan c.args.ask c.args.self.now.number (g.F.Told.outside c.args.self.now.files.now) c.in-Talking.is c.bare_answer.ensures

pub returns-in-Talking-clause-lawful : goal.returns-in-Talking-clause-lawful
returns-in-Talking-clause-lawful g c = talk_lawful c.bare_answer.result c.args.ask.ask (inl c.in-Talking.is) c.bare_answer.ensures

pub returns-clause-answers : goal.returns-clause-answers
returns-clause-answers g c = talk_two_answers c.bare_answer-in-TalkingTwo.result c.args.self.now.plan c.args.ask c.args.self.now.number (g.F.Told.outside c.args.self.now.files.now) c.in-TalkingTwo.is c.bare_answer-in-TalkingTwo.ensures

pub returns-clause-lawful : goal.returns-clause-lawful
returns-clause-lawful g c = talk_lawful c.bare_answer-in-TalkingTwo.result c.args.ask.ask (inr c.in-TalkingTwo.is) c.bare_answer-in-TalkingTwo.ensures
