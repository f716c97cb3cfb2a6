use Rattle.program_keeper.proofs.AnswerLaws.{saves_are_answered}
use Rattle.program_keeper.proofs.laws.saves_are_answered.Goals as goal

pub returns : goal.returns
returns c = saves_are_answered
