use Rattle.smwrap_app.proofs.TellLaws.{tells_answers}
use Rattle.smwrap_app.proofs.laws.a_client_tells_what_it_answers.Goals as goal

pub returns : goal.returns
returns c = tells_answers
