use Rattle.session_model.proofs.TidyRun.{messages-fit}
use Rattle.session_model.proofs.laws.messages_fit.Goals as goal

pub returns : goal.returns
returns c = messages-fit
