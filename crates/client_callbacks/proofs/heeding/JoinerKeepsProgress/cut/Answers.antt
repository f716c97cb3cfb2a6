use Rattle.client_callbacks.proofs.DoingLaws.{carries_never}
use Rattle.client_callbacks.proofs.heeding.JoinerKeepsProgress.cut.Goals as goal

pub returns-in-Err-clause-never : goal.returns-in-Err-clause-never
returns-in-Err-clause-never g c = carries_never g.S.Saves.answers g.D.Dies.gives g.C.Cancels.hears
