use Rattle.std.proofs.Common.{refl}
use Rattle.nested_session.proofs.laws.a_save_is_told.Goals as goal

pub returns : goal.returns
returns c = λ config standing joined counts id asked words. refl
