use Rattle.std.proofs.Common.{refl}
use Rattle.program_keeper.proofs.laws.rows_are_worked.Goals as goal

pub returns : goal.returns
returns c = record {
  talk = record { nothing = refl; fixed = refl; lowest = refl; busy = refl; before = refl; new = refl; old = refl; second = refl; silent = refl; shown = refl; seen = refl; hasty = refl; again = refl; enough = refl; typing = refl; typed = refl };
  idle = λ joined counts id set. record { logout = refl; save = refl; ended = refl; bare = refl; early = refl; old = refl; late = refl; failed = refl };
  talking = λ joined counts id set. record { token = refl; gone = refl; starting = refl; came = refl; cancelled = refl; pinged = refl };
  answered = λ joined counts id set. record { stays = refl; restarts = refl; left = refl; shows = refl; complete = refl };
  dying = λ joined counts id set. record { plain = refl; closed = refl; gone = refl; late = refl; ended = refl };
}
