use Rattle.window_follower.proofs.Sending.{few, mark}
use Rattle.window_follower.proofs.Coming.{comes}
use Rattle.window_follower.proofs.Fitting.{answers}
use Rattle.window_follower.proofs.Naming.{places}
use Rattle.window_follower.proofs.Leaving.{changes, first, leaves, sent}
use Rattle.window_follower.proofs.laws.windows_are_followed.Goals as goal

pub returns : goal.returns
returns c = record { sent = sent; comes = comes; leaves = leaves; changes = changes; first = first; answers = answers; places = places; few = few; mark = mark }
