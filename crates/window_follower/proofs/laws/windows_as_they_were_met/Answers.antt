use Rattle.std.proofs.Common.{refl}
use Rattle.window_follower.specs.Examples.{Examples}
use Rattle.window_follower.proofs.laws.windows_as_they_were_met.Goals as goal

worked : Examples
worked = record {
  editor = refl;
  no_delete = refl;
  plain_dialog = refl;
  typeless_dialog = refl;
  stranger_s = refl;
  panel = refl;
  desktop = refl;
  splash = refl;
  tooltip = refl;
  empty_state = refl;
  iconified = refl;
  iconified_stays = refl;
  iconified_leaves = refl;
  namespace = refl;
  other_machine = refl;
  no_machine = refl;
  answered = refl;
  passed_over = refl;
  unasked = refl;
}

pub returns : goal.returns
returns c = worked
