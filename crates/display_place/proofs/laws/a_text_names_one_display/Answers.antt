use Rattle.display_place.proofs.OneName.{names_one_display}
use Rattle.display_place.proofs.laws.a_text_names_one_display.Goals as goal

pub returns : goal.returns
returns c = names_one_display
