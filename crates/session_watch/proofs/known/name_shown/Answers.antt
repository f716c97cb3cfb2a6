use Rattle.std.proofs.Common.{◌∙◌, sym, ap, Some}
use Rattle.session_watch.specs.Knowing.{name_in}
use Rattle.session_watch.proofs.known.name_shown.Goals as goal

pub returns-in_ok-shown_name-in-Some : goal.returns-in_ok-shown_name-in-Some
returns-in_ok-shown_name-in-Some c = ap Some c.in_ok-shown_name-in-Some.ensures ∙ sym (ap name_in c.in-Some.ensures)

pub returns-in-None : goal.returns-in-None
returns-in-None c = sym (ap name_in c.in-None.ensures.0)
