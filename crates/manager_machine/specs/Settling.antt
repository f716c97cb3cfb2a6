-- How the session goes on.
use Rattle.std.specs.Prelude.{Bool, List, None, Option, cond, not, ◌≡◌}
use Rattle.round_agreement.specs.declared.wanted.Wanted.{Wanted}
use Rattle.round_agreement.specs.Agreement.{is_nil}
use Rattle.session_model.specs.Moves.{Move}
use Rattle.session_model.specs.Reading.{Reading}
use Rattle.session_model.specs.Rules.{is_free}
use Rattle.session_state.specs.Session.{Session, moved_all}
use Rattle.session_rounds.specs.Rounds.{first_wanted}

-- These moves were made, and it is told whether there was one.
abbrev pub WentOn : List Move → Bool → Session → Session → Type 0
WentOn moves went old new = (new ≡ moved_all moves old) × (went ≡ not (is_nil moves))

-- what the round that begins now is for; None where none may begin, and where none waits
abbrev pub next_wanted : Reading → Option Wanted
next_wanted r = cond (is_free r) (first_wanted r.rounds.waits) None
