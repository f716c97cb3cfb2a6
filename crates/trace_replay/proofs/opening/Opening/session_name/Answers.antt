use Rattle.std.proofs.Common.{◌≡◌, List, None, Option, ℕ, rules}
use Rattle.trace_replay.proofs.OpeningLemmas.{session_meant}
use Rattle.trace_replay.proofs.opening.Opening.session_name.Goals as goal

pub returns-in-None : goal.returns-in-None
returns-in-None c =
    let none : ◌≡◌ {A = Option (List ℕ)} c.args.self.now.session None = search rules in
    session_meant c.args.self.now none
