use Rattle.std.proofs.Common.{◌∙◌, ap}
use Rattle.std.specs.Prelude.{Some}
use Rattle.session_model.specs.Moves.{Began}
use Rattle.session_model.specs.Reading.{wanted_in}
use Rattle.session_rounds.specs.Rounds.{Running, running_after}
use Rattle.session_rounds.specs.contracts.running.RunningRound.{the_view}
use Rattle.session_rounds.proofs.running.RunningRound.begin.Goals as goal

pub returns : goal.returns
returns c = λ phases.
    let r = the_view c.self.inside in
    (λ i. record {
      round = Some (record { members = c.in_ok-round.ensures.members i; began_empty = c.in_ok-round.ensures.empty i; wanted = c.in_ok-round.ensures.wanted i });
      marks = c.begun-self-inside.ensures c.args.conns (wanted_in r.round) i;
    })
    ∙ ap (λ (x : Running). running_after (Began c.args.conns c.args.wanted) phases x) c.self.view_is
