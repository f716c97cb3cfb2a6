use Rattle.std.proofs.Common.{rules}
use Rattle.state_saver.specs.Saving.{shelf}
use Rattle.smwrap_app.specs.Words.{chosen_of}
use Rattle.smwrap_app.proofs.JoinLaws.{joined_with, named_with, starved_before}
use Rattle.smwrap_app.proofs.program.join.Goals as goal

pub returns-in-Err : goal.returns-in-Err
returns-in-Err g c = starved_before (chosen_of c.args.choices.now) c.args.cookie c.args.turns (g.P.Told.outside c.args.peer.now) (g.F.Told.outside c.args.files.now)

pub returns-in-Err-new : goal.returns-in-Err-new
returns-in-Err-new g c = starved_before (chosen_of c.args.choices.now) c.args.cookie c.args.turns (g.P.Told.outside c.args.peer.now) (g.F.Told.outside c.args.files.now)

pub returns : goal.returns
returns g c =
    let run = c.follow-ending.ensures c.args.cookie c.args.choices.now.id.now (search rules) in
    let named = named_with _ _ _ _ _ _ _ _ _ _ run (λ s. s.files.ghost_name) (λ f ask answer h step. step.0) in
    joined_with _ _ (chosen_of c.args.choices.now) _ _ _ _ _ _ _ run (λ s. shelf s.number (g.F.Told.outside s.files.now)) (λ s. s.plan) (λ f ask answer h step. (step.1, step.2)) (λ d reasons e step. step) _ _ (search rules) (search rules) (search (rules, named))
