use Rattle.nested_session.specs.Serving.{run_of}
use Rattle.nested_session.proofs.Promising.{nest_keeps_word, ready_again}
use Rattle.nested_session.proofs.serving.serve_nested.Goals as goal

pub returns-clause-headline : goal.returns-clause-headline
returns-clause-headline g c = nest_keeps_word c.args.config c.args.turns (run_of c.args.agent) c.args.first (g.W.Told.outside c.args.world.now) (g.W.Told.outside c.run_nested.new.world) _ c.requires.named c.run_nested.ensures.nests

pub returns-clause-ready : goal.returns-clause-ready
returns-clause-ready g c = ready_again c.args.config c.args.turns (run_of c.args.agent) c.args.first (g.W.Told.outside c.args.world.now) (g.W.Told.outside c.run_nested.new.world) _ c.run_nested.ensures.nests c.run_nested.ensures.first
