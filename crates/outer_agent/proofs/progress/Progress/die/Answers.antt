use Rattle.std.proofs.Common.{◌∙◌, [], ap, arith, refl}
use Rattle.client_engine.specs.Answering.{closes}
use Rattle.outer_agent.specs.declared.acts.AgentAct.TheVariants.{Shutdown}
use Rattle.outer_agent.specs.Doing.{keeper_of}
use Rattle.outer_agent.proofs.HeedLaws.{died_keeper, sent_and}
use Rattle.outer_agent.proofs.progress.Progress.die.Goals as goal

pub say-requires : goal.say-requires
say-requires c = c.closing-message.ensures.short (rw c.new.ensures (record { count = omega arith; short = tt }))

pub returns-clause-acts : goal.returns-clause-acts
returns-clause-acts c = sent_and c.push.result c.args.acts.now c.say.new.acts c.push.new.self c.closing-message.result (closes []) Shutdown (c.closing-message.ensures.message ∙ ap closes c.new.ensures) c.in_ok-say.ensures c.push.ensures.ok

pub returns-clause-keeper : goal.returns-clause-keeper
returns-clause-keeper c = died_keeper c.push.result (keeper_of c.args.self.now) (keeper_of c.args.self.now) c.requires refl
