use Rattle.std.proofs.Common.{List, sym, subst}
use Rattle.ice_values.specs.declared.numbers.Endian.TheVariants.{Lsb}
use Rattle.ice_values.specs.declared.property.Property.{Property}
use Rattle.protocol_messages.specs.declared.message.Message.TheVariants.{Xsmp}
use Rattle.xsmp_messages.specs.Messages.{IsTooLong}
use Rattle.xsmp_messages.specs.declared.message.XsmpMessage.TheVariants.{SetProperties}
use Rattle.outer_agent.specs.Doing.{keeper_of}
use Rattle.outer_agent.specs.Script.{own_set}
use Rattle.outer_agent.specs.declared.acts.AgentAct.TheVariants.{Checkpoint}
use Rattle.outer_agent.proofs.HeedLaws.{own_set_of, sent_and}
use Rattle.outer_agent.proofs.WordLaws.{own_short}
use Rattle.outer_agent.proofs.progress.Progress.save.Goals as goal

pub say-requires : goal.say-requires
say-requires c =
    subst (λ (set : List Property). ¬ (IsTooLong Lsb (SetProperties set))) (sym c.in_ok-properties.ensures)
    (own_short c.as_slice.result.now c.id.result.now (rw c.as_slice.ensures c.args.self.now.few))

pub returns : goal.returns
returns c =
    let keeper = keeper_of c.args.self.now in
    sent_and c.push.result c.args.acts.now c.say.new.acts c.push.new.self (Xsmp (SetProperties c.in_ok-properties.properties)) (own_set keeper) Checkpoint
    (own_set_of keeper c.in_ok-properties.properties c.as_slice.result.now c.id.result.now c.in_ok-properties.ensures c.as_slice.ensures c.id.ensures) c.in_ok-say.ensures c.push.ensures.ok
