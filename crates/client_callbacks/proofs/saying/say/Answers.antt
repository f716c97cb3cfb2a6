use Rattle.std.proofs.Common.{◌≡◌, rules}
use Rattle.client_engine.specs.Messages.{spelled}
use Rattle.client_callbacks.proofs.DoingLaws.{links_sends}
use Rattle.client_callbacks.proofs.saying.say.Goals as goal

pub returns-in-Ok : goal.returns-in-Ok
returns-in-Ok g c =
    let is : c.as_slice.result.now ≡ spelled c.args.message.now = search rules in
    links_sends (g.P.Told.outside c.args.peer.now) (g.P.Told.outside c.deliver.new.self) c.args.message.now c.as_slice.result.now c.deliver.result is c.deliver.ensures.effects c.deliver.ensures.uses
