use Rattle.std.proofs.Common.{refl, subst, Option, IfSome}
use Rattle.client_engine.specs.Cutting.{Cuts}
use Rattle.client_engine.specs.Speaking.{HasPlace}
use Rattle.client_engine.specs.declared.engine.Taken.{Taken}
use Rattle.session_client.proofs.Acts.{hears_some}
use Rattle.session_client.proofs.hearing.hear.Goals as goal

pub returns-in-Some : goal.returns-in-Some
returns-in-Some c =
    let cuts = subst (λ (o : Option Taken). Cuts c.args.core c.args.left.now o c.cut.new.self) c.in-Some.is c.in_ok-taken.ensures.cuts in
    let asked = subst (λ (o : Option Taken). IfSome o (λ part. HasPlace part.cue c.cut.new.self.talk.place)) c.in-Some.is c.in_ok-taken.ensures.asked in
    hears_some c.args.core c.cut.new.self c.args.left.now c.in-Some.taken c.heard_of.result cuts asked c.heard_of.ensures.gives c.heard_of.ensures.client

pub returns-in-None : goal.returns-in-None
returns-in-None c = record {
  taken = c.in_ok-taken.taken;
  after = c.cut.new.self;
  cuts = c.in_ok-taken.ensures.cuts;
  gives = rw c.in-None.is record { said = c.new.ensures; cue = refl; count = refl };
  asked = tt;
  client = c.client_of.ensures;
}
