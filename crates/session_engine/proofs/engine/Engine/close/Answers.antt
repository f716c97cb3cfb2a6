use Rattle.std.proofs.Common.{[], ◌∷◌, ◌++◌, refl}
use Rattle.session_engine.specs.Acts.{says}
use Rattle.session_engine.specs.declared.acts.Act.TheVariants.{Shut}
use Rattle.session_engine.specs.declared.engine.Engine.{Engine}
use Rattle.session_engine.proofs.Showing.{given}
use Rattle.session_engine.proofs.Answering.{gives-parted}
use Rattle.session_engine.proofs.engine.Engine.close.Goals as goal

pub returns : goal.returns
returns c =
    let parted : Engine = record { cookie = c.args.self.now.cookie; live = c.leave.new.self; manager = c.args.self.now.manager; acts = c.close.new.self } in
    given c.tell.result c.tell.ensures (λ tells. gives-parted c.args.conn (says c.args.conn c.args.message ++ Shut c.args.conn ∷ []) c.args.self.now parted c.tell.new.self refl c.leave.ensures refl c.in_ok-close.ensures tells)
