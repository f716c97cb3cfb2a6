use Rattle.std.proofs.Common.{Some, ap}
use Rattle.client_engine.specs.declared.place.Talk.{Talk}
use Rattle.client_engine.proofs.Acting.{is_stopped}
use Rattle.named_joiner.specs.Doing.{keeper_of}
use Rattle.named_joiner.specs.Script.{Keeper}
use Rattle.named_joiner.specs.declared.ends.Ending.TheVariants.{Ended}
use Rattle.named_joiner.specs.declared.ends.NamedEnd.TheVariants.{Died}
use Rattle.named_joiner.proofs.HeedLaws.{died_by, died_none}
use Rattle.named_joiner.proofs.callers.Callers.die.Goals as goal

pub returns-in-None-clause-takes : goal.returns-in-None-clause-takes
returns-in-None-clause-takes g c = died_none g.S.NamedSaves.answers g.D.NamedDies.gives c.args.self.now c.ask_reasons.new.self (keeper_of c.args.progress.now) c.ask_reasons.result c.ask_reasons.ensures.follows c.in-None.is

pub returns-clause-takes : goal.returns-clause-takes
returns-clause-takes g c = died_by g.S.NamedSaves.answers g.D.NamedDies.gives c.spell.result _ _ c.args.self.now c.ask_reasons.new.self (keeper_of c.args.progress.now) _ c.ask_reasons.result c.in-Some.reasons c.closing-message.result c.ask_reasons.ensures.follows c.in-Some.is c.closing-message.ensures.message c.spell.ensures.ok
    (ap (λ (t : Talk). let k : Keeper = record { talk = t; ending = Some (Ended Died) } in k) (is_stopped c.args.progress.now.core.talk c.requires))

pub spell-requires : goal.spell-requires
spell-requires g c = record { short = c.closing-message.ensures.short c.in-Some.ensures.few }
