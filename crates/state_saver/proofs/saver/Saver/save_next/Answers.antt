use Rattle.std.proofs.Common.{◌+◌, List, refl, rules, subst, sym}
use Rattle.ice_values.specs.declared.property.Property.{Property}
use Rattle.xsmp_properties.specs.Tables.{IsTableFull}
use Rattle.state_saver.proofs.PlanLaws.{own_few}
use Rattle.state_saver.proofs.SaveLaws.{tried_starved, uses_none}
use Rattle.state_saver.proofs.saver.Saver.save_next.Goals as goal

pub returns-in-Err-clause-tried : goal.returns-in-Err-clause-tried
returns-in-Err-clause-tried g c = tried_starved _ c.args.self.now.plan c.args.id.now c.args.self.now.number _ _ refl (uses_none _)

pub returns-in-Err-own_set-clause-tried : goal.returns-in-Err-own_set-clause-tried
returns-in-Err-own_set-clause-tried g c = tried_starved _ c.args.self.now.plan c.args.id.now c.args.self.now.number _ _ refl (uses_none _)

pub returns-in-Ok-copy_to-clause-few : goal.returns-in-Ok-copy_to-clause-few
returns-in-Ok-copy_to-clause-few g c = subst (λ (s : List Property). ¬ (IsTableFull s)) (sym c.in-Ok-own_set.ensures) (own_few c.args.self.now.plan (c.args.self.now.number + 1) c.args.id.now c.args.self.now.fits (search rules) c.requires.short)
