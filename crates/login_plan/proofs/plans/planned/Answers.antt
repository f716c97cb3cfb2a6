use Rattle.login_plan.proofs.plans.planned.Goals as goal

pub returns-in-Stays : goal.returns-in-Stays
returns-in-Stays c = rw c.in-Stays.is (c.kept_so.ensures c.args.name.now)
