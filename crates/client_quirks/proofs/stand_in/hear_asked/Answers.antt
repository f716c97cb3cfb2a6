use Rattle.std.proofs.Common.{◌≡◌, ◌++◌, [], sym, append-nil, subst}
use Rattle.std.specs.Prelude.{IfOk, OnOk}
use Rattle.late_answers.specs.declared.leaver.Leaver.{Leaver}
use Rattle.client_quirks.specs.Stood.{Stood}
use Rattle.client_quirks.proofs.Stands.{other_asked, whenever}
use Rattle.client_quirks.proofs.stand_in.hear_asked.Goals as goal

pub returns-in_default-clause-leaver : goal.returns-in_default-clause-leaver
returns-in_default-clause-leaver c = subst (λ (x : Stood). IfOk c.hear.result (λ (next : Leaver). next ≡ x.leaver)) (other_asked c.args.client c.args.message.now c.args.leaver c.in_default.not-GetPropertiesReply) c.hear.ensures.leaver

pub returns-in_default-clause-handed : goal.returns-in_default-clause-handed
returns-in_default-clause-handed c = subst (λ (x : Stood). OnOk c.hear.result (c.hear.new.handed ≡ c.args.handed.now ++ x.handed)) (other_asked c.args.client c.args.message.now c.args.leaver c.in_default.not-GetPropertiesReply) c.hear.ensures.handed

pub returns-in_default-clause-started : goal.returns-in_default-clause-started
returns-in_default-clause-started c = subst (λ (x : Stood). OnOk c.hear.result (c.args.started.now ≡ c.args.started.now ++ x.started)) (other_asked c.args.client c.args.message.now c.args.leaver c.in_default.not-GetPropertiesReply) (whenever c.hear.result (c.args.started.now ≡ c.args.started.now ++ []) (sym (append-nil c.args.started.now)))
