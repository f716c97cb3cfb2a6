use Rattle.std.proofs.Common.{ℕ, List, sym, subst}
use Rattle.checkpoint_records.specs.Rules.{IsName}
use Rattle.checkpoint_records.proofs.NameLaws.{default_fits}
use Rattle.session_engine.proofs.config.config_of_default.Goals as goal

pub returns-clause-named : goal.returns-clause-named
returns-clause-named c = subst (λ (name : List ℕ). IsName name) (sym c.in_ok-session.ensures) default_fits
