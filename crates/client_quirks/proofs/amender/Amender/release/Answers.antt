use Rattle.std.proofs.Common.{◌++◌, ◌∙◌, sym, subst, List, ℕ}
use Rattle.std.proofs.lemmas.List.Folds.{concat-append}
use Rattle.client_quirks.specs.Amending.{HandedAll}
use Rattle.client_quirks.proofs.amender.Amender.release.Goals as goal

pub returns-clause-whole : goal.returns-clause-whole
returns-clause-whole c = λ came handed follows.
    subst (λ (l : List (List ℕ)). HandedAll came (handed ++ l)) (sym c.replace.ensures.value) (record { bytes = concat-append handed c.args.self.now.held ∙ follows.bytes; as_came = follows.as_came })
