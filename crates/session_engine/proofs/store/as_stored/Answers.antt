use Rattle.std.proofs.Common.{ℕ, List, sym, ap, ◌∙◌, subst}
use Rattle.checkpoint_records.specs.Books.{choose}
use Rattle.checkpoint_records.specs.Rules.{KeepsRules}
use Rattle.checkpoint_records.specs.declared.records.Book.{Book}
use Rattle.session_engine.proofs.Standing.{stored_is, stored_named, stored_rules}
use Rattle.session_engine.proofs.store.as_stored.Goals as goal

pub returns-clause-is : goal.returns-clause-is
returns-clause-is c =
    c.in_ok-stored.ensures ∙ (ap (λ (name : List ℕ). choose name c.args.book) (c.as_slice.ensures ∙ c.in_ok-name.ensures) ∙ sym (stored_is c.args.book))

pub returns-clause-rules : goal.returns-clause-rules
returns-clause-rules c = subst (λ (b : Book). KeepsRules b) (sym (returns-clause-is c)) (stored_rules c.args.book c.requires)

pub returns-clause-chosen : goal.returns-clause-chosen
returns-clause-chosen c = ap (λ (b : Book). b.name) (returns-clause-is c) ∙ stored_named c.args.book
