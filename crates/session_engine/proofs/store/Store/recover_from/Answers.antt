use Rattle.std.proofs.Common.{sym, ap, ◌∙◌, subst}
use Rattle.checkpoint_records.specs.Rules.{KeepsRules}
use Rattle.checkpoint_records.specs.declared.records.Book.{Book}
use Rattle.checkpoint_records.proofs.ChoiceLaws.{choices_keep_rules}
use Rattle.checkpoint_slots.specs.Turns.{SteadyFile}
use Rattle.session_engine.specs.Standing.{as_stored}
use Rattle.session_engine.proofs.Standing.{chosen_stands}
use Rattle.session_engine.proofs.store.Store.recover_from.Goals as goal

pub invariant_of-result : goal.invariant_of-result
invariant_of-result g c =
    subst (λ (b : Book). KeepsRules b) (sym (c.in-Ok-copy_book.ensures ∙ c.in-Ok-choose.ensures)) (choices_keep_rules c.args.session.now c.in-Ok.recovered.1 c.requires.named c.in-Ok.ensures.rules)

pub returns-in-Ok-copy_book-clause-recovers : goal.returns-in-Ok-copy_book-clause-recovers
returns-in-Ok-copy_book-clause-recovers g c = λ file settled.
    subst (λ (b : Book). SteadyFile c.in-Ok.recovered.0 b file) (sym (ap as_stored c.in-Ok-choose.ensures ∙ chosen_stands c.args.session.now c.in-Ok.recovered.1 c.in-Ok.ensures.rules c.in-Ok.ensures.named)) (c.in-Ok.ensures.recovers file settled)

pub returns-in-Ok-copy_book-clause-called : goal.returns-in-Ok-copy_book-clause-called
returns-in-Ok-copy_book-clause-called g c = ap (λ (b : Book). b.name) c.in-Ok-choose.ensures

pub returns-in-Ok-copy_book-clause-rules : goal.returns-in-Ok-copy_book-clause-rules
returns-in-Ok-copy_book-clause-rules g c = subst (λ (b : Book). KeepsRules b) (sym c.in-Ok-choose.ensures) (choices_keep_rules c.args.session.now c.in-Ok.recovered.1 c.requires.named c.in-Ok.ensures.rules)
