use Rattle.std.proofs.Common.{rules, ◌<◌, ◌^◌, ap, subst, ◌∙◌}
use Rattle.std.specs.Prelude.{Option}
use Rattle.checkpoint_slots.specs.Recovery.{slot_bytes}
use Rattle.checkpoint_slots.specs.Turns.{IsNext, next_generation}
use Rattle.checkpoint_slots.specs.declared.turn.Current.{Current}
use Rattle.checkpoint_slots.proofs.Turning.{added-by}
use Rattle.checkpoint_journal.proofs.Appended.{compacts-done, compacts-not, compacts-refused}
use Rattle.checkpoint_journal.proofs.journal.Journal.compact.Goals as goal

pub returns-in-Err-clause-effects : goal.returns-in-Err-clause-effects
returns-in-Err-clause-effects g c = compacts-refused c.args.self c.self.inside.steady c.in-Err.steady c.args.book.now c.in-Err.fault _ c.self.view_is c.in-Err.ensures.cause

pub returns-in-Ok-put_book-clause-effects : goal.returns-in-Ok-put_book-clause-effects
returns-in-Ok-put_book-clause-effects g c =
    let spelled = c.in-Ok.ensures.body.1 ∙ ap (λ (s : Option Current). slot_bytes (next_generation s) c.args.book.now) c.self.view_is in
    let is : IsNext c.args.self c.args.book.now = record { rules = c.requires.rules; chosen = c.requires.chosen; epoch = search rules; generation = subst (λ (s : Option Current). next_generation s < 2 ^ 64) c.self.view_is c.in-Ok.ensures.fits } in
    added-by (λ added did. compacts-done c.args.self c.in-Ok.spelled.0 c.in-Ok.spelled.1 c.args.book.now (c.in-Ok.ensures.body.0 ∙ c.self.view_is) spelled is c.in-Ok-put_book.steady added did) c.in-Ok-put_book.ensures.effects

pub returns-clause-effects : goal.returns-clause-effects
returns-clause-effects g c =
    let spelled = c.in-Ok.ensures.body.1 ∙ ap (λ (s : Option Current). slot_bytes (next_generation s) c.args.book.now) c.self.view_is in
    let is : IsNext c.args.self c.args.book.now = record { rules = c.requires.rules; chosen = c.requires.chosen; epoch = search rules; generation = subst (λ (s : Option Current). next_generation s < 2 ^ 64) c.self.view_is c.in-Ok.ensures.fits } in
    added-by (λ added did. compacts-not c.args.self c.in-Ok.spelled.0 c.in-Ok.spelled.1 c.args.book.now (c.in-Ok.ensures.body.0 ∙ c.self.view_is) spelled is c.in-Err-put_book.fault added c.in-Err-put_book.ensures.cause did) c.in-Err-put_book.ensures.effects
