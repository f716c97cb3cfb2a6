use Rattle.std.proofs.Common.{List, refl, ap, ◌∙◌}
use Rattle.checkpoint_records.specs.declared.records.Named.{Named}
use Rattle.session_return.specs.Returns.{book_of}
use Rattle.session_return.proofs.Told.{told_book, told_clear, unfound}
use Rattle.session_return.proofs.returns.put_back.Goals as goal

pub returns-in-Some-epoch_behind : goal.returns-in-Some-epoch_behind
returns-in-Some-epoch_behind c =
    let book = c.in_ok-book.book in
    let back = c.as_slice.result.now in
    let epoch = c.in-Some-epoch_behind.epoch in
    let is_back = c.as_slice.ensures ∙ c.in_ok-back.ensures in
    let is_book = c.in_ok-book.ensures ∙ ap (λ (all : List Named). book_of all c.args.present.now.pending 0) c.in_ok-all.ensures in
    let none = unfound back book c.in_ok-obstacle.field-0 c.in_ok-obstacle.ensures c.in_default.not-Some in (
      told_clear c.args.which.now c.args.kept.now c.args.present.now back book is_back is_book epoch none c.in-Some-epoch_behind.ensures.some,
      told_book c.args.which.now c.args.kept.now c.args.present.now back book is_back is_book epoch (record book { epoch = epoch }) refl c.in-Some-epoch_behind.ensures.some.0,
    )
