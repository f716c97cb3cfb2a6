use Rattle.std.proofs.Common.{◌≡◌, List, sym, subst}
use Rattle.ice_values.specs.declared.numbers.Endian.TheVariants.{Lsb}
use Rattle.checkpoint_records.specs.Books.{chosen_from, default_name, discards, entries_in}
use Rattle.checkpoint_records.specs.Finding.{AreInFront, EndsEarly, IsStop}
use Rattle.checkpoint_records.specs.Parts.{ArePending}
use Rattle.checkpoint_records.specs.Rules.{command_cells}
use Rattle.checkpoint_records.specs.Spelling.{Spells}
use Rattle.checkpoint_records.specs.declared.records.Named.{Named}
use Rattle.checkpoint_records.specs.declared.records.Book.{Book}
use Rattle.checkpoint_records.proofs.BookLaws.{stops_at_head, stops_in_parts, stops_in_pending, stops_behind, is_whole}
use Rattle.checkpoint_records.proofs.reading.read_parts.Goals as goal

pub returns-in-None-clause-stop : goal.returns-in-None-clause-stop
returns-in-None-clause-stop c = stops_at_head c.args.bytes.now c.in-None.ensures

pub returns-in-Err-clause-stop : goal.returns-in-Err-clause-stop
returns-in-Err-clause-stop c = stops_in_parts c.args.bytes.now c.in-Some.found.0 c.in-Some.found.1.now c.in-Some.ensures.some.0 c.in-Some.ensures.some.1 c.in-Err.stop c.in-Err.ensures.stop

pub returns-in-Err-take_pending-clause-stop : goal.returns-in-Err-take_pending-clause-stop
returns-in-Err-take_pending-clause-stop c =
    let head = c.in-Some.found.0 in
    let rest = c.in-Ok.taken.1.now in
    stops_in_pending c.args.bytes.now head c.in-Some.found.1.now c.in-Some.ensures.some.0 c.in-Some.ensures.some.1 c.in-Ok.taken.0 c.in-Ok.ensures.all.0 c.in-Ok.ensures.all.1 rest c.in-Ok.ensures.all.2 c.in-Err-take_pending.stop
    (subst (λ (all : List Named). IsStop rest (EndsEarly (command_cells Lsb) (ArePending (discards (entries_in all))) rest head.pending) c.in-Err-take_pending.stop) c.as_slice.ensures c.in-Err-take_pending.ensures.early)

pub returns-then-left-gt0-clause-stop : goal.returns-then-left-gt0-clause-stop
returns-then-left-gt0-clause-stop c =
    let rest = c.in-Ok.taken.1.now in
    let pending = c.in-Ok-take_pending.taken.0 in
    let last = c.in-Ok-take_pending.taken.1.now in
    stops_behind c.args.bytes.now c.in-Some.found.0 c.in-Some.found.1.now c.in-Some.ensures.some.0 c.in-Some.ensures.some.1 c.in-Ok.taken.0 c.in-Ok.ensures.all.0 c.in-Ok.ensures.all.1 rest c.in-Ok.ensures.all.2 pending last
    (subst (λ (all : List Named). AreInFront (command_cells Lsb) (ArePending (discards (entries_in all))) rest pending last) c.as_slice.ensures c.in-Ok-take_pending.ensures.all.0) c.in-Ok-take_pending.ensures.all.1 c.if-left-gt0.true

pub returns-clause-book : goal.returns-clause-book
returns-clause-book c =
    let head = c.in-Some.found.0 in
    let all = c.in-Ok.taken.0 in
    let rest = c.in-Ok.taken.1.now in
    let pending = c.in-Ok-take_pending.taken.0 in
    let last = c.in-Ok-take_pending.taken.1.now in
    let whole = is_whole c.args.bytes.now head c.in-Some.found.1.now c.in-Some.ensures.some.0 c.in-Some.ensures.some.1 all c.in-Ok.ensures.all.0 c.in-Ok.ensures.all.1 rest c.in-Ok.ensures.all.2 pending last
    (subst (λ (l : List Named). AreInFront (command_cells Lsb) (ArePending (discards (entries_in l))) rest pending last) c.as_slice.ensures c.in-Ok-take_pending.ensures.all.0) c.in-Ok-take_pending.ensures.all.1 c.if-left-gt0.false in
    let named : c.in_ok-name.name ≡ default_name = c.in_ok-name.ensures in
    let same : c.in_ok-book.book ≡ chosen_from default_name all pending head.epoch = rw named at c.in_ok-book.ensures in
    subst (λ (book : Book). Spells head.format c.args.bytes.now book) (sym same) whole
