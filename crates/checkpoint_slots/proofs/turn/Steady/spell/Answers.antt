use Rattle.checkpoint_records.specs.Spelling.{book_bytes}
use Rattle.std.proofs.Common.{◌≡◌, ◌+◌, length, ap, ◌∙◌, arith}
use Rattle.checkpoint_slots.proofs.Bodies.{body-length}
use Rattle.checkpoint_slots.proofs.Room.{book-room}
use Rattle.checkpoint_slots.proofs.turn.Steady.spell.Goals as goal

pub returns-in-Ok-clause-room : goal.returns-in-Ok-clause-room
returns-in-Ok-clause-room c =
    let room = (book-room c.args.book.now c.requires.rules).fits in
    let size : length c.in-Ok.body ≡ 24 + length (book_bytes c.args.book.now) = ap length c.in-Ok.ensures ∙ body-length c.in-Some-generation.generation c.args.book.now in
    omega (arith, room, size)
