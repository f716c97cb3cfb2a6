use Rattle.byteorder.specs.Endian.{little_bytes}
use Rattle.std.proofs.Common.{ℕ, List, ◌≡◌, ◌++◌, length, replicate, ap, ◌∙◌, arith}
use Rattle.checkpoint_slots.proofs.Bodies.{body-is}
use Rattle.checkpoint_slots.proofs.Room.{book-room}
use Rattle.checkpoint_slots.proofs.turn.body_of.Goals as goal

pub overflow_cast-len : goal.overflow_cast-len
overflow_cast-len c = let room = (book-room c.args.book.now c.requires.rules).fits in rw (c.len.ensures, c.in_ok-bytes.ensures) (omega (arith, room))

pub returns : goal.returns
returns c =
    let front : c.in_ok-body.body ≡ little_bytes 8 c.args.generation ++ (little_bytes 4 (length c.in_ok-bytes.bytes) ++ replicate 4 0) = c.in_ok-body.ensures ∙ c.head.ensures ∙ ap (λ (n : ℕ). little_bytes 8 c.args.generation ++ (little_bytes 4 n ++ replicate 4 0)) c.len.ensures in
    let mid : c.append.new.self ≡ c.in_ok-body.body ++ c.in_ok-bytes.bytes = c.in_ok-append.ensures.ok ∙ ap (λ (xs : List ℕ). c.in_ok-body.body ++ xs) c.as_slice.ensures in
    body-is c.args.generation c.args.book.now c.in_ok-bytes.bytes c.in_ok-body.body c.append.new.self c.append-2.new.self c.in_ok-bytes.ensures front mid c.in_ok-append-2.ensures.ok
