use Rattle.std.proofs.Common.{ap, length, ◌∙◌}
use Rattle.sm_world.specs.Worlds.{steady_outside}
use Rattle.session_replay.proofs.RerunLemmas.{finished, spent}
use Rattle.session_replay.proofs.rerun.rerun.Goals as goal

pub returns-in-Ok : goal.returns-in-Ok
returns-in-Ok c =
    finished c.args.config c.args.book.now c.args.events _ (steady_outside c.write_book.new.world) (steady_outside c.serve.new.world) c.in_ok-write_book.ensures.holds (c.in_ok-write_book.ensures.coming ∙ c.in_ok-world.ensures.coming) (ap length c.as_slice.ensures) c.in-Ok.ensures.serves

pub returns-in-Err-Spent : goal.returns-in-Err-Spent
returns-in-Err-Spent c =
    spent c.args.config c.args.book.now c.args.events _ (steady_outside c.write_book.new.world) (steady_outside c.serve.new.world) c.in_ok-write_book.ensures.holds (c.in_ok-write_book.ensures.coming ∙ c.in_ok-world.ensures.coming) (ap length c.as_slice.ensures) (rw c.in-Err-Spent.field-0-is at c.in-Err-Spent.ensures.serves)
