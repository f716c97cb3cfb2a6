use Rattle.std.proofs.Common.{◌≡◌, ◌∙◌, Some, ap, inl, length, refl}
use Rattle.sm_world.proofs.Adding.{nothing_added}
use Rattle.sm_world.specs.Disk.{IsFailedWrite}
use Rattle.sm_world.proofs.memory.MemWorldDisk.write_at.Goals as goal

pub returns-in-Err-clause-err : goal.returns-in-Err-clause-err
returns-in-Err-clause-err c =
    let same : c.miss.new.self.tape.effects ≡ c.args.self.now.tape.effects =
    ap (λ w. w.tape.effects) c.miss.ensures.missed ∙ ap (λ t. t.effects) c.in-Err.ensures.err ∙ ap (λ t. t.effects) c.call_disk.ensures.tape in
    rw same (nothing_added (Some c.args.self.now.tape.effects) (IsFailedWrite c.args.at (length c.args.bytes.now)) (inl refl))
