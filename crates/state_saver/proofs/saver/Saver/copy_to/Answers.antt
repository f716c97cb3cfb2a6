use Rattle.std.proofs.Common.{ℕ, List, sym, subst}
use Rattle.sm_world.specs.Disk.{has_failed}
use Rattle.sm_world.specs.Outside.{Outside}
use Rattle.sm_world.proofs.Adding.{adds-none}
use Rattle.state_saver.specs.Files.{Holds}
use Rattle.state_saver.proofs.SaveLaws.{copies_by, passes_by, uses_then}
use Rattle.state_saver.proofs.saver.Saver.copy_to.Goals as goal

pub returns-clause-copies : goal.returns-clause-copies
returns-clause-copies g c =
    let old : Outside = g.F.Told.outside c.args.self.now.files.now in
    let held : Holds old c.args.self.now.plan.state c.as_slice.result.now = subst (λ (bytes : List ℕ). Holds old c.args.self.now.plan.state bytes) (sym c.as_slice.ensures) (rw c.as_str.ensures at c.in-Ok.ensures.bytes) in
    copies_by c.publish.result c.args.self.now.plan.state c.args.path.now c.as_slice.result.now old (g.F.Told.outside c.fetch.new.self) (g.F.Told.outside c.publish.new.self) held c.in-Ok.ensures.effects c.publish.ensures.effects (adds-none (g.F.Told.outside c.fetch.new.self).told)

pub returns-clause-uses : goal.returns-clause-uses
returns-clause-uses g c = uses_then (g.F.Told.outside c.args.self.now.files.now) (g.F.Told.outside c.fetch.new.self) (g.F.Told.outside c.publish.new.self) (has_failed c.publish.result) c.in-Ok.ensures.uses c.publish.ensures.uses

pub returns-clause-passes : goal.returns-clause-passes
returns-clause-passes g c =
    passes_by c.publish.result c.args.self.now.plan.state c.args.path.now c.as_slice.result.now (g.F.Files.fetched c.args.self.now.files.now) (g.F.Files.fetched c.fetch.new.self) (g.F.Files.fetched c.publish.new.self) (g.F.Told.outside c.args.self.now.files.now) (g.F.Told.outside c.fetch.new.self) (g.F.Told.outside c.publish.new.self)
    (rw (sym c.as_slice.ensures) at (rw c.as_str.ensures at c.in-Ok.ensures.fetched)) c.publish.ensures.fetched c.in-Ok.ensures.effects c.publish.ensures.effects
