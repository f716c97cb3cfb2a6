use Rattle.std.proofs.Common.{◌≡◌, Ok, Err, sym, ap, ◌∙◌, subst}
use Rattle.sm_world.specs.Outside.{Added}
use Rattle.sm_world.proofs.Adding.{nothing_added}
use Rattle.checkpoint_records.specs.declared.records.Book.{Book}
use Rattle.session_engine.specs.Standing.{as_stored}
use Rattle.session_engine.specs.Store.{Makes, Stored, Writes}
use Rattle.session_engine.proofs.Writing.{nothing_writes}
use Rattle.session_engine.proofs.store.Store.commit.Goals as goal

pub returns-in-Err-difference-clause-effects : goal.returns-in-Err-difference-clause-effects
returns-in-Err-difference-clause-effects g c = nothing_added _ _ (nothing_writes c.args.self.journal (as_stored c.args.self.book) (as_stored c.args.book))

pub returns-in-Ok-write-clause-effects : goal.returns-in-Ok-write-clause-effects
returns-in-Ok-write-clause-effects g c =
    let stored : c.in-Ok-difference.both.1 ≡ as_stored c.args.book = c.in-Ok-difference.ensures.is ∙ ap as_stored c.in-Ok.ensures in
    let makes : Makes (as_stored c.self.inside.book) c.in-Ok-difference.both.0 c.in-Ok-difference.both.1 =
    subst (λ (b : Book). Makes (as_stored c.self.inside.book) c.in-Ok-difference.both.0 b) (sym c.in-Ok-difference.ensures.is) c.in-Ok-difference.ensures.makes in
    let written = c.in-Ok-write.ensures.effects (as_stored c.self.inside.book) makes in
    subst (λ (store : Stored). Added (g.D.Told.outside c.args.disk.now).told (g.D.Told.outside c.write.new.disk).told (Writes store.journal (as_stored store.book) (as_stored c.args.book) (Ok c.in-Ok-write.journal))) c.self.view_is
    (subst (λ (b : Book). Added (g.D.Told.outside c.args.disk.now).told (g.D.Told.outside c.write.new.disk).told (Writes c.self.inside.journal (as_stored c.self.inside.book) b (Ok c.in-Ok-write.journal))) stored written)

pub returns-in-Err-write-clause-effects : goal.returns-in-Err-write-clause-effects
returns-in-Err-write-clause-effects g c =
    let stored : c.in-Ok-difference.both.1 ≡ as_stored c.args.book = c.in-Ok-difference.ensures.is ∙ ap as_stored c.in-Ok.ensures in
    let makes : Makes (as_stored c.self.inside.book) c.in-Ok-difference.both.0 c.in-Ok-difference.both.1 =
    subst (λ (b : Book). Makes (as_stored c.self.inside.book) c.in-Ok-difference.both.0 b) (sym c.in-Ok-difference.ensures.is) c.in-Ok-difference.ensures.makes in
    let written = c.in-Err-write.ensures.effects (as_stored c.self.inside.book) makes in
    subst (λ (store : Stored). Added (g.D.Told.outside c.args.disk.now).told (g.D.Told.outside c.write.new.disk).told (Writes store.journal (as_stored store.book) (as_stored c.args.book) (Err c.in-Err-write.fault))) c.self.view_is
    (subst (λ (b : Book). Added (g.D.Told.outside c.args.disk.now).told (g.D.Told.outside c.write.new.disk).told (Writes c.self.inside.journal (as_stored c.self.inside.book) b (Err c.in-Err-write.fault))) stored written)
