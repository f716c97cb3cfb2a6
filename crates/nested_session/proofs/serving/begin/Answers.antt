use Rattle.std.proofs.Common.{◌≡◌, ◌≢◌, refl, ◌∙◌, subst, sym, List, ℕ}
use Rattle.sm_world.specs.Outside.{adds}
use Rattle.sm_world.proofs.Adding.{fallen_never}
use Rattle.nested_session.specs.Nests.{success}
use Rattle.nested_session.specs.Serving.{run_of}
use Rattle.nested_session.specs.Standing.{sent_on}
use Rattle.nested_session.proofs.CauseLaws.{cause_since}
use Rattle.nested_session.proofs.LoopLaws.{first_other, loop_begins, loop_unopened, loop_unsaid}
use Rattle.nested_session.proofs.serving.begin.Goals as goal

pub returns-in-Err-clause-begins : goal.returns-in-Err-clause-begins
returns-in-Err-clause-begins g c = λ turns. loop_unopened c.args.config turns (run_of c.args.agent) c.args.first (g.W.Told.outside c.args.world.now) (g.W.Told.outside c.start.new.world) c.in-Err.fault c.in-Err.ensures.starts

pub returns-in-Err-send_outer-clause-begins : goal.returns-in-Err-send_outer-clause-begins
returns-in-Err-send_outer-clause-begins g c = λ turns. loop_unsaid c.args.config turns (run_of c.args.agent) c.args.first (g.W.Told.outside c.args.world.now) (g.W.Told.outside c.start.new.world) (g.W.Told.outside c.send_outer.new.world) c.in-Ok.session c.in-Err-send_outer.fault c.in-Err-send_outer.ensures.able c.in-Err-send_outer.ensures.effects c.in-Err-send_outer.ensures.alone.size c.in-Ok.ensures.starts

pub returns-in-Err-send_outer-clause-cause : goal.returns-in-Err-send_outer-clause-cause
returns-in-Err-send_outer-clause-cause g c = cause_since c.in-Err-send_outer.fault (g.W.Told.outside c.args.world.now).faults (g.W.Told.outside c.start.new.world).faults (g.W.Told.outside c.send_outer.new.world).faults c.in-Ok.ensures.counts c.in-Err-send_outer.ensures.alone.cause

pub returns-clause-begins : goal.returns-clause-begins
returns-clause-begins g c = λ turns. loop_begins c.args.config turns (run_of c.args.agent) c.args.first (g.W.Told.outside c.args.world.now) (g.W.Told.outside c.start.new.world) (g.W.Told.outside c.send_outer.new.world) c.in-Ok.session c.args.agent
    (subst (λ (xs : List ℕ). xs ≢ success) (sym c.requires.first) first_other) (record { keeper = refl; feeds = λ e. refl }) c.in-Ok.ensures.coming c.in-Ok-send_outer.ensures.alone.coming c.in-Ok-send_outer.ensures.alone.size
    (subst (λ (xs : List ℕ). (g.W.Told.outside c.send_outer.new.world).told ≡ adds (g.W.Told.outside c.start.new.world).told (sent_on xs)) c.as_slice.ensures c.in-Ok-send_outer.ensures.effects) c.in-Ok.ensures.starts
