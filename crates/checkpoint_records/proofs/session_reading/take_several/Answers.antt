use Rattle.std.proofs.Common.{List, [], ◌∷◌, ◌++◌, refl, subst, arith, length-append}
use Rattle.checkpoint_records.specs.Finding.{IsStop}
use Rattle.checkpoint_records.specs.Parts.{AreSessions}
use Rattle.checkpoint_records.specs.Stopping.{StopsBehind}
use Rattle.checkpoint_records.specs.declared.head.Format.TheVariants.{Several}
use Rattle.checkpoint_records.specs.declared.records.Named.{Named}
use Rattle.checkpoint_records.proofs.StandLaws.{all_parts}
use Rattle.checkpoint_records.proofs.StopLaws.{no_sessions, sessions_further, stops_further}
use Rattle.checkpoint_records.proofs.session_reading.take_several.Goals as goal

pub loop-i-init : goal.loop-i-init
loop-i-init c = rw c.new-sessions.ensures (no_sessions c.args.head c.requires, refl, refl)

pub returns-in-Err-clause-stop : goal.returns-in-Err-clause-stop
returns-in-Err-clause-stop c =
    let so_far : List Named = c.loop-i.sessions in
    stops_further c.args.head (all_parts Several so_far) c.args.bytes.now c.loop-i.rest.now c.in-Err.stop c.loop-i.invariant.1
    (subst (λ (all : List Named). IsStop c.loop-i.rest.now (StopsBehind c.args.head (all_parts Several all) c.loop-i.rest.now) c.in-Err.stop) c.as_slice.ensures c.in-Err.ensures.stop)

pub loop-i-preserved : goal.loop-i-preserved
loop-i-preserved c =
    let so_far : List Named = c.loop-i.sessions in
    rw c.in_ok-push-in-Ok.ensures.ok (
      subst (λ (all : List Named). AreSessions c.args.head (all ++ c.in-Ok.session ∷ [])) c.as_slice.ensures c.in-Ok.ensures.next.0,
      sessions_further so_far c.in-Ok.session c.args.bytes.now c.loop-i.rest.now c.in-Ok.after.now c.loop-i.invariant.1 c.in-Ok.ensures.next.1,
      omega (arith, length-append so_far (c.in-Ok.session ∷ []), c.loop-i.invariant.2),
    )
