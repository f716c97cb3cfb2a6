use Rattle.std.proofs.Common.{◌≡◌, ◌++◌, ◌∙◌, ap}
use Rattle.std.specs.Rc.{rc_value}
use Rattle.xsmp_properties.specs.Named.{left_of}
use Rattle.xsmp_properties.specs.Tables.{set_one}
use Rattle.xsmp_properties.proofs.MapLaws.{set-more}
use Rattle.xsmp_properties.proofs.shared.SharedProperties.to_named.Goals as goal

pub loop-shared-preserved : goal.loop-shared-preserved
loop-shared-preserved c =
    let done = c.loop-shared.named in
    let left = left_of c.next.new.self in
    let put : c.put_shared.new.self ≡ set_one done (rc_value c.in-Some.shared.now) = c.in_ok-put_shared.ensures ∙ ap (set_one done) c.in_ok-clone.ensures.cases in
    let whole = set-more done (rc_value c.in-Some.shared.now) (left_of c.loop-shared.left) left c.args.self.now c.in-Some.ensures.some c.loop-shared.invariant.0 c.loop-shared.invariant.1 in (
      ap (λ l. l ++ left) put ∙ whole,
      c.loop-shared.invariant.1,
    )
