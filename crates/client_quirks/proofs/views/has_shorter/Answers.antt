use Rattle.std.proofs.Common.{◌∙◌, sym}
use Rattle.std.specs.List.{list_any}
use Rattle.frame_speech.specs.Settings.{values_left}
use Rattle.client_quirks.specs.Meanings.{is_shorter}
use Rattle.client_quirks.proofs.Viewed.{any_here, any_later}
use Rattle.client_quirks.proofs.views.has_shorter.Goals as goal

pub loop-value-preserved : goal.loop-value-preserved
loop-value-preserved c =
    any_later (is_shorter c.args.name.now) c.in-Some.value.now (values_left c.next.new.self) (values_left c.loop-value.left) (list_any (is_shorter c.args.name.now) (values_left c.args.walk)) c.in-Some.ensures c.loop-value.invariant (sym c.is_shorter.ensures ∙ c.if-is_shorter.false)

pub returns-then-is_shorter : goal.returns-then-is_shorter
returns-then-is_shorter c =
    any_here (is_shorter c.args.name.now) c.in-Some.value.now (values_left c.next.new.self) (values_left c.loop-value.left) (list_any (is_shorter c.args.name.now) (values_left c.args.walk)) c.in-Some.ensures c.loop-value.invariant (sym c.is_shorter.ensures ∙ c.if-is_shorter.true)
