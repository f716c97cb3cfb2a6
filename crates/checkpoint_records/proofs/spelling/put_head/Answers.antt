use Rattle.std.proofs.Common.{ℕ, ◌++◌, ◌∙◌, ap}
use Rattle.std.proofs.lemmas.Result.{on_ok_weaker}
use Rattle.checkpoint_records.proofs.FindLaws.{number}
use Rattle.checkpoint_records.proofs.SpellLaws.{head_added}
use Rattle.checkpoint_records.proofs.spelling.put_head.Goals as goal

pub returns : goal.returns
returns c =
    on_ok_weaker c.put_card32-4.result (λ h.
    head_added c.args.head c.args.out.now c.put_card32.new.out c.put_card32-2.new.out c.put_card32-3.new.out c.put_card32-4.new.out
    (c.in_ok-put_card32.ensures.ok ∙ ap (λ (n : ℕ). c.args.out.now ++ number n) c.number.ensures) c.in_ok-put_card32-2.ensures.ok c.in_ok-put_card32-3.ensures.ok h) c.put_card32-4.ensures.ok
