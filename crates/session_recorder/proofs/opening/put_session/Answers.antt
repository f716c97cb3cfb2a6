use Rattle.std.proofs.Common.{◌∙◌, sym}
use Rattle.ice_values.proofs.OptionLaws.{on_ok_by}
use Rattle.session_recorder.proofs.Naming.{named, unnamed}
use Rattle.session_recorder.proofs.opening.put_session.Goals as goal

pub returns-then-eq : goal.returns-then-eq
returns-then-eq c = unnamed c.args.out.now c.args.name.now c.as_slice.result.now c.as_slice.ensures (sym c.eq.ensures ∙ c.if-eq.true)

pub returns : goal.returns
returns c =
    on_ok_by c.append-3.result _ _
    (λ last. named c.args.out.now c.args.name.now c.as_slice.result.now _ _ _ c.as_slice.ensures (sym c.eq.ensures ∙ c.if-eq.false) c.in_ok-append.ensures.ok c.in_ok-append-2.ensures.ok last)
    c.append-3.ensures.ok
