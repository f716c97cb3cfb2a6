use Rattle.std.proofs.Common.{◌≡◌, ℕ, List, ◌+◌, ◌/◌, ◌++◌, length, refl, subst}
use Rattle.std.specs.Prelude.{OnOk}
use Rattle.std.proofs.lemmas.Result.{on_ok_weaker}
use Rattle.display_messages.specs.Requests.{request, named}
use Rattle.display_messages.proofs.RequestLaws.{adds_named}
use Rattle.display_messages.proofs.encoding.put_named.Goals as goal

pub returns : goal.returns
returns c =
    let name = c.as_slice-name.result.now in
    subst (λ (n : List ℕ). OnOk c.put_padded.result (c.put_padded.new.out ≡ c.args.out.now ++ request c.args.opcode 0 (named n))) c.as_slice-name.ensures.value
    (on_ok_weaker c.put_padded.result
    (λ h. adds_named c.args.opcode (2 + (length name + c.pad.result) / 4) c.pad.result name c.args.out.now c.put_head.new.out c.put_card16.new.out c.put_bytes.new.out c.put_padded.new.out c.pad.ensures.is refl c.in_ok-put_head.ensures c.in_ok-put_card16.ensures.ok c.in_ok-put_bytes.ensures.ok h)
    c.put_padded.ensures)
