use Rattle.std.proofs.Common.{◌++◌, ◌∙◌, ap}
use Rattle.message_text.specs.Properties.{is_number, kind_note, typed_text, values_text}
use Rattle.ice_values.proofs.OptionLaws.{on_ok_by}
use Rattle.message_text.proofs.Joining.{joined}
use Rattle.message_text.proofs.properties.put_typed.Goals as goal

pub returns : goal.returns
unfolding typed_text
returns c =
    on_ok_by c.put_values.result _ _
    (λ e. joined c.args.out.now (kind_note c.args.kind.now) (values_text (is_number c.args.kind.now) c.args.values.now) c.put_kind.new.out c.put_values.new.out c.in_ok-put_kind.ensures
    (e ∙ ap (λ number. c.put_kind.new.out ++ values_text number c.args.values.now) c.is_number.ensures))
    c.put_values.ensures
