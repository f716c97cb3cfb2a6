use Rattle.std.proofs.Common.{rules, ◌≡◌, sym, ◌∙◌, ap, Result}
use Rattle.std.specs.Prelude.{slice_index, option_to_list}
use Rattle.std.specs.Result.{result_ok}
use Rattle.ice_values.specs.declared.refusals.DecodeRefusal.{DecodeRefusal}
use Rattle.xsmp_messages.specs.declared.message.XsmpMessage.{XsmpMessage}
use Rattle.session_watch.specs.Knowing.{noted_all}
use Rattle.session_watch.proofs.Spelled.{spells_saved, spells_completed}
use Rattle.session_watch.proofs.spoken.note_spelled.Goals as goal

pub returns-then-minor-eq-SAVE_YOURSELF_DONE : goal.returns-then-minor-eq-SAVE_YOURSELF_DONE
returns-then-minor-eq-SAVE_YOURSELF_DONE c =
    let is : slice_index c.args.frame.now 1 ≡ 8 = search rules in
    c.note_saved.ensures
    ∙ ap (λ (r : Result XsmpMessage DecodeRefusal). noted_all c.args.party (option_to_list (result_ok r)) c.args.known.now) (sym (spells_saved c.args.endian c.args.frame.now is))

pub returns-then-minor-eq-SAVE_COMPLETE : goal.returns-then-minor-eq-SAVE_COMPLETE
returns-then-minor-eq-SAVE_COMPLETE c =
    let is : slice_index c.args.frame.now 1 ≡ 18 = search rules in
    c.note_completed.ensures
    ∙ ap (λ (r : Result XsmpMessage DecodeRefusal). noted_all c.args.party (option_to_list (result_ok r)) c.args.known.now) (sym (spells_completed c.args.endian c.args.frame.now is))
