use Rattle.std.proofs.Common.{refl, sym}
use Rattle.std.proofs.lemmas.Result.{on_ok_weaker}
use Rattle.checkpoint_records.specs.Books.{sessions}
use Rattle.checkpoint_changes.specs.Differences.{gone}
use Rattle.checkpoint_changes.proofs.EachLaws.{all_walked, gone_here, gone_of}
use Rattle.checkpoint_changes.proofs.differences.change_gone.Goals as goal

pub remove_from_each-requires : goal.remove_from_each-requires
remove_from_each-requires c = c.requires.new_rules.apart

pub entries_in-left-requires : goal.entries_in-left-requires
entries_in-left-requires c = c.requires.new_rules.apart

pub remove_from_each-requires-2 : goal.remove_from_each-requires-2
remove_from_each-requires-2 c = c.requires.new_rules.apart

pub returns : goal.returns
returns c =
    let old = c.args.old.now in
    let new = sessions c.args.new.now in
    let items = c.as_slice-3.result.now in
    let left = c.entries_in-left.result.now in
    on_ok_weaker c.remove_from_each-2.result (λ h.
    all_walked (gone_of new) old.name old.entries items old.others c.as_slice-others.result.now c.split_at.result.0.now c.split_at.result.1.now c.place_among.result
    c.args.delta.now c.remove_from_each.new.delta c.remove_gone.new.delta c.remove_from_each-2.new.delta (gone items left)
    c.as_slice-3.ensures c.as_slice-others.ensures c.split_at.ensures.front c.split_at.ensures.back refl (c.place_among.ensures.place (record { name = old.name; entries = items }) (sym c.as_slice.ensures))
    c.in_ok-remove_from_each.ensures c.in_ok-remove_gone.ensures (gone_here new (record { name = old.name; entries = items }) c.as_slice-2.result.now items left c.as_slice-2.ensures refl c.entries_in-left.ensures) h) c.remove_from_each-2.ensures
