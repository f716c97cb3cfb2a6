use Rattle.std.proofs.Common.{refl, sym}
use Rattle.std.proofs.lemmas.Result.{on_ok_weaker}
use Rattle.checkpoint_records.specs.Books.{entries_of, sessions}
use Rattle.checkpoint_changes.specs.Differences.{placed}
use Rattle.checkpoint_changes.proofs.EachLaws.{all_walked, none_placed, placed_here, placed_of}
use Rattle.checkpoint_changes.proofs.differences.change_placed.Goals as goal

pub put_into_each-requires : goal.put_into_each-requires
put_into_each-requires c = c.requires.old_rules.apart

pub entries_in-stays-requires : goal.entries_in-stays-requires
entries_in-stays-requires c = c.requires.old_rules.apart

pub put_into_each-requires-2 : goal.put_into_each-requires-2
put_into_each-requires-2 c = c.requires.old_rules.apart

pub returns : goal.returns
returns c =
    let old = sessions c.args.old.now in
    let new = c.args.new.now in
    let items = c.as_slice-3.result.now in
    let stays = c.entries_in-stays.result.now in
    on_ok_weaker c.put_into_each-2.result (λ h.
    all_walked (placed_of old) new.name new.entries items new.others c.as_slice-others.result.now c.split_at.result.0.now c.split_at.result.1.now c.place_among.result
    c.args.delta.now c.put_into_each.new.delta c.put_placed.new.delta c.put_into_each-2.new.delta (placed new.name stays items)
    c.as_slice-3.ensures c.as_slice-others.ensures c.split_at.ensures.front c.split_at.ensures.back (none_placed new.name (entries_of new.name old)) (c.place_among.ensures.place (record { name = new.name; entries = items }) (sym c.as_slice.ensures))
    c.in_ok-put_into_each.ensures c.in_ok-put_placed.ensures (placed_here old (record { name = new.name; entries = items }) c.as_slice-2.result.now stays items c.as_slice-2.ensures refl c.entries_in-stays.ensures) h) c.put_into_each-2.ensures
