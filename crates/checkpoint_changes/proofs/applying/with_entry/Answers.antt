use Rattle.checkpoint_changes.proofs.ApplyLaws.{found_put, none_put}
use Rattle.checkpoint_changes.proofs.applying.with_entry.Goals as goal

pub returns-in-Some : goal.returns-in-Some
returns-in-Some c =
    found_put c.args.entry c.as_slice-2.result.now c.as_slice.result.now c.args.entries c.into_vec-items.result.items c.from_vec.result c.in-Some.place
    c.as_slice-2.ensures c.as_slice.ensures c.into_vec-items.ensures c.from_vec.ensures c.in-Some.ensures

pub returns-in_ok-push-in-None : goal.returns-in_ok-push-in-None
returns-in_ok-push-in-None c = none_put c.args.entry c.as_slice-2.result.now c.as_slice.result.now c.args.entries c.push.new.self c.as_slice-2.ensures c.as_slice.ensures c.in-None.ensures c.in_ok-push-in-None.ensures.ok
