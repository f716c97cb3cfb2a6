use Rattle.std.proofs.Common.{◌∙◌, arith, sym}
use Rattle.checkpoint_changes.proofs.DifferenceLaws.{all_between, all_fit, all_lead, all_plain}
use Rattle.checkpoint_changes.proofs.differences.delta_of.Goals as goal

pub returns-clause-applies : goal.returns-clause-applies
returns-clause-applies c =
    let pending = c.in_ok-change_pending.ensures in
    all_lead c.args.old.now c.args.new.now c.as_slice.result.now c.as_slice-2.result.now c.new-delta.result c.change_epoch.new.delta c.change_gone.new.delta c.change_placed.new.delta c.change_pending.new.delta pending.0
    c.requires.old_rules c.requires.new_rules (c.requires.old_chosen ∙ sym c.requires.new_chosen) c.as_slice.ensures c.as_slice-2.ensures c.new-delta.ensures c.in_ok-change_epoch.ensures c.in_ok-change_gone.ensures c.in_ok-change_placed.ensures pending.1 pending.2

pub returns-clause-plain : goal.returns-clause-plain
returns-clause-plain c =
    let pending = c.in_ok-change_pending.ensures in
    all_plain c.args.old.now c.args.new.now c.as_slice.result.now c.as_slice-2.result.now c.new-delta.result c.change_epoch.new.delta c.change_gone.new.delta c.change_placed.new.delta c.change_pending.new.delta pending.0
    c.requires.old_rules c.requires.new_rules c.as_slice.ensures c.as_slice-2.ensures c.new-delta.ensures c.in_ok-change_epoch.ensures c.in_ok-change_gone.ensures c.in_ok-change_placed.ensures pending.1 pending.2

pub returns-clause-changes : goal.returns-clause-changes
returns-clause-changes c =
    let pending = c.in_ok-change_pending.ensures in
    all_fit c.args.old.now c.args.new.now c.as_slice.result.now c.as_slice-2.result.now c.new-delta.result c.change_epoch.new.delta c.change_gone.new.delta c.change_placed.new.delta c.change_pending.new.delta pending.0
    c.requires.old_rules c.requires.new_rules (omega arith) (omega arith) c.new-delta.ensures c.in_ok-change_epoch.ensures c.in_ok-change_gone.ensures c.in_ok-change_placed.ensures pending.1 pending.2

pub returns-clause-exact : goal.returns-clause-exact
returns-clause-exact c =
    let pending = c.in_ok-change_pending.ensures in
    all_between c.args.old.now c.args.new.now c.as_slice.result.now c.as_slice-2.result.now c.new-delta.result c.change_epoch.new.delta c.change_gone.new.delta c.change_placed.new.delta c.change_pending.new.delta pending.0
    c.as_slice.ensures c.as_slice-2.ensures c.new-delta.ensures c.in_ok-change_epoch.ensures c.in_ok-change_gone.ensures c.in_ok-change_placed.ensures pending.1 pending.2
