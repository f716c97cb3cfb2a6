use Rattle.std.proofs.lemmas.Result.{on_ok_weaker}
use Rattle.checkpoint_changes.proofs.SpellLaws.{pend_fits, put_added, put_fits, remove_fits}
use Rattle.checkpoint_changes.proofs.spelling.put_change.Goals as goal

pub put-requires : goal.put-requires
put-requires c = remove_fits c.args.change.now c.in-Remove.id c.in-Remove.is c.requires

pub put-requires-in-Put : goal.put-requires-in-Put
put-requires-in-Put c = (put_fits c.args.change.now c.in-Put.name c.in-Put.entry c.in-Put.is c.requires).0

pub put_entry-requires : goal.put_entry-requires
put_entry-requires c = (put_fits c.args.change.now c.in-Put.name c.in-Put.entry c.in-Put.is c.requires).1

pub returns-in_ok-put-in-Put : goal.returns-in_ok-put-in-Put
returns-in_ok-put-in-Put c =
    on_ok_weaker c.put_entry.result (λ h.
    put_added c.args.change.now c.in-Put.name c.in-Put.entry c.args.out.now c.put_head-in-Put.new.out c.put-in-Put.new.out c.put_entry.new.out
    c.in-Put.is c.in_ok-put_head-in-Put.ensures c.in_ok-put-in-Put.ensures.ok h) c.put_entry.ensures

pub put_command-requires : goal.put_command-requires
put_command-requires c = pend_fits c.args.change.now c.in-Pend.command c.in-Pend.is c.requires
