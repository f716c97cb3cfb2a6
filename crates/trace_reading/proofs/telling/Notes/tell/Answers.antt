use Rattle.std.proofs.Common.{◌≡◌, rules}
use Rattle.std.specs.Prelude.{option_copied}
use Rattle.std.specs.Ordering.{nat_cmp}
use Rattle.std.specs.BTreeMap.{get as row_in}
use Rattle.ice_values.proofs.OptionLaws.{on_ok_by}
use Rattle.trace_reading.proofs.TellingLemmas.{ends, sends, shuts, starts}
use Rattle.trace_reading.proofs.telling.Notes.tell.Goals as goal

pub returns-in-Heard : goal.returns-in-Heard
returns-in-Heard c = rw (c.in-Heard.is) c.tell_event.ensures

pub returns-in-End : goal.returns-in-End
returns-in-End c =
    rw (c.in-End.is) (on_ok_by c.put_words.result _ _ (ends c.args.self.now c.args.brought.now c.args.out.now c.put_words.new.out) c.put_words.ensures)

pub returns-in-Sent : goal.returns-in-Sent
returns-in-Sent c =
    let known : option_copied c.get-known.result ≡ row_in nat_cmp c.args.self.now.programs c.in-Sent.conn = search rules in
    rw (c.in-Sent.is) (on_ok_by c.put_sent.result _ _ (sends c.in-Sent.conn c.in-Sent.field-1 c.args.self.now c.args.brought.now c.args.out.now c.put_sent.new.out) (rw known at c.put_sent.ensures))

pub returns-in-Shut : goal.returns-in-Shut
returns-in-Shut c =
    let known : option_copied c.get-known-in-Shut.result ≡ row_in nat_cmp c.args.self.now.programs c.in-Shut.conn = search rules in
    rw (c.in-Shut.is) (on_ok_by c.put_deed.result _ _ (shuts c.in-Shut.conn c.args.self.now c.args.brought.now c.args.out.now c.put_deed.new.out) (rw known at c.put_deed.ensures))

pub returns-in-Started : goal.returns-in-Started
returns-in-Started c =
    let text : c.as_slice.result.now ≡ c.in-Started.text = search rules in
    rw (c.in-Started.is) (on_ok_by c.put_started.result _ _ (starts c.in-Started.succeeded c.in-Started.text c.args.self.now c.args.brought.now c.args.out.now c.put_started.new.out) (rw text at c.put_started.ensures))
