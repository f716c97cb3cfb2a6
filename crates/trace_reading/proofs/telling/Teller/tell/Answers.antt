use Rattle.ice_values.proofs.OptionLaws.{on_ok_by}
use Rattle.trace_reading.proofs.TellingLemmas.{goes_on}
use Rattle.trace_reading.proofs.telling.Teller.tell.Goals as goal

pub returns : goal.returns
returns c =
    on_ok_by c.tell.result _ _
    (goes_on c.args.said.now c.args.self.now c.take.new.self c.tell.new.self c.in_ok-brought.brought c.args.out.now c.tell.new.out c.in_ok-brought.ensures.brings)
    c.tell.ensures
