use Rattle.program_frame.proofs.own.OwnTexts.begin.Goals as goal

pub returns-in-Some-clause-shown : goal.returns-in-Some-clause-shown
returns-in-Some-clause-shown g c =
    rw c.in-Ok.is (record {
      text = c.in-Some.text.now;
      asked = rw c.as_slice.ensures.value at c.in-Some.ensures.some;
      printed = c.print-in-Some.result;
      prints = record {
        told = rw c.as_bytes-in-Some.ensures.value at c.print-in-Some.ensures.effects;
        uses = c.print-in-Some.ensures.uses;
        input = c.print-in-Some.ensures.input;
      };
      number = c.own_status.ensures;
    })
