use Rattle.std.proofs.Common.{◌≡◌, false, sym, ◌∙◌, ap}
use Rattle.client_engine.specs.Answering.{may_ask_at}
use Rattle.client_engine.specs.declared.place.Talk.{Talk}
use Rattle.session_client.proofs.Acts.{asked_err, asked_ok, goes_on, not_changed}
use Rattle.session_client.proofs.turns.try_said.Goals as goal

pub returns-in-Ok-clause-message : goal.returns-in-Ok-clause-message
returns-in-Ok-clause-message c = asked_ok c.args.request c.args.core.talk.place c.in-Ok.message (sym c.ask.ensures.answer ∙ c.in-Ok.is)

pub returns-in-Err-clause-refused : goal.returns-in-Err-clause-refused
returns-in-Err-clause-refused c =
    let none : may_ask_at c.args.request c.args.core.talk.place ≡ false = asked_err c.args.request c.args.core.talk.place c.in-Err.field-0 (sym c.ask.ensures.answer ∙ c.in-Err.is) in
    let talk = c.ask.ensures.talk ∙ goes_on c.args.request c.args.core.talk c.requires.open in
    record {
      no_place = none;
      stays = ap (λ (t : Talk). t.place) talk ∙ not_changed c.args.request c.args.core.talk.place none;
      counts = ap (λ (t : Talk). t.counts) talk;
      splitter = c.ask.ensures.splitter;
    }
