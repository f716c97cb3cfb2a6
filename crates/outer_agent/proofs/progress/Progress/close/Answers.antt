use Rattle.std.proofs.Common.{◌≡◌, ℕ, List, [], ◌++◌, not, sym, ◌∙◌, ap}
use Rattle.client_engine.specs.Answering.{closes}
use Rattle.client_engine.specs.Driving.{Step}
use Rattle.client_engine.specs.Messages.{spelled}
use Rattle.client_engine.specs.declared.place.Talk.{Talk}
use Rattle.client_engine.proofs.Acting.{closing_said, closing_talk}
use Rattle.outer_agent.specs.Doing.{keeper_of}
use Rattle.outer_agent.specs.Script.{Keeper}
use Rattle.outer_agent.proofs.HeedLaws.{closes_named, may_close}
use Rattle.outer_agent.proofs.progress.Progress.close.Goals as goal

pub returns-clause-bytes : goal.returns-clause-bytes
returns-clause-bytes c =
    let keeper : Keeper = keeper_of c.args.self.now in
    let may = may_close (λ id. id.now) keeper c.id.result c.id.ensures (c.is_none.ensures ∙ ap not c.if-is_none.false) in
    let message : c.in-Ok.message ≡ closes [] = closing_said keeper.talk.place c.new-reasons.result c.ask.result c.in-Ok.message may c.new-reasons.ensures c.ask.ensures.answer c.in-Ok.is in
    let spelled_so : c.spell.new.bytes ≡ spelled (closes []) = c.in_ok-spell.ensures.ok ∙ (ap (λ (bytes : List ℕ). bytes ++ spelled c.in-Ok.message) c.new-bytes.ensures ∙ ap spelled message) in
    spelled_so ∙ sym (ap (λ (s : Step Keeper ℕ). s.line) (closes_named (λ id. id.now) keeper c.id.result c.id.ensures (c.is_none.ensures ∙ ap not c.if-is_none.false)))

pub returns-clause-keeper : goal.returns-clause-keeper
returns-clause-keeper c =
    let keeper : Keeper = keeper_of c.args.self.now in
    let may = may_close (λ id. id.now) keeper c.id.result c.id.ensures (c.is_none.ensures ∙ ap not c.if-is_none.false) in
    let talk = closing_talk keeper.talk c.ask.new.self.talk c.new-reasons.result may c.new-reasons.ensures c.ask.ensures.talk in
    ap (λ (t : Talk). let k : Keeper = record { talk = t; words = keeper.words } in k) talk
    ∙ sym (ap (λ (s : Step Keeper ℕ). s.next) (closes_named (λ id. id.now) keeper c.id.result c.id.ensures (c.is_none.ensures ∙ ap not c.if-is_none.false)))
