use Rattle.std.proofs.Common.{refl}
use Rattle.session_engine.specs.declared.engine.Engine.{Engine}
use Rattle.session_engine.specs.Outcomes.{Answered}
use Rattle.session_engine.proofs.Answering.{is_cut, takes-cut, takes_part}
use Rattle.session_engine.proofs.Brought.{HasCut, can_hear, cut_none, has_cut, stands-replied, takes-replied}
use Rattle.session_engine.proofs.Showing.{takes_none}
use Rattle.session_engine.proofs.engine.Engine.cut.Goals as goal

pub cut-requires : goal.cut-requires
cut-requires c = can_hear c.args.conn c.args.left.now c.args.self.now c.requires

pub reply-requires-clause-stands : goal.reply-requires-clause-stands
reply-requires-clause-stands c =
    let has : HasCut c.args.conn c.args.left.now c.in-Some.part c.args.self.now.live c.cut.new.self c.args.self.now.manager c.cut.new.manager = has_cut c.args.conn c.args.left.now c.in-Some.part c.in_ok-part.field-0 c.args.self.now.live c.cut.new.self c.args.self.now.manager c.cut.new.manager c.in-Some.is c.in_ok-part.ensures.cut c.in_ok-part.ensures.others in
    stands-replied c.args.conn c.in-Some.part.reply has.answer c.args.self.now.manager c.cut.new.manager has.replies (c.requires.0.session, c.requires.1.stands)

pub reply-requires-clause-takes : goal.reply-requires-clause-takes
reply-requires-clause-takes c =
    let has : HasCut c.args.conn c.args.left.now c.in-Some.part c.args.self.now.live c.cut.new.self c.args.self.now.manager c.cut.new.manager = has_cut c.args.conn c.args.left.now c.in-Some.part c.in_ok-part.field-0 c.args.self.now.live c.cut.new.self c.args.self.now.manager c.cut.new.manager c.in-Some.is c.in_ok-part.ensures.cut c.in_ok-part.ensures.others in
    let cut_so : Engine = record { cookie = c.args.self.now.cookie; live = c.cut.new.self; manager = c.args.self.now.manager; acts = c.clear.new.self } in
    let answered_so : Answered = record { answer = has.answer; count = c.in-Some.part.count } in
    takes-replied c.args.conn c.in-Some.part.reply has.answer c.args.self.now.manager c.cut.new.manager has.replies (c.requires.0.session, c.requires.1.stands)
    (λ spelled. takes-cut c.args.conn c.args.left.now answered_so c.args.self.now cut_so has.cuts refl refl spelled c.requires)

pub returns-in_ok-reply-in-Some-clause-takes : goal.returns-in_ok-reply-in-Some-clause-takes
returns-in_ok-reply-in-Some-clause-takes c = λ m shows.
    let has : HasCut c.args.conn c.args.left.now c.in-Some.part c.args.self.now.live c.cut.new.self c.args.self.now.manager c.cut.new.manager = has_cut c.args.conn c.args.left.now c.in-Some.part c.in_ok-part.field-0 c.args.self.now.live c.cut.new.self c.args.self.now.manager c.cut.new.manager c.in-Some.is c.in_ok-part.ensures.cut c.in_ok-part.ensures.others in
    let cut_so : Engine = record { cookie = c.args.self.now.cookie; live = c.cut.new.self; manager = c.args.self.now.manager; acts = c.clear.new.self } in
    let answered_so : Answered = record { answer = has.answer; count = c.in-Some.part.count } in
    takes_part m c.args.conn c.args.left.now answered_so cut_so c.reply.new.self c.clear.ensures (is_cut m c.args.conn c.args.left.now answered_so c.args.self.now cut_so has.cuts refl refl shows)
    (c.in_ok-reply-in-Some.ensures has.answer c.args.self.now.manager has.replies)

pub returns-in-None-clause-takes : goal.returns-in-None-clause-takes
returns-in-None-clause-takes c = λ m shows.
    let none = cut_none c.args.conn c.args.left.now c.in_ok-part.field-0 c.args.self.now.live c.cut.new.self c.args.self.now.manager c.cut.new.manager c.in-None.is c.in_ok-part.ensures.cut c.in_ok-part.ensures.others in
    takes_none m c.args.conn c.args.left.now c.args.self.now (record { cookie = c.args.self.now.cookie; live = c.cut.new.self; manager = c.cut.new.manager; acts = c.clear.new.self }) none.0 shows refl none.1
