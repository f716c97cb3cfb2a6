use Rattle.std.proofs.Common.{rules, ◌≡◌, Some, None, []}
use Rattle.ice_framing.specs.Frames.{fed, cut}
use Rattle.frame_speech.proofs.Streams.{taken_on, taken_none}
use Rattle.frame_speech.proofs.stream.CutStream.take.Goals as goal

pub returns-in_ok-cutting-in-Some : goal.returns-in_ok-cutting-in-Some
returns-in_ok-cutting-in-Some c = λ stream at.
    let is : c.args.self.now.rest ≡ Some c.in-Some.cutter = search rules in
    let are : c.in_ok-cutting-in-Some.cutting.frames ≡ (cut (fed c.in-Some.cutter c.args.bytes.now)).frames = search rules in
    let went = taken_on stream c.args.bytes.now c.args.self.now.rest c.in-Some.cutter c.in_ok-cutting-in-Some.cutting.frames c.in_ok-cutting-in-Some.cutting.rest at is are c.in_ok-cutting-in-Some.ensures.rest in
    record { frames = went.frames; stands = went.stands }

pub returns-in-None : goal.returns-in-None
returns-in-None c = λ stream at.
    let is : c.args.self.now.rest ≡ None = search rules in
    let none : c.new.result ≡ [] = search rules in
    let gone : c.take.new.self ≡ None = search rules in
    let went = taken_none stream c.args.bytes.now c.args.self.now.rest c.new.result c.take.new.self at is none gone in
    record { frames = went.frames; stands = went.stands }
