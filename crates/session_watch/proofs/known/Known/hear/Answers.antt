use Rattle.std.proofs.Common.{rules, ◌≡◌, ◌∙◌, refl}
use Rattle.std.specs.Prelude.{option_and_then, unwrap_or}
use Rattle.std.specs.Option.{option_or}
use Rattle.session_watch.specs.Knowing.{answers, worked_in, program_in}
use Rattle.session_watch.proofs.Noting.{or_is_unwrap}
use Rattle.session_watch.proofs.known.Known.hear.Goals as goal

pub returns : goal.returns
returns c =
    let program : c.hear_program.new.program ≡ unwrap_or (program_in c.args.message.now) c.args.self.now.program = search rules in
    let answered : c.or-self.result ≡ option_or (answers c.args.message.now) c.args.self.now.answered = search rules in
    let work : c.or-self-2.result ≡ option_or (option_and_then worked_in (answers c.args.message.now)) c.args.self.now.work = search rules in
    rw (program, answered ∙ or_is_unwrap (answers c.args.message.now) c.args.self.now.answered, work) refl
