use Rattle.std.proofs.Common.{◌∙◌, sym, ap}
use Rattle.session_watch.specs.Knowing.{name_in}
use Rattle.session_watch.proofs.Noting.{if_ok, program_shown, no_program_shown}
use Rattle.session_watch.proofs.known.program_shown.Goals as goal

pub returns-then-is_program : goal.returns-then-is_program
returns-then-is_program c =
    if_ok c.name_shown.result _ _ (λ name is p views.
    program_shown c.args.endian c.args.view.now p name c.args.before views (sym c.is_program.ensures ∙ c.if-is_program.true) (is ∙ ap name_in (c.of.ensures p views).left)) c.name_shown.ensures

pub returns-else-is_program : goal.returns-else-is_program
returns-else-is_program c = λ p views. no_program_shown c.args.endian c.args.view.now p c.args.before views (sym c.is_program.ensures ∙ c.if-is_program.false)
