use Rattle.std.proofs.Common.{◌∙◌}
use Rattle.clap.specs.Simple.{app_of}
use Rattle.client_words.proofs.CommandLaws.{built_up, ok_is}
use Rattle.client_words.proofs.command.client_command.Goals as goal

pub returns : goal.returns
returns c =
    ok_is app_of c.added-7.result _ _ c.added-7.ensures
    (built_up _ _ _ _ _ _ _ _ _ _ _ _ _ _ c.bare_command-command.ensures
    c.in_ok-command.ensures c.needed_option.ensures.rule
    c.in_ok-command-2.ensures c.needed_option-2.ensures.rule
    c.in_ok-command-3.ensures c.free_option.ensures.rule
    c.in_ok-command-4.ensures c.default_option.ensures.rule
    c.in_ok-command-5.ensures c.number_option.ensures.rule
    c.in_ok-command-6.ensures c.flag.ensures.rule c.flag-2.ensures.rule)
