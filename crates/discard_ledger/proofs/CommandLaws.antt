-- Commands that come in parts.
use Rattle.std.proofs.Common.{◌≡◌, List, [], ◌∷◌, ◌++◌, not, refl, ap, sym, ◌∙◌}
use Rattle.std.proofs.lemmas.List.Elements.{filter-append}
use Rattle.owned_lists.specs.declared.commands.Command.{Command}
use Rattle.discard_ledger.specs.Discards.{is_among, with_command, with_commands, without_commands, each_once}

pub with-append : (kept first second : List Command) → with_commands kept (first ++ second) ≡ with_commands (with_commands kept first) second
with-append kept [] second = refl
with-append kept (command ∷ first) second = with-append (with_command kept command) first second

pub without-append : (gone first second : List Command) → without_commands gone (first ++ second) ≡ without_commands gone first ++ without_commands gone second
without-append gone first second = filter-append (λ command. not (is_among command gone)) first second

-- one after another is all at once
pub in_parts : (gone first second third : List Command) →
    with_commands (with_commands (with_commands [] (without_commands gone first)) (without_commands gone second)) (without_commands gone third)
    ≡ each_once (without_commands gone (first ++ second ++ third))
in_parts gone first second third =
    ap (λ kept. with_commands kept (without_commands gone third)) (sym (with-append [] (without_commands gone first) (without_commands gone second)))
    ∙ sym (with-append [] (without_commands gone first ++ without_commands gone second) (without_commands gone third))
    ∙ ap each_once (ap (λ kept. kept ++ without_commands gone third) (sym (without-append gone first second)) ∙ sym (without-append gone (first ++ second) third))
