use Rattle.std.proofs.Common.{◌∙◌, sym, ap, subst}
use Rattle.outer_agent.specs.Words.{AreFew, command_words}
use Rattle.outer_agent.proofs.WordLaws.{few_left}
use Rattle.outer_agent.proofs.progress.Progress.begin.Goals as goal

pub invariant_of-result : goal.invariant_of-result
invariant_of-result c = record { few = subst AreFew (sym (c.in_ok-words.ensures ∙ ap command_words c.as_slice.ensures)) (few_left c.args.words.now c.requires.few) }
