use Rattle.std.proofs.Common.{rules, ◌∙◌, ap, sym, length, map, filter}
use Rattle.std.proofs.lemmas.Fn.{filter_same}
use Rattle.start_waves.specs.Ranks.{lowest}
use Rattle.start_waves.specs.Waves.{Login, command_in, has_priority, has_other_priority, wave_gone}
use Rattle.start_waves.specs.contracts.waves.Waves.{the_view}
use Rattle.start_waves.proofs.WaveLaws.{begins}
use Rattle.start_waves.proofs.waves.Waves.begin.Goals as goal

pub returns-clause-gone : goal.returns-clause-gone
returns-clause-gone c =
    begins (the_view c.self.inside) c.lowest-priority.result _ _ _ (c.lowest-priority.ensures ∙ ap lowest c.as_slice.ensures.value)
    (filter_same _ (has_other_priority c.lowest-priority.result) _ (λ x kept f r. search rules) _ _ c.retain.ensures.filtered)
    (c.in_ok-wave.ensures ∙ ap (λ (login : Login). map command_in (filter (has_priority c.lowest-priority.result) login.waiting)) (sym c.self.view_is)) (ap length c.as_slice-2.ensures)
    ∙ ap wave_gone c.self.view_is
