-- The second phase begins for all that want it.
use Rattle.std.proofs.Common.{◌≡◌, refl, ℕ, List, [], ◌∷◌, sym, ap, ◌∙◌}
use Rattle.std.specs.Prelude.{Option, Some}
use Rattle.xsmp_messages.specs.declared.message.XsmpMessage.{XsmpMessage}
use Rattle.xsmp_messages.specs.declared.message.XsmpMessage.TheVariants.{SaveYourselfPhase2}
use Rattle.round_agreement.specs.Agreement.{Agreement, with_second}
use Rattle.session_model.specs.Moves.{Gave, gave_each}
use Rattle.session_model.specs.Rules.{wanting_two}
use Rattle.session_state.specs.Session.{Session, in_round, moved, moved_all, with_second_at}
use Rattle.session_state.proofs.Seconds.{second-begun}
use Rattle.manager_machine.specs.Given.{told, told_each}

told-round : (m : XsmpMessage) (conns : List ℕ) (s : Session) (round : Option Agreement) → told_each m conns (record s { round = round }) ≡ record (told_each m conns s) { round = round }
told-round m [] s round = refl
told-round m (c ∷ conns) s round = told-round m conns (told c m s) round

-- each of these that gets the message notes it, and the round notes all of them
given-told : (conns : List ℕ) (s : Session) → moved_all (gave_each SaveYourselfPhase2 conns) s ≡ record (told_each SaveYourselfPhase2 conns s) { round = (moved_all (gave_each SaveYourselfPhase2 conns) s).round }
given-told [] s = refl
given-told (c ∷ conns) s =
    given-told conns (moved (Gave c SaveYourselfPhase2) s)
    ∙ ap (λ (t : Session). record t { round = (moved_all (gave_each SaveYourselfPhase2 conns) (moved (Gave c SaveYourselfPhase2) s)).round }) (told-round SaveYourselfPhase2 conns (told c SaveYourselfPhase2 s) (in_round (with_second_at c) s.round))

pub begun-second : (s t : Session) (wanting : List ℕ) (round : Agreement) → s.round ≡ Some round → wanting ≡ wanting_two round.members → t ≡ told_each SaveYourselfPhase2 wanting (record s { round = in_round with_second s.round })
    → t ≡ moved_all (gave_each SaveYourselfPhase2 (wanting_two round.members)) s
begun-second s t wanting round r w e =
    e
    ∙ told-round SaveYourselfPhase2 wanting s (in_round with_second s.round)
    ∙ (λ i. record (told_each SaveYourselfPhase2 (w i) s) { round = in_round with_second (r i) })
    ∙ ap (λ (o : Option Agreement). record (told_each SaveYourselfPhase2 (wanting_two round.members) s) { round = o }) (sym (second-begun s round r))
    ∙ sym (given-told (wanting_two round.members) s)
