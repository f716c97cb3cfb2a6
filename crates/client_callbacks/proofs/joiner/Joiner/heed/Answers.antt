use Rattle.std.proofs.Common.{refl}
use Rattle.client_engine.specs.declared.hearing.Cue.TheVariants.{Cancelled, Complete, Die}
use Rattle.client_callbacks.specs.Answers.{unasked}
use Rattle.client_callbacks.specs.Doing.{keeper_of}
use Rattle.client_callbacks.specs.Script.{cued}
use Rattle.client_callbacks.proofs.HeedLaws.{because, takes_as, takes_noted, takes_silent, takes_unnoted}
use Rattle.client_callbacks.proofs.joiner.Joiner.heed.Goals as goal

pub returns-in-Nothing-clause-takes : goal.returns-in-Nothing-clause-takes
returns-in-Nothing-clause-takes g c = rw c.in-Nothing.is (takes_silent g.S.Saves.answers g.D.Dies.gives g.C.Cancels.hears _ _ unasked _ refl refl)

pub returns-in-Ok-clause-takes : goal.returns-in-Ok-clause-takes
returns-in-Ok-clause-takes g c = rw c.in-Registered.is (takes_noted g.S.Saves.answers g.D.Dies.gives g.C.Cancels.hears (g.P.Told.outside c.args.peer.now) _ _ _ _ _ unasked _ (rw c.as_slice.ensures at c.in-Ok.ensures.ok) refl refl)

pub returns-in-Registered-clause-takes : goal.returns-in-Registered-clause-takes
returns-in-Registered-clause-takes g c = takes_unnoted g.S.Saves.answers g.D.Dies.gives g.C.Cancels.hears (g.P.Told.outside c.args.peer.now) _ _ _ _ unasked _ c.in-Err.ensures.err

pub returns-in-Save-clause-takes : goal.returns-in-Save-clause-takes
returns-in-Save-clause-takes g c = rw c.in-Save.is c.save.ensures.takes

pub returns-in-Cancelled-clause-takes : goal.returns-in-Cancelled-clause-takes
returns-in-Cancelled-clause-takes g c = rw c.in-Cancelled.is (takes_as g.S.Saves.answers g.D.Dies.gives g.C.Cancels.hears _ _ _ (λ r. cued (keeper_of c.args.progress.now) r Cancelled) (λ none. unasked) _ _ (λ none. refl) c.cancel.ensures.takes)

pub returns-in-Complete-clause-takes : goal.returns-in-Complete-clause-takes
returns-in-Complete-clause-takes g c = rw c.in-Complete.is (takes_as g.S.Saves.answers g.D.Dies.gives g.C.Cancels.hears _ _ _ (λ r. cued (keeper_of c.args.progress.now) r Complete) (λ none. unasked) _ _ (λ none. refl) c.complete.ensures.takes)

pub returns-in-Die-clause-takes : goal.returns-in-Die-clause-takes
unfolding because
returns-in-Die-clause-takes g c = rw c.in-Die.is (takes_as g.S.Saves.answers g.D.Dies.gives g.C.Cancels.hears _ _ _ (λ r. cued (keeper_of c.args.progress.now) r Die) because _ _ (λ reasons. refl) c.die.ensures.takes)

pub returns-in-Properties-clause-takes : goal.returns-in-Properties-clause-takes
returns-in-Properties-clause-takes g c = rw c.in-Properties.is (takes_silent g.S.Saves.answers g.D.Dies.gives g.C.Cancels.hears _ _ unasked _ refl refl)

pub returns-in-Refused-clause-takes : goal.returns-in-Refused-clause-takes
returns-in-Refused-clause-takes g c = rw c.in-Refused.is (takes_silent g.S.Saves.answers g.D.Dies.gives g.C.Cancels.hears _ _ unasked _ refl refl)

pub returns-clause-takes : goal.returns-clause-takes
returns-clause-takes g c = rw c.in-Malformed.is (takes_silent g.S.Saves.answers g.D.Dies.gives g.C.Cancels.hears _ _ unasked _ refl refl)
