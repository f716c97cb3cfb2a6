use Rattle.std.proofs.Common.{refl}
use Rattle.client_machine.specs.Phases.{is_owing}
use Rattle.client_engine.specs.Places.{phase_at}
use Rattle.named_joiner.specs.Doing.{keeper_of}
use Rattle.named_joiner.specs.Script.{unasked}
use Rattle.named_joiner.proofs.HeedLaws.{because_by, cancelled_by, owed_talk, takes_silent}
use Rattle.named_joiner.proofs.callers.Callers.heed.Goals as goal

pub returns-in-Nothing-clause-takes : goal.returns-in-Nothing-clause-takes
returns-in-Nothing-clause-takes g c = rw c.in-Nothing.is (takes_silent g.S.NamedSaves.answers g.D.NamedDies.gives _ _ unasked _ refl refl)

pub returns-in-Registered-clause-takes : goal.returns-in-Registered-clause-takes
returns-in-Registered-clause-takes g c = rw c.in-Registered.is (takes_silent g.S.NamedSaves.answers g.D.NamedDies.gives _ _ unasked _ refl refl)

pub returns-in-Save-clause-takes : goal.returns-in-Save-clause-takes
returns-in-Save-clause-takes g c = rw c.in-Save.is c.save.ensures.takes

pub returns-in-Cancelled-clause-takes : goal.returns-in-Cancelled-clause-takes
returns-in-Cancelled-clause-takes g c = rw c.in-Cancelled.is (cancelled_by g.S.NamedSaves.answers g.D.NamedDies.gives c.cancel.result _ _ c.args.self.now (keeper_of c.args.progress.now) _ (is_owing (phase_at c.args.progress.now.core.talk.place)) c.cancel.ensures.bytes (owed_talk c.cancel.result c.args.progress.now c.cancel.new.self c.cancel.ensures.talk c.cancel.ensures.ending))

pub returns-in-Complete-clause-takes : goal.returns-in-Complete-clause-takes
returns-in-Complete-clause-takes g c = rw c.in-Complete.is (takes_silent g.S.NamedSaves.answers g.D.NamedDies.gives _ _ unasked _ refl refl)

pub returns-in-Die-clause-takes : goal.returns-in-Die-clause-takes
returns-in-Die-clause-takes g c = rw c.in-Die.is (because_by g.S.NamedSaves.answers g.D.NamedDies.gives c.die.result _ _ (keeper_of c.args.progress.now) _ c.die.ensures.takes)

pub returns-in-Properties-clause-takes : goal.returns-in-Properties-clause-takes
returns-in-Properties-clause-takes g c = rw c.in-Properties.is (takes_silent g.S.NamedSaves.answers g.D.NamedDies.gives _ _ unasked _ refl refl)

pub returns-in-Refused-clause-takes : goal.returns-in-Refused-clause-takes
returns-in-Refused-clause-takes g c = rw c.in-Refused.is (takes_silent g.S.NamedSaves.answers g.D.NamedDies.gives _ _ unasked _ refl refl)

pub returns-clause-takes : goal.returns-clause-takes
returns-clause-takes g c = rw c.in-Malformed.is (takes_silent g.S.NamedSaves.answers g.D.NamedDies.gives _ _ unasked _ refl refl)
