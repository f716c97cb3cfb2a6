use Rattle.std.proofs.Common.{[], ◌∷◌, ◌++◌, refl, sym}
use Rattle.sm_world.specs.declared.effects.Effect.TheVariants.{Sent, Shut as WasShut, Printed}
use Rattle.protocol_messages.specs.declared.message.Message.TheVariants.{Xsmp}
use Rattle.xsmp_messages.specs.declared.message.XsmpMessage.TheVariants.{Error}
use Rattle.session_engine.specs.Messages.{spelled}
use Rattle.session_engine.specs.declared.acts.Act.TheVariants.{Say, Shut, Print}
use Rattle.session_engine.proofs.Performing.{told_deed, told_finish, told_nothing, told_start}
use Rattle.session_engine.proofs.shell.Shell.do_session_act.Goals as goal

pub returns-in-Say-clause-done : goal.returns-in-Say-clause-done
returns-in-Say-clause-done g c = rw (c.in-Say.is, c.hand_on.ensures) (told_deed c.args.store (Sent c.in-Say.to (spelled (Xsmp c.in-Say.message))) (Say c.in-Say.to (Xsmp c.in-Say.message)) (record { done = record { deaf = refl; quiet = refl; does = refl; shows = refl }; quiet = tt; keeps = λ book. refl; uncounted = refl; unstored = refl }) _ _ c.send_xsmp.result c.send_xsmp.ensures.able c.send_xsmp.ensures.effects)

pub returns-in-Blame-clause-done : goal.returns-in-Blame-clause-done
returns-in-Blame-clause-done g c = rw (c.in-Blame.is, c.hand_on-in-Blame.ensures) (told_deed c.args.store (Sent c.in-Blame.to (spelled (Xsmp (Error c.in-Blame.error)))) (Say c.in-Blame.to (Xsmp (Error c.in-Blame.error))) (record { done = record { deaf = refl; quiet = refl; does = refl; shows = refl }; quiet = tt; keeps = λ book. refl; uncounted = refl; unstored = refl }) _ _ c.send_xsmp-in-Blame.result c.send_xsmp-in-Blame.ensures.able c.send_xsmp-in-Blame.ensures.effects)

pub returns-in-Unset-clause-done : goal.returns-in-Unset-clause-done
returns-in-Unset-clause-done g c = rw c.in-Unset.is (told_nothing c.args.store _)

pub returns-in-Shut-clause-done : goal.returns-in-Shut-clause-done
returns-in-Shut-clause-done g c = rw (c.in-Shut.is, c.hand_on-in-Shut.ensures) (told_deed c.args.store (WasShut c.in-Shut.conn) (Shut c.in-Shut.conn) (record { done = record { deaf = refl; quiet = refl; does = refl; shows = refl }; quiet = tt; keeps = λ book. refl; uncounted = refl; unstored = refl }) _ _ c.shut.result c.shut.ensures.able c.shut.ensures.effects)

pub returns-in-Start-clause-done : goal.returns-in-Start-clause-done
returns-in-Start-clause-done g c = rw (c.in-Start.is, c.hand_on-in-Start.ensures) (told_start c.args.store c.in-Start._reason c.in-Start.command _ _ c.start.result c.start.ensures.able c.start.ensures.effects)

pub returns-in-Print-clause-done : goal.returns-in-Print-clause-done
returns-in-Print-clause-done g c = rw (c.in-Print.is, c.hand_on-in-Print.ensures) (told_deed c.args.store (Printed (c.in-Print.text ++ 10 ∷ [])) (Print c.in-Print.text) (record { done = record { deaf = refl; quiet = refl; does = refl; shows = refl }; quiet = tt; keeps = λ book. refl; uncounted = refl; unstored = refl }) _ _ c.print.result (rw (sym c.as_slice.ensures) c.print.ensures.able) (rw (sym c.as_slice.ensures) c.print.ensures.effects))

pub returns-in-Finish-clause-done : goal.returns-in-Finish-clause-done
returns-in-Finish-clause-done g c = rw c.in-Finish.is (told_finish c.args.store _)
