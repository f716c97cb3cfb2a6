use Rattle.session_engine.proofs.hearing.hear_view.Goals as goal

pub returns-in-Ok : goal.returns-in-Ok
returns-in-Ok c = record { stands = c.in-Ok.ensures.stands; acts = c.in-Ok.ensures.acts; fit = c.in-Ok.ensures.fit }
