use Rattle.trace_replay.proofs.watch.Watch.take_event.Goals as goal

pub returns-in-Joined-clause-brings : goal.returns-in-Joined-clause-brings
returns-in-Joined-clause-brings c = rw (c.in-Joined.is) (λ streams shows. record { shows = record { came = c.reset.ensures streams.came shows.came; went = c.reset-in-Joined.ensures streams.went shows.went }; brings = tt })
