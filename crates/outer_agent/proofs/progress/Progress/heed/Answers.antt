use Rattle.outer_agent.proofs.progress.Progress.heed.Goals as goal

pub returns-in-First-clause-acts : goal.returns-in-First-clause-acts
returns-in-First-clause-acts c = rw c.in-Save.is (rw c.in-First.is c.save.ensures)
