use Rattle.shelf_files.proofs.logins.over_new.Goals as goal

pub over_store-requires-clause-stored : goal.over_store-requires-clause-stored
over_store-requires-clause-stored c = (c.in-Ok.ensures.found.rules, c.in-Ok.ensures.found.chosen)
