use Rattle.client_machine.proofs.Places.{asked_in_phase, lawful_places}
use Rattle.client_machine.proofs.laws.lawful_steps_have_their_place.Goals as goal

pub returns-clause-asked : goal.returns-clause-asked
returns-clause-asked c = asked_in_phase

pub returns-clause-steps : goal.returns-clause-steps
returns-clause-steps c = lawful_places
