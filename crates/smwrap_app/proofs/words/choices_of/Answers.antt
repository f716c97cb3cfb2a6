use Rattle.smwrap_app.proofs.words.choices_of.Goals as goal

pub returns-in_err-id_of-clause-none : goal.returns-in_err-id_of-clause-none
returns-in_err-id_of-clause-none c = λ e chosen texts. c.in_err-id_of.ensures chosen.id texts.id
