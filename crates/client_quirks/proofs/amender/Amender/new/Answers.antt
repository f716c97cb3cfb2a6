use Rattle.client_quirks.proofs.Followed.{began}
use Rattle.client_quirks.proofs.amender.Amender.new.Goals as goal

pub returns : goal.returns
returns c = began c.new.result c.new-2.result c.new.ensures c.new-2.ensures
