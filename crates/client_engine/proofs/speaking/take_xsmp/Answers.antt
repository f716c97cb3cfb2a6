use Rattle.client_engine.proofs.Acting.{may_act}
use Rattle.client_engine.proofs.speaking.take_xsmp.Goals as goal

pub act-requires : goal.act-requires
act-requires c = rw (c.in_ok-asked.ensures.act, c.in_ok-asked.ensures.ok) (may_act c.args.message c.args.client)
