use Rattle.std.proofs.Common.{rules}
use Rattle.world_time.proofs.TimelyLaws.{timely-given}
use Rattle.unix_links.proofs.links.SocketLinks.flush.Goals as goal

pub returns-clause-time : goal.returns-clause-time
returns-clause-time c = λ moments timely. timely-given _ _ _ moments (search rules) (search rules) timely
