use Rattle.std.proofs.Common.{rules}
use Rattle.world_time.proofs.TimelyLaws.{timely-call}
use Rattle.unix_links.proofs.links.SocketLinks.hear.Goals as goal

pub returns-clause-time : goal.returns-clause-time
returns-clause-time c = λ moments timely. timely-call _ _ _ _ moments (search rules) (search rules) timely
