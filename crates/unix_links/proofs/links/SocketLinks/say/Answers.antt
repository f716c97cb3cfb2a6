use Rattle.std.proofs.Common.{rules}
use Rattle.world_time.proofs.TimelyLaws.{timely-later}
use Rattle.unix_links.proofs.links.SocketLinks.say.Goals as goal

pub returns-in_ok-send-clause-time : goal.returns-in_ok-send-clause-time
returns-in_ok-send-clause-time c = λ moments timely. timely-later _ _ moments (search rules) timely

pub returns-in_err-send-clause-time : goal.returns-in_err-send-clause-time
returns-in_err-send-clause-time c = λ moments timely. timely-later _ _ moments (search rules) timely
