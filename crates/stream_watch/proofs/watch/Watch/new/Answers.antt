use Rattle.stream_watch.specs.Watching.{is_connection_reply, is_die}
use Rattle.stream_watch.proofs.Beginning.{none_yet}
use Rattle.stream_watch.proofs.watch.Watch.new.Goals as goal

pub returns : goal.returns
returns c = record { stands = c.new.ensures; let_in = none_yet is_connection_reply; told_to_die = none_yet is_die }
