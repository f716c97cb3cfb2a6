use Rattle.std.proofs.Common.{[], rules}
use Rattle.xsmp_properties.specs.Tables.{set_all}
use Rattle.session_model.specs.Errors.{full_table}
use Rattle.session_model.specs.Tables.{is_full}
use Rattle.session_clients.specs.Clients.{table_in}
use Rattle.manager_machine.proofs.Replying.{blamed-then}
use Rattle.session_answers.specs.Arrivals.{arrival_of}
use Rattle.manager_machine.proofs.session_core.Core.reply_to_setting.Goals as goal

pub returns-then-branch : goal.returns-then-branch
returns-then-branch c =
    λ s. blamed-then (is_full (set_all (table_in c.args.arrival.now.conn c.args.self.now.clients.rows) c.args.properties.now)) c.args.arrival.now.conn c.in_ok-error.error (full_table (arrival_of c.args.arrival.now)) [] (search rules) c.in_ok-error.ensures
