use Rattle.std.proofs.Common.{rules, ◌≡◌, refl}
use Rattle.std.specs.Prelude.{unwrap_or}
use Rattle.ice_values.specs.Walks.{walk_left}
use Rattle.session_watch.specs.Knowing.{latest, set_by}
use Rattle.session_watch.specs.declared.party.Party.TheVariants.{Client}
use Rattle.session_watch.proofs.known.Known.note_set.Goals as goal

pub returns-in_ok-self-in-Client : goal.returns-in_ok-self-in-Client
returns-in_ok-self-in-Client c =
    let program : c.in_ok-self-in-Client.field-0 ≡ unwrap_or (latest set_by (walk_left c.args.walk)) c.args.self.now.program = search rules in
    let is : c.args.party ≡ Client = search rules in
    rw (program, is) refl
