use Rattle.std.proofs.Common.{◌≡◌, ℕ, List, ap₂, subst}
use Rattle.checkpoint_records.specs.Books.{entries_of, others_than}
use Rattle.checkpoint_records.specs.declared.records.Entry.{Entry}
use Rattle.checkpoint_records.specs.declared.records.Named.{Named}
use Rattle.checkpoint_records.proofs.NameLaws.{made}
use Rattle.checkpoint_records.proofs.sessions.chosen_from.Goals as goal

pub returns : goal.returns
returns c =
    let name : List ℕ = c.args.name in
    ap₂ (λ (entries : List Entry) (others : List Named). made c.args.pending c.args.epoch name entries others)
    (subst (λ (n : List ℕ). c.in_ok-entries.entries ≡ entries_of n c.args.sessions) c.as_slice.ensures c.in_ok-entries.ensures.entries)
    (subst (λ (n : List ℕ). c.in_ok-entries.others ≡ others_than n c.args.sessions) c.as_slice.ensures c.in_ok-entries.ensures.others)
