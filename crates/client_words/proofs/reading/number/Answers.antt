use Rattle.std.proofs.Common.{◌∙◌}
use Rattle.clap.specs.Matches.{found_of}
use Rattle.clap.specs.Walk.{one_of, rows_of}
use Rattle.clap.proofs.WalkLemmas.{one_text-rows}
use Rattle.client_words.proofs.WordLaws.{number_read}
use Rattle.client_words.proofs.reading.number.Goals as goal

pub returns : goal.returns
returns c =
    let same = one_text-rows (found_of c.args.matches.now) c.args.name.now in
    number_read (one_of c.args.name.now (rows_of (found_of c.args.matches.now))) c.get_one.result (λ e. c.get_one.ensures.none (same ∙ e))
    (λ text n e is. let reads = rw is at (c.get_one.ensures.value text (same ∙ e)) in reads.0.1)
