use Rattle.std.proofs.Common.{map, string_bytes, IsErrOf, Err}
use Rattle.clap.specs.Simple.{app_of}
use Rattle.client_words.proofs.WordLaws.{found_rows, has_fault, no_fault}
use Rattle.client_words.proofs.reading.find_matches.Goals as goal

pub returns-in-Ok-try_get_matches_from-clause-read : goal.returns-in-Ok-try_get_matches_from-clause-read
returns-in-Ok-try_get_matches_from-clause-read c =
    no_fault (app_of c.in-Ok.command) (map string_bytes c.args.words.now) c.in-Ok.ensures c.in-Ok-try_get_matches_from.ensures.kinds

pub returns-in-Ok-try_get_matches_from-clause-rows : goal.returns-in-Ok-try_get_matches_from-clause-rows
returns-in-Ok-try_get_matches_from-clause-rows c =
    found_rows (app_of c.in-Ok.command) (map string_bytes c.args.words.now) c.in-Ok-try_get_matches_from.matches c.in-Ok.ensures c.in-Ok-try_get_matches_from.ensures.matches

pub returns-in-Err-try_get_matches_from-clause-bad : goal.returns-in-Err-try_get_matches_from-clause-bad
returns-in-Err-try_get_matches_from-clause-bad c =
    has_fault (app_of c.in-Ok.command) (map string_bytes c.args.words.now) c.in-Err-try_get_matches_from.error c.refusal.result c.in-Ok.ensures c.in-Err-try_get_matches_from.ensures.kinds c.refusal.ensures
