use Rattle.session_model.specs.Tables.{is_of}
use Rattle.session_clients.proofs.KnownLaws.{kept_by_chosen, kept_by_other}
use Rattle.session_clients.proofs.entries.is_kept_id.Goals as goal

pub returns-then-has_id : goal.returns-then-has_id
returns-then-has_id c =
    kept_by_chosen (is_of c.args.id.now) c.args.book.now.entries c.as_slice.result.now c.args.book.now.others c.has_id.result c.as_slice.ensures c.has_id.ensures c.if-has_id.ensures

pub returns-else-has_id : goal.returns-else-has_id
returns-else-has_id c =
    kept_by_other (is_of c.args.id.now) c.args.book.now.entries c.as_slice.result.now c.args.book.now.others c.as_slice-else-has_id.result.now c.is_kept_among.result
    c.as_slice.ensures c.as_slice-else-has_id.ensures c.if-has_id.ensures c.is_kept_among.ensures
