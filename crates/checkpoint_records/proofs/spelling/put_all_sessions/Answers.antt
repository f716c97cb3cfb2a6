use Rattle.std.proofs.Common.{sym}
use Rattle.std.proofs.lemmas.Bool.{false≢true}
use Rattle.std.proofs.lemmas.Result.{on_ok_weaker}
use Rattle.checkpoint_records.specs.Books.{stored}
use Rattle.checkpoint_records.proofs.PlaceLaws.{all_placed}
use Rattle.checkpoint_records.proofs.SpellLaws.{in_place_added}
use Rattle.checkpoint_records.proofs.spelling.put_all_sessions.Goals as goal

pub returns : goal.returns
returns c =
    let book = c.args.book.now in
    let entries = c.as_slice-entries.result.now in
    let before = c.split_at.result.0.now in
    let behind = c.split_at.result.1.now in
    let is = all_placed book.name book.entries entries book.others c.as_slice-others.result.now before behind c.place_among.result c.as_slice-entries.ensures c.as_slice-others.ensures
    (λ e. absurd (false≢true (rw e at c.if-is_empty.ensures))) c.split_at.ensures.front c.split_at.ensures.back
    (c.place_among.ensures.place (record { name = book.name; entries = entries }) (sym c.as_slice-2.ensures)) in
    on_ok_weaker c.put_sessions-3.result (λ h.
    in_place_added (record { name = book.name; entries = entries }) before behind (stored book.name book.entries book.others) c.args.out.now c.put_sessions-2.new.out c.put_session.new.out c.put_sessions-3.new.out
    is c.in_ok-put_sessions.ensures c.in_ok-put_session.ensures h) c.put_sessions-3.ensures
