use Rattle.std.proofs.Common.{◌≡◌, rules}
use Rattle.ice_values.proofs.OptionLaws.{on_ok_by}
use Rattle.trace_reading.proofs.LineLemmas.{book_line}
use Rattle.trace_reading.proofs.lines.put_book_words.Goals as goal

pub returns : goal.returns
returns c =
    let epoch : c.into.result ≡ c.args.book.now.epoch = search rules in
    let entries : c.as_slice.result.now ≡ c.args.book.now.entries = search rules in
    let pending : c.as_slice-2.result.now ≡ c.args.book.now.pending = search rules in
    on_ok_by c.put_counted-3.result _ _
    (book_line c.args.book.now c.args.out.now c.put_counted.new.out c.put_counted-2.new.out c.put_counted-3.new.out (rw epoch at c.in_ok-put_counted.ensures) (rw entries at c.in_ok-put_counted-2.ensures))
    (rw pending at c.put_counted-3.ensures)
