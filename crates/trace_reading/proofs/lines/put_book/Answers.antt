use Rattle.std.proofs.Common.{codes}
use Rattle.ice_values.proofs.OptionLaws.{on_ok_by}
use Rattle.trace_reading.specs.Lines.{book_words, stamp}
use Rattle.trace_reading.proofs.LineLemmas.{three}
use Rattle.trace_reading.proofs.lines.put_book.Goals as goal

pub returns : goal.returns
returns c =
    on_ok_by c.append.result _ _
    (three c.args.out.now c.put_stamp.new.out c.put_book_words.new.out c.append.new.self (stamp 0) (book_words c.args.book.now) (codes "\n") c.in_ok-put_stamp.ensures c.in_ok-put_book_words.ensures)
    c.append.ensures.ok
