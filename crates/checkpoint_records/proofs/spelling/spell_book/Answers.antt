use Rattle.std.proofs.Common.{◌≡◌, arith, length, sym, subst}
use Rattle.std.specs.List.{AllByRecursion}
use Rattle.checkpoint_records.specs.Books.{sessions}
use Rattle.checkpoint_records.specs.Parts.{HasCommandSpelling}
use Rattle.checkpoint_records.specs.declared.head.Format.TheVariants.{Several}
use Rattle.checkpoint_records.proofs.SpellLaws.{book_made, chosen_fits, commands_fit, head_made, others_fit}
use Rattle.checkpoint_records.proofs.spelling.spell_book.Goals as goal

pub put_all_sessions-requires-clause-chosen : goal.put_all_sessions-requires-clause-chosen
put_all_sessions-requires-clause-chosen c = chosen_fits c.args.book.now c.requires.rules

pub put_all_sessions-requires-clause-others : goal.put_all_sessions-requires-clause-others
put_all_sessions-requires-clause-others c = others_fit c.args.book.now c.requires.rules

pub put_commands-requires : goal.put_commands-requires
put_commands-requires c = subst (AllByRecursion HasCommandSpelling) (sym c.as_slice-pending.ensures) (commands_fit c.args.book.now.pending c.requires.rules.commands)

pub returns : goal.returns
returns c =
    let book = c.args.book.now in
    let count : c.count_sessions.result ≡ length (sessions book) = omega (arith, c.count_sessions.ensures, c.requires.rules.few_sessions) in
    book_made book (record { format = Several; epoch = book.epoch; count = c.count_sessions.result; pending = length c.as_slice-pending.result.now }) c.as_slice-pending.result.now c.new-out.result c.put_head.new.out c.put_all_sessions.new.out c.put_commands.new.out
    (head_made book c.count_sessions.result c.as_slice-pending.result.now count c.as_slice-pending.ensures) c.as_slice-pending.ensures c.new-out.ensures c.in_ok-put_head.ensures c.in_ok-put_all_sessions.ensures c.in_ok-put_commands.ensures
