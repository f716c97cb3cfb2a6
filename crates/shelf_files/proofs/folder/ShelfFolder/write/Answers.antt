use Rattle.shelf_files.proofs.folder.ShelfFolder.write.Goals as goal

pub spell_book-requires-clause-rules : goal.spell_book-requires-clause-rules
spell_book-requires-clause-rules c = c.requires.0

pub spell_book-requires-clause-chosen : goal.spell_book-requires-clause-chosen
spell_book-requires-clause-chosen c = c.requires.1
