use Rattle.std.proofs.Common.{inl, inr, map, string_bytes}
use Rattle.std.proofs.lemmas.Bool.{false≢true}
use Rattle.smtrace_app.proofs.Printing.{bad_words, no_view}
use Rattle.smtrace_app.proofs.program.run_words.Goals as goal

pub returns-clause-runs : goal.returns-clause-runs
returns-clause-runs g c =
    bad_words (map string_bytes c.args.words.now) (g.C.Told.outside c.args.console.now)
    (λ are. elim are [
      | inl asked ↦ no_view (map string_bytes c.args.words.now) (λ are. false≢true (c.if-are_one_word.ensures.1 are)) (λ are. false≢true (c.if-are_one_word-2.ensures.1 are)) (λ are. false≢true (c.if-are_one_word-3.ensures.1 are)) asked.0 asked.1
      | inr replay ↦ false≢true (c.if-are_one_word-4.ensures.1 replay)
    ])
