use Rattle.std.proofs.Common.{◌≡◌, ◌∙◌, ◌++◌, ℕ, List, ap, option_copied}
use Rattle.session_watch.specs.Story.{Passage}
use Rattle.session_watch.specs.Knowing.{Follows}
use Rattle.session_watch.specs.Lines.{names_text, stage_shown, client_line}
use Rattle.session_watch.proofs.Lining.{on_ok, put_line}
use Rattle.session_watch.proofs.lines.put_client.Goals as goal

pub returns : goal.returns
returns c = on_ok c.put_names.result
    (c.put_names.new.out ≡ c.put_talk.new.out ++ names_text (option_copied c.id.result) (option_copied c.program.result))
    ((start : ℕ) (story : List Passage) → Follows start story c.args.watch.now → c.put_names.new.out ≡ c.args.out.now ++ client_line c.args.excused c.args.conn c.args.now start story)
    (λ named start story follows.
    put_line c.args.out.now c.put_state.new.out c.put_talk.new.out c.put_names.new.out c.args.excused c.args.conn c.args.now start story
    c.shown.result c.is_logout.result c.silent.result c.asked.result c.answered.result (option_copied c.id.result) (option_copied c.program.result)
    c.in_ok-put_state.ensures c.in_ok-put_talk.ensures named
    (record {
      stage_is = c.shown.ensures ∙ ap (stage_shown c.args.excused) (c.stage.ensures start story follows);
      logout_is = c.is_logout.ensures start story follows;
      silent_is = c.silent.ensures start story follows;
      asked_is = c.asked.ensures start story follows;
      answered_is = c.answered.ensures start story follows;
      id_is = c.id.ensures start story follows;
      program_is = c.program.ensures start story follows;
    }))
    c.put_names.ensures
