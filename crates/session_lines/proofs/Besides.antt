-- Each book that is written has the other sessions as they were opened, and what such a session has is the same then.
use Rattle.std.proofs.Common.{◌≡◌, refl, ℕ, Bool, true, false, cond, List, [], ◌∷◌, ◌++◌, sym, ap, ◌∙◌, append_assoc}
use Rattle.std.specs.Prelude.{◌≢◌}
use Rattle.std.specs.Str.{bytes_eq}
use Rattle.std.proofs.lemmas.Grind.{flat_map-append}
use Rattle.session_engine.specs.declared.config.Config.{Config}
use lib.Pointwise.{bytes_decides}
use Rattle.checkpoint_records.specs.Books.{choose, entries_of, others_than, sessions}
use Rattle.checkpoint_records.specs.declared.records.Book.{Book}
use Rattle.checkpoint_records.specs.declared.records.Named.{Named}
use Rattle.session_engine.specs.Acts.{book_after, book_with}
use Rattle.session_engine.specs.Machine.{script_of}
use Rattle.session_engine.specs.declared.acts.Act.{Act}
use Rattle.session_engine.specs.declared.acts.Act.TheVariants.{Commit}
use Rattle.session_engine.proofs.Neighbours.{beside_after}
use Rattle.session_lines.specs.Laws.{IsSeen, OthersStay}
use Rattle.session_lines.specs.Lines.{Does, Seen, act_of, acts_in, line}
use Rattle.session_lines.proofs.Script.{acts-line}

-- behind a commit its book stands
after-commit : (book written : Book) (acts : List Act) → book_after book (acts ++ Commit written ∷ []) ≡ written
after-commit book written [] = refl
after-commit book written (act ∷ acts) = after-commit (book_with book act) written acts

pub others-stay : (config : Config) (book : Book) (seen : List Seen) → IsSeen config book seen → OthersStay book seen
others-stay config book seen s written before after e =
    let rest : List Seen = after ++ s.later in
    let whole : before ++ Does (Commit written) ∷ rest ≡ line config book s.events =
    sym (append_assoc before (Does (Commit written) ∷ after) s.later) ∙ ap (λ (xs : List Seen). xs ++ s.later) e ∙ s.parts in
    let parts : (acts_in before ++ Commit written ∷ []) ++ acts_in rest ≡ script_of config book s.events =
    append_assoc (acts_in before) (Commit written ∷ []) (acts_in rest) ∙ sym (flat_map-append act_of before (Does (Commit written) ∷ rest)) ∙ ap (λ (xs : List Seen). acts_in xs) whole ∙ acts-line config book s.events in
    let beside = beside_after config book s.events (acts_in before ++ Commit written ∷ []) (acts_in rest) parts in
    let last : book_after book (acts_in before ++ Commit written ∷ []) ≡ written = after-commit book written (acts_in before) in
    (ap (λ (b : Book). b.name) (sym last) ∙ beside.0, ap (λ (b : Book). b.others) (sym last) ∙ beside.1)

-- without this session another one has the same entries
entries-apart : (session other : List ℕ) (all : List Named) → other ≢ session → entries_of other (others_than session all) ≡ entries_of other all
entries-apart session other [] differ = refl
entries-apart session other (x ∷ all) differ = by (bytes_eq session x.name) (bytes_eq other x.name) refl refl (entries-apart session other all differ)
  where
    by : (b c : Bool) → bytes_eq session x.name ≡ b → bytes_eq other x.name ≡ c → entries_of other (others_than session all) ≡ entries_of other all
        → entries_of other (cond b all (x ∷ others_than session all)) ≡ cond c x.entries (entries_of other all)
    by true true e f rest = absurd (differ ((bytes_decides other x.name).0 f ∙ sym ((bytes_decides session x.name).0 e)))
    by true false e f rest = refl
    by false true e f rest = rw f refl
    by false false e f rest = rw f rest

-- Beside the same other sessions a session of another name has the same entries.
pub has-alike : (session other : List ℕ) (one two : Book) → other ≢ session → (choose session one).others ≡ (choose session two).others → (choose other one).entries ≡ (choose other two).entries
has-alike session other one two differ same =
    sym (entries-apart session other (sessions one) differ) ∙ (ap (λ (all : List Named). entries_of other all) same ∙ entries-apart session other (sessions two) differ)
