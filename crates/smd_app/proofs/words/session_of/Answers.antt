use Rattle.std.proofs.Common.{codes, map, rules, string_bytes, subst, sym, ◌∙◌, List, ℕ}
use Rattle.std.proofs.lemmas.Bool.{false≢true}
use Rattle.checkpoint_records.proofs.NameLaws.{default_is}
use Rattle.checkpoint_records.specs.Rules.{IsName}
use Rattle.word_pairs.specs.Words.{option_in}
use Rattle.smd_app.proofs.Wording.{no_session, session_meant, session_named}
use Rattle.smd_app.proofs.words.session_of.Goals as goal

pub returns-then-is_name : goal.returns-then-is_name
returns-then-is_name c =
    let name : IsName c.as_bytes.result.now = search rules in
    session_named (option_in (map string_bytes c.args.words.now) (codes "--session")) c.in-Some.word.now (rw c.in-Some.is at c.value_of.ensures) (subst (λ (n : List ℕ). IsName n) c.as_bytes.ensures.value name)

pub returns-else-is_name : goal.returns-else-is_name
returns-else-is_name c =
    no_session (option_in (map string_bytes c.args.words.now) (codes "--session")) c.in-Some.word.now (rw c.in-Some.is at c.value_of.ensures)
    (λ is. false≢true (sym c.if-is_name.false ∙ c.is_name.ensures.1 (subst (λ (n : List ℕ). IsName n) (sym c.as_bytes.ensures.value) is)))

pub returns-in-None : goal.returns-in-None
returns-in-None c = session_meant (option_in (map string_bytes c.args.words.now) (codes "--session")) (codes "default") (rw c.in-None.is at c.value_of.ensures) default_is
