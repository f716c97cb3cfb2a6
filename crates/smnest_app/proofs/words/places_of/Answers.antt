use Rattle.std.proofs.Common.{List, ℕ, codes, map, rules, string_bytes, subst, sym}
use Rattle.smd_app.specs.Words.{IsPatienceOf, IsSessionOf}
use Rattle.word_pairs.specs.Words.{option_in}
use Rattle.smnest_app.specs.Words.{AreServe, NestPlaces}
use Rattle.smnest_app.proofs.words.places_of.Goals as goal

pub returns-in_err-path_of-2 : goal.returns-in_err-path_of-2
returns-in_err-path_of-2 c =
    let none : (places : NestPlaces) → AreServe (map string_bytes c.args.words.now) places → ⊥ = λ places are. c.in_err-path_of-2.ensures places.authority are.outer_authority in
    search (rules, none)

pub returns : goal.returns
returns c = record {
  begins = c.requires.begins;
  count = c.requires.count;
  own = c.in_ok-paths_of.ensures.0;
  session = subst (λ (session : List ℕ). IsSessionOf (option_in (map string_bytes c.args.words.now) (codes "--session")) session) (sym c.in_ok-paths_of.ensures.2) c.in_ok-session_of.ensures;
  outer = c.in_ok-path_of.ensures;
  outer_authority = c.in_ok-path_of-2.ensures;
  patience = subst (λ (patience : ℕ). IsPatienceOf (option_in (map string_bytes c.args.words.now) (codes "--patience")) patience) (sym c.in_ok-paths_of.ensures.1) c.requires.patience;
  id = c.in_ok-id_of.ensures;
}
