-- Of what the words mean and a script is, it is one thing.
use Rattle.std.proofs.Common.{◌≡◌, ℕ, List, [], ◌∷◌, drop, length, get_or, Option, Some, None, refl, sym, ◌∙◌, ap, arith, codes}
use Rattle.std.proofs.lemmas.Bool.{false≢true}
use Rattle.std.proofs.lemmas.Fmt.{decimal_injective}
use Rattle.sm_world.specs.declared.events.Event.{Event}
use Rattle.event_script.proofs.Excluding.{means_once}
use Rattle.event_script.specs.declared.script.Taken.TheVariants.{All}
use Rattle.word_pairs.specs.Words.{option_in, options_of}
use Rattle.smnest_app.specs.Exclusions.{FitsOnce, WordsMeanOne}
use Rattle.smnest_app.specs.Rehearsals.{ends_within}
use Rattle.smd_app.proofs.Completing.{same_path, same_patience, same_session}
use Rattle.smnest_app.specs.Words.{AreServe, IsIdOf, NestPlaces, Rehearse, Serve}

pub fits_once : (id : List ℕ) (words : List (List ℕ)) (bytes : List ℕ) (turns : ℕ) → FitsOnce id words bytes turns
fits_once id words bytes turns = record {
  once = means_once All bytes;
  ended_or_spent = λ events others ended spent.
      let same : events ≡ others = (means_once All bytes).one_script events others ended.says spent.says in
      false≢true (sym spent.unended ∙ (ap (λ (es : List Event). ends_within id words turns es) (sym same) ∙ ended.ended));
}

same_id : (named : Option (List ℕ)) (one two : List ℕ) → IsIdOf named one → IsIdOf named two → one ≡ two
same_id None one two first second = first ∙ sym second
same_id (Some word) one two first second = first.1 ∙ sym second.1

abbrev made : List ℕ → List ℕ → List ℕ → List ℕ → ℕ → List ℕ → List ℕ → List ℕ → List ℕ → NestPlaces
made socket control store authority patience session outer outer_authority id =
    record { own = record { socket = socket; control = control; store = store; authority = authority; patience = patience; session = session }; outer = outer; authority = outer_authority; id = id }

same_made : (a b c d e f g h r s t u v w x y : List ℕ) (p q : ℕ) → a ≡ r → b ≡ s → c ≡ t → d ≡ u → p ≡ q → h ≡ y → e ≡ v → f ≡ w → g ≡ x → made a b c d p h e f g ≡ made r s t u q y v w x
same_made a b c d e f g h r s t u v w x y p q first second third fourth fifth last sixth seventh eighth = rw (first, second, third, fourth, fifth, last, sixth, seventh, eighth) refl

same_places : (words : List (List ℕ)) (one two : NestPlaces) → AreServe words one → AreServe words two → one ≡ two
same_places words one two first second =
    let pairs : List (List ℕ × List ℕ) = options_of words in
    let socket : one.own.socket ≡ two.own.socket = same_path pairs (codes "--socket") _ _ first.own.socket second.own.socket in
    let control : one.own.control ≡ two.own.control = same_path pairs (codes "--control") _ _ first.own.control second.own.control in
    let store : one.own.store ≡ two.own.store = same_path pairs (codes "--store") _ _ first.own.store second.own.store in
    let authority : one.own.authority ≡ two.own.authority = same_path pairs (codes "--authority") _ _ first.own.authority second.own.authority in
    let patience : one.own.patience ≡ two.own.patience = same_patience (option_in words (codes "--patience")) _ _ first.patience second.patience in
    let outer : one.outer ≡ two.outer = same_path pairs (codes "--outer") _ _ first.outer second.outer in
    let outer_authority : one.authority ≡ two.authority = same_path pairs (codes "--outer-authority") _ _ first.outer_authority second.outer_authority in
    let id : one.id ≡ two.id = same_id (option_in words (codes "--outer-id")) _ _ first.id second.id in
    let session : one.own.session ≡ two.own.session = same_session (option_in words (codes "--session")) _ _ first.session second.session in
    same_made one.own.socket one.own.control one.own.store one.own.authority one.outer one.authority one.id one.own.session two.own.socket two.own.control two.own.store two.own.authority two.outer two.authority two.id two.own.session one.own.patience two.own.patience
    socket control store authority patience session outer outer_authority id

serve_or_rehearse : (words rest other : List (List ℕ)) → words ≡ codes "rehearse" ∷ rest → words ≡ codes "serve" ∷ other → ⊥
serve_or_rehearse words rest other one two = omega (arith, ap (λ (ws : List (List ℕ)). length (get_or ws 0 [])) (sym one ∙ two))

pub mean_one : WordsMeanOne
mean_one words (Rehearse one) (Rehearse two) first second = ap Rehearse (same_id (option_in words (codes "--outer-id")) one two first.ask.is second.ask.is)
mean_one words (Rehearse one) (Serve two) first second = absurd (serve_or_rehearse words (drop 1 words) (drop 1 words) first.ask.begins second.ask.begins)
mean_one words (Serve one) (Rehearse two) first second = absurd (serve_or_rehearse words (drop 1 words) (drop 1 words) second.ask.begins first.ask.begins)
mean_one words (Serve one) (Serve two) first second = ap Serve (same_places words one two first.ask second.ask)
