-- The line of a session's name.
use Rattle.std.specs.Prelude.{codes}
use Rattle.std.specs.Str.{bytes_eq}
use Rattle.std.proofs.Common.{◌≡◌, ℕ, Bool, true, false, if◌then◌else◌, List, [], ◌∷◌, ◌++◌, ap, sym, ◌∙◌, append_assoc}
use Rattle.std.proofs.lemmas.List.{append-nil}
use Rattle.checkpoint_records.specs.Books.{default_name}
use Rattle.session_recorder.specs.Openings.{word_line, session_line}

line_by : (is_default : Bool) → List ℕ → List ℕ
line_by is_default name = if is_default then [] else word_line (codes "session ") name

-- The session that is meant where none is said has no line.
pub unnamed : (out name meant : List ℕ) → meant ≡ codes "default" → bytes_eq name meant ≡ true → out ≡ out ++ session_line name
unfolding default_name line_by
unnamed out name meant own is =
    let same : bytes_eq name default_name ≡ true = ap (λ (d : List ℕ). bytes_eq name d) (sym own) ∙ is in
    sym (append-nil out) ∙ ap (λ (b : Bool). out ++ line_by b name) (sym same)

-- Every other has a word, its name and a newline.
pub named : (out name meant first second last : List ℕ) → meant ≡ codes "default" → bytes_eq name meant ≡ false → first ≡ out ++ codes "session " → second ≡ first ++ name → last ≡ second ++ 10 ∷ [] → last ≡ out ++ session_line name
unfolding default_name line_by
named out name meant first second last own isnt one two three =
    let other : bytes_eq name default_name ≡ false = ap (λ (d : List ℕ). bytes_eq name d) (sym own) ∙ isnt in
    three
    ∙ ap (λ (t : List ℕ). t ++ 10 ∷ []) (two ∙ ap (λ (t : List ℕ). t ++ name) one ∙ append_assoc out (codes "session ") name)
    ∙ append_assoc out (codes "session " ++ name) (10 ∷ [])
    ∙ ap (λ (t : List ℕ). out ++ t) (append_assoc (codes "session ") name (10 ∷ []))
    ∙ ap (λ (b : Bool). out ++ line_by b name) (sym other)
