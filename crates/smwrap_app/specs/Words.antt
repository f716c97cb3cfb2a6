-- What the words of `smwrap` ask for.
use Rattle.std.specs.Prelude.{◌≡◌, ◌⊎◌, ◌<◌, ◌^◌, ◌==◌, ◌&&◌, ℕ, Bool, true, not, nat_le, List, [], ◌∷◌, ◌++◌, length, map, codes, string_bytes, Some}
use Rattle.std.specs.List.{list_all, list_any}
use Rattle.std.specs.Fmt.{decimal}
use Rattle.word_pairs.specs.Words.{pairs_of, value_in}
use Rattle.smwrap_app.specs.declared.words.Choices.{Choices}

pub record Chosen : Type 0 where
  pub socket : List ℕ
  pub authority : List ℕ
  -- the path of the program's state
  pub state : List ℕ
  -- the number of the copy with which it begins, or 0
  pub from : ℕ
  -- the ID of an earlier session, or an empty one
  pub id : List ℕ
  -- the program and its arguments
  pub program : List (List ℕ)

-- the same as values of the program
abbrev pub chosen_of : Choices → Chosen
chosen_of c = record { socket = c.socket.now; authority = c.authority.now; state = c.state.now; from = c.from; id = c.id.now; program = map string_bytes c.program.now }

-- a text of 1 to 512 bytes without NUL
abbrev pub is_text : List ℕ → Bool
is_text text = not (length text == 0) && (nat_le (length text) 512 && not (list_any (λ b. b == 0) text))

-- 1 to 16 of them
abbrev pub is_program : List (List ℕ) → Bool
is_program words = not (length words == 0) && (nat_le (length words) 16 && list_all is_text words)

-- The pairs have a text with this name.
pub record HasText (words : List (List ℕ)) (name text : List ℕ) : Type 0 where
  pub found : value_in (pairs_of words) name ≡ Some text
  pub is : is_text text ≡ true

-- The pairs have the number of a copy: decimal, below 2^32, without leading zeros.
pub record HasNumber (words : List (List ℕ)) (n : ℕ) : Type 0 where
  pub found : value_in (pairs_of words) (codes "--from") ≡ Some (decimal n)
  pub small : n < 2 ^ 32

-- Four pairs have no ID, and five have one.
abbrev pub HasId : List (List ℕ) → List ℕ → Type 0
HasId words id = ((length words ≡ 8) × (id ≡ [])) ⊎ ((length words ≡ 10) × HasText words (codes "--id") id)

pub record HasTexts (words : List (List ℕ)) (chosen : Chosen) : Type 0 where
  pub socket : HasText words (codes "--socket") chosen.socket
  pub authority : HasText words (codes "--authority") chosen.authority
  pub state : HasText words (codes "--state") chosen.state
  pub id : HasId words chosen.id

-- Four pairs have the four names, and a fifth may have that of an ID. So each name stands once.
pub record AreOptions (words : List (List ℕ)) (chosen : Chosen) : Type 0 where
  pub texts : HasTexts words chosen
  pub from : HasNumber words chosen.from

-- the options in pairs, two dashes, and the program with its arguments
pub record AreChosen (words : List (List ℕ)) (chosen : Chosen) : Type 0 where
  pub front : List (List ℕ)
  pub are : words ≡ front ++ (codes "--" ∷ chosen.program)
  pub options : AreOptions front chosen
  pub program : is_program chosen.program ≡ true

-- where the options have so many words
abbrev pub AreChosenAt : ℕ → List (List ℕ) → Chosen → Type 0
AreChosenAt count words chosen = (are : AreChosen words chosen) × (length are.front ≡ count)

abbrev pub AreBad : List (List ℕ) → Type 0
AreBad words = (chosen : Chosen) → ¬ (AreChosen words chosen)
