-- What the words of `smnest` mean.
use Rattle.std.specs.Prelude.{◌≡◌, ◌==◌, ◌&&◌, ◌+◌, ℕ, Bool, true, not, nat_le, List, [], ◌∷◌, codes, drop, length, Option, None, Some}
use Rattle.std.specs.List.{list_all}
use Rattle.outer_agent.specs.Words.{AreFew}
use Rattle.smd_app.specs.Words.{HavePaths, IsPatienceOf, IsSessionOf, Places, places_of as own_places}
use Rattle.word_pairs.specs.Words.{HasPath, option_in, options_of, words_taken}
use Rattle.smnest_app.specs.declared.words.NestPaths.{NestPaths}

-- what the words of a session inside another name: the paths, the patience and the name of the session itself, the outer manager's socket, the file with the outer cookie, and the ID of an earlier session, or an empty one
pub record NestPlaces : Type 0 where
  pub own : Places
  pub outer : List ℕ
  pub authority : List ℕ
  pub id : List ℕ

-- the same as values of the program
abbrev pub places_of : NestPaths → NestPlaces
places_of paths = record {
  own = own_places paths.own;
  outer = paths.outer.now;
  authority = paths.authority.now;
  id = paths.id.now;
}

-- what the words of a command line ask for
pub data Task : Type 0 where
  Rehearse : List ℕ → Task
  Serve : NestPlaces → Task

-- a byte from `!` (33) to `~` (126)
abbrev pub is_id_byte : ℕ → Bool
is_id_byte b = nat_le 33 b && nat_le b 126

-- 1 to 512 of them
abbrev pub is_id : List ℕ → Bool
is_id id = not (length id == 0) && (nat_le (length id) 512 && list_all is_id_byte id)

-- an ID that isn't named is empty
abbrev pub IsIdOf : Option (List ℕ) → List ℕ → Type 0
IsIdOf None id = id ≡ []
IsIdOf (Some word) id = (is_id word ≡ true) × (id ≡ word)

-- `serve`, and six to nine pairs of words behind it, in any order: one with each of six names, and one with that of the patience, one with that of the session and one with that of the ID, where there are such. So each name stands once.
pub record AreServe (words : List (List ℕ)) (places : NestPlaces) : Type 0 where
  pub begins : words ≡ codes "serve" ∷ drop 1 words
  pub count : length words ≡ 13 + (words_taken (option_in words (codes "--patience")) + (words_taken (option_in words (codes "--session")) + words_taken (option_in words (codes "--outer-id"))))
  pub own : HavePaths words places.own
  pub session : IsSessionOf (option_in words (codes "--session")) places.own.session
  pub outer : HasPath (options_of words) (codes "--outer") places.outer
  pub outer_authority : HasPath (options_of words) (codes "--outer-authority") places.authority
  pub patience : IsPatienceOf (option_in words (codes "--patience")) places.own.patience
  pub id : IsIdOf (option_in words (codes "--outer-id")) places.id

-- `rehearse`, and the pair of the ID behind it, where there is one
pub record AreRehearse (words : List (List ℕ)) (id : List ℕ) : Type 0 where
  pub begins : words ≡ codes "rehearse" ∷ drop 1 words
  pub count : length words ≡ 1 + words_taken (option_in words (codes "--outer-id"))
  pub is : IsIdOf (option_in words (codes "--outer-id")) id

abbrev pub Ask : List (List ℕ) → Task → Type 0
Ask words (Rehearse id) = AreRehearse words id
Ask words (Serve places) = AreServe words places

-- The words ask for this, and an outer manager can be told them: spelled as a list of ARRAY8 they have at most 32,768 bytes.
pub record Means (words : List (List ℕ)) (task : Task) : Type 0 where
  pub few : AreFew words
  pub ask : Ask words task
