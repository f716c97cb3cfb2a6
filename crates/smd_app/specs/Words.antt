-- What the words of `smd` mean.
use Rattle.std.specs.Prelude.{◌≡◌, ◌⊎◌, ℕ, ◌+◌, ◌<◌, ◌≤◌, ◌^◌, List, [], ◌∷◌, drop, length, codes, Option, Some, None}
use Rattle.std.specs.Fmt.{decimal}
use Rattle.checkpoint_records.specs.Books.{default_name}
use Rattle.checkpoint_records.specs.Rules.{IsName}
use Rattle.word_pairs.specs.Words.{HasPath, option_in, options_of, words_taken}
use Rattle.smd_app.specs.declared.words.Paths.{Paths}

-- what the words of a session name: four paths, how long a client may be silent that is waited for, and what the session is called
pub record Places : Type 0 where
  pub socket : List ℕ
  pub control : List ℕ
  pub store : List ℕ
  pub authority : List ℕ
  pub patience : ℕ
  pub session : List ℕ

-- the same as values of the program
abbrev pub places_of : Paths → Places
places_of paths = record {
  socket = paths.socket.now;
  control = paths.control.now;
  store = paths.store.now;
  authority = paths.authority.now;
  patience = paths.patience;
  session = paths.session.now;
}

-- what the words of a command line ask for
pub data Task : Type 0 where
  Rehearse : ℕ → Task
  Exercise : ℕ → ℕ → Task
  Serve : Places → Task

-- The pairs have a path with each of the four names.
pub record HavePaths (words : List (List ℕ)) (places : Places) : Type 0 where
  pub socket : HasPath (options_of words) (codes "--socket") places.socket
  pub control : HasPath (options_of words) (codes "--control") places.control
  pub store : HasPath (options_of words) (codes "--store") places.store
  pub authority : HasPath (options_of words) (codes "--authority") places.authority

-- a patience that is stated: a number from 1 below 2^64
pub record IsPatience (patience : ℕ) : Type 0 where
  pub some : 1 ≤ patience
  pub small : patience < 2 ^ 64

-- in decimal and without leading zeros; one that isn't named is 0
abbrev pub IsPatienceOf : Option (List ℕ) → ℕ → Type 0
IsPatienceOf None patience = patience ≡ 0
IsPatienceOf (Some word) patience = IsPatience patience × (word ≡ decimal patience)

-- a session that isn't named is `default`
abbrev pub IsSessionOf : Option (List ℕ) → List ℕ → Type 0
IsSessionOf None session = session ≡ default_name
IsSessionOf (Some word) session = IsName session × (word ≡ session)

-- `serve`, and four to six pairs of words behind it, in any order: one with the name of each path, and one with that of the patience and one
-- with that of the session, where there are such. So each name stands once.
pub record AreServe (words : List (List ℕ)) (places : Places) : Type 0 where
  pub begins : words ≡ codes "serve" ∷ drop 1 words
  pub count : length words ≡ 9 + (words_taken (option_in words (codes "--patience")) + words_taken (option_in words (codes "--session")))
  pub paths : HavePaths words places
  pub patience : IsPatienceOf (option_in words (codes "--patience")) places.patience
  pub session : IsSessionOf (option_in words (codes "--session")) places.session

-- `rehearse`, whose patience is 0; or `rehearse` and a patience, in decimal and without leading zeros
abbrev pub AreRehearse : List (List ℕ) → ℕ → Type 0
AreRehearse words patience = ((words ≡ codes "rehearse" ∷ []) × (patience ≡ 0)) ⊎ ((words ≡ codes "rehearse" ∷ decimal patience ∷ []) × IsPatience patience)

-- `exercise` and two decimal numbers without leading zeros: the first below 2^64, the second from 1 to 1,000
pub record AreExercise (words : List (List ℕ)) (pattern rounds : ℕ) : Type 0 where
  pub are : words ≡ codes "exercise" ∷ decimal pattern ∷ decimal rounds ∷ []
  pub small : pattern < 2 ^ 64
  pub some : 1 ≤ rounds
  pub few : rounds ≤ 1000

-- The words ask for this.
abbrev pub Means : List (List ℕ) → Task → Type 0
Means words (Rehearse patience) = AreRehearse words patience
Means words (Exercise pattern rounds) = AreExercise words pattern rounds
Means words (Serve places) = AreServe words places
