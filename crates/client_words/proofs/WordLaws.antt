-- What `clap` says of the command of `smclient`, and of the texts that it finds.
use Rattle.std.proofs.Common.{◌≡◌, ◌⊎◌, inl, inr, ℕ, true, List, [], length, Option, None, Some, Result, Ok, Err, IfSome, refl, sym, ◌∙◌, ap, subst}
use Rattle.std.specs.Str.Parse.{ParsesUnsigned, digits_value, without_leading_plus}
use Rattle.clap.specs.Faults.{fault_of, is_simple_and_free}
use Rattle.clap.specs.Kinds.{FailsBy, HasKind, IsAmong}
use Rattle.clap.specs.Matches.{found_of, ReadsOne}
use Rattle.clap.specs.Simple.{App, HasMatchesOf, is_simple, matches_of}
use Rattle.clap.specs.Values.{kind_of}
use Rattle.clap.specs.Walk.{Text, rows_of}
use Rattle.clap.proofs.OnLiterals.{clap_on_literals}
use Rattle.clap.specs.declared.error.Error.{Error}
use Rattle.clap.specs.declared.error.kind.ErrorKind.TheVariants.{OutOfMemory}
use Rattle.clap.specs.declared.parser.matches.ArgMatches.{ArgMatches}
use Rattle.client_words.specs.Reading.{IsNumber, refusal_of}
use Rattle.client_words.specs.Words.{client_app}
use Rattle.client_words.specs.declared.reading.WordsRefusal.{WordsRefusal}
use Rattle.client_words.specs.declared.reading.WordsRefusal.TheVariants.{BadWords}

simple_and_free : is_simple_and_free client_app ≡ true
unfolding clap_on_literals client_app
simple_and_free = refl

simple : is_simple client_app ≡ true
unfolding clap_on_literals client_app
simple = refl

-- words that are read have no fault
pub no_fault : (a : App) (words : List Text) → a ≡ client_app → (is_simple_and_free a ≡ true → fault_of a words ≡ []) → fault_of client_app words ≡ []
no_fault a words e h =
    let P : App → Type 0 = λ app. is_simple_and_free app ≡ true → fault_of app words ≡ [] in
    subst P e h simple_and_free

-- and what is found in them is what the definition says
pub found_rows : (a : App) (words : List Text) (m : ArgMatches) → a ≡ client_app → HasMatchesOf a words m → rows_of (found_of m) ≡ matches_of client_app words
found_rows a words m e h =
    let P : App → Type 0 = λ app. HasMatchesOf app words m in
    (subst P e h simple).0

bad_kind : (error : Error) (words : List Text) → HasKind (fault_of client_app words) error → refusal_of (kind_of error) ≡ BadWords → fault_of client_app words ≡ [] → ⊥
bad_kind error words (inl memory) bad none = let other = rw memory at bad in cc
bad_kind error words (inr among) bad none = rw none at among

same_refusal : (x y : WordsRefusal) → ◌≡◌ {A = Result ArgMatches WordsRefusal} (Err x) (Err y) → x ≡ y
same_refusal x y e = cc

-- words that are refused have one
pub has_fault : (a : App) (words : List Text) (error : Error) (refusal : WordsRefusal) → a ≡ client_app → (is_simple_and_free a ≡ true → HasKind (fault_of a words) error) → refusal ≡ refusal_of (kind_of error) → ◌≡◌ {A = Result ArgMatches WordsRefusal} (Err refusal) (Err BadWords) → fault_of client_app words ≡ [] → ⊥
has_fault a words error refusal e h is bad none =
    let P : App → Type 0 = λ app. is_simple_and_free app ≡ true → HasKind (fault_of app words) error in
    bad_kind error words (subst P e h simple_and_free) (sym is ∙ same_refusal refusal BadWords bad) none

-- the number that was read is that of the text
pub number_read : (o : Option Text) (r : Option ℕ) → (o ≡ None → r ≡ None) → ((text : Text) (n : ℕ) → o ≡ Some text → r ≡ Some n → n ≡ digits_value 10 (without_leading_plus text)) → IfSome r (IsNumber o)
number_read o None none some = tt
number_read None (Some n) none some = let bad = none refl in cc
number_read (Some text) (Some n) none some = (text, refl, some text n refl refl)
