-- Where a file's name is parted.
use Rattle.std.proofs.Common.{◌≡◌, ℕ, ◌<◌, ◌^◌, List, [], ◌∷◌, sym, ◌∙◌, arith}
use Rattle.std.specs.Fmt.{decimal}
use Rattle.std.specs.Str.Parse.{AllDigits}
use Rattle.std.proofs.lemmas.Fmt.{decimal_is_IsNumeral}
use Rattle.std.proofs.lemmas.Str.Parse.{digit_from_value}
use Rattle.control_lines.specs.Fields.{IsHex}
use Rattle.control_lines.specs.Parts.{IsWithout, SplitsOnce}
use Rattle.control_lines.proofs.Splitting.{splits_same}
use Rattle.kept_books.specs.Names.{IsFileName}

-- digits are no points
digits_without : (ds : List ℕ) → AllDigits 10 ds → IsWithout 46 ds
digits_without [] all = tt
digits_without (c ∷ ds) all = ((λ e. omega (arith, digit_from_value c all.0)), digits_without ds all.1)

pub decimal_without : (n : ℕ) → n < 2 ^ 64 → IsWithout 46 (decimal n)
decimal_without n small = digits_without (decimal n) (decimal_is_IsNumeral n (omega arith)).0.1

-- a name has one parting
pub same_parts : (name front back : List ℕ) (number : ℕ) (session : List ℕ) → SplitsOnce 46 name front back → (says : IsFileName name number session) → (front ≡ decimal number) × (back ≡ says.hex)
same_parts name front back number session splits says = splits_same 46 front back (decimal number) says.hex splits.first (decimal_without number says.small) (sym splits.parts ∙ says.parts)

pub same_bytes : (text one other : List ℕ) → IsHex text one → IsHex text other → one ≡ other
same_bytes text one other a b = let e = sym a.spells ∙ b.spells in cc
