-- For a display of another machine no entry of this one's own sockets is taken.
use Rattle.std.proofs.Common.{◌≡◌, ℕ, Bool, true, false, ◌&&◌, cond, List, [], ◌∷◌, Option, Some, refl, sym, ◌∙◌, ap, subst, find}
use Rattle.std.specs.Str.{bytes_eq}
use Rattle.std.specs.Fmt.{decimal}
use Rattle.std.proofs.lemmas.Bool.{false≢true}
use Rattle.ice_values.proofs.OptionLaws.{some_is, none_not_some}
use Rattle.display_place.specs.Choice.{cookie_name, is_for, is_good_at, is_here, is_of_number}
use Rattle.display_place.specs.Laws.{OwnStaysHere}
use Rattle.display_place.specs.declared.authority.DisplayEntry.{DisplayEntry}
use Rattle.display_place.specs.declared.authority.Family.{Family}
use Rattle.display_place.specs.declared.authority.Family.TheVariants.{Local}
use Rattle.display_place.specs.declared.cookies.IpAddress.{IpAddress}

both_false : (a b c : Bool) → (a && (b && (false && c))) ≡ false
both_false true true c = refl
both_false true false c = refl
both_false false b c = refl

-- an entry of the own sockets isn't for it
not_for : (digits machine : List ℕ) (reached : Option IpAddress) (entry : DisplayEntry) → is_here reached ≡ false → entry.family ≡ Local → is_for digits machine reached entry ≡ false
not_for digits machine reached entry away own =
    let a = bytes_eq entry.name cookie_name in
    let b = is_of_number digits entry.number in
    ap (λ (family : Family). a && (b && is_good_at machine reached family entry.address)) own
    ∙ (ap (λ (here : Bool). a && (b && (here && bytes_eq entry.address machine))) away ∙ both_false a b (bytes_eq entry.address machine))

-- what is found passes the test
found_by : (pass : Bool) (entry other : DisplayEntry) (rest : Option DisplayEntry) (P : DisplayEntry → Type 0) → (pass ≡ true → P entry) → (rest ≡ Some other → P other) → cond pass (Some entry) rest ≡ Some other → P other
found_by true entry other rest P here later found = subst P (some_is entry other found) (here refl)
found_by false entry other rest P here later found = later found

found_passes : (test : DisplayEntry → Bool) (entries : List DisplayEntry) (other : DisplayEntry) → find test entries ≡ Some other → test other ≡ true
found_passes test [] other found = absurd (none_not_some other found)
found_passes test (entry ∷ entries) other found = found_by (test entry) entry other (find test entries) (λ e. test e ≡ true) (λ passes. passes) (found_passes test entries other) found

pub own_stays_here : OwnStaysHere
own_stays_here number machine reached entries entry away found own =
    false≢true (sym (not_for (decimal number) machine reached entry away own) ∙ found_passes (is_for (decimal number) machine reached) entries entry found)
