-- Values cut off and walked where they lie.
use Rattle.std.proofs.Common.{◌≡◌, ℕ, zero, suc, ◌-◌, ◌<◌, ◌≤◌, List, [], ◌∷◌, ◌++◌, length, take, Option, Some, None, refl, sym, ap, ◌∙◌, subst, arith, length-append}
use Rattle.std.specs.Prelude.{flat_map}
use Rattle.std.specs.Iterator.{MakesProgress, item_count}
use Rattle.ice_values.specs.Cells.{Cells, Begins}
use Rattle.ice_values.specs.Properties.{array8, array8_list, array8_at, array8_list_at, property, property_at, property_list_at, listed_at}
use Rattle.ice_values.specs.Reading.{◌>>=◌, CutsFront, Exact, IsBytes, card_at, skip_at, many_at, rest_of}
use Rattle.ice_values.specs.Walks.{up_to, walk_left, Views, view_len, GivesNext, GivesNone}
use Rattle.ice_values.specs.declared.numbers.Endian.{Endian}
use Rattle.ice_values.specs.declared.numbers.Endian.TheVariants.{Lsb}
use Rattle.ice_values.specs.declared.property.Property.{Property}
use Rattle.ice_values.specs.declared.view.PropertyView.{PropertyView}
use Rattle.ice_values.specs.declared.walk.PropertyWalk.{PropertyWalk}
use Rattle.ice_values.proofs.CellLaws.{Begins-length}
use Rattle.ice_values.proofs.FieldLaws.{bind_some}
use Rattle.ice_values.proofs.FrontLaws.{no_longer}
use Rattle.ice_values.proofs.LengthLaws.{length-array8, length-listed}
use Rattle.ice_values.proofs.OptionLaws.{some_is, none_not_some}

-- ---- a value is cut off

pub rest_read : {A : Type 0} (o : Option (A × List ℕ)) (rest : List ℕ) → rest_of o ≡ Some rest → (x : A) × (o ≡ Some (x, rest))
rest_read None rest e = absurd (none_not_some rest e)
rest_read (Some x) rest e = (x.0, ap (λ (r : List ℕ). Some (x.0, r)) (some_is x.1 rest e))

Begins-take : (cells : Cells) (bytes rest : List ℕ) → Begins cells bytes rest → Begins cells (take (length cells) bytes) []
Begins-take [] bytes rest h = refl
Begins-take (None ∷ cells) [] rest h = absurd h
Begins-take (Some c ∷ cells) [] rest h = absurd h
Begins-take (None ∷ cells) (b ∷ bytes) rest h = Begins-take cells bytes rest h
Begins-take (Some c ∷ cells) (b ∷ bytes) rest h = (h.0, Begins-take cells bytes rest h.1)

module _ {X : Type 0} (cells : X → Cells) (Fits : X → Type 0) (read : List ℕ → Option (X × List ℕ)) (exact : Exact cells Fits read) where
  pub passed_no_longer : (bytes rest : List ℕ) → IsBytes bytes → rest_of (read bytes) ≡ Some rest → length rest ≤ length bytes
  passed_no_longer bytes rest fits e =
      let x = rest_read (read bytes) rest e in
      no_longer cells Fits read exact bytes x.0 rest fits x.1

  pub cuts_front : (bytes front rest : List ℕ) → IsBytes bytes → rest_of (read bytes) ≡ Some rest → front ≡ take (length bytes - length rest) bytes → CutsFront cells read bytes front rest
  cuts_front bytes front rest fits e is =
      let x = rest_read (read bytes) rest e in
      let h = exact.takes bytes x.0 rest fits x.1 in
      let len : length bytes - length rest ≡ length (cells x.0) = omega (arith, Begins-length (cells x.0) bytes rest h.0) in
      let same : front ≡ take (length (cells x.0)) bytes = is ∙ ap (λ (n : ℕ). take n bytes) len in
      let alone : Begins (cells x.0) front [] = subst (λ (f : List ℕ). Begins (cells x.0) f []) (sym same) (Begins-take (cells x.0) bytes rest h.0) in
      record {
        value = x.0;
        whole = x.1;
        alone = exact.again front x.0 [] h.1 alone;
        len = omega (arith, Begins-length (cells x.0) front [] alone);
      }

-- ---- a property where it lies

flat-lengths : (e : Endian) (items : List (List ℕ)) → length (flat_map (array8 e) items) ≡ length (flat_map (array8 Lsb) items)
flat-lengths e [] = refl
flat-lengths e (x ∷ items) =
    omega (arith, length-append (array8 e x) (flat_map (array8 e) items), length-append (array8 Lsb x) (flat_map (array8 Lsb) items), length-array8 e x, length-array8 Lsb x, flat-lengths e items)

-- no order of numbers changes how long a spelling is
pub list-lengths : (e : Endian) (items : List (List ℕ)) → length (array8_list e items) ≡ length (array8_list Lsb items)
list-lengths e items = omega (arith, length-listed (array8 e) e items, length-listed (array8 Lsb) Lsb items, flat-lengths e items)

pub no_name : (e : Endian) (bytes : List ℕ) → array8_at e bytes ≡ None → property_at e bytes ≡ None
unfolding property_at
no_name e bytes none = rw none refl

pub no_kind : (e : Endian) (bytes name rest : List ℕ) → array8_at e bytes ≡ Some (name, rest) → array8_at e rest ≡ None → property_at e bytes ≡ None
unfolding property_at
no_kind e bytes name rest first none = rw (first, none) refl

pub no_values : (e : Endian) (bytes name rest kind after : List ℕ) → array8_at e bytes ≡ Some (name, rest) → array8_at e rest ≡ Some (kind, after) → array8_list_at e after ≡ None → property_at e bytes ≡ None
unfolding property_at
no_values e bytes name rest kind after first second none = rw (first, second, none) refl

pub shows : (e : Endian) (bytes rest after last : List ℕ) (view : PropertyView) → array8_at e bytes ≡ Some (view.name.now, rest) → array8_at e rest ≡ Some (view.kind.now, after)
    → CutsFront (array8_list e) (array8_list_at e) after view.values.now last → (p : Property) × Views e view p × (property_at e bytes ≡ Some (p, last))
unfolding property_at
shows e bytes rest after last view first second cut =
    let p : Property = record { name = view.name.now; kind = view.kind.now; values = cut.value } in
    let views : Views e view p = record { name = refl; kind = refl; values = cut.alone; values_len = cut.len ∙ list-lengths e cut.value } in
    (p, views, rw (first, second, cut.whole) refl)

-- a view is as long as the property that it shows
pub view_is_as_long : (e : Endian) (view : PropertyView) (p : Property) → Views e view p → view_len view ≡ length (property Lsb p)
view_is_as_long e view p views =
    let name : length (array8 Lsb view.name.now) ≡ length (array8 Lsb p.name) = ap (λ (b : List ℕ). length (array8 Lsb b)) views.name in
    let kind : length (array8 Lsb view.kind.now) ≡ length (array8 Lsb p.kind) = ap (λ (b : List ℕ). length (array8 Lsb b)) views.kind in
    omega (arith, name, kind, views.values_len, length-append (array8 Lsb p.name ++ array8 Lsb p.kind) (array8_list Lsb p.values), length-append (array8 Lsb p.name) (array8 Lsb p.kind))

abbrev property_of : List ℕ → List ℕ → List (List ℕ) → Property
property_of name kind values = record { name = name; kind = kind; values = values }

-- a view shows one property
pub views_one : (e : Endian) (view : PropertyView) (p q : Property) → Views e view p → Views e view q → p ≡ q
views_one e view p q a b =
    let name : p.name ≡ q.name = sym a.name ∙ b.name in
    let kind : p.kind ≡ q.kind = sym a.kind ∙ b.kind in
    let values : p.values ≡ q.values = ap (λ (x : List (List ℕ) × List ℕ). x.0) (some_is (p.values, []) (q.values, []) (sym a.values ∙ b.values)) in
    ap (λ (n : List ℕ). property_of n p.kind p.values) name ∙ ap (λ (k : List ℕ). property_of q.name k p.values) kind ∙ ap (λ (v : List (List ℕ)). property_of q.name q.kind v) values

-- ---- a walk

pub none_left : {A : Type 0} (read : List ℕ → Option (A × List ℕ)) (n : ℕ) (bytes : List ℕ) → n ≡ 0 → up_to read n bytes ≡ []
unfolding up_to
none_left read n bytes is = rw is refl

pub stops : {A : Type 0} (read : List ℕ → Option (A × List ℕ)) (n : ℕ) (bytes : List ℕ) → read bytes ≡ None → up_to read n bytes ≡ []
unfolding up_to
stops read zero bytes none = refl
stops read (suc n) bytes none = rw none refl

one_more : {A : Type 0} (read : List ℕ → Option (A × List ℕ)) (n : ℕ) (bytes rest : List ℕ) (x : A) → read bytes ≡ Some (x, rest) → up_to read (suc n) bytes ≡ x ∷ up_to read n rest
unfolding up_to
one_more read n bytes rest x is = rw is refl

pub goes : {A : Type 0} (read : List ℕ → Option (A × List ℕ)) (n : ℕ) (bytes rest : List ℕ) (x : A) → 0 < n → read bytes ≡ Some (x, rest) → up_to read n bytes ≡ x ∷ up_to read (n - 1) rest
goes read n bytes rest x some is =
    let step : n ≡ suc (n - 1) = omega arith in
    ap (λ (k : ℕ). up_to read k bytes) step ∙ one_more read (n - 1) bytes rest x is

pub gives_none : (walk : PropertyWalk) → walk_left walk ≡ [] → GivesNone walk walk
gives_none walk none = record { before = none; after = none; endian = refl }

pub gives_next : (old : PropertyWalk) (view : PropertyView) (new : PropertyWalk) → 0 < old.count → new.endian ≡ old.endian → new.count ≡ old.count - 1
    → (p : Property) × Views old.endian view p × (property_at old.endian old.bytes.now ≡ Some (p, new.bytes.now)) → GivesNext old view new
gives_next old view new some order count h = record {
  property = h.0;
  views = h.1;
  left = goes (property_at old.endian) old.count old.bytes.now new.bytes.now h.0 some h.2
      ∙ ap (λ (l : List Property). h.0 ∷ l) (ap (λ (e : Endian). up_to (property_at e) (old.count - 1) new.bytes.now) (sym order) ∙ ap (λ (n : ℕ). up_to (property_at new.endian) n new.bytes.now) (sym count));
  endian = order;
}

-- fewer are left than before
pub is_less : (old : PropertyWalk) (view : PropertyView) (new : PropertyWalk) → GivesNext old view new → MakesProgress (λ _. Unit {0}) (item_count walk_left) old (Some view) new
is_less old view new h = record { on = λ _. (tt, tt, omega (arith, ap length h.left)); keeps = tt; rests = λ _. tt }

many_walked : {A : Type 0} (read : List ℕ → Option (A × List ℕ)) (n : ℕ) (bytes rest : List ℕ) (xs : List A) → many_at read n bytes ≡ Some (xs, rest) → up_to read n bytes ≡ xs
unfolding up_to many_at
many_walked {A} read zero bytes rest xs e = ap (λ (x : List A × List ℕ). x.0) (some_is ([], bytes) (xs, rest) e)
many_walked {A} read (suc n) bytes rest xs e =
    let p = bind_some (read bytes) (λ first. many_at read n first.1 >>= λ others. Some (first.0 ∷ others.0, others.1)) (xs, rest) e in
    let q = bind_some (many_at read n p.0.1) (λ others. Some (p.0.0 ∷ others.0, others.1)) (xs, rest) p.2 in
    rw p.1 (ap (λ (l : List A). p.0.0 ∷ l) (many_walked read n p.0.1 q.0.1 q.0.0 q.1) ∙ ap (λ (x : List A × List ℕ). x.0) (some_is (p.0.0 ∷ q.0.0, q.0.1) (xs, rest) q.2))

-- what a walk over the list at the front goes over
pub list_walked : (e : Endian) (count : ℕ) (bytes rest items last : List ℕ) → card_at e 4 bytes ≡ Some (count, rest) → skip_at 4 rest ≡ Some items → rest_of (many_at (property_at e) count items) ≡ Some last
    → property_list_at e bytes ≡ Some (up_to (property_at e) count items, last)
unfolding listed_at
list_walked e count bytes rest items last first gap passed =
    let xs = rest_read (many_at (property_at e) count items) last passed in
    rw (first, gap) (xs.1 ∙ ap (λ (l : List Property). Some (l, last)) (sym (many_walked (property_at e) count items last xs.0 xs.1)))
