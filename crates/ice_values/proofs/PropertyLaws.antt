-- The fields of XSMP are read exactly.
use Rattle.std.proofs.Common.{ℕ, ◌^◌, List, ◌++◌, length, Option, Some, refl, subst}
use Rattle.std.specs.Prelude.{flat_map}
use Rattle.ice_values.specs.Cells.{Cells, free, Begins}
use Rattle.ice_values.specs.Numbers.{card32}
use Rattle.ice_values.specs.Properties.{array8, IsArray8, listed, IsListed, array8_list, property, IsProperty, property_list, array8_at, listed_at, array8_list_at, property_at, property_list_at}
use Rattle.ice_values.specs.Reading.{◌>>=◌, Exact, card_at, skip_at, many_at}
use Rattle.ice_values.specs.declared.numbers.Endian.{Endian}
use Rattle.ice_values.specs.declared.property.Property.{Property}
use Rattle.ice_values.proofs.CellLaws.{Begins-append, Begins-split, Begins-fits}
use Rattle.ice_values.proofs.OptionLaws.{some_is}
use Rattle.ice_values.proofs.FieldLaws.{bind_some, card4, counts, skip_taken, skip_again}
use Rattle.ice_values.proofs.ListLaws.{many}

pub array8_exact : (e : Endian) → Exact (array8 e) IsArray8 (array8_at e)
unfolding array8_at
array8_exact e = counts e 4 8 (2 ^ 32) (card4 e)

-- a count, four free bytes, and the items
pub listed_exact : {A : Type 0} (item : A → Cells) (Fits : A → Type 0) (item_at : List ℕ → Option (A × List ℕ)) (e : Endian) → Exact item Fits item_at → Exact (listed item e) (IsListed Fits) (listed_at item_at e)
unfolding listed_at
listed_exact item Fits item_at e exact = record {
  takes = λ bytes xs rest fits is.
      let p = bind_some (card_at e 4 bytes) (λ n. skip_at 4 n.1 >>= λ rest. many_at item_at n.0 rest) (xs, rest) is in
      let q = bind_some (skip_at 4 p.0.1) (λ rest. many_at item_at p.0.0 rest) (xs, rest) p.2 in
      let count = (card4 e).takes bytes p.0.0 p.0.1 fits p.1 in
      let gap = skip_taken 4 p.0.1 q.0 q.1 in
      let items_fit = Begins-fits (free 4) p.0.1 q.0 gap (Begins-fits (card32 e p.0.0) bytes p.0.1 count.0 fits) in
      let items = (many item Fits item_at exact p.0.0).takes q.0 xs rest items_fit q.2 in
      let front : Begins (card32 e (length xs)) bytes p.0.1 = rw items.1.0 count.0 in
      (Begins-append (card32 e (length xs) ++ free 4) (flat_map item xs) bytes q.0 rest (Begins-append (card32 e (length xs)) (free 4) bytes p.0.1 q.0 front gap) items.0, (rw items.1.0 count.1, items.1.1));
  again = λ bytes xs rest fits h.
      let a = Begins-split (card32 e (length xs) ++ free 4) (flat_map item xs) bytes rest h in
      let b = Begins-split (card32 e (length xs)) (free 4) bytes a.0 a.1 in
      rw ((card4 e).again bytes (length xs) b.0 fits.0 b.1, skip_again 4 b.0 a.0 b.2) ((many item Fits item_at exact (length xs)).again a.0 xs rest (refl, fits.1) a.2);
}

pub array8_list_exact : (e : Endian) → Exact (array8_list e) (IsListed IsArray8) (array8_list_at e)
array8_list_exact e = listed_exact (array8 e) IsArray8 (array8_at e) e (array8_exact e)

pub property_of : List ℕ → List ℕ → List (List ℕ) → Property
property_of name kind values = record { name = name; kind = kind; values = values }

pub property_exact : (e : Endian) → Exact (property e) IsProperty (property_at e)
unfolding property_at property_of
property_exact e = record {
  takes = λ bytes x rest fits is.
      let p = bind_some (array8_at e bytes) (λ name. array8_at e name.1 >>= λ kind. array8_list_at e kind.1 >>= λ values. Some (property_of name.0 kind.0 values.0, values.1)) (x, rest) is in
      let q = bind_some (array8_at e p.0.1) (λ kind. array8_list_at e kind.1 >>= λ values. Some (property_of p.0.0 kind.0 values.0, values.1)) (x, rest) p.2 in
      let r = bind_some (array8_list_at e q.0.1) (λ values. Some (property_of p.0.0 q.0.0 values.0, values.1)) (x, rest) q.2 in
      let name = (array8_exact e).takes bytes p.0.0 p.0.1 fits p.1 in
      let name_fit = Begins-fits (array8 e p.0.0) bytes p.0.1 name.0 fits in
      let kind = (array8_exact e).takes p.0.1 q.0.0 q.0.1 name_fit q.1 in
      let kind_fit = Begins-fits (array8 e q.0.0) p.0.1 q.0.1 kind.0 name_fit in
      let values = (array8_list_exact e).takes q.0.1 r.0.0 r.0.1 kind_fit r.1 in
      let whole = Begins-append (array8 e p.0.0 ++ array8 e q.0.0) (array8_list e r.0.0) bytes q.0.1 r.0.1 (Begins-append (array8 e p.0.0) (array8 e q.0.0) bytes p.0.1 q.0.1 name.0 kind.0) values.0 in
      subst (λ (y : Property × List ℕ). Begins (property e y.0) bytes y.1 × IsProperty y.0) {x = (property_of p.0.0 q.0.0 r.0.0, r.0.1)} (some_is (property_of p.0.0 q.0.0 r.0.0, r.0.1) (x, rest) r.2) (whole, record { name = name.1; kind = kind.1; values = values.1 });
  again = λ bytes x rest fits h.
      let a = Begins-split (array8 e x.name ++ array8 e x.kind) (array8_list e x.values) bytes rest h in
      let b = Begins-split (array8 e x.name) (array8 e x.kind) bytes a.0 a.1 in
      rw ((array8_exact e).again bytes x.name b.0 fits.name b.1, (array8_exact e).again b.0 x.kind a.0 fits.kind b.2, (array8_list_exact e).again a.0 x.values rest fits.values a.2) refl;
}

pub property_list_exact : (e : Endian) → Exact (property_list e) (IsListed IsProperty) (property_list_at e)
property_list_exact e = listed_exact (property e) IsProperty (property_at e) e (property_exact e)
