-- What an Option is and is not, and what holds where a call went well.
use Rattle.std.proofs.Common.{◌≡◌, Option, Some, None, Result, Ok, Err, OnOk}

abbrev pub some : {A : Type 0} → A → Option A
some x = Some x

pub some_is : {A : Type 0} (x y : A) → some x ≡ some y → x ≡ y
some_is x y e = cc

pub none_not_some : {A : Type 0} (x : A) → None ≡ some x → ⊥
none_not_some x e = absurd cc

pub some_not_none : {A : Type 0} (x : A) → some x ≡ None → ⊥
some_not_none x e = absurd cc

pub on_ok_by : {E : Type 0} (result : Result (Unit {0}) E) (P Q : Type 0) → (P → Q) → OnOk result P → OnOk result Q
on_ok_by (Ok x) P Q makes holds = makes holds
on_ok_by (Err e) P Q makes holds = tt
