-- Messages that are checked and not read.
use Rattle.std.proofs.Common.{◌≡◌, ℕ, List, Option, Some, None, Result, Ok, Err, refl, sym, ap, ◌∙◌, subst, slice_index, drop}
use Rattle.std.specs.Prelude.{◌≢◌, IsOk}
use Rattle.ice_values.specs.Cells.{byte}
use Rattle.ice_values.specs.Frames.{◌>>=◌, body_at, is_read, cut, ended}
use Rattle.ice_values.specs.Properties.{property_list_at}
use Rattle.ice_values.specs.Walks.{walk_left}
use Rattle.ice_values.specs.declared.numbers.Endian.{Endian}
use Rattle.ice_values.specs.declared.property.Property.{Property}
use Rattle.ice_values.specs.declared.refusals.DecodeRefusal.{DecodeRefusal}
use Rattle.ice_values.specs.declared.refusals.DecodeRefusal.TheVariants.{BadLength}
use Rattle.ice_values.specs.declared.walk.PropertyWalk.{PropertyWalk}
use Rattle.ice_values.proofs.BodyLaws.{ok_is, ok_not_err, err_not_ok, bind_ok}
use Rattle.ice_values.proofs.DecodeLaws.{is_spelled}
use Rattle.ice_values.proofs.HeaderLaws.{minor_is}
use Rattle.ice_values.proofs.OptionLaws.{some_is, none_not_some}
use Rattle.xsmp_messages.specs.Messages.{minor_of, layout, IsXsmpFrame, Spells, Refused}
use Rattle.xsmp_messages.specs.Reading.{valued_at, decode_at}
use Rattle.xsmp_messages.specs.Views.{WalksOf, WalksBody, properties_in}
use Rattle.xsmp_messages.specs.declared.message.XsmpMessage.{XsmpMessage}
use Rattle.xsmp_messages.specs.declared.message.XsmpMessage.TheVariants.{SetProperties, GetPropertiesReply}
use Rattle.xsmp_messages.proofs.Dispatch.{decode_caused}

bound_read : {X : Type 0} (r : Result X DecodeRefusal) (make : X → XsmpMessage) → is_read r ≡ is_read (r >>= λ x. Ok (make x))
bound_read (Ok x) make = refl
bound_read (Err d) make = refl

-- to make a message of what is read changes no refusal
pub valued_read : {X : Type 0} (read : List ℕ → Option (X × List ℕ)) (make : X → XsmpMessage) (bytes : List ℕ) → is_read (body_at read bytes) ≡ is_read (valued_at read make bytes)
unfolding valued_at
valued_read read make bytes = bound_read (body_at read bytes) make

abbrev read_ok : Result (Unit {0}) DecodeRefusal
read_ok = Ok tt

abbrev read_err : DecodeRefusal → Result (Unit {0}) DecodeRefusal
read_err d = Err d

-- what was checked is read
pub is_there : {A : Type 0} (r : Result A DecodeRefusal) → read_ok ≡ is_read r → IsOk r
is_there (Ok x) e = refl
is_there (Err d) e = absurd cc

pub is_not : {A : Type 0} (r : Result A DecodeRefusal) (d : DecodeRefusal) → read_err d ≡ is_read r → r ≡ Err d
is_not (Ok x) d e = absurd cc
is_not (Err c) d e = let same : c ≡ d = cc in ap (λ (c : DecodeRefusal). Err c) same

-- ---- the properties of a message

-- a message that was read has the minor opcode of its bytes
pub minor_read : (e : Endian) (bytes : List ℕ) (m : XsmpMessage) → IsXsmpFrame e bytes → decode_at e bytes ≡ Ok m → slice_index bytes 1 ≡ minor_of m
minor_read e bytes m framed is =
    let spelled = is_spelled (λ m. Spells e (slice_index bytes 0) m bytes) (Refused e bytes) (decode_at e bytes) m (decode_caused e bytes framed) is in
    minor_is e (slice_index bytes 0) (minor_of m) (layout byte e m).0 (layout byte e m).1 bytes spelled.1

pub walks_none : (e : Endian) (n : ℕ) (m : XsmpMessage) → n ≡ minor_of m → n ≢ 12 → n ≢ 15 → WalksOf e (properties_in m) None
walks_none e n (SetProperties properties) is set reply = absurd (set is)
walks_none e n (GetPropertiesReply properties) is set reply = absurd (reply is)
walks_none e n m is set reply = tt

pub set_row : (e : Endian) (bytes : List ℕ) → slice_index bytes 1 ≡ 12 → decode_at e bytes ≡ (body_at (property_list_at e) bytes >>= λ x. Ok (SetProperties x))
unfolding decode_at valued_at
set_row e bytes at = rw at refl

reply_row : (e : Endian) (bytes : List ℕ) → slice_index bytes 1 ≡ 15 → decode_at e bytes ≡ (body_at (property_list_at e) bytes >>= λ x. Ok (GetPropertiesReply x))
unfolding decode_at valued_at
reply_row e bytes at = rw at refl

pub walks_set : (e : Endian) (bytes : List ℕ) (m : XsmpMessage) (result : Option PropertyWalk) → slice_index bytes 1 ≡ 12 → decode_at e bytes ≡ Ok m → WalksBody e bytes result → WalksOf e (properties_in m) result
walks_set e bytes m result at is h =
    let x = bind_ok (body_at (property_list_at e) bytes) (λ x. Ok (SetProperties x)) m (sym (set_row e bytes at) ∙ is) in
    subst (λ (m : XsmpMessage). WalksOf e (properties_in m) result) (ok_is (SetProperties x.0) m x.2) (h x.0 x.1)

pub walks_reply : (e : Endian) (bytes : List ℕ) (m : XsmpMessage) (result : Option PropertyWalk) → slice_index bytes 1 ≡ 15 → decode_at e bytes ≡ Ok m → WalksBody e bytes result → WalksOf e (properties_in m) result
walks_reply e bytes m result at is h =
    let x = bind_ok (body_at (property_list_at e) bytes) (λ x. Ok (GetPropertiesReply x)) m (sym (reply_row e bytes at) ∙ is) in
    subst (λ (m : XsmpMessage). WalksOf e (properties_in m) result) (ok_is (GetPropertiesReply x.0) m x.2) (h x.0 x.1)

body_read : {X : Type 0} (read : List ℕ → Option (X × List ℕ)) (bytes : List ℕ) (x : X) → body_at read bytes ≡ Ok x → (rest : List ℕ) × (read (drop 8 bytes) ≡ Some (x, rest))
unfolding body_at cut
body_read {X} read bytes x is = cases (read (drop 8 bytes)) refl is
  where
    cases : (o : Option (X × List ℕ)) → read (drop 8 bytes) ≡ o → (cut o >>= λ y. ended y.1 >>= λ end. Ok y.0) ≡ Ok x → (rest : List ℕ) × (read (drop 8 bytes) ≡ Some (x, rest))
    cases None at e = absurd (err_not_ok BadLength x e)
    cases (Some y) at e =
        let b = bind_ok (ended y.1) (λ end. Ok y.0) x e in
        (y.1, at ∙ ap (λ (z : X). Some (z, y.1)) (ok_is y.0 x b.2))

pub walks_body : (e : Endian) (bytes body : List ℕ) (list : List Property) (walk : PropertyWalk) (rest : List ℕ) → body ≡ drop 8 bytes → body_at (property_list_at e) bytes ≡ Ok list
    → walk.endian ≡ e → property_list_at e body ≡ Some (walk_left walk, rest) → WalksOf e (Some list) (Some walk)
walks_body e bytes body list walk rest at is order found =
    let read = body_read (property_list_at e) bytes list is in
    let same : ◌≡◌ {A = Option (List Property × List ℕ)} (Some (walk_left walk, rest)) (Some (list, read.0)) = sym found ∙ ap (property_list_at e) at ∙ read.1 in
    (order, ap (λ (x : List Property × List ℕ). x.0) (some_is (walk_left walk, rest) (list, read.0) same))

pub no_walk : (e : Endian) (bytes body : List ℕ) (list : List Property) → body ≡ drop 8 bytes → body_at (property_list_at e) bytes ≡ Ok list → property_list_at e body ≡ None → ⊥
no_walk e bytes body list at is none =
    let read = body_read (property_list_at e) bytes list is in
    none_not_some (list, read.0) (sym none ∙ ap (property_list_at e) at ∙ read.1)
