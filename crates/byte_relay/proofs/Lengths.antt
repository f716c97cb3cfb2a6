-- How long a body is doesn't depend on the order of its numbers.
use Rattle.std.proofs.Common.{◌≡◌, ℕ, ◌≤◌, List, [], ◌∷◌, ◌++◌, length, refl, sym, ◌∙◌, arith, length-append, length-drop, drop}
use Rattle.std.specs.Prelude.{flat_map}
use Rattle.ice_values.specs.Cells.{Cells, byte, free, Begins}
use Rattle.ice_values.specs.Fields.{bool_number, text16, texts, versions, spelling}
use Rattle.ice_values.specs.Numbers.{number_bytes}
use Rattle.ice_values.specs.Properties.{array8, listed, property, array8_list}
use Rattle.ice_values.specs.declared.numbers.Endian.{Endian}
use Rattle.ice_values.specs.declared.property.Property.{Property}
use Rattle.ice_values.specs.declared.version.Version.{Version}
use Rattle.ice_values.proofs.CellLaws.{Begins-length, length-known}
use Rattle.ice_values.proofs.NumberLaws.{length-number_bytes}
use Rattle.ice_values.proofs.HeaderLaws.{parts_of}
use Rattle.ice_values.proofs.LengthLaws.{length-text16, length-versions, length-proof_data, length-array8, length-listed, length-error_body}
use Rattle.ice_messages.specs.Messages.{layout as ice_layout}
use Rattle.ice_messages.specs.declared.message.IceMessage.{IceMessage}
use Rattle.ice_messages.specs.declared.message.IceMessage.TheVariants.{Error as IceError, ConnectionSetup, AuthenticationRequired, AuthenticationReply, AuthenticationNextPhase, ConnectionReply, ProtocolSetup, ProtocolReply}
use Rattle.xsmp_messages.specs.Messages.{layout as xsmp_layout}
use Rattle.xsmp_messages.specs.declared.message.XsmpMessage.{XsmpMessage}
use Rattle.xsmp_messages.specs.declared.message.XsmpMessage.TheVariants.{Error as XsmpError, RegisterClient, RegisterClientReply, ConnectionClosed, SetProperties, DeleteProperties, GetPropertiesReply}

same_items : {A : Type 0} (f g : A → Cells) → ((x : A) → length (f x) ≡ length (g x)) → (xs : List A) → length (flat_map f xs) ≡ length (flat_map g xs)
same_items f g same [] = refl
same_items f g same (x ∷ xs) = let rest = same_items f g same xs in omega (arith, same x, rest, length-append (f x) (flat_map f xs), length-append (g x) (flat_map g xs))

two_same : (a b c d : Cells) → length a ≡ length c → length b ≡ length d → length (a ++ b) ≡ length (c ++ d)
two_same a b c d x y = omega (arith, x, y, length-append a b, length-append c d)

five_same : (f v r n o g w s m p : Cells) → length f ≡ length g → length v ≡ length w → length r ≡ length s → length n ≡ length m → length o ≡ length p → length (f ++ v ++ r ++ n ++ o) ≡ length (g ++ w ++ s ++ m ++ p)
five_same f v r n o g w s m p ff vv rr nn oo = two_same (f ++ v ++ r ++ n) o (g ++ w ++ s ++ m) p (two_same (f ++ v ++ r) n (g ++ w ++ s) m (two_same (f ++ v) r (g ++ w) s (two_same f v g w ff vv) rr) nn) oo

module _ (e to : Endian) where
  same_text : (text : List ℕ) → length (text16 e text) ≡ length (text16 to text)
  same_text text = length-text16 e text ∙ sym (length-text16 to text)

  same_texts : (names : List (List ℕ)) → length (texts e names) ≡ length (texts to names)
  same_texts names = same_items (text16 e) (text16 to) same_text names

  same_versions : (offered : List Version) → length (versions e offered) ≡ length (versions to offered)
  same_versions offered = length-versions e offered ∙ sym (length-versions to offered)

  same_makers : (vendor release : List ℕ) → length (text16 e vendor ++ text16 e release) ≡ length (text16 to vendor ++ text16 to release)
  same_makers vendor release = two_same (text16 e vendor) (text16 e release) (text16 to vendor) (text16 to release) (same_text vendor) (same_text release)

  pub same_ice : (m : IceMessage) → length (ice_layout byte e m).1 ≡ length (ice_layout byte to m).1
  same_ice (IceError error) = length-error_body e error ∙ sym (length-error_body to error)
  same_ice (ConnectionSetup must vendor release names offered) =
      let front : Cells = byte (bool_number must) ++ free 7 in
      five_same front (text16 e vendor) (text16 e release) (texts e names) (versions e offered) front (text16 to vendor) (text16 to release) (texts to names) (versions to offered) refl (same_text vendor) (same_text release) (same_texts names) (same_versions offered)
  same_ice (AuthenticationRequired index proof) = length-proof_data e proof ∙ sym (length-proof_data to proof)
  same_ice (AuthenticationReply proof) = length-proof_data e proof ∙ sym (length-proof_data to proof)
  same_ice (AuthenticationNextPhase proof) = length-proof_data e proof ∙ sym (length-proof_data to proof)
  same_ice (ConnectionReply index vendor release) = same_makers vendor release
  same_ice (ProtocolSetup opcode must protocol vendor release names offered) =
      let front : Cells = byte (length offered) ++ byte (length names) ++ free 6 in
      five_same (front ++ text16 e protocol) (text16 e vendor) (text16 e release) (texts e names) (versions e offered) (front ++ text16 to protocol) (text16 to vendor) (text16 to release) (texts to names) (versions to offered)
      (two_same front (text16 e protocol) front (text16 to protocol) refl (same_text protocol)) (same_text vendor) (same_text release) (same_texts names) (same_versions offered)
  same_ice (ProtocolReply index opcode vendor release) = same_makers vendor release
  same_ice m = refl

  same_array8 : (bytes : List ℕ) → length (array8 e bytes) ≡ length (array8 to bytes)
  same_array8 bytes = length-array8 e bytes ∙ sym (length-array8 to bytes)

  same_listed : {A : Type 0} (f g : A → Cells) → ((x : A) → length (f x) ≡ length (g x)) → (items : List A) → length (listed f e items) ≡ length (listed g to items)
  same_listed f g same items = omega (arith, length-listed f e items, length-listed g to items, same_items f g same items)

  same_array8s : (items : List (List ℕ)) → length (array8_list e items) ≡ length (array8_list to items)
  same_array8s items = same_listed (array8 e) (array8 to) same_array8 items

  same_property : (p : Property) → length (property e p) ≡ length (property to p)
  same_property p =
      two_same (array8 e p.name ++ array8 e p.kind) (array8_list e p.values) (array8 to p.name ++ array8 to p.kind) (array8_list to p.values)
      (two_same (array8 e p.name) (array8 e p.kind) (array8 to p.name) (array8 to p.kind) (same_array8 p.name) (same_array8 p.kind)) (same_array8s p.values)

  pub same_xsmp : (m : XsmpMessage) → length (xsmp_layout byte e m).1 ≡ length (xsmp_layout byte to m).1
  same_xsmp (XsmpError error) = length-error_body e error ∙ sym (length-error_body to error)
  same_xsmp (RegisterClient previous) = same_array8 previous
  same_xsmp (RegisterClientReply id) = same_array8 id
  same_xsmp (ConnectionClosed reasons) = same_array8s reasons
  same_xsmp (SetProperties properties) = same_listed (property e) (property to) same_property properties
  same_xsmp (DeleteProperties names) = same_array8s names
  same_xsmp (GetPropertiesReply properties) = same_listed (property e) (property to) same_property properties
  same_xsmp m = refl

-- the two bytes of each message's own
pub ice_own : (e : Endian) (m : IceMessage) → length (ice_layout byte e m).0 ≡ 2
ice_own e (IceError error) = length-known (number_bytes e 2 error.class) ∙ length-number_bytes e 2 error.class
ice_own e m = refl

pub xsmp_own : (e : Endian) (m : XsmpMessage) → length (xsmp_layout byte e m).0 ≡ 2
xsmp_own e (XsmpError error) = length-known (number_bytes e 2 error.class) ∙ length-number_bytes e 2 error.class
xsmp_own e m = refl

-- what a frame of at most 65,544 bytes spells has a body of at most 65,536
pub body_fits : (e : Endian) (opcode minor : ℕ) (own body : Cells) (bytes : List ℕ) → length own ≡ 2 → Begins (spelling e opcode minor own body) bytes [] → length bytes ≤ 65544 → length body ≤ 65536
body_fits e opcode minor own body bytes two begins short =
    let parts = parts_of e opcode minor own body bytes two begins in
    omega (arith, short, Begins-length body (drop 8 bytes) parts.0 parts.1.body_at, length-drop 8 bytes)
