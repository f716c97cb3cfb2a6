-- Frames of the manager's, one after another, that are heard in the place of a client that has left; what starts it again, and who it is.
use Rattle.std.proofs.Common.{◌≡◌, ◌⊎◌, inl, inr, ℕ, ◌+◌, ◌<◌, ◌≤◌, List, [], ◌∷◌, ◌++◌, length, drop, get_or, Bool, true, false, Option, Some, None, refl, sym, ap, ◌∙◌, append_assoc, append-nil, arith}
use Rattle.std.specs.Prelude.{◌||◌, nat_lt, Result, Ok, Err, IfSome, OnOk, if◌then◌else◌}
use Rattle.std.proofs.lemmas.Bool.Decides.{nat_tests}
use Rattle.std.proofs.lemmas.List.{at_drop_all}
use Rattle.owned_lists.specs.declared.commands.Command.{Command}
use Rattle.ice_values.specs.declared.numbers.Endian.{Endian}
use Rattle.ice_values.specs.declared.property.Property.{Property}
use Rattle.ice_framing.specs.Frames.{Standing}
use Rattle.ice_framing.specs.declared.cutting.WholeFrame.{WholeFrame}
use Rattle.xsmp_messages.specs.declared.message.XsmpMessage.{XsmpMessage}
use Rattle.xsmp_messages.specs.declared.message.XsmpMessage.TheVariants.{GetPropertiesReply}
use Rattle.xsmp_properties.specs.Tables.{encoded_len, set_all, IsTableFull}
use Rattle.session_model.specs.Tables.{is_full}
use Rattle.frame_speech.specs.Passing.{ComesAlone, as_frame, from}
use Rattle.frame_speech.specs.declared.speech.Speech.{Speech}
use Rattle.frame_speech.proofs.Speeches.{on}
use Rattle.late_answers.specs.declared.leaver.Leaver.{Leaver}
use Rattle.client_quirks.specs.Stood.{Stood, stood_in, stood_all, told_of, asked_of, restart_in, restart_among, xsmp_in, named_by, named_in, Names}
use Rattle.client_quirks.specs.Sides.{new_frames}
use Rattle.client_quirks.specs.declared.side.Side.{Side}
use Rattle.client_quirks.specs.declared.tongue.Tongue.{Tongue}

-- The frames before the i-th were heard: what is left brings behind what they brought what all of them bring.
pub record StoodSoFar (client : Tongue) (speech : Speech) (first : Leaver) (frames : List WholeFrame) (front : List ℕ) (begun : List Command) (leaver : Leaver) (handed : List ℕ) (started : List Command) (i : ℕ) : Type 0 where
  pub leaver_is : (stood_all client speech leaver (drop i frames)).leaver ≡ (stood_all client speech first frames).leaver
  pub handed_is : handed ++ (stood_all client speech leaver (drop i frames)).handed ≡ front ++ (stood_all client speech first frames).handed
  pub started_is : started ++ (stood_all client speech leaver (drop i frames)).started ≡ begun ++ (stood_all client speech first frames).started

pub stood_one : (client : Tongue) (speech : Speech) (first : Leaver) (frames : List WholeFrame) (front : List ℕ) (begun : List Command) (leaver : Leaver) (handed : List ℕ) (started : List Command) (i : ℕ) (f : WholeFrame) (more : Leaver) (longer : List ℕ) (larger : List Command) → StoodSoFar client speech first frames front begun leaver handed started i → i < length frames → f ≡ get_or frames i f
    → more ≡ (stood_in client speech f leaver).leaver → longer ≡ handed ++ (stood_in client speech f leaver).handed → larger ≡ started ++ (stood_in client speech f leaver).started
    → StoodSoFar client speech first frames front begun more longer larger (i + 1)
stood_one client speech first frames front begun leaver handed started i f more longer larger so_far there is knows hands starts =
    let rest = drop (i + 1) frames in
    let then_ : stood_all client speech more rest ≡ stood_all client speech (stood_in client speech f leaver).leaver rest = ap (λ (l : Leaver). stood_all client speech l rest) knows in
    record {
      leaver_is =
          ap (λ (x : Stood). x.leaver) then_ ∙ on (λ (fs : List WholeFrame). (stood_all client speech leaver fs).leaver) frames i f there is ∙ so_far.leaver_is;
      handed_is =
          ap (λ (x : Stood). longer ++ x.handed) then_
          ∙ ap (λ (bytes : List ℕ). bytes ++ (stood_all client speech (stood_in client speech f leaver).leaver rest).handed) hands
          ∙ append_assoc handed (stood_in client speech f leaver).handed (stood_all client speech (stood_in client speech f leaver).leaver rest).handed
          ∙ ap (λ (bytes : List ℕ). handed ++ bytes) (on (λ (fs : List WholeFrame). (stood_all client speech leaver fs).handed) frames i f there is)
          ∙ so_far.handed_is;
      started_is =
          ap (λ (x : Stood). larger ++ x.started) then_
          ∙ ap (λ (all : List Command). all ++ (stood_all client speech (stood_in client speech f leaver).leaver rest).started) starts
          ∙ append_assoc started (stood_in client speech f leaver).started (stood_all client speech (stood_in client speech f leaver).leaver rest).started
          ∙ ap (λ (all : List Command). started ++ all) (on (λ (fs : List WholeFrame). (stood_all client speech leaver fs).started) frames i f there is)
          ∙ so_far.started_is;
    }

-- all of them were heard
pub record StoodEvery (client : Tongue) (speech : Speech) (first : Leaver) (frames : List WholeFrame) (front : List ℕ) (begun : List Command) (leaver : Leaver) (handed : List ℕ) (started : List Command) : Type 0 where
  pub leaver_is : leaver ≡ (stood_all client speech first frames).leaver
  pub handed_is : handed ≡ front ++ (stood_all client speech first frames).handed
  pub started_is : started ≡ begun ++ (stood_all client speech first frames).started

pub stood_every : (client : Tongue) (speech : Speech) (first : Leaver) (frames : List WholeFrame) (front : List ℕ) (begun : List Command) (leaver : Leaver) (handed : List ℕ) (started : List Command) (i : ℕ) → StoodSoFar client speech first frames front begun leaver handed started i → length frames ≤ i → StoodEvery client speech first frames front begun leaver handed started
stood_every client speech first frames front begun leaver handed started i so_far over = record {
  leaver_is = sym (at_drop_all (λ (fs : List WholeFrame). (stood_all client speech leaver fs).leaver) frames i over) ∙ so_far.leaver_is;
  handed_is =
      sym (append-nil handed) ∙ ap (λ (bytes : List ℕ). handed ++ bytes) (sym (at_drop_all (λ (fs : List WholeFrame). (stood_all client speech leaver fs).handed) frames i over)) ∙ so_far.handed_is;
  started_is =
      sym (append-nil started) ∙ ap (λ (all : List Command). started ++ all) (sym (at_drop_all (λ (fs : List WholeFrame). (stood_all client speech leaver fs).started) frames i over)) ∙ so_far.started_is;
}

-- ---- whether a table is full

full_so : (table : List Property) (b : Bool) → is_full table ≡ b → ¬ (IsTableFull table) → b ≡ false
full_so table false is room = refl
full_so table true is room = absurd (room (full_by (length table) (encoded_len table) (nat_lt 128 (length table)) refl is)) where
  full_by : (n m : ℕ) (a : Bool) → nat_lt 128 n ≡ a → (a || nat_lt 16384 m) ≡ true → (128 < n) ⊎ (16384 < m)
  full_by n m true one is = inl (grind (arith, nat_tests))
  full_by n m false one is = inr (grind (arith, nat_tests))

full_too : (table : List Property) (b : Bool) → is_full table ≡ b → IsTableFull table → b ≡ true
full_too table true is full = refl
full_too table false is (inl more) = absurd (grind (arith, nat_tests))
full_too table false is (inr more) = absurd (grind (arith, nat_tests))

pub with_room : (properties : List Property) → ¬ (IsTableFull (set_all [] properties)) → restart_among (set_all [] properties) ≡ restart_in properties
with_room properties room = sym (ap (λ (b : Bool). if b then None else restart_among (set_all [] properties)) (full_so (set_all [] properties) (is_full (set_all [] properties)) refl room))

pub without_room : (properties : List Property) → IsTableFull (set_all [] properties) → None ≡ restart_in properties
without_room properties full = sym (ap (λ (b : Bool). if b then None else restart_among (set_all [] properties)) (full_too (set_all [] properties) (is_full (set_all [] properties)) refl full))

-- ---- a message that gives no properties

pub whenever : {A E : Type 0} (result : Result A E) (P : Type 0) → P → OnOk result P
whenever (Ok x) P holds = holds
whenever (Err e) P holds = tt

pub other_asked : (client : Tongue) (m : XsmpMessage) (leaver : Leaver) → ((properties : List Property) → m ≡ GetPropertiesReply properties → ⊥) → told_of client m leaver ≡ asked_of client m leaver
other_asked client (GetPropertiesReply properties) leaver none = absurd (none properties refl)
other_asked client m leaver none = refl

-- ---- who it is

pub alone_some : (cutter : Option Standing) (at : Standing) (piece : List ℕ) (order : Option Endian) → cutter ≡ Some at → IfSome order (λ (e : Endian). ComesAlone e piece at) → IfSome order (λ (e : Endian). new_frames cutter piece ≡ as_frame e piece ∷ [])
alone_some cutter at piece None some none = none
alone_some cutter at piece (Some e) some alone = ap (λ (o : Option Standing). new_frames o piece) some ∙ alone.frames

pub order_some : (cutter : Option Standing) (at : Standing) (order : Option Endian) → cutter ≡ Some at → IfSome order (λ (e : Endian). at ≡ from e []) → IfSome order (λ (e : Endian). cutter ≡ Some (from e []))
order_some cutter at None some stands = stands
order_some cutter at (Some e) some stands = some ∙ ap (λ (s : Standing). Some s) stands

pub names_of : (side : Side) (piece : List ℕ) (order : Endian) (frame : WholeFrame) (m : XsmpMessage) (id : Option (List ℕ)) → new_frames side.cutter piece ≡ as_frame order piece ∷ [] → frame ≡ as_frame order piece → Some m ≡ xsmp_in side.speech frame → id ≡ named_by m → IfSome id (Names side piece)
names_of side piece order frame m None alone is says names = tt
names_of side piece order frame m (Some it) alone is says names = record {
  order = order;
  frame = alone;
  id_is = ap (λ (f : WholeFrame). named_in (xsmp_in side.speech f)) (sym is) ∙ ap named_in (sym says) ∙ sym names;
}
