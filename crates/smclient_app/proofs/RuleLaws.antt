-- The answers of the words are lawful.
use Rattle.std.proofs.Common.{◌≡◌, inl, inr, ℕ, ◌+◌, ◌<◌, ◌≤◌, ◌&&◌, Bool, true, false, not, List, [], ◌∷◌, ◌++◌, length, if◌then◌else◌, codes, refl, ◌∙◌, ap, arith, length-append}
use Rattle.ice_values.specs.Cells.{pad_len}
use Rattle.ice_values.specs.Properties.{array8, array8_list, property}
use Rattle.ice_values.specs.declared.numbers.Endian.TheVariants.{Lsb}
use Rattle.ice_values.specs.declared.property.Property.{Property}
use Rattle.ice_values.proofs.LengthLaws.{length-array8, length-listed}
use Rattle.ice_values.specs.declared.saves.Dialog.TheVariants.{Normal}
use Rattle.ice_values.specs.declared.saves.SaveStyle.{SaveStyle}
use Rattle.ice_values.specs.declared.saves.SaveStyle.TheVariants.{Any, Errors, Nothing}
use Rattle.xsmp_properties.specs.Tables.{IsTableFull, encoded_len}
use Rattle.xsmp_properties.proofs.TableLaws.{encoded_len-cons}
use Rattle.client_machine.specs.Saves.{IsLawful, allows, first_step as lawful_first, is_lawful_step, may_cancel}
use Rattle.client_machine.specs.declared.saves.SaveAsk.{SaveAsk}
use Rattle.client_machine.specs.declared.saves.Stage.{Stage}
use Rattle.client_machine.specs.declared.saves.Stage.TheVariants.{First, Second, Talking, TalkingTwo}
use Rattle.client_machine.specs.declared.saves.Step.{Step}
use Rattle.client_machine.specs.declared.saves.Step.TheVariants.{Done, Interact, PhaseTwo}
use Rattle.client_words.specs.declared.choices.Choices.{Choices}
use Rattle.smclient_app.specs.Rules.{is_any, own_properties, set_by, step_by}

pad_short : (x : ℕ) → pad_len x 8 ≤ 7
pad_short x = omega arith

array8_short : (bytes : List ℕ) → length (array8 Lsb bytes) ≤ length bytes + 11
array8_short bytes = omega (arith, length-array8 Lsb bytes, pad_short (4 + length bytes))

value_short : (value : List ℕ) → length (array8_list Lsb (value ∷ [])) ≤ length value + 19
value_short value = omega (arith, length-listed (array8 Lsb) Lsb (value ∷ []), length-append (array8 Lsb value) [], array8_short value)

property_short : (name kind value : List ℕ) → length (property Lsb (record { name = name; kind = kind; values = value ∷ [] })) ≤ length name + length kind + length value + 41
property_short name kind value =
    omega (arith, length-append (array8 Lsb name ++ array8 Lsb kind) (array8_list Lsb (value ∷ [])), length-append (array8 Lsb name) (array8 Lsb kind), array8_short name, array8_short kind, value_short value)

own_few : (program : List ℕ) → length program ≤ 512 → IsTableFull (own_properties program) → ⊥
own_few program short (inl many) = omega (arith, many)
own_few program short (inr full) =
    let first : Property = record { name = codes "Program"; kind = codes "ARRAY8"; values = program ∷ [] } in
    let second : Property = record { name = codes "RestartCommand"; kind = codes "LISTofARRAY8"; values = program ∷ [] } in
    let one : length (property Lsb first) ≤ 7 + 6 + length program + 41 = property_short (codes "Program") (codes "ARRAY8") program in
    let two : length (property Lsb second) ≤ 14 + 12 + length program + 41 = property_short (codes "RestartCommand") (codes "LISTofARRAY8") program in
    let none : encoded_len [] ≡ 0 = refl in
    let all : encoded_len (first ∷ second ∷ []) ≡ length (property Lsb first) + (length (property Lsb second) + encoded_len []) = encoded_len-cons first (second ∷ []) ∙ ap (λ n. length (property Lsb first) + n) (encoded_len-cons second []) in
    let bad : 16384 < encoded_len (first ∷ second ∷ []) = full in
    absurd (over (encoded_len (first ∷ second ∷ [])) (length (property Lsb first)) (length (property Lsb second)) (length program) all one two short bad)
  where
    over : (all one two n : ℕ) → all ≡ one + (two + 0) → one ≤ 7 + 6 + n + 41 → two ≤ 14 + 12 + n + 41 → n ≤ 512 → 16384 < all → ⊥
    over all one two n e first second short bad = omega arith

none_few : IsTableFull [] → ⊥
none_few (inl many) = omega (arith, many)
none_few (inr full) = omega (arith, full)

set_few : (stage : Stage) (choices : Choices) (talked : Bool) → length choices.program.now ≤ 512 → IsTableFull (set_by stage choices talked) → ⊥
set_few First choices true short full = none_few full
set_few First choices false short full = own_few choices.program.now short full
set_few Second choices talked short full = none_few full
set_few Talking choices talked short full = none_few full
set_few TalkingTwo choices talked short full = none_few full

allowed : (style : SaveStyle) (interact talked : Bool) → (interact && (is_any style && not talked)) ≡ true → allows style Normal ≡ true
allowed Any interact talked e = refl
allowed Errors true talked e = cc
allowed Errors false talked e = cc
allowed Nothing true talked e = cc
allowed Nothing false talked e = cc

first_lawful : (ask : SaveAsk) (dialog two : Bool) → (dialog ≡ true → allows ask.style Normal ≡ true) → lawful_first ask (if dialog then Interact Normal else if two then PhaseTwo else Done true) ≡ true
first_lawful ask true two may = may refl
first_lawful ask false true may = refl
first_lawful ask false false may = refl

no_cancel : (shutdown : Bool) → may_cancel shutdown false ≡ true
no_cancel true = refl
no_cancel false = refl

step_lawful : (stage : Stage) (choices : Choices) (talked : Bool) (ask : SaveAsk) → is_lawful_step stage ask (step_by stage choices talked ask) ≡ true
step_lawful First choices talked ask = first_lawful ask (choices.interact && (is_any ask.style && not talked)) choices.phase_two (allowed ask.style choices.interact talked)
step_lawful Second choices talked ask = refl
step_lawful Talking choices talked ask = no_cancel ask.shutdown
step_lawful TalkingTwo choices talked ask = no_cancel ask.shutdown

pub lawful : (choices : Choices) (talked : Bool) (ask : SaveAsk) (set : List Property) (step : Step) → length choices.program.now ≤ 512 → set ≡ set_by ask.stage choices talked → step ≡ step_by ask.stage choices talked ask → IsLawful ask (record { set = set; step = step })
lawful choices talked ask set step short is_set is_step = record {
  step = rw is_step (step_lawful ask.stage choices talked ask);
  few = λ full. set_few ask.stage choices talked short (rw is_set at full);
}
