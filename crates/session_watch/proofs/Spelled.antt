-- What a frame spells by its minor opcode.
use Rattle.std.proofs.Common.{◌≡◌, ℕ, List, refl}
use Rattle.std.specs.Prelude.{slice_index}
use Rattle.ice_values.specs.Frames.{bool_meaning}
use Rattle.ice_values.specs.declared.numbers.Endian.{Endian}
use Rattle.xsmp_messages.specs.Reading.{decode_at, empty_at, flagged_at}
use Rattle.xsmp_messages.specs.declared.message.XsmpMessage.TheVariants.{SaveComplete, SaveYourselfDone}

pub spells_saved : (e : Endian) (bytes : List ℕ) → slice_index bytes 1 ≡ 8 → decode_at e bytes ≡ flagged_at bool_meaning SaveYourselfDone bytes
unfolding decode_at
spells_saved e bytes is = rw is refl

pub spells_completed : (e : Endian) (bytes : List ℕ) → slice_index bytes 1 ≡ 18 → decode_at e bytes ≡ empty_at SaveComplete bytes
unfolding decode_at
spells_completed e bytes is = rw is refl
