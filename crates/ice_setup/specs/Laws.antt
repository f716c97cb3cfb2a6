-- A law for those who call the set-up.
use Rattle.std.specs.Prelude.{ℕ, ◌≤◌, List, length}
use Rattle.ice_values.specs.declared.numbers.Endian.{Endian}
use Rattle.ice_messages.specs.Messages.{Spells}
use Rattle.ice_messages.specs.declared.message.IceMessage.{IceMessage}
use Rattle.ice_setup.specs.Setup.{HasFittingBody}

-- what a frame of at most 65,544 bytes spells has a body of at most 65,536
abbrev pub SpelledFits : Type 0
SpelledFits = (e : Endian) (m : IceMessage) (bytes : List ℕ) → Spells e m bytes → length bytes ≤ 65544 → HasFittingBody e m
