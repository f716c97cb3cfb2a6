-- The words of `smclient`, as the definition of a command of `clap`, which says what the words mean.
use Rattle.std.specs.Prelude.{ℕ, List, [], ◌∷◌, pos, Some, true, codes}
use Rattle.clap.specs.Simple.{App, new_app, new_rule, on_top, with_rule}
use Rattle.clap.specs.Walk.{Rule, Text}
use Rattle.clap.specs.declared.builder.action.ArgAction.TheVariants.{Set, SetTrue}
use Rattle.clap.specs.declared.builder.value_parser.ValueParser.TheVariants.{Signed}

-- a command whose words leave out the program's name
abbrev pub bare : Text → App
bare name = on_top (λ s. record s { no_binary_name = true }) (new_app name)

-- `--NAME VALUE`
abbrev pub optional : Text → Rule
optional name = record (new_rule name) { long = Some name; action = Some Set }

-- the same, which must be given
abbrev pub needed : Text → Rule
needed name = record (optional name) { required = true }

-- the same, which has this value where it is left out
abbrev pub defaulted : Text → Text → Rule
defaulted name value = record (optional name) { defaults = value ∷ [] }

-- a number from 1 to 1,000,000
abbrev pub numbered : Text → Rule
numbered name = record (defaulted name (codes "1")) { parser = Some (Signed (pos 1) (pos 1000000)) }

-- `--NAME`
abbrev pub switch : Text → Rule
switch name = record (new_rule name) { long = Some name; action = Some SetTrue }

-- `--socket P`, `--authority A`, `--id ID`, `--program NAME`, `--saves N`, `--interact` and `--phase-two`
unfoldable pub client_app : App
client_app =
    with_rule
    (with_rule
    (with_rule
    (with_rule
    (with_rule
    (with_rule
    (with_rule (bare (codes "smclient")) (needed (codes "socket")))
    (needed (codes "authority")))
    (optional (codes "id")))
    (defaulted (codes "program") (codes "smclient")))
    (numbered (codes "saves")))
    (switch (codes "interact")))
    (switch (codes "phase-two"))
