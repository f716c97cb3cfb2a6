-- The line of a patience in front of a trace.
use Rattle.std.specs.Prelude.{ℕ, ◌==◌, List, [], ◌++◌, codes, if◌then◌else◌}
use Rattle.std.specs.Fmt.{decimal}
use Rattle.program_frame.specs.Printing.{line}

-- the line of a patience, where there is one
abbrev pub patience_text : ℕ → List ℕ
patience_text patience = if patience == 0 then [] else line (codes "patience " ++ decimal patience)
