-- What is told of what comes back.
use Rattle.std.specs.Prelude.{ℕ, Bool, true, false, List, [], ◌∷◌, ◌++◌, length, filter, codes}
use Rattle.std.specs.List.{flat_map}
use Rattle.std.specs.Fmt.{decimal}
use Rattle.checkpoint_records.specs.declared.records.Book.{Book}
use Rattle.checkpoint_records.specs.declared.records.Entry.{Entry}
use Rattle.session_return.specs.Returns.{entries_back, fate_of, put_back}
use Rattle.session_return.specs.declared.fates.Fate.{Fate}
use Rattle.session_return.specs.declared.fates.Fate.TheVariants.{Own, There, Due, Unkept}
use Rattle.session_return.specs.declared.returns.Which.{Which}
use Rattle.store_report.specs.Lines.{named_line}

abbrev pub fate_text : Fate → List ℕ
fate_text Own = codes "own"
fate_text There = codes "there"
fate_text Due = codes "due"
fate_text Unkept = codes "unkept"

-- an entry with what is known of its state
abbrev pub entry_line : Book → Entry → List ℕ
entry_line present entry = named_line (codes "entry") (entry.id ∷ fate_text (fate_of present entry) ∷ [])

abbrev pub is_unkept : Fate → Bool
is_unkept Own = false
is_unkept There = false
is_unkept Due = false
is_unkept Unkept = true

abbrev pub is_due : Fate → Bool
is_due Own = false
is_due There = false
is_due Due = true
is_due Unkept = false

-- of how many of these entries that is known
abbrev pub how_many : (Fate → Bool) → Book → List Entry → ℕ
how_many test present back = length (filter (λ entry. test (fate_of present entry)) back)

-- under a heading: how many entries come back, how many of them without their state or with one that is yet to be discarded, the epoch, and
-- how many commands are pending
abbrev pub summary : List ℕ → ℕ → ℕ → ℕ → ℕ → ℕ → List ℕ
summary heading entries unkept due epoch pending =
    heading ++ (codes ": entries " ++ (decimal entries ++ (codes ", unkept " ++ (decimal unkept ++ (codes ", due " ++ (decimal due ++ (codes ", epoch " ++ (decimal epoch ++ (codes ", pending " ++ (decimal pending ++ 10 ∷ []))))))))))

abbrev pub summary_line : List ℕ → Book → List Entry → Book → List ℕ
summary_line heading present back book = summary heading (length back) (how_many is_unkept present back) (how_many is_due present back) book.epoch (length book.pending)

-- all of this under a heading
abbrev pub told_in : List ℕ → Book → List Entry → Book → List ℕ
told_in heading present back book = flat_map (entry_line present) back ++ summary_line heading present back book

abbrev pub return_lines : List ℕ → Which → Book → Book → List ℕ
return_lines heading which kept present = told_in heading present (entries_back which kept) (put_back which kept present)
