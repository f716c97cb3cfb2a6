-- What keeps the rules is short enough to be spelled.
use Rattle.std.proofs.Common.{◌≡◌, ℕ, ◌+◌, ◌^◌, ◌<◌, ◌≤◌, inl, inr, List, [], ◌∷◌, ◌++◌, length, map, refl, sym, ap, ap₂, ◌∙◌, arith, length-append, append_assoc, codes}
use Rattle.std.specs.Prelude.{flat_map}
use Rattle.std.specs.List.{AllByRecursion}
use Rattle.owned_lists.specs.declared.commands.Command.{Command}
use Rattle.std.proofs.lemmas.Grind.{flat_map-append}
use Rattle.ice_values.specs.Cells.{Cells, zeros, free}
use Rattle.ice_values.specs.Numbers.{card32}
use Rattle.ice_values.proofs.WriteLaws.{adds_cells}
use Rattle.checkpoint_records.specs.Books.{all_entries, entries_in, sessions, stored}
use Rattle.checkpoint_records.specs.Spelling.{Holds, Pends, book_bytes, entry_cells, format_number, head_cells, head_of, head_of_session, part_cells, parts_in, parts_of, session_head_cells, session_parts}
use Rattle.checkpoint_records.specs.declared.head.Format.TheVariants.{Several}
use Rattle.checkpoint_records.specs.declared.head.Head.{Head}
use Rattle.checkpoint_records.specs.declared.records.Named.{Named}
use Rattle.checkpoint_records.specs.declared.records.Book.{Book}
use Rattle.ice_values.specs.Properties.{array8, IsArray8, IsListed, array8_list, property, IsProperty, property_list}
use Rattle.ice_values.specs.declared.numbers.Endian.TheVariants.{Lsb}
use Rattle.ice_values.specs.declared.property.Property.{Property}
use Rattle.ice_values.proofs.LengthLaws.{length-array8, length-listed}
use Rattle.xsmp_properties.specs.Tables.{encoded_len, IsTableFull}
use Rattle.xsmp_properties.proofs.TableLaws.{encoded_len-cons}
use Rattle.checkpoint_records.specs.Rules.{hex8, IsClientId, in_turn, command_cells, IsEntry, IsCommand, IsStored, KeepsRules}
use Rattle.checkpoint_records.specs.Parts.{HasEntrySpelling, HasSessionSpelling, HasCommandSpelling}
use Rattle.checkpoint_records.specs.declared.records.Entry.{Entry}
use Rattle.checkpoint_records.proofs.DistinctLaws.{all_behind, all_front}
use Rattle.checkpoint_records.proofs.FindLaws.{number}
use Rattle.checkpoint_records.proofs.IdLaws.{length-hex8}

-- IDs

pub length-id : (epoch : ℕ) (id : List ℕ) → IsClientId epoch id → length id ≡ 21
length-id epoch id i =
    let a = length-append (codes "smd-" ++ hex8 i.epoch ++ codes "-") (hex8 i.number) in
    let b = length-append (codes "smd-" ++ hex8 i.epoch) (codes "-") in
    let d = length-append (codes "smd-") (hex8 i.epoch) in
    ap length i.is ∙ omega (arith, a, b, d, length-hex8 i.epoch, length-hex8 i.number)

pub id_short : (epoch : ℕ) (id : List ℕ) → IsClientId epoch id → IsArray8 id × (length (array8 Lsb id) ≤ 65536)
id_short epoch id i = (omega (arith, length-id epoch id i), omega (arith, length-array8 Lsb id, length-id epoch id i))

pub name_length : (name : List ℕ) → length (array8 Lsb name) ≤ length name + 16
name_length name = omega (arith, length-array8 Lsb name)

-- Lists

count_within : (xs : List (List ℕ)) → length xs ≤ length (flat_map (array8 Lsb) xs)
count_within [] = omega arith
count_within (x ∷ xs) = omega (arith, count_within xs, length-append (array8 Lsb x) (flat_map (array8 Lsb) xs), length-array8 Lsb x)

each_within : (xs : List (List ℕ)) → length (flat_map (array8 Lsb) xs) < 2 ^ 32 → AllByRecursion IsArray8 xs
each_within [] le = tt
each_within (x ∷ xs) le =
    let whole = length-append (array8 Lsb x) (flat_map (array8 Lsb) xs) in
    (omega (arith, whole, le, length-array8 Lsb x), each_within xs (omega (arith, whole, le)))

pub list_fits : (xs : List (List ℕ)) → length (array8_list Lsb xs) < 2 ^ 32 → IsListed IsArray8 xs
list_fits xs le =
    let len = length-listed (array8 Lsb) Lsb xs in
    (omega (arith, len, le, count_within xs), each_within xs (omega (arith, len, le)))

pub bytes_fit : (bytes : List ℕ) → length (array8 Lsb bytes) < 2 ^ 32 → IsArray8 bytes
bytes_fit bytes le = omega (arith, le, length-array8 Lsb bytes)

-- Tables

length-property : (p : Property) → length (property Lsb p) ≡ length (array8 Lsb p.name) + length (array8 Lsb p.kind) + length (array8_list Lsb p.values)
length-property p = length-append (array8 Lsb p.name ++ array8 Lsb p.kind) (array8_list Lsb p.values) ∙ ap (λ (n : ℕ). n + length (array8_list Lsb p.values)) (length-append (array8 Lsb p.name) (array8 Lsb p.kind))

property_fits : (p : Property) → length (property Lsb p) < 2 ^ 32 → IsProperty p
property_fits p le =
    let len = length-property p in
    record {
      name = bytes_fit p.name (omega (arith, len, le));
      kind = bytes_fit p.kind (omega (arith, len, le));
      values = list_fits p.values (omega (arith, len, le));
    }

properties_fit : (items : List Property) → encoded_len items < 2 ^ 32 → AllByRecursion IsProperty items
properties_fit [] le = tt
properties_fit (p ∷ items) le =
    let len = encoded_len-cons p items in
    (property_fits p (omega (arith, len, le)), properties_fit items (omega (arith, len, le)))

properties_within : (items : List Property) → length items ≤ encoded_len items
properties_within [] = omega arith
properties_within (p ∷ items) = omega (arith, properties_within items, encoded_len-cons p items, length-property p, length-array8 Lsb p.name)

-- a list that has a spelling in so many bytes
pub table_fits : (items : List Property) → length (property_list Lsb items) < 2 ^ 32 → IsListed IsProperty items
table_fits items lt =
    let len = length-listed (property Lsb) Lsb items in
    (omega (arith, len, lt, properties_within items), properties_fit items (omega (arith, len, lt)))

pub not_full : (items : List Property) → ¬ (IsTableFull items) → (length items ≤ 128) × (encoded_len items ≤ 16384)
not_full items limits =
    let few : 128 < length items → ⊥ = λ h. limits (inl h) in
    let small : 16384 < encoded_len items → ⊥ = λ h. limits (inr h) in
    (omega (arith, few), omega (arith, small))

pub table_short : (items : List Property) → ¬ (IsTableFull items) → IsListed IsProperty items × (length (property_list Lsb items) ≤ 65536)
table_short items limits =
    let h = not_full items limits in (
      (omega (arith, h.0), properties_fit items (omega (arith, h.1))),
      omega (arith, length-listed (property Lsb) Lsb items, h.1),
    )

pub entry_fits : (epoch : ℕ) (entry : Entry) → IsEntry epoch entry → HasEntrySpelling entry
entry_fits epoch entry i = record { id = (id_short epoch entry.id i.id).0; table = (table_short entry.table i.table.limits).0 }

pub entries_fit : (epoch : ℕ) (entries : List Entry) → AllByRecursion (IsEntry epoch) entries → AllByRecursion HasEntrySpelling entries
entries_fit epoch [] all = tt
entries_fit epoch (entry ∷ entries) all = (entry_fits epoch entry all.0, entries_fit epoch entries all.1)

-- Commands

-- the three fields of a command that isn't too long
pub record AreShort (words : List (List ℕ)) (directory : List ℕ) (environment : List (List ℕ)) : Type 0 where
  pub for_words : length (array8_list Lsb words) ≤ 65536
  pub for_directory : length (array8 Lsb directory) ≤ 65536
  pub for_environment : length (array8_list Lsb environment) ≤ 65536

pub command_short : (command : Command) → IsCommand command → AreShort command.words command.directory (in_turn command.environment)
command_short command i =
    let len = length-append (array8_list Lsb command.words ++ array8 Lsb command.directory) (array8_list Lsb (in_turn command.environment)) in
    let front = length-append (array8_list Lsb command.words) (array8 Lsb command.directory) in
    record {
      for_words = omega (arith, len, front, i.size);
      for_directory = omega (arith, len, front, i.size);
      for_environment = omega (arith, len, front, i.size);
    }

pub command_fits : (command : Command) → IsCommand command → HasCommandSpelling command
command_fits command i =
    let h = command_short command i in
    record {
      words = list_fits command.words (omega (arith, h.for_words));
      directory = bytes_fit command.directory (omega (arith, h.for_directory));
      environment = list_fits (in_turn command.environment) (omega (arith, h.for_environment));
    }

pub commands_fit : (commands : List Command) → AllByRecursion IsCommand commands → AllByRecursion HasCommandSpelling commands
commands_fit [] all = tt
commands_fit (command ∷ commands) all = (command_fits command all.0, commands_fit commands all.1)

-- Sessions

pub session_fits : (epoch : ℕ) (session : Named) → IsStored session → length session.entries ≤ 128 → AllByRecursion (IsEntry epoch) session.entries → HasSessionSpelling session
session_fits epoch session is few each = record {
  called = omega (arith, is.called.few);
  count = omega (arith, few);
  each = entries_fit epoch session.entries each;
}

pub sessions_fit : (epoch : ℕ) (all : List Named) → AllByRecursion IsStored all → length (entries_in all) ≤ 128 → AllByRecursion (IsEntry epoch) (entries_in all) → AllByRecursion HasSessionSpelling all
sessions_fit epoch [] is few each = tt
sessions_fit epoch (s ∷ all) is few each =
    let len = length-append s.entries (entries_in all) in (
      session_fits epoch s is.0 (omega (arith, few, len)) (all_front (IsEntry epoch) s.entries (entries_in all) each),
      sessions_fit epoch all is.1 (omega (arith, few, len)) (all_behind (IsEntry epoch) s.entries (entries_in all) each),
    )

-- A book

abbrev pub session_cells : Named → Cells
session_cells session = flat_map part_cells (session_parts Several session)

pub held_cells : (entries : List Entry) → flat_map part_cells (map Holds entries) ≡ flat_map entry_cells entries
held_cells [] = refl
held_cells (e ∷ entries) = ap (λ (l : Cells). entry_cells e ++ l) (held_cells entries)

pub pended_cells : (commands : List Command) → flat_map part_cells (map Pends commands) ≡ flat_map (command_cells Lsb) commands
pended_cells [] = refl
pended_cells (c ∷ commands) = ap (λ (l : Cells). command_cells Lsb c ++ l) (pended_cells commands)

-- cells of sessions, one after the other
sessions-cells : (all : List Named) → flat_map part_cells (flat_map (session_parts Several) all) ≡ flat_map session_cells all
sessions-cells [] = refl
sessions-cells (s ∷ all) = flat_map-append part_cells (session_parts Several s) (flat_map (session_parts Several) all) ∙ ap (λ (l : Cells). session_cells s ++ l) (sessions-cells all)

pub parts-cells : (all : List Named) (pending : List Command) → flat_map part_cells (parts_in Several all pending) ≡ flat_map session_cells all ++ flat_map (command_cells Lsb) pending
parts-cells all pending = flat_map-append part_cells (flat_map (session_parts Several) all) (map Pends pending) ∙ ap₂ (λ (xs ys : Cells). xs ++ ys) (sessions-cells all) (pended_cells pending)

pub book_made : (book : Book) (head : Head) (pending : List Command) (none one two three : List ℕ) → head ≡ head_of Several book → pending ≡ book.pending → none ≡ []
    → one ≡ none ++ zeros (head_cells head) → two ≡ one ++ zeros (flat_map session_cells (sessions book)) → three ≡ two ++ zeros (flat_map (command_cells Lsb) pending)
    → three ≡ book_bytes book
book_made book head pending none one two three is_head is_pending is_none p q r =
    let parts = adds_cells one two three (flat_map session_cells (sessions book)) (flat_map (command_cells Lsb) pending) q r in
    let cells : flat_map session_cells (sessions book) ++ flat_map (command_cells Lsb) pending ≡ flat_map part_cells (parts_of Several book) =
    ap (λ (l : List Command). flat_map session_cells (sessions book) ++ flat_map (command_cells Lsb) l) is_pending ∙ sym (parts-cells (sessions book) book.pending) in
    let all = parts ∙ ap (λ (l : Cells). one ++ zeros l) cells in
    let whole = adds_cells none one three (head_cells head) (flat_map part_cells (parts_of Several book)) p all in
    whole ∙ ap₂ (λ (l : List ℕ) (h : Head). l ++ zeros (head_cells h ++ flat_map part_cells (parts_of Several book))) is_none is_head

-- Parts that are added

four : (old a b c d : List ℕ) → old ++ a ++ b ++ c ++ d ≡ old ++ (a ++ (b ++ (c ++ d)))
four old a b c d = simp append_assoc

pub head_added : (head : Head) (old one two three new : List ℕ) → one ≡ old ++ number (format_number head.format) → two ≡ one ++ number head.epoch → three ≡ two ++ number head.count → new ≡ three ++ number head.pending
    → new ≡ old ++ zeros (head_cells head)
head_added head old one two three new p q r s =
    s ∙ ap (λ (l : List ℕ). l ++ number head.pending) (r ∙ ap (λ (l : List ℕ). l ++ number head.count) (q ∙ ap (λ (l : List ℕ). l ++ number head.epoch) p))
    ∙ four old (number (format_number head.format)) (number head.epoch) (number head.count) (number head.pending)

-- a name, how many entries there are, four zeros, and the entries
pub session_added : (session : Named) (old one two three new : List ℕ) → one ≡ old ++ zeros (array8 Lsb session.name) → two ≡ one ++ number (length session.entries) → three ≡ two ++ number 0
    → new ≡ three ++ zeros (flat_map entry_cells session.entries) → new ≡ old ++ zeros (session_cells session)
session_added session old one two three new p q r s =
    let first = adds_cells old one two (array8 Lsb session.name) (card32 Lsb (length session.entries)) p q in
    let second = adds_cells old two three (array8 Lsb session.name ++ card32 Lsb (length session.entries)) (free 4) first r in
    adds_cells old three new (session_head_cells (head_of_session session)) (flat_map part_cells (map Holds session.entries)) second (s ∙ ap (λ (l : Cells). three ++ zeros l) (sym (held_cells session.entries)))

-- the sessions before a place, one more, and those behind
pub in_place_added : (session : Named) (before behind all : List Named) (old one two new : List ℕ) → all ≡ before ++ session ∷ behind → one ≡ old ++ zeros (flat_map session_cells before) → two ≡ one ++ zeros (session_cells session)
    → new ≡ two ++ zeros (flat_map session_cells behind) → new ≡ old ++ zeros (flat_map session_cells all)
in_place_added session before behind all old one two new is p q r =
    let rest = adds_cells one two new (session_cells session) (flat_map session_cells behind) q r in
    adds_cells old one new (flat_map session_cells before) (session_cells session ++ flat_map session_cells behind) p rest
    ∙ ap (λ (l : Cells). old ++ zeros l) (sym (flat_map-append session_cells before (session ∷ behind)) ∙ ap (λ (l : List Named). flat_map session_cells l) (sym is))

pub entry_added : (entry : Entry) (items : List Property) (old mid new : List ℕ) → items ≡ entry.table → mid ≡ old ++ zeros (array8 Lsb entry.id) → new ≡ mid ++ zeros (property_list Lsb items) → new ≡ old ++ zeros (entry_cells entry)
entry_added entry items old mid new is p q =
    adds_cells old mid new (array8 Lsb entry.id) (property_list Lsb entry.table) p (q ∙ ap (λ (l : List Property). mid ++ zeros (property_list Lsb l)) is)

pub command_added : (command : Command) (environment : List (List ℕ)) (old one two new : List ℕ) → environment ≡ in_turn command.environment → one ≡ old ++ zeros (array8_list Lsb command.words) → two ≡ one ++ zeros (array8 Lsb command.directory)
    → new ≡ two ++ zeros (array8_list Lsb environment) → new ≡ old ++ zeros (command_cells Lsb command)
command_added command environment old one two new is p q r =
    adds_cells old two new (array8_list Lsb command.words ++ array8 Lsb command.directory) (array8_list Lsb (in_turn command.environment)) (adds_cells old one two (array8_list Lsb command.words) (array8 Lsb command.directory) p q)
    (r ∙ ap (λ (l : List (List ℕ)). two ++ zeros (array8_list Lsb l)) is)

-- ---- the sessions of a book that keeps the rules

entries-of-all : (book : Book) → length (all_entries book) ≡ length book.entries + length (entries_in book.others)
entries-of-all book = length-append book.entries (entries_in book.others)

pub chosen_fits : (book : Book) → KeepsRules book → AllByRecursion HasSessionSpelling (stored book.name book.entries [])
chosen_fits book k = by book.entries (omega (arith, entries-of-all book, k.few_entries)) (all_front (IsEntry book.epoch) book.entries (entries_in book.others) k.entries)
  where
    by : (entries : List Entry) → length entries ≤ 128 → AllByRecursion (IsEntry book.epoch) entries → AllByRecursion HasSessionSpelling (stored book.name entries [])
    by [] few each = tt
    by (e ∷ entries) few each = (session_fits book.epoch (record { name = book.name; entries = e ∷ entries }) (record { called = k.called; some = omega arith }) few each, tt)

pub others_fit : (book : Book) → KeepsRules book → AllByRecursion HasSessionSpelling book.others
others_fit book k = sessions_fit book.epoch book.others k.stored (omega (arith, entries-of-all book, k.few_entries)) (all_behind (IsEntry book.epoch) book.entries (entries_in book.others) k.entries)

abbrev heading : ℕ → ℕ → ℕ → Head
heading epoch count pending = record { format = Several; epoch = epoch; count = count; pending = pending }

pub head_made : (book : Book) (count : ℕ) (pending : List Command) → count ≡ length (sessions book) → pending ≡ book.pending → heading book.epoch count (length pending) ≡ head_of Several book
head_made book count pending is_count is_pending = ap₂ (λ (n m : ℕ). heading book.epoch n m) is_count (ap length is_pending)
