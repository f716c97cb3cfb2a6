-- The bytes of requests, as they are added one after the other.
use Rattle.std.proofs.Common.{◌≡◌, ℕ, zero, suc, ◌+◌, ◌*◌, ◌/◌, ◌<◌, List, [], ◌∷◌, ◌++◌, length, take, get_or, refl, sym, ap, ◌∙◌, arith, length-append}
use Rattle.std.proofs.lemmas.List.{append-nil, take_more}
use Rattle.std.proofs.lemmas.Grind.{flat_map-append}
use Rattle.ice_values.specs.Cells.{free, zeros, pad_len}
use Rattle.ice_values.specs.declared.numbers.Endian.TheVariants.{Lsb}
use Rattle.ice_values.proofs.NumberLaws.{length-number_bytes}
use Rattle.ice_values.proofs.WriteLaws.{adds_two}
use Rattle.display_messages.specs.Requests.{short, long, longs, padded, request, named, client_message, setup}
use Rattle.display_messages.specs.declared.request.ClientMessage.{ClientMessage}

-- one number more
pub longs_more : (numbers : List ℕ) (i x : ℕ) (old mid new : List ℕ) → i < length numbers → x ≡ get_or numbers i x → mid ≡ old ++ longs (take i numbers) → new ≡ mid ++ long x → new ≡ old ++ longs (take (i + 1) numbers)
longs_more numbers i x old mid new lt is p q =
    let grown : take (i + 1) numbers ≡ take i numbers ++ x ∷ [] = take_more numbers i x lt ∙ ap (λ (y : ℕ). take i numbers ++ y ∷ []) (sym is) in
    let whole : longs (take (i + 1) numbers) ≡ longs (take i numbers) ++ long x =
    ap longs grown ∙ flat_map-append long (take i numbers) (x ∷ []) ∙ ap (λ (l : List ℕ). longs (take i numbers) ++ l) (append-nil (long x)) in
    adds_two old (longs (take i numbers)) (long x) (longs (take (i + 1) numbers)) mid new p q whole

pub length-longs : (numbers : List ℕ) → length (longs numbers) ≡ 4 * length numbers
length-longs [] = refl
length-longs (x ∷ numbers) = omega (arith, length-append (long x) (longs numbers), length-number_bytes Lsb 4 x, length-longs numbers)

length-zeros-free : (n : ℕ) → length (zeros (free n)) ≡ n
length-zeros-free zero = refl
length-zeros-free (suc n) = omega (arith, length-zeros-free n)

pub length-named : (name : List ℕ) → length (named name) ≡ 4 + (length name + pad_len (length name) 4)
length-named name = omega (arith, length-append name (zeros (free (pad_len (length name) 4))), length-zeros-free (pad_len (length name) 4))

-- two pieces, one behind the other
adds : (old a b one new : List ℕ) → one ≡ old ++ a → new ≡ one ++ b → new ≡ old ++ (a ++ b)
adds old a b one new p q = adds_two old a b (a ++ b) one new p q refl

-- a head and its fields
pub adds_request : (opcode own units : ℕ) (fields old one new : List ℕ) → units ≡ 1 + length fields / 4 → one ≡ old ++ ((opcode ∷ own ∷ []) ++ short units) → new ≡ one ++ fields → new ≡ old ++ request opcode own fields
adds_request opcode own units fields old one new is p q =
    adds_two old ((opcode ∷ own ∷ []) ++ short units) fields (request opcode own fields) one new p q (ap (λ (n : ℕ). ((opcode ∷ own ∷ []) ++ short n) ++ fields) (sym is))

pub adds_numbers : (opcode own : ℕ) (numbers old one new : List ℕ) → one ≡ old ++ ((opcode ∷ own ∷ []) ++ short (1 + length numbers)) → new ≡ one ++ longs numbers → new ≡ old ++ request opcode own (longs numbers)
adds_numbers opcode own numbers old one new p q =
    adds_request opcode own (1 + length numbers) (longs numbers) old one new (omega (arith, length-longs numbers)) p q

pub adds_named : (opcode units padding : ℕ) (name old one two three new : List ℕ) → padding ≡ pad_len (length name) 4 → units ≡ 2 + (length name + padding) / 4
    → one ≡ old ++ ((opcode ∷ 0 ∷ []) ++ short units) → two ≡ one ++ short (length name) → three ≡ two ++ (0 ∷ 0 ∷ []) → new ≡ three ++ padded name → new ≡ old ++ request opcode 0 (named name)
adds_named opcode units padding name old one two three new pad_is units_are p q r s =
    let fields : new ≡ one ++ named name = adds one (short (length name) ++ (0 ∷ 0 ∷ [])) (padded name) three new (adds one (short (length name)) (0 ∷ 0 ∷ []) two three q r) s in
    adds_request opcode 0 units (named name) old one new (omega (arith, length-named name, pad_is, units_are)) p fields

pub adds_event : (window events : ℕ) (m : ClientMessage) (old one two three new : List ℕ) → one ≡ old ++ ((25 ∷ 0 ∷ []) ++ short 11) → two ≡ one ++ longs (window ∷ events ∷ []) → three ≡ two ++ (33 ∷ 32 ∷ 0 ∷ 0 ∷ [])
    → new ≡ three ++ longs (m.window ∷ m.kind ∷ m.first ∷ m.second ∷ m.third ∷ 0 ∷ 0 ∷ []) → new ≡ old ++ request 25 0 (longs (window ∷ events ∷ []) ++ client_message m)
adds_event window events m old one two three new p q r s =
    let sent : new ≡ two ++ client_message m = adds two (33 ∷ 32 ∷ 0 ∷ 0 ∷ []) (longs (m.window ∷ m.kind ∷ m.first ∷ m.second ∷ m.third ∷ 0 ∷ 0 ∷ [])) three new r s in
    let fields : new ≡ one ++ (longs (window ∷ events ∷ []) ++ client_message m) = adds one (longs (window ∷ events ∷ [])) (client_message m) two new q sent in
    adds_request 25 0 11 (longs (window ∷ events ∷ []) ++ client_message m) old one new refl p fields

pub adds_setup : (name proof old one two three four five new : List ℕ) → one ≡ old ++ (108 ∷ 0 ∷ 11 ∷ 0 ∷ 0 ∷ 0 ∷ []) → two ≡ one ++ short (length name) → three ≡ two ++ short (length proof)
    → four ≡ three ++ (0 ∷ 0 ∷ []) → five ≡ four ++ padded name → new ≡ five ++ padded proof → new ≡ old ++ setup name proof
adds_setup name proof old one two three four five new p q r s t u =
    let a : List ℕ = 108 ∷ 0 ∷ 11 ∷ 0 ∷ 0 ∷ 0 ∷ [] in
    let b : List ℕ = a ++ short (length name) in
    let d : List ℕ = b ++ short (length proof) in
    let e : List ℕ = d ++ (0 ∷ 0 ∷ []) in
    adds old (e ++ padded name) (padded proof) five new (adds old e (padded name) four five (adds old d (0 ∷ 0 ∷ []) three four (adds old b (short (length proof)) two three (adds old a (short (length name)) one two p q) r) s) t) u
