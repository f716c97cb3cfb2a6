-- Of what the words mean and a script is, it is one thing.
use Rattle.std.proofs.Common.{◌≡◌, ℕ, ◌==◌, List, [], drop, length, get_or, slice_index, Option, Some, None, refl, sym, ◌∙◌, ap, arith, codes, if◌then◌else◌}
use Rattle.sm_world.specs.declared.events.Event.{Event}
use Rattle.event_script.proofs.Excluding.{means_once}
use Rattle.event_script.specs.declared.script.Taken.TheVariants.{WithoutOrders}
use Rattle.ice_values.specs.declared.numbers.Endian.{Endian}
use Rattle.ice_values.specs.declared.numbers.Endian.TheVariants.{Lsb, Msb}
use Rattle.word_pairs.specs.Words.{pairs_of, value_in}
use Rattle.smrelay_app.specs.Exclusions.{FitsOnce, WordsMeanOne}
use Rattle.smrelay_app.specs.Words.{Places, Rehearse, Serve, AreServe, order_word}

pub fits_once : (bytes : List ℕ) (turns : ℕ) → FitsOnce bytes turns
fits_once bytes turns = record {
  once = means_once WithoutOrders bytes;
  ended_or_spent = λ events others ended spent.
      let same : length events ≡ length others = ap (λ (es : List Event). length es) ((means_once WithoutOrders bytes).one_script events others ended.says spent.says) in
      omega (arith, same, ended.within, spent.heard);
}

-- the order that a word names, by its first byte, which is l (108) or m
abbrev order_in : List ℕ → Endian
order_in word = if slice_index word 0 == 108 then Lsb else Msb

order_back : (order : Endian) → order_in (order_word order) ≡ order
order_back Lsb = refl
order_back Msb = refl

same_order : (one two : Endian) → order_word one ≡ order_word two → one ≡ two
same_order one two same = sym (order_back one) ∙ (ap order_in same ∙ order_back two)

abbrev or_empty : Option (List ℕ) → List ℕ
or_empty (Some value) = value
or_empty None = []

same_value : (pairs others : List (List ℕ)) (name one two : List ℕ) → pairs ≡ others → value_in (pairs_of pairs) name ≡ Some one → value_in (pairs_of others) name ≡ Some two → one ≡ two
same_value pairs others name one two same first second = ap or_empty (sym first ∙ (ap (λ ws. value_in (pairs_of ws) name) same ∙ second))

same_relay : (words : List (List ℕ)) (order other : Endian) (one two : Places) → AreServe words order one → AreServe words other two → Serve order one ≡ Serve other two
same_relay words order other one two first second =
    let same : first.pairs ≡ second.pairs = ap (λ ws. drop 1 ws) (sym first.begins ∙ second.begins) in
    let socket = same_value first.pairs second.pairs (codes "--socket") one.socket two.socket same first.socket.found second.socket.found in
    let to = same_value first.pairs second.pairs (codes "--to") one.to two.to same first.to.found second.to.found in
    let named = same_order order other (same_value first.pairs second.pairs (codes "--order") (order_word order) (order_word other) same first.named second.named) in
    ap (λ (e : Endian). Serve e one) named
    ∙ (ap (λ (path : List ℕ). Serve other (record { socket = path; to = one.to })) socket
    ∙ ap (λ (path : List ℕ). Serve other (record { socket = two.socket; to = path })) to)

serve_length : (words : List (List ℕ)) (order : Endian) (places : Places) → AreServe words order places → length words ≡ 7
serve_length words order places are = omega (arith, ap length are.begins, are.six)

pub mean_one : WordsMeanOne
mean_one words (Rehearse order) (Rehearse other) one two = ap Rehearse (same_order order other (ap (λ ws. get_or ws 1 []) (sym one ∙ two)))
mean_one words (Rehearse order) (Serve other places) one two = absurd (omega (arith, ap length one, serve_length words other places two))
mean_one words (Serve order places) (Rehearse other) one two = absurd (omega (arith, ap length two, serve_length words order places one))
mean_one words (Serve order places) (Serve other others) one two = same_relay words order other places others one two
