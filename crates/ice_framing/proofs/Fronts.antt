-- Taking frames from the front of some bytes.
use Rattle.std.proofs.Common.{◌≡◌, ℕ, ◌+◌, ◌-◌, ◌≤◌, List, [], ◌∷◌, ◌++◌, length, drop, take, true, false, Option, Some, refl, sym, ap, ◌∙◌, subst, arith, length-drop}
use Rattle.std.proofs.lemmas.List.{drop-drop, take_all, length-take-le}
use Rattle.ice_values.specs.declared.numbers.Endian.{Endian}
use Rattle.ice_framing.specs.Frames.{Standing, fed, IsLater, endian, has_frame, uncut, first_frame, without_first, wanted, behind, cut}
use Rattle.ice_framing.specs.declared.cutting.WholeFrame.{WholeFrame}
use Rattle.ice_framing.proofs.Cuts.{HasFrame, has_frame-true, cut-whole, cut-none, frame_is as whole_is, standing_is}
use Rattle.ice_framing.proofs.Pieces.{behind-behind, no_items}
use Rattle.ice_framing.proofs.Shapes.{later_frame}

-- what is left behind so many bytes, in this order
abbrev pub left_of : Option Endian → List ℕ → ℕ → Standing
left_of order bytes taken = record { order = order; held = drop taken bytes }

-- Some frames were taken: they and what is cut from the rest are the frames there were and what is cut from all bytes.
pub record Taking (first : List WholeFrame) (order : Option Endian) (bytes : List ℕ) (frames : List WholeFrame) (now : Option Endian) (taken : ℕ) : Type 0 where
  pub same : behind frames (cut (left_of now bytes taken)) ≡ behind first (cut (record { order = order; held = bytes }))
  pub within : taken ≤ length bytes

-- one frame more
pub one_taken : (first frames grown : List WholeFrame) (order now : Option Endian) (bytes : List ℕ) (taken len : ℕ) (e : Endian) (frame : List ℕ) → Taking first order bytes frames now taken
    → (len ≡ wanted (left_of now bytes taken)) × (has_frame (left_of now bytes taken) ≡ true) → e ≡ endian (left_of now bytes taken) → frame ≡ take len (drop taken bytes) → grown ≡ frames ++ record { endian = e; bytes = frame } ∷ []
    → Taking first order bytes grown (Some e) (taken + len)
one_taken first frames grown order now bytes taken len e frame taking found order_is frame_is grows =
    let at = left_of now bytes taken in
    let whole = has_frame-true at found.1 in
    let small = whole.whole in
    let next = left_of (Some e) bytes (taken + len) in
    let there : next ≡ without_first at = standing_is (Some e) (Some (endian at)) (drop (taken + len) bytes) (drop (wanted at) at.held) (ap Some order_is) (sym (drop-drop len taken bytes) ∙ ap (λ n. drop n (drop taken bytes)) found.0) in
    let is : ◌≡◌ {A = WholeFrame} (record { endian = e; bytes = frame }) (first_frame at) = whole_is e (endian at) frame (take (wanted at) at.held) order_is (frame_is ∙ ap (λ n. take n (drop taken bytes)) found.0) in
    record {
      same = ap (λ (fs : List WholeFrame). behind fs (cut next)) grows ∙ ap (λ (f : WholeFrame). behind (frames ++ f ∷ []) (cut next)) is ∙ ap (λ (s : Standing). behind (frames ++ first_frame at ∷ []) (cut s)) there ∙ sym (behind-behind frames (first_frame at ∷ []) (cut (without_first at))) ∙ ap (behind frames) (sym (cut-whole at whole)) ∙ taking.same;
      within = omega (arith, found.0, length-drop taken bytes, taking.within);
    }

-- the bytes behind so many, as a slice has them
pub rest_is : (bytes : List ℕ) (taken : ℕ) → take (length bytes - taken) (drop taken bytes) ≡ drop taken bytes
rest_is bytes taken = take_all (length bytes - taken) (drop taken bytes) (omega (arith, length-drop taken bytes))

-- no frame is left
pub none_left : (first frames : List WholeFrame) (order now : Option Endian) (bytes : List ℕ) (taken : ℕ) → Taking first order bytes frames now taken → has_frame (left_of now bytes taken) ≡ false
    → behind frames (uncut (left_of now bytes taken)) ≡ behind first (cut (record { order = order; held = bytes }))
none_left first frames order now bytes taken taking none = ap (behind frames) (sym (cut-none (left_of now bytes taken) none)) ∙ taking.same

-- what stands in front of what comes, where nothing is held and this order is known
abbrev in_front : Endian → List ℕ → Standing
in_front e rest = record { order = Some e; held = rest }

-- a frame that was taken from there is the first
pub front_first : (e : Endian) (rest : List ℕ) (len : ℕ) (frame : List ℕ) → len ≡ wanted (in_front e rest) → frame ≡ take len rest → first_frame (in_front e rest) ≡ record { endian = e; bytes = frame }
front_first e rest len frame all taken = whole_is e e (take (wanted (in_front e rest)) rest) frame refl (sym (taken ∙ ap (λ n. take n rest) all))

-- behind it stands what is cut from the rest
pub front_cut : (at : Standing) (order : Option Endian) (held rest : List ℕ) (len : ℕ) (e : Endian) (frame : List ℕ) → record { order = order; held = held } ≡ at → order ≡ Some e → length held ≡ 0
    → (len ≡ wanted (left_of order rest 0)) × (has_frame (left_of order rest 0) ≡ true) → frame ≡ take len rest
    → cut (fed at rest) ≡ behind (record { endian = e; bytes = frame } ∷ []) (cut (fed at (drop (length frame) rest)))
front_cut at order held rest len e frame is known none found taken =
    let whole : HasFrame (in_front e rest) = has_frame-true (in_front e rest) (rw known at found.1) in
    let all : len ≡ wanted (in_front e rest) = rw known at found.0 in
    let long = whole.whole in
    let count : wanted (in_front e rest) ≡ length frame = sym (ap length taken ∙ length-take-le len rest (omega (arith, all)) ∙ all) in
    let here : at ≡ record { order = Some e; held = [] } = sym is ∙ standing_is order (Some e) held [] known (no_items held none) in
    ap (λ (s : Standing). cut (fed s rest)) here
    ∙ cut-whole (in_front e rest) whole
    ∙ ap (λ (f : WholeFrame). behind (f ∷ []) (cut (without_first (in_front e rest)))) (front_first e rest len frame all taken)
    ∙ ap (λ n. behind (record { endian = e; bytes = frame } ∷ []) (cut (in_front e (drop n rest)))) count
    ∙ ap (λ (s : Standing). behind (record { endian = e; bytes = frame } ∷ []) (cut (fed s (drop (length frame) rest)))) (sym here)

-- and it looks like one behind the first of a stream
pub front_later : (order : Option Endian) (rest : List ℕ) (len : ℕ) (e : Endian) (frame : List ℕ) → order ≡ Some e → (len ≡ wanted (left_of order rest 0)) × (has_frame (left_of order rest 0) ≡ true) → frame ≡ take len rest
    → IsLater e (record { endian = e; bytes = frame })
front_later order rest len e frame known found taken =
    let all : len ≡ wanted (in_front e rest) = rw known at found.0 in
    subst (λ (f : WholeFrame). IsLater e f) (front_first e rest len frame all taken) (later_frame (in_front e rest) e refl (has_frame-true (in_front e rest) (rw known at found.1)))
