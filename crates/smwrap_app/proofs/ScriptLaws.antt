-- The script of a stream that comes in pieces, where the callbacks say something at each of its parts.
use Rattle.std.proofs.Common.{◌≡◌, inl, inr, ℕ, zero, suc, ◌≤◌, ◌⊎◌, Bool, true, false, List, [], ◌∷◌, ◌++◌, length, drop, refl, sym, ◌∙◌, ap, subst, arith, length-append}
use Rattle.ice_cookie.specs.declared.cookies.Cookie.{Cookie}
use Rattle.ice_framing.specs.Frames.{Standing, beginning, cut, fed, is_oversize}
use Rattle.ice_framing.specs.Parts.{Part, parts_at, parts_of}
use Rattle.ice_framing.proofs.Cuts.{fed-fed, is_oversize-false, is_oversize-true}
use Rattle.ice_framing.proofs.Parts.{parts_at-ended, parts_at-more}
use Rattle.client_engine.specs.Driving.{Run, Step, behind, both, part_taken, parts_taken, reply, standing_at}
use Rattle.named_joiner.specs.Script.{Entry, Keeper, Replies, piece_heard, reacts, start, talk_of, unasked}
use Rattle.named_joiner.proofs.PieceLaws.{no_difference}
use Rattle.smwrap_app.specs.Running.{all_heard}

-- ---- as many replies as there are parts

abbrev pub first_reply : List Replies → Replies
first_reply rs = reply unasked talk_of reacts rs

abbrev pub taken_by : Keeper → List Part → List Replies → Step Keeper Entry
taken_by keeper parts rs = parts_taken unasked talk_of reacts keeper parts rs

-- so many of these, and where they end nothing is asked
pub padded : ℕ → List Replies → List Replies
padded zero rs = []
padded (suc n) rs = first_reply rs ∷ padded n (drop 1 rs)

pub length-padded : (n : ℕ) (rs : List Replies) → length (padded n rs) ≡ n
unfolding padded
length-padded zero rs = refl
length-padded (suc n) rs = ap (λ k. suc k) (length-padded n (drop 1 rs))

padded-padded : (m n : ℕ) (rs : List Replies) → m ≤ n → padded m (padded n rs) ≡ padded m rs
unfolding padded
padded-padded zero n rs below = refl
padded-padded (suc m) zero rs below = absurd (omega (arith, below))
padded-padded (suc m) (suc n) rs below = ap (λ (qs : List Replies). first_reply rs ∷ qs) (padded-padded m n (drop 1 rs) (omega (arith, below)))

padded-append : (m : ℕ) (rs qs : List Replies) → m ≤ length rs → padded m (rs ++ qs) ≡ padded m rs
unfolding padded
padded-append zero rs qs below = refl
padded-append (suc m) [] qs below = absurd (omega (arith, below))
padded-append (suc m) (r ∷ rs) qs below = ap (λ (ss : List Replies). r ∷ ss) (padded-append m rs qs (omega (arith, below)))

taken_padded : (keeper : Keeper) (parts : List Part) (rs : List Replies) → taken_by keeper parts (padded (length parts) rs) ≡ taken_by keeper parts rs
unfolding padded
taken_padded keeper [] rs = refl
taken_padded keeper (part ∷ parts) rs =
    let one : Step Keeper Entry = part_taken unasked talk_of reacts keeper part (first_reply rs) in
    ap (behind one.line) (taken_padded one.next parts (drop 1 rs))

-- how many parts the bytes behind a standing have
abbrev count_at : Standing → List ℕ → ℕ
count_at at bytes = length (parts_at (fed at bytes))

count_grows : (at : Standing) (xs ys : List ℕ) → count_at at xs ≤ count_at at (xs ++ ys)
count_grows at xs ys = by (is_oversize (cut (fed at xs)).standing) refl
  where
    by : (b : Bool) → is_oversize (cut (fed at xs)).standing ≡ b → count_at at xs ≤ count_at at (xs ++ ys)
    by false fits =
        let parts : parts_at (fed at (xs ++ ys)) ≡ parts_at (fed at xs) ++ parts_at (fed (cut (fed at xs)).standing ys) = ap parts_at (sym (fed-fed at xs ys)) ∙ parts_at-more (fed at xs) ys (is_oversize-false (cut (fed at xs)).standing fits) in
        omega (arith, ap length parts, length-append (parts_at (fed at xs)) (parts_at (fed (cut (fed at xs)).standing ys)))
    by true over =
        let parts : parts_at (fed at (xs ++ ys)) ≡ parts_at (fed at xs) = ap parts_at (sym (fed-fed at xs ys)) ∙ parts_at-ended (fed at xs) ys (is_oversize-true (cut (fed at xs)).standing over) in
        omega (arith, ap length parts)

-- what is heard of these bytes depends on as many replies as they have parts
heard_padded : (run : Run Keeper) (bytes : List ℕ) (rs : List Replies) → piece_heard run bytes (padded (count_at run.standing bytes) rs) ≡ piece_heard run bytes rs
heard_padded run bytes rs = ap (standing_at (cut (fed run.standing bytes)).standing) (taken_padded run.keeper (parts_at (fed run.standing bytes)) rs)

same_heard : (run : Run Keeper) (bytes : List ℕ) (rs qs : List Replies) → padded (count_at run.standing bytes) rs ≡ padded (count_at run.standing bytes) qs → piece_heard run bytes rs ≡ piece_heard run bytes qs
same_heard run bytes rs qs same = sym (heard_padded run bytes rs) ∙ (ap (piece_heard run bytes) same ∙ heard_padded run bytes qs)

-- ---- one piece more

-- A piece comes behind a stream, and these replies serve both.
pub record GoesOn (cookie : Cookie) (previous xs piece : List ℕ) (rs qs : List Replies) : Type 0 where
  pub replies : List Replies
  pub enough : length replies ≡ length (parts_of (xs ++ piece))
  pub whole : all_heard cookie previous replies (xs ++ piece) ≡ both (all_heard cookie previous rs xs) (piece_heard (all_heard cookie previous rs xs).next piece qs)
  -- what came before is heard as it was
  pub front : (zs ts : List ℕ) → zs ++ ts ≡ xs → all_heard cookie previous replies zs ≡ all_heard cookie previous rs zs

pub goes_on : (cookie : Cookie) (previous xs piece : List ℕ) (rs qs : List Replies) → length rs ≡ length (parts_of xs) → GoesOn cookie previous xs piece rs qs
goes_on cookie previous xs piece rs qs enough =
    let run : Run Keeper = start cookie previous in
    let n : ℕ = count_at beginning (xs ++ piece) in
    record {
      replies = padded n (rs ++ qs);
      enough = length-padded n (rs ++ qs);
      whole = heard_padded run (xs ++ piece) (rs ++ qs) ∙ no_difference run xs piece rs qs enough;
      front = λ zs ts are.
          let within : count_at beginning zs ≤ count_at beginning xs = subst (λ (bytes : List ℕ). count_at beginning zs ≤ count_at beginning bytes) are (count_grows beginning zs ts) in
          let grown : count_at beginning xs ≤ n = count_grows beginning xs piece in
          same_heard run zs (padded n (rs ++ qs)) rs
          (padded-padded (count_at beginning zs) n (rs ++ qs) (omega (arith, within, grown)) ∙ padded-append (count_at beginning zs) rs qs (omega (arith, within, enough)));
    }

-- ---- lists of effects

-- a place in two lists is in the first or in the second
pub place_in : {A : Type 0} (before after es ds : List A) (a : A) → before ++ (a ∷ after) ≡ es ++ ds → ((more : List A) × (before ++ (a ∷ more) ≡ es)) ⊎ ((mid : List A) × (before ≡ es ++ mid) × (mid ++ (a ∷ after) ≡ ds))
place_in {A} before after [] ds a are = inr (before, refl, are)
place_in {A} [] after (e ∷ es) ds a are = inl (es, ap (λ x. x ∷ es) (heads a e after (es ++ ds) are))
  where
    heads : (x y : A) (xs ys : List A) → x ∷ xs ≡ y ∷ ys → x ≡ y
    heads x y xs ys same = cc
place_in {A} (b ∷ before) after (e ∷ es) ds a are = later (place_in before after es ds a (tails b e (before ++ (a ∷ after)) (es ++ ds) are))
  where
    heads : (x y : A) (xs ys : List A) → x ∷ xs ≡ y ∷ ys → x ≡ y
    heads x y xs ys same = cc

    tails : (x y : A) (xs ys : List A) → x ∷ xs ≡ y ∷ ys → xs ≡ ys
    tails x y xs ys same = cc

    later : ((more : List A) × (before ++ (a ∷ more) ≡ es)) ⊎ ((mid : List A) × (before ≡ es ++ mid) × (mid ++ (a ∷ after) ≡ ds)) → ((more : List A) × ((b ∷ before) ++ (a ∷ more) ≡ e ∷ es)) ⊎ ((mid : List A) × (b ∷ before ≡ (e ∷ es) ++ mid) × (mid ++ (a ∷ after) ≡ ds))
    later (inl found) = inl (found.0, ap (λ x. x ∷ (before ++ (a ∷ found.0))) (heads b e (before ++ (a ∷ after)) (es ++ ds) are) ∙ ap (λ xs. e ∷ xs) found.1)
    later (inr found) = inr (found.0, ap (λ x. x ∷ before) (heads b e (before ++ (a ∷ after)) (es ++ ds) are) ∙ ap (λ xs. e ∷ xs) found.1, found.2)
