-- The heads of sessions, as they are read.
use Rattle.std.proofs.Common.{◌≡◌, ℕ, ◌^◌, ◌<◌, ◌≤◌, List, ◌++◌, Some, None, refl, sym, ap, ◌∙◌, subst, arith}
use Rattle.checkpoint_records.specs.Finding.{Finds}
use Rattle.checkpoint_records.specs.Parts.{IsSessionHead}
use Rattle.checkpoint_records.specs.Rules.{IsName}
use Rattle.checkpoint_records.specs.declared.session_heads.SessionHead.{SessionHead}
use Rattle.checkpoint_records.proofs.FindLaws.{nothing, found_is, none_found, number}
use Rattle.checkpoint_records.proofs.OnceLaws.{name_fits, session_head_bytes, session_head_is}
use Rattle.checkpoint_records.proofs.PendingLaws.{text_bytes, IsShortText}
use Rattle.checkpoint_records.proofs.SpellLaws.{name_length}

abbrev IsNumber : ℕ → Type 0
IsNumber n = n < 2 ^ 32

abbrev pub IsCount : ℕ → Type 0
IsCount n = (1 ≤ n) × (n ≤ 128)

name-short : (head : SessionHead) → IsSessionHead head → IsShortText head.name
name-short head is = (name_fits head is, omega (arith, name_length head.name, is.called.few))

head_parts : (head : SessionHead) (rest : List ℕ) → session_head_bytes head ++ rest ≡ text_bytes head.name ++ (number head.count ++ (number 0 ++ rest))
head_parts head rest = session_head_is head rest

module _ (bytes : List ℕ) where
  -- there is no head where there is no name
  pub no_name : Finds text_bytes IsShortText bytes None → Finds session_head_bytes IsSessionHead bytes None
  no_name finds = nothing session_head_bytes IsSessionHead bytes (λ head rest fits is.
      none_found text_bytes IsShortText bytes head.name (number head.count ++ (number 0 ++ rest)) finds (name-short head fits) (is ∙ head_parts head rest))

  module _ (name mid : List ℕ) (finds : Finds text_bytes IsShortText bytes (Some (name, mid))) where
    same-name : (head : SessionHead) (rest : List ℕ) → IsSessionHead head → bytes ≡ session_head_bytes head ++ rest → (name ≡ head.name) × (mid ≡ number head.count ++ (number 0 ++ rest))
    same-name head rest fits is = found_is text_bytes IsShortText bytes name head.name mid (number head.count ++ (number 0 ++ rest)) finds (name-short head fits) (is ∙ head_parts head rest)

    pub no_count : Finds number IsNumber mid None → Finds session_head_bytes IsSessionHead bytes None
    no_count none = nothing session_head_bytes IsSessionHead bytes (λ head rest fits is.
        none_found number IsNumber mid head.count (number 0 ++ rest) none (omega (arith, fits.few)) (same-name head rest fits is).1)

    module _ (count : ℕ) (tail : List ℕ) (finds_count : Finds number IsNumber mid (Some (count, tail))) where
      same-count : (head : SessionHead) (rest : List ℕ) → IsSessionHead head → bytes ≡ session_head_bytes head ++ rest → (count ≡ head.count) × (tail ≡ number 0 ++ rest)
      same-count head rest fits is = found_is number IsNumber mid count head.count tail (number 0 ++ rest) finds_count (omega (arith, fits.few)) (same-name head rest fits is).1

      pub no_unused : Finds number IsNumber tail None → Finds session_head_bytes IsSessionHead bytes None
      no_unused none = nothing session_head_bytes IsSessionHead bytes (λ head rest fits is.
          none_found number IsNumber tail 0 rest none (omega arith) (same-count head rest fits is).1)

      module _ (unused : ℕ) (last : List ℕ) (finds_unused : Finds number IsNumber tail (Some (unused, last))) where
        same-unused : (head : SessionHead) (rest : List ℕ) → IsSessionHead head → bytes ≡ session_head_bytes head ++ rest → (unused ≡ 0) × (last ≡ rest)
        same-unused head rest fits is = found_is number IsNumber tail unused 0 last rest finds_unused (omega arith) (same-count head rest fits is).1

        pub bad_unused : ¬ (unused ≡ 0) → Finds session_head_bytes IsSessionHead bytes None
        bad_unused bad = nothing session_head_bytes IsSessionHead bytes (λ head rest fits is. bad (same-unused head rest fits is).0)

        pub bad_name : ¬ (IsName name) → Finds session_head_bytes IsSessionHead bytes None
        bad_name bad = nothing session_head_bytes IsSessionHead bytes (λ head rest fits is. bad (subst IsName (sym (same-name head rest fits is).0) fits.called))

        pub bad_count : ¬ (IsCount count) → Finds session_head_bytes IsSessionHead bytes None
        bad_count bad = nothing session_head_bytes IsSessionHead bytes (λ head rest fits is. bad (subst IsCount (sym (same-count head rest fits is).0) (fits.some, fits.few)))

        pub session_head_found : unused ≡ 0 → IsName name → IsCount count → Finds session_head_bytes IsSessionHead bytes (Some (record { name = name; count = count }, last))
        session_head_found zeros called counted =
            let it : SessionHead = record { name = name; count = count } in
            let whole : bytes ≡ session_head_bytes it ++ last =
            finds.some.1 ∙ ap (λ (l : List ℕ). text_bytes name ++ l) (finds_count.some.1 ∙ ap (λ (l : List ℕ). number count ++ l) (finds_unused.some.1 ∙ ap (λ (n : ℕ). number n ++ last) zeros)) ∙ sym (head_parts it last) in
            record {
              some = (record { called = called; some = counted.0; few = counted.1 }, whole);
              only = λ head rest fits is.
                  let a = same-name head rest fits is in
                  let b = same-count head rest fits is in
                  let d = same-unused head rest fits is in
                  rw (a.0, b.0, d.1) refl;
            }
