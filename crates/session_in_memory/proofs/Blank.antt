-- A store to which nobody wrote, and a world that was just made with it.
use Rattle.std.proofs.Common.{◌≡◌, ℕ, ◌==◌, IsTrue, List, [], length, replicate, slice_index, ◌<◌, Some, Result, Ok, refl, ◌∙◌, ap, arith}
use Rattle.std.proofs.lemmas.List.{get_or-replicate, length-replicate}
use Rattle.sm_world.specs.Outside.{Outside}
use Rattle.checkpoint_records.specs.Books.{empty_book}
use Rattle.checkpoint_records.specs.declared.records.Book.{Book}
use Rattle.checkpoint_slots.specs.Causes.{IsSettled}
use Rattle.checkpoint_slots.specs.Recovery.{Recovers}
use Rattle.session_in_memory.specs.Stores.{IsBlank, IsFresh}

zero_at : (n i : ℕ) (xs : List ℕ) → xs ≡ replicate n 0 → i < n → slice_index xs i ≡ 0
zero_at n i xs e h = ap (λ (ys : List ℕ). slice_index ys i) e ∙ get_or-replicate n i 0 0 h

-- so many zeros are such a store
pub blank_of : (n : ℕ) (xs : List ℕ) → n ≡ 16777280 → xs ≡ replicate n 0 → IsBlank xs
blank_of n xs size e = record {
  size = ap (λ (ys : List ℕ). length ys) e ∙ (length-replicate n 0 ∙ size);
  first = zero_at n 0 xs e (omega (arith, size));
  second = zero_at n 32 xs e (omega (arith, size));
}

pub blank_recovers : (file : List ℕ) → IsBlank file → Recovers file (Ok empty_book)
blank_recovers file blank = rw (blank.first, blank.second) refl

same_byte : (x y : ℕ) → IsTrue (x == y) → x ≡ y
same_byte x y e = grind (arith, e)

pub fresh_settled : (old : Outside) (file : List ℕ) → IsFresh old file → IsSettled old file
fresh_settled old file fresh = record {
  began = file;
  effects = [];
  first = fresh.first;
  told = fresh.told;
  size = refl;
  reads = λ i within. refl;
  left = λ i byte within e. same_byte byte (slice_index file i) e;
}

pub ok_book : (one two : Book) → ◌≡◌ {A = Result Book ℕ} (Ok one) (Ok two) → one ≡ two
ok_book one two e = cc
