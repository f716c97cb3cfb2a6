-- A text is one list of words at most, and the first blank ends the first word.
use Rattle.std.proofs.Common.{◌≡◌, ◌≢◌, ℕ, List, [], ◌∷◌, ◌++◌, refl, sym, ◌∙◌, ap, subst, arith, append_assoc}
use Rattle.std.specs.List.{AllByRecursion}
use Rattle.control_lines.specs.Parts.{IsWithout, SplitsOnce}
use Rattle.control_lines.proofs.Splitting.{splits_same, without_inside}
use Rattle.adopted_words.specs.Words.{IsPlain, IsWord, AreWords, words_text}

plain_without : (bytes : List ℕ) → AllByRecursion IsPlain bytes → IsWithout 32 bytes
plain_without [] all = tt
plain_without (b ∷ bytes) all = ((λ e. omega (arith, e, all.0)), plain_without bytes all.1)

pub word_without : (word : List ℕ) → IsWord word → IsWithout 32 word
word_without word is = plain_without word is.plain

-- what a text is that has a blank: its first word, and the others
pub record Others (word after : List ℕ) (words : List (List ℕ)) : Type 0 where
  pub more : List (List ℕ)
  pub is : words ≡ word ∷ more
  pub first : IsWord word
  pub rest : AreWords after more

some_list : (next : List ℕ) (words : List (List ℕ)) → next ∷ words ≢ []
some_list next words e = absurd cc

pub others_in : (text word after : List ℕ) (words : List (List ℕ)) → SplitsOnce 32 text word after → AreWords text words → Others word after words
others_in text word after [] split are = absurd (are.some refl)
others_in text word after (w ∷ []) split are = absurd (without_inside 32 word after (subst (IsWithout 32) (sym are.is ∙ split.parts) (word_without w are.each.0)))
others_in text word after (w ∷ next ∷ words) split are =
    let same = splits_same 32 word after w (words_text (next ∷ words)) split.first (word_without w are.each.0) (sym split.parts ∙ are.is) in
    record {
      more = next ∷ words;
      is = ap (λ (v : List ℕ). v ∷ next ∷ words) (sym same.0);
      first = subst IsWord (sym same.0) are.each.0;
      rest = record { some = some_list next words; is = same.1; each = are.each.1 };
    }

-- a text without a blank is one word
pub one_word : (text : List ℕ) (words : List (List ℕ)) → IsWithout 32 text → AreWords text words → (words ≡ text ∷ []) × IsWord text
one_word text [] without are = absurd (are.some refl)
one_word text (w ∷ []) without are = (ap (λ (v : List ℕ). v ∷ []) (sym are.is), subst IsWord (sym are.is) are.each.0)
one_word text (w ∷ next ∷ words) without are = absurd (without_inside 32 w (words_text (next ∷ words)) (subst (IsWithout 32) are.is without))

-- a word and a blank before words
words_on : (text word after : List ℕ) (more : List (List ℕ)) → text ≡ word ++ (32 ∷ after) → IsWord word → AreWords after more → AreWords text (word ∷ more)
words_on text word after [] is first are = absurd (are.some refl)
words_on text word after (next ∷ words) is first are = record {
  some = some_list word (next ∷ words);
  is = is ∙ ap (λ (rest : List ℕ). word ++ (32 ∷ rest)) are.is;
  each = (first, are.each);
}

-- The words of the rest, behind these, are the words of the text, and the text has no others.
pub record Goes (text : List ℕ) (words : List (List ℕ)) (rest : List ℕ) : Type 0 where
  pub on : (more : List (List ℕ)) → AreWords rest more → AreWords text (words ++ more)
  pub back : (all : List (List ℕ)) → AreWords text all → (more : List (List ℕ)) × (all ≡ words ++ more) × AreWords rest more

pub goes_on : (text : List ℕ) (words : List (List ℕ)) (rest word after : List ℕ) → Goes text words rest → SplitsOnce 32 rest word after → IsWord word → Goes text (words ++ word ∷ []) after
goes_on text words rest word after goes split is = record {
  on = λ more are. subst (AreWords text) (sym (append_assoc words (word ∷ []) more)) (goes.on (word ∷ more) (words_on rest word after more split.parts is are));
  back = λ all are.
      let before = goes.back all are in
      let others = others_in rest word after before.0 split before.2 in
      (others.more, before.1 ∙ ap (λ (l : List (List ℕ)). words ++ l) others.is ∙ sym (append_assoc words (word ∷ []) others.more), others.rest);
}

-- where the first part is no word there are none
pub no_word_first : (text : List ℕ) (words : List (List ℕ)) (rest word after : List ℕ) → Goes text words rest → SplitsOnce 32 rest word after → ¬ (IsWord word) → (all : List (List ℕ)) → ¬ (AreWords text all)
no_word_first text words rest word after goes split none all are =
    let before = goes.back all are in
    none (others_in rest word after before.0 split before.2).first

pub no_word_last : (text : List ℕ) (words : List (List ℕ)) (rest : List ℕ) → Goes text words rest → IsWithout 32 rest → ¬ (IsWord rest) → (all : List (List ℕ)) → ¬ (AreWords text all)
no_word_last text words rest goes without none all are =
    let before = goes.back all are in
    none (one_word rest before.0 without before.2).1

-- a text is one list of words
pub words_one : (text : List ℕ) (words others : List (List ℕ)) → AreWords text words → AreWords text others → words ≡ others
words_one text [] others one other = absurd (one.some refl)
words_one text (w ∷ []) others one other = ap (λ (v : List ℕ). v ∷ []) (sym one.is) ∙ sym (one_word text others (subst (IsWithout 32) (sym one.is) (word_without w one.each.0)) other).0
words_one text (w ∷ next ∷ words) others one other =
    let split : SplitsOnce 32 text w (words_text (next ∷ words)) = record { parts = one.is; first = word_without w one.each.0 } in
    let rest = others_in text w (words_text (next ∷ words)) others split other in
    let same = words_one (words_text (next ∷ words)) (next ∷ words) rest.more (record { some = some_list next words; is = refl; each = one.each.1 }) rest.rest in
    ap (λ (l : List (List ℕ)). w ∷ l) same ∙ sym rest.is
