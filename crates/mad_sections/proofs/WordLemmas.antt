-- The longest word of a text, character by character.
use Rattle.std.proofs.Common.{◌≡◌, ℕ, ◌+◌, max, inl, inr, true, false, List, [], ◌∷◌, ◌++◌, chars, sym, ap, ◌∙◌, arith}
use Rattle.std.proofs.lemmas.Bool.{cases_Bool, cond-true, cond-false}
use Rattle.mad_characters.specs.Columns.{char_columns}
use Rattle.mad_md.specs.Flagged.{FlaggedChar, flagged, flags_of, is_blank}
use Rattle.mad_md.specs.declared.compound.Compound.{Compound}
use Rattle.mad_sections.specs.CellWords.{capped, longest_from, longest_after}
use Rattle.mad_sections.specs.declared.cell_words.Words.{Words}

on_blank : (word : ℕ) (x : FlaggedChar) (xs : List FlaggedChar) → is_blank x ≡ true → longest_from word (x ∷ xs) ≡ max word (longest_from 0 xs)
on_blank word x xs e = cond-true (is_blank x) (max word (longest_from 0 xs)) (longest_from (word + char_columns x.char) xs) e

on_word : (word : ℕ) (x : FlaggedChar) (xs : List FlaggedChar) → is_blank x ≡ false → longest_from word (x ∷ xs) ≡ longest_from (word + char_columns x.char) xs
on_word word x xs e = cond-false (is_blank x) (max word (longest_from 0 xs)) (longest_from (word + char_columns x.char) xs) e

-- a word may be counted no further than a usize
longest_capped : (word : ℕ) (xs : List FlaggedChar) → capped (longest_from (capped word) xs) ≡ capped (longest_from word xs)
longest_capped word [] = omega arith
longest_capped word (x ∷ xs) = elim (cases_Bool (is_blank x)) [
  | inl blank ↦ omega (arith, on_blank (capped word) x xs blank, on_blank word x xs blank)
  | inr letter ↦
      let n = char_columns x.char in
      let same : capped (capped word + n) ≡ capped (word + n) = omega arith in
      ap capped (on_word (capped word) x xs letter) ∙ sym (longest_capped (capped word + n) xs) ∙ ap (λ k. capped (longest_from k xs)) same ∙ longest_capped (word + n) xs ∙ sym (ap capped (on_word word x xs letter))
]

-- a blank ends the word that has begun
pub after_blank : (w r : Words) (x : FlaggedChar) (rest : List FlaggedChar) → is_blank x ≡ true → r.longest ≡ max w.longest w.last → r.last ≡ 0 → longest_after r rest ≡ longest_after w (x ∷ rest)
after_blank w r x rest e a b = omega (arith, on_blank w.last x rest e, a, ap (λ n. longest_from n rest) b)

-- any other character goes on with it
pub after_letter : (w r : Words) (x : FlaggedChar) (rest : List FlaggedChar) → is_blank x ≡ false → r.longest ≡ w.longest → r.last ≡ capped (w.last + char_columns x.char) → longest_after r rest ≡ longest_after w (x ∷ rest)
after_letter w r x rest e a b = omega (arith, on_word w.last x rest e, a, ap (λ n. longest_from n rest) b, longest_capped (w.last + char_columns x.char) rest)

-- one character more of a compound's text
pub step_over : (p : Compound) (c : ℕ) (old new : List ℕ) (w r : Words) (rest : List FlaggedChar) → chars old ≡ c ∷ chars new → ((rest : List FlaggedChar) → longest_after r rest ≡ longest_after w (record { char = c; flags = flags_of p } ∷ rest))
    → longest_after r (flagged (flags_of p) (chars new) ++ rest) ≡ longest_after w (flagged (flags_of p) (chars old) ++ rest)
step_over p c old new w r rest step h = h (flagged (flags_of p) (chars new) ++ rest) ∙ ap (λ cs. longest_after w (flagged (flags_of p) cs ++ rest)) (sym step)
