-- The last marked character of a row.
use Rattle.std.proofs.Common.{◌≡◌, ℕ, ◌+◌, ◌<◌, Bool, true, false, List, [], ◌∷◌, Option, Some, None, refl, ap, sym, ◌∙◌, arith}
use Rattle.std.specs.Prelude.{if◌then◌else◌}
use Rattle.std.specs.Option.{option_or}
use Rattle.mad_edit_lines.specs.LineColumns.{char_width}
use Rattle.mad_field_rows.specs.declared.line_rows.RowChar.{RowChar}
use Rattle.mad_field_rows.specs.RowChars.{row_columns}
use Rattle.mad_field_rows.specs.RowPieces.{last_marked}
use Rattle.mad_field_rows.proofs.ColumnLemmas.{columns-cons}

or_none : {A : Type 0} (o : Option A) → option_or o None ≡ o
or_none {A} None = refl
or_none {A} (Some x) = refl

or_more : (o : Option ℕ) (m : Bool) (column : ℕ) (found : Option ℕ) → option_or (option_or o (if m then Some column else None)) found ≡ option_or o (if m then Some column else found)
or_more None true column found = refl
or_more None false column found = refl
or_more (Some x) true column found = refl
or_more (Some x) false column found = refl

-- what is known in the loop: the answer is what is found in the rest, or what was found so far; and the rest has its columns
pub record FoundSoFar (whole : List RowChar) (start : ℕ) (rest : List RowChar) (column : ℕ) (found : Option ℕ) : Type 0 where
  pub answer : last_marked whole start ≡ option_or (last_marked rest column) found
  pub within : column + row_columns rest < 65536

-- at first no marked character is found
pub found_none : (cs : List RowChar) (column : ℕ) → column + row_columns cs < 65536 → FoundSoFar cs column cs column None
found_none cs column h = record { answer = sym (or_none (last_marked cs column)); within = h }

-- the column after a character is one of 16 bits
pub found_fits : (whole cs : List RowChar) (start column : ℕ) (found : Option ℕ) (rest : List RowChar) (c : RowChar) → FoundSoFar whole start rest column found → rest ≡ c ∷ cs → column + char_width c.c < 65536
found_fits whole cs start column found rest c h is = let e : row_columns rest ≡ char_width c.c + row_columns cs = ap row_columns is ∙ columns-cons c cs in omega (arith, e, h.within)

-- one character more
pub found_more : (whole cs : List RowChar) (start column next : ℕ) (found found' : Option ℕ) (rest : List RowChar) (c : RowChar) → FoundSoFar whole start rest column found → rest ≡ c ∷ cs
    → found' ≡ (if c.marked then Some column else found) → next ≡ column + char_width c.c → FoundSoFar whole start cs next found'
found_more whole cs start column next found found' rest c h is is_found is_next = record {
  answer = h.answer ∙ ap (λ (rs : List RowChar). option_or (last_marked rs column) found) is ∙ or_more (last_marked cs (column + char_width c.c)) c.marked column found
      ∙ ap (λ n. option_or (last_marked cs n) (if c.marked then Some column else found)) (sym is_next) ∙ ap (option_or (last_marked cs next)) (sym is_found);
  within = let e : row_columns rest ≡ char_width c.c + row_columns cs = ap row_columns is ∙ columns-cons c cs in omega (arith, e, h.within, is_next);
}

-- after the last character the answer is the definition's
pub found_all : (whole rest : List RowChar) (start column : ℕ) (found : Option ℕ) → FoundSoFar whole start rest column found → rest ≡ [] → found ≡ last_marked whole start
found_all whole rest start column found h is = sym (h.answer ∙ ap (λ (rs : List RowChar). option_or (last_marked rs column) found) is)
