-- Texts put together piece by piece, and rows that have a hit, row by row.
use Rattle.std.proofs.Common.{◌≡◌, ◌↔◌, IsTrue, ℕ, ◌+◌, ◌-◌, ◌<◌, ◌≤◌, min, Bool, true, false, List, ◌++◌, drop, length, get_or, Option, Some, None, slice_get, MatchOption, below_more, refl, ap, sym, ◌∙◌, subst, inl, inr, arith, append_assoc}
use Rattle.std.specs.List.{flat_map, list_any}
use Rattle.std.proofs.Math.Nat.{eq-or-lt_of_le}
use Rattle.std.proofs.lemmas.List.{drop_more}
use Rattle.std.proofs.lemmas.List.Concat.{flat_map-cons}
use Rattle.std.proofs.lemmas.Option.{same_Some, slice_get_past}
use Rattle.regex.specs.Patterns.{Re}
use Rattle.mad_format.specs.declared.composite.FmtComposite.{FmtComposite}
use Rattle.mad_format.specs.declared.line.FmtLine.{FmtLine}
use Rattle.mad_format.specs.declared.line.FmtLine.TheVariants.{HorizontalRule, Normal, TableRow, TableRule}
use Rattle.mad_patterns.specs.Breaks.{line_rows, line_start}
use Rattle.mad_patterns.specs.Searches.{cell_has_hit, line_has_hit, row_has_hit, table_cells, HasHit, NoneBetween, NoneFrom, IsFirstFrom, IsLastBefore, IsNextRowIn, IsPreviousRowIn}

-- a piece more is put after a text, of those that are left
pub piece_put : {X : Type 0} (f : X → List ℕ) (xs : List X) (i : ℕ) (d : X) (whole text new : List ℕ) → i < length xs → text ++ flat_map f (drop i xs) ≡ whole → new ≡ text ++ f (get_or xs i d) → new ++ flat_map f (drop (i + 1) xs) ≡ whole
piece_put f xs i d whole text new inside h e =
    ap (λ (l : List ℕ). l ++ flat_map f (drop (i + 1) xs)) e
    ∙ append_assoc text (f (get_or xs i d)) (flat_map f (drop (i + 1) xs))
    ∙ ap (λ (l : List ℕ). text ++ l) (sym (flat_map-cons f (get_or xs i d) (drop (i + 1) xs)) ∙ ap (flat_map f) (sym (drop_more xs i d inside)))
    ∙ h

-- ---- row by row

-- there is a row that has a hit
pub row_within : (sought : Re) (lines : List FmtLine) (starts : List ℕ) (row : ℕ) → HasHit sought lines starts row → ¬ (length lines ≤ row)
row_within sought lines starts row h past = let e : None ≡ Some h.line = sym (slice_get_past lines row past) ∙ h.is in absurd (cc)

-- a row has a hit, as its line tells
pub has_at : (s : Re) (lines : List FmtLine) (t : List ℕ) (row : ℕ) (line : FmtLine) (b : Bool) → slice_get lines row ≡ Some line → b ≡ line_has_hit s lines t row line → IsTrue b ↔ HasHit s lines t row
has_at s lines t row line b is has = (
  λ e. record { line = line; is = is; has = sym has ∙ e },
  λ h. has ∙ (ap (λ (l : FmtLine). line_has_hit s lines t row l) (same_Some _ _ (sym is ∙ h.is)) ∙ h.has),
)

-- that of a table has one, where a cell has
pub in_table : (s : Re) (lines : List FmtLine) (t : List ℕ) (row : ℕ) (line : FmtLine) (cells : List FmtComposite) → Some cells ≡ table_cells line → list_any (cell_has_hit s) cells ≡ line_has_hit s lines t row line
in_table s lines t row (TableRow table) cells e = ap (list_any (cell_has_hit s)) (same_Some _ _ e)
in_table s lines t row (Normal l) cells e = absurd (cc)
in_table s lines t row (TableRule rule) cells e = absurd (cc)
in_table s lines t row HorizontalRule cells e = absurd (cc)

-- another one, where its text has
pub in_text : (s : Re) (lines : List FmtLine) (t : List ℕ) (row : ℕ) (line : FmtLine) → None ≡ table_cells line → row_has_hit s (line_rows lines t row) (row - line_start lines t row) ≡ line_has_hit s lines t row line
in_text s lines t row (TableRow table) e = absurd (cc)
in_text s lines t row (Normal l) e = refl
in_text s lines t row (TableRule rule) e = refl
in_text s lines t row HorizontalRule e = refl

-- past the last row there is none
pub none_past : (s : Re) (lines : List FmtLine) (t : List ℕ) (row : ℕ) → length lines ≤ row → IsTrue false ↔ HasHit s lines t row
none_past s lines t row past = (λ (e : false ≡ true). absurd (cc), λ h. absurd (row_within s lines t row h past))

-- no row before the first one
pub none_yet : (sought : Re) (lines : List FmtLine) (starts : List ℕ) (from : ℕ) → NoneBetween sought lines starts from from
none_yet sought lines starts from row low high has = absurd (omega arith)

-- a row more has none
pub none_more : (sought : Re) (lines : List FmtLine) (starts : List ℕ) (from row : ℕ) → NoneBetween sought lines starts from row → ¬ HasHit sought lines starts row → NoneBetween sought lines starts from (row + 1)
none_more sought lines starts from row none here r low high has =
    below_more (λ (k : ℕ). from ≤ k → HasHit sought lines starts k → ⊥) row (λ k lt at_least it. none k at_least lt it) (λ at_least it. here it) r high low has

-- no row after the last one
pub none_after_all : (sought : Re) (lines : List FmtLine) (starts : List ℕ) (from row : ℕ) → NoneBetween sought lines starts from row → length lines ≤ row → NoneFrom sought lines starts from
none_after_all sought lines starts from row none past r low has =
    let inside = row_within sought lines starts r has in
    let high : r < row = omega (arith, inside) in
    none r low high has

-- a row before has none
pub none_before : (sought : Re) (lines : List FmtLine) (starts : List ℕ) (row end before : ℕ) → before + 1 ≡ row → NoneBetween sought lines starts row end → ¬ HasHit sought lines starts before → NoneBetween sought lines starts before end
none_before sought lines starts row end before next none here r low high has =
    elim (eq-or-lt_of_le low) [ inl e ↦ here (subst (λ (k : ℕ). HasHit sought lines starts k) (sym e) has) | inr more ↦ none r (omega arith) high has ]

-- ---- around the ends

-- the next row is found after the row
pub next_here : (s : Re) (l : List FmtLine) (t : List ℕ) (from found : ℕ) → IsFirstFrom s l t from found → IsNextRowIn s l t from (Some found)
next_here s l t from found first = inl first

-- or around the end, or nowhere
pub next_around : (s : Re) (l : List FmtLine) (t : List ℕ) (from : ℕ) (o : Option ℕ) → NoneFrom s l t from → MatchOption o (NoneFrom s l t 0) (IsFirstFrom s l t 0) → IsNextRowIn s l t from o
next_around s l t from None none all = all
next_around s l t from (Some x) none first = inr (none, first)

-- the row before is found before the row
pub previous_here : (s : Re) (l : List FmtLine) (t : List ℕ) (row end found : ℕ) → end ≡ min row (length l) → IsLastBefore s l t end found → IsPreviousRowIn s l t row (Some found)
previous_here s l t row end found at last =
    inl (record {
      within = let low : found < min row (length l) = subst (λ (n : ℕ). found < n) at last.within in omega (arith, low);
      has = last.has;
      none_after = λ r above high has. last.none_after r above (let inside = row_within s l t r has in omega (arith, at, inside)) has;
    })

-- or around the start, or nowhere
pub previous_around : (s : Re) (l : List FmtLine) (t : List ℕ) (row end : ℕ) (o : Option ℕ) → end ≡ min row (length l) → NoneBetween s l t 0 end → MatchOption o (NoneBetween s l t 0 (length l)) (IsLastBefore s l t (length l)) → IsPreviousRowIn s l t row o
previous_around s l t row end None at none all = λ r low has. all r low (let inside = row_within s l t r has in omega (arith, inside)) has
previous_around s l t row end (Some x) at none last = inr (λ r above high has. none r above (let inside = row_within s l t r has in omega (arith, at, inside)) has, last)
