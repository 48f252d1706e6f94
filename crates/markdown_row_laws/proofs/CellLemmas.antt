-- Cells of tables.
use Rattle.std.proofs.Common.{◌≡◌, Bool, true, false, ◌==◌, if◌then◌else◌, List, [], ◌∷◌, ◌++◌, map, refl, sym, ap, subst, ◌∙◌, append_assoc, append-nil}
use Rattle.std.proofs.lemmas.List.{map-append}
use Rattle.std.proofs.lemmas.List.Elements.{filter-append}
use Rattle.mad_md.specs.Flagged.{FlaggedChar}
use Rattle.markdown_inlines.specs.Inlines.{leaf_text}
use Rattle.markdown_lines.specs.Glyphs.{leaf_glyphs, runs_of, space, spaced_from, trimmed, without_back, without_front}
use Rattle.markdown_lines.specs.Leaf.{cell_runs}
use Rattle.markdown_lines.specs.declared.glyphs.Glyph.{Glyph}
use Rattle.markdown_row_laws.specs.Rows.{CellsKeepText, SayCell, bytes_in, bytes_of, in_order, is_word, space_shown, spaced_rows, words}
use Rattle.markdown_row_laws.proofs.EdgeLemmas.{char_said, chars_said}
use Rattle.markdown_row_laws.proofs.RowLemmas.{all_cut, glyphs_say, made_words, rows_cut, rows_made}
use Rattle.markdown_row_laws.proofs.RunLemmas.{all_said}

-- there is a row
abbrev HasRow : List (List Glyph) → Type 0
HasRow [] = ⊥
HasRow (row ∷ rows) = Unit {0}

cut_by : (t : Bool) (row : List Glyph) (g : Glyph) (gs : List Glyph) → HasRow (rows_cut (row ++ g ∷ []) gs) → HasRow (if t then trimmed row ∷ rows_cut [] gs else rows_cut (row ++ g ∷ []) gs)
cut_by true row g gs h = tt
cut_by false row g gs h = h

has_row : (row gs : List Glyph) → HasRow (rows_cut row gs)
has_row row [] = tt
has_row row (g ∷ gs) = cut_by (g.c == 10) row g gs (has_row (row ++ g ∷ []) gs)

spaced_more : (bold : Bool) (row : List Glyph) (rows : List (List Glyph)) → HasRow rows → spaced_rows bold (map chars_said (row ∷ rows)) ≡ chars_said row ++ space_shown bold ∷ spaced_rows bold (map chars_said rows)
spaced_more bold row [] h = absurd h
spaced_more bold row (next ∷ rows) h = refl

-- a cell whose row has begun behind others, and then these glyphs, is spaced so
abbrev AreSpaced : Bool → (shown row gs : List Glyph) → Type 0
AreSpaced bold shown row gs = chars_said (spaced_from bold shown row gs) ≡ chars_said shown ++ spaced_rows bold (map chars_said (rows_cut row gs))

space_between : (bold : Bool) (shown row gs : List Glyph) → AreSpaced bold ((shown ++ trimmed row) ++ space bold ∷ []) [] gs
    → chars_said (spaced_from bold ((shown ++ trimmed row) ++ space bold ∷ []) [] gs) ≡ chars_said shown ++ spaced_rows bold (map chars_said (trimmed row ∷ rows_cut [] gs))
space_between bold shown row gs h =
    let rest = spaced_rows bold (map chars_said (rows_cut [] gs)) in
    let own = chars_said (trimmed row) in
    let begun : chars_said ((shown ++ trimmed row) ++ space bold ∷ []) ≡ (chars_said shown ++ own) ++ space_shown bold ∷ [] =
    map-append char_said (shown ++ trimmed row) (space bold ∷ []) ∙ ap (λ (l : List FlaggedChar). l ++ space_shown bold ∷ []) (map-append char_said shown (trimmed row)) in
    h ∙ ap (λ (l : List FlaggedChar). l ++ rest) begun ∙ append_assoc (chars_said shown ++ own) (space_shown bold ∷ []) rest ∙ append_assoc (chars_said shown) own (space_shown bold ∷ rest)
    ∙ ap (λ (l : List FlaggedChar). chars_said shown ++ l) (sym (spaced_more bold (trimmed row) (rows_cut [] gs) (has_row [] gs)))

spaced_by : (t : Bool) (bold : Bool) (shown row : List Glyph) (g : Glyph) (gs : List Glyph) → AreSpaced bold ((shown ++ trimmed row) ++ space bold ∷ []) [] gs → AreSpaced bold shown (row ++ g ∷ []) gs
    → chars_said (if t then spaced_from bold ((shown ++ trimmed row) ++ space bold ∷ []) [] gs else spaced_from bold shown (row ++ g ∷ []) gs)
    ≡ chars_said shown ++ spaced_rows bold (map chars_said (if t then trimmed row ∷ rows_cut [] gs else rows_cut (row ++ g ∷ []) gs))
spaced_by true bold shown row g gs later on = space_between bold shown row gs later
spaced_by false bold shown row g gs later on = on

spaced_is : (bold : Bool) (shown row gs : List Glyph) → AreSpaced bold shown row gs
unfolding spaced_from
spaced_is bold shown row [] = map-append char_said shown (trimmed row)
spaced_is bold shown row (g ∷ gs) = spaced_by (g.c == 10) bold shown row g gs (spaced_is bold ((shown ++ trimmed row) ++ space bold ∷ []) [] gs) (spaced_is bold shown (row ++ g ∷ []) gs)

none_spaced : (bold : Bool) → chars_said (spaced_from bold [] [] []) ≡ []
unfolding spaced_from without_front without_back
none_spaced bold = refl

all_spaced : (bold : Bool) (gs : List Glyph) → chars_said (spaced_from bold [] [] gs) ≡ spaced_rows bold (map chars_said (all_cut gs))
all_spaced bold [] = none_spaced bold
all_spaced bold (g ∷ gs) = spaced_is bold [] [] (g ∷ gs)

-- a space between two rows is no word
spaced_words : (bold : Bool) (rows : List (List FlaggedChar)) → words (spaced_rows bold rows) ≡ words (in_order rows)
spaced_words bold [] = refl
spaced_words bold (row ∷ []) = ap words (sym (append-nil row))
spaced_words bold (row ∷ next ∷ rows) =
    filter-append is_word row (space_shown bold ∷ spaced_rows bold (next ∷ rows)) ∙ ap (λ (l : List FlaggedChar). words row ++ l) (spaced_words bold (next ∷ rows))
    ∙ sym (filter-append is_word row (in_order (next ∷ rows)))

-- the runs of a cell say its characters
cell_says : (bold : Bool) (gs : List Glyph) → SayCell bold (chars_said gs) (runs_of (spaced_from bold [] [] (trimmed gs)))
cell_says bold gs =
    let made = rows_made gs in
    let rows = map chars_said (all_cut (trimmed gs)) in
    let said : bytes_in (runs_of (spaced_from bold [] [] (trimmed gs))) ≡ bytes_of (spaced_rows bold rows) = all_said (spaced_from bold [] [] (trimmed gs)) ∙ ap bytes_of (all_spaced bold (trimmed gs)) in
    record { rows = rows; made = made; said = said; kept = spaced_words bold rows ∙ made_words (chars_said gs) rows made }

-- the runs of each cell say its characters
pub cells_keep : CellsKeepText
unfolding cell_runs
cells_keep labels bold text = subst (λ (cs : List FlaggedChar). SayCell bold cs (cell_runs labels bold text)) (glyphs_say bold (leaf_text labels text)) (cell_says bold (leaf_glyphs labels bold text))
