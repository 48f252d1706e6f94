-- Rows of characters.
use Rattle.std.proofs.Common.{◌≡◌, ℕ, suc, Bool, true, false, not, ◌||◌, ◌&&◌, cond, ◌==◌, if◌then◌else◌, List, [], ◌∷◌, ◌++◌, map, filter, length, refl, sym, ap, subst, ◌∙◌, append_assoc, append-nil, arith}
use Rattle.std.proofs.lemmas.Bool.Decides.{nat_tests}
use Rattle.std.proofs.lemmas.List.{map-append}
use Rattle.std.proofs.lemmas.List.Elements.{filter-append}
use Rattle.std.specs.List.{AllByRecursion}
use Rattle.mad_md.specs.Flagged.{FlaggedChar}
use Rattle.mad_md.specs.Lines.{LineContent}
use Rattle.markdown_inlines.specs.Inlines.{leaf_text}
use Rattle.markdown_inlines.specs.Styled.{Shown}
use Rattle.markdown_lines.specs.Glyphs.{glyph_of, leaf_glyphs, trimmed}
use Rattle.markdown_lines.specs.Leaf.{leaf_rows, row_of, rows_from, rows_of}
use Rattle.markdown_lines.specs.declared.glyphs.Glyph.{Glyph}
use Rattle.markdown_row_laws.specs.Rows.{AreBlank, AreCut, AreCutOrNone, IsParagraph, IsRow, MakeRows, RowsKeepText, SayRows, bytes_of, bytes_on, char_shown, in_order, is_break, is_word, words}
use Rattle.markdown_row_laws.proofs.EdgeLemmas.{char_said, chars_said, trimmed_is}
use Rattle.markdown_row_laws.proofs.RunLemmas.{all_said}

-- the rows of a row that has begun, and then these glyphs
abbrev pub rows_cut : List Glyph → List Glyph → List (List Glyph)
rows_cut row [] = trimmed row ∷ []
rows_cut row (g ∷ gs) = if g.c == 10 then trimmed row ∷ rows_cut [] gs else rows_cut (row ++ g ∷ []) gs

-- the rows of glyphs
abbrev pub all_cut : List Glyph → List (List Glyph)
all_cut [] = []
all_cut (g ∷ gs) = rows_cut [] (g ∷ gs)

-- ---- how they are cut

-- no break is among them
abbrev IsUnbroken : List Glyph → Type 0
IsUnbroken row = filter is_break (chars_said row) ≡ []

trimmed_row : (row : List Glyph) → IsUnbroken row → IsRow (chars_said row) (chars_said (trimmed row))
trimmed_row row u =
    let it = trimmed_is row in
    record { unbroken = u; before = chars_said it.before; after = chars_said it.after; whole = it.whole; in_front = it.in_front; behind = it.behind; begins = it.begins; ends = it.ends }

more_rows : (own later : List FlaggedChar) (end : FlaggedChar) (row : List FlaggedChar) (rows : List (List FlaggedChar)) → is_break end ≡ true → IsRow own row → AreCut later rows → AreCut (own ++ end ∷ later) (row ∷ rows)
more_rows own later end row [] e is h = absurd h
more_rows own later end row (next ∷ rows) e is h = (own, end, later, refl, e, is, h)

unbroken_more : (row : List Glyph) (g : Glyph) → IsUnbroken row → is_break (char_said g) ≡ false → IsUnbroken (row ++ g ∷ [])
unbroken_more row g u e =
    ap (filter is_break) (map-append char_said row (g ∷ [])) ∙ filter-append is_break (chars_said row) (char_said g ∷ [])
    ∙ ap (λ (l : List FlaggedChar). l ++ filter is_break (char_said g ∷ [])) u ∙ ap (λ (t : Bool). cond t (char_said g ∷ []) []) e

-- a row that has begun, and then these glyphs, are cut so
abbrev AreCutFrom : List Glyph → List Glyph → Type 0
AreCutFrom row gs = AreCut (chars_said (row ++ gs)) (map chars_said (rows_cut row gs))

cut_by : (t : Bool) (row : List Glyph) (g : Glyph) (gs : List Glyph) → is_break (char_said g) ≡ t → IsUnbroken row → AreCutFrom [] gs → (IsUnbroken (row ++ g ∷ []) → AreCutFrom (row ++ g ∷ []) gs)
    → AreCut (chars_said (row ++ g ∷ gs)) (map chars_said (if t then trimmed row ∷ rows_cut [] gs else rows_cut (row ++ g ∷ []) gs))
cut_by true row g gs e u later on =
    subst (λ (cs : List FlaggedChar). AreCut cs (map chars_said (trimmed row ∷ rows_cut [] gs))) (sym (map-append char_said row (g ∷ gs)))
    (more_rows (chars_said row) (chars_said gs) (char_said g) (chars_said (trimmed row)) (map chars_said (rows_cut [] gs)) e (trimmed_row row u) later)
cut_by false row g gs e u later on =
    subst (λ (l : List Glyph). AreCut (chars_said l) (map chars_said (rows_cut (row ++ g ∷ []) gs))) (append_assoc row (g ∷ []) gs) (on (unbroken_more row g u e))

cut_from : (row gs : List Glyph) → IsUnbroken row → AreCutFrom row gs
cut_from row [] u = subst (λ (l : List Glyph). IsRow (chars_said l) (chars_said (trimmed row))) (sym (append-nil row)) (trimmed_row row u)
cut_from row (g ∷ gs) u = cut_by (is_break (char_said g)) row g gs refl u (cut_from [] gs refl) (cut_from (row ++ g ∷ []) gs)

cut_or_none : (gs : List Glyph) → AreCutOrNone (chars_said gs) (map chars_said (all_cut gs))
cut_or_none [] = refl
cut_or_none (g ∷ gs) = cut_from [] (g ∷ gs) refl

-- glyphs make rows
pub rows_made : (gs : List Glyph) → MakeRows (chars_said gs) (map chars_said (all_cut (trimmed gs)))
rows_made gs =
    let it = trimmed_is gs in
    record { before = chars_said it.before; middle = chars_said (trimmed gs); after = chars_said it.after; whole = it.whole; in_front = it.in_front; behind = it.behind; begins = it.begins; ends = it.ends; cut = cut_or_none (trimmed gs) }

-- ---- what lines say

said_by : (t : Bool) (row : List Glyph) (g : Glyph) (gs : List Glyph) → map bytes_on (rows_from [] gs) ≡ map bytes_of (map chars_said (rows_cut [] gs))
    → map bytes_on (rows_from (row ++ g ∷ []) gs) ≡ map bytes_of (map chars_said (rows_cut (row ++ g ∷ []) gs))
    → map bytes_on (if t then row_of row ∷ rows_from [] gs else rows_from (row ++ g ∷ []) gs) ≡ map bytes_of (map chars_said (if t then trimmed row ∷ rows_cut [] gs else rows_cut (row ++ g ∷ []) gs))
said_by true row g gs later on = ap (λ (l : List FlaggedChar). l ∷ map bytes_on (rows_from [] gs)) (all_said (trimmed row)) ∙ ap (λ (ls : List (List FlaggedChar)). bytes_of (chars_said (trimmed row)) ∷ ls) later
said_by false row g gs later on = on

said_from : (row gs : List Glyph) → map bytes_on (rows_from row gs) ≡ map bytes_of (map chars_said (rows_cut row gs))
unfolding rows_from
said_from row [] = ap (λ (l : List FlaggedChar). l ∷ []) (all_said (trimmed row))
said_from row (g ∷ gs) = said_by (g.c == 10) row g gs (said_from [] gs) (said_from (row ++ g ∷ []) gs)

not_none : (n : ℕ) → (suc n == 0) ≡ false
not_none n = grind (arith, nat_tests)

rows_said : (gs : List Glyph) → map bytes_on (rows_of gs) ≡ map bytes_of (map chars_said (all_cut gs))
rows_said [] = refl
rows_said (g ∷ gs) = ap (λ (t : Bool). map bytes_on (if t then [] else rows_from [] (g ∷ gs))) (not_none (length gs)) ∙ said_from [] (g ∷ gs)

-- ---- each line is a paragraph's

-- each of these lines is a paragraph's
abbrev AreParagraphs : List LineContent → Type 0
AreParagraphs lines = AllByRecursion IsParagraph lines

paragraph_by : (t : Bool) (row : List Glyph) (g : Glyph) (gs : List Glyph) → AreParagraphs (rows_from [] gs) → AreParagraphs (rows_from (row ++ g ∷ []) gs)
    → AreParagraphs (if t then row_of row ∷ rows_from [] gs else rows_from (row ++ g ∷ []) gs)
paragraph_by true row g gs later on = (refl, later)
paragraph_by false row g gs later on = on

paragraphs_from : (row gs : List Glyph) → AreParagraphs (rows_from row gs)
unfolding rows_from
paragraphs_from row [] = (refl, tt)
paragraphs_from row (g ∷ gs) = paragraph_by (g.c == 10) row g gs (paragraphs_from [] gs) (paragraphs_from (row ++ g ∷ []) gs)

paragraph_or_none : (t : Bool) (lines : List LineContent) → AreParagraphs lines → AreParagraphs (if t then [] else lines)
paragraph_or_none true lines h = tt
paragraph_or_none false lines h = h

-- ---- words

-- blanks around characters are no words
pub inner_words : (before middle after : List FlaggedChar) → AreBlank before → AreBlank after → words (before ++ middle ++ after) ≡ words middle
inner_words before middle after b a =
    ap words (append_assoc before middle after) ∙ filter-append is_word before (middle ++ after) ∙ ap (λ (l : List FlaggedChar). l ++ words (middle ++ after)) b
    ∙ filter-append is_word middle after ∙ ap (λ (l : List FlaggedChar). words middle ++ l) a ∙ append-nil (words middle)

pub row_words : (own row : List FlaggedChar) → IsRow own row → words own ≡ words row
row_words own row is = ap words is.whole ∙ inner_words is.before row is.after is.in_front is.behind

no_word : (c : FlaggedChar) (cs : List FlaggedChar) → is_break c ≡ true → words (c ∷ cs) ≡ words cs
no_word c cs e = ap (λ (t : Bool). cond (not (t || ((c.char == 32) && not c.flags.code))) (c ∷ words cs) (words cs)) e

cut_words : (cs : List FlaggedChar) (rows : List (List FlaggedChar)) → AreCut cs rows → words (in_order rows) ≡ words cs
cut_words cs [] h = absurd h
cut_words cs (row ∷ []) h = ap words (append-nil row) ∙ sym (row_words cs row h)
cut_words cs (row ∷ next ∷ rows) h =
    let (own, end, later, whole, break, is, others) = h in
    filter-append is_word row (in_order (next ∷ rows)) ∙ ap (λ (l : List FlaggedChar). l ++ words (in_order (next ∷ rows))) (sym (row_words own row is))
    ∙ ap (λ (l : List FlaggedChar). words own ++ l) (cut_words later (next ∷ rows) others ∙ sym (no_word end later break))
    ∙ sym (filter-append is_word own (end ∷ later)) ∙ ap words (sym whole)

middle_words : (cs : List FlaggedChar) (rows : List (List FlaggedChar)) → AreCutOrNone cs rows → words (in_order rows) ≡ words cs
middle_words [] rows h = ap (λ (rs : List (List FlaggedChar)). words (in_order rs)) h
middle_words (c ∷ cs) rows h = cut_words (c ∷ cs) rows h

-- no word is lost in rows
pub made_words : (cs : List FlaggedChar) (rows : List (List FlaggedChar)) → MakeRows cs rows → words (in_order rows) ≡ words cs
made_words cs rows is = middle_words is.middle rows is.cut ∙ sym (ap words is.whole ∙ inner_words is.before is.middle is.after is.in_front is.behind)

-- ---- a leaf

-- glyphs say the characters that are shown
pub glyphs_say : (bold : Bool) (shown : List Shown) → chars_said (map (glyph_of bold) shown) ≡ map (char_shown bold) shown
glyphs_say bold [] = refl
glyphs_say bold (s ∷ shown) = ap (λ (l : List FlaggedChar). char_shown bold s ∷ l) (glyphs_say bold shown)

-- the rows of glyphs say their characters
rows_say : (gs : List Glyph) → SayRows (chars_said gs) (rows_of (trimmed gs))
rows_say gs =
    let made = rows_made gs in
    let rows = map chars_said (all_cut (trimmed gs)) in
    record { rows = rows; made = made; paragraphs = paragraph_or_none (length (trimmed gs) == 0) (rows_from [] (trimmed gs)) (paragraphs_from [] (trimmed gs)); said = rows_said (trimmed gs); kept = made_words (chars_said gs) rows made }

-- the rows of each leaf say its characters
pub rows_keep : RowsKeepText
unfolding leaf_rows
rows_keep labels text = subst (λ (cs : List FlaggedChar). SayRows cs (leaf_rows labels text)) (glyphs_say false (leaf_text labels text)) (rows_say (leaf_glyphs labels false text))
