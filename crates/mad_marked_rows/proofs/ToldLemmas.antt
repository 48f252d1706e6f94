-- What is seen of a text with marks is what is seen of it without, but for what marks make of styles.
use Rattle.std.proofs.Common.{◌≡◌, ℕ, zero, suc, ◌<◌, Bool, true, false, ◌&&◌, ◌||◌, cond, List, [], ◌∷◌, ◌++◌, map, refl, sym, ap, ◌∙◌, arith, subst, append_assoc, append-nil}
use Rattle.std.specs.Prelude.{chars, encode_utf8_all, replicate, Some, ◌==◌}
use Rattle.std.specs.Str.{IsUtf8}
use Rattle.std.proofs.lemmas.Bool.{and_parts}
use Rattle.std.proofs.lemmas.Bool.Decides.{nat_tests}
use Rattle.std.proofs.lemmas.List.{map-append}
use Rattle.std.proofs.lemmas.Str.{chars-encodes, encodes-chars, scalars-chars}
use lib.Utf8.{scalars, scalar}
use Rattle.mad_characters.specs.Columns.{char_columns}
use Rattle.mad_term.specs.declared.styles.ContentStyle.{ContentStyle}
use Rattle.mad_screen.specs.Glyph.{Glyph, Look}
use Rattle.mad_screen.specs.Painting.{attach, look_of_style, IsPrinted, IsShown}
use Rattle.mad_screen.specs.Grid.{glyphs}
use Rattle.mad_draw.proofs.CharLemmas.{penned_both}
use Rattle.mad_draw.specs.Pieces.{PennedChar, RowPiece, penned_chars, IsShownPiece, AreShownPieces}
use Rattle.mad_draw.specs.PennedCells.{penned_attached, penned_cells}
use Rattle.mad_mark_runs.specs.declared.mark_runs.MarkRun.{MarkRun}
use Rattle.mad_marked_rows.specs.Told.{told_char, told_cell, told_chars, told_cells, TellsNothing}
use Rattle.mad_marked_rows.specs.MarkedTexts.{Letter, letters_of, number_next, goes_on, LetterPart, parts_from, part_piece, text_pieces}

-- ---- cells, by what is told of characters

told_copies : (tell : Look → Look) (n : ℕ) (g : Glyph) → map (told_cell tell) (replicate n g) ≡ replicate n (told_cell tell g)
told_copies tell zero g = refl
told_copies tell (suc n) g = ap (λ l. told_cell tell g ∷ l) (told_copies tell n g)

abbrev told_both : (Look → Look) → List ℕ × List Glyph → List ℕ × List Glyph
told_both tell r = (r.0, map (told_cell tell) r.1)

attached_by : (tell : Look → Look) (k c : ℕ) (pen : Look) (r : List ℕ × List Glyph) → attach (Some k) (tell pen) c (told_both tell r) ≡ told_both tell (attach (Some k) pen c r)
attached_by tell zero c pen r = refl
attached_by tell (suc k) c pen r =
    ap (λ (l : List Glyph). let x : List ℕ × List Glyph = ([], l) in x)
    (ap (λ (l : List Glyph). (record { chars = c ∷ r.0; pen = tell pen } ∷ l) ++ map (told_cell tell) r.1) (sym (told_copies tell k (record { chars = []; pen = pen })))
    ∙ sym (map-append (told_cell tell) (glyphs (c ∷ r.0) k pen) r.1))

attached_told : (tell : Look → Look) (cs : List PennedChar) → penned_attached (map (told_char tell) cs) ≡ told_both tell (penned_attached cs)
attached_told tell [] = refl
attached_told tell (c ∷ cs) = ap (λ (r : List ℕ × List Glyph). attach (Some (char_columns c.char)) (tell c.pen) c.char r) (attached_told tell cs) ∙ attached_by tell (char_columns c.char) c.char c.pen (penned_attached cs)

-- cells are told by what is told of characters
pub cells_told : (tell : Look → Look) (ps : List RowPiece) → told_cells tell ps ≡ penned_cells (told_chars tell ps)
cells_told tell ps = sym (ap (λ (r : List ℕ × List Glyph). r.1) (attached_told tell (penned_chars ps)))

-- where the same is told of characters, it is of cells
pub same_cells : (tell : Look → Look) (ps qs : List RowPiece) → told_chars tell ps ≡ told_chars tell qs → told_cells tell ps ≡ told_cells tell qs
same_cells tell ps qs e = cells_told tell ps ∙ ap penned_cells e ∙ sym (cells_told tell qs)

-- ---- pieces, one after the other

-- characters of pieces behind others
pub told_joined : (tell : Look → Look) (ps qs : List RowPiece) → told_chars tell (ps ++ qs) ≡ told_chars tell ps ++ told_chars tell qs
told_joined tell ps qs = ap (map (told_char tell)) (penned_both ps qs) ∙ map-append (told_char tell) (penned_chars ps) (penned_chars qs)

-- ---- a text

abbrev said_in : (Look → Look) → ContentStyle → List ℕ → List PennedChar
said_in tell style cs = map (λ (c : ℕ). let x : PennedChar = record { char = c; pen = tell (look_of_style style) } in x) cs

told_map : (tell : Look → Look) (pen : Look) (cs : List ℕ) → map (told_char tell) (map (λ (c : ℕ). let x : PennedChar = record { char = c; pen = pen } in x) cs) ≡ map (λ (c : ℕ). let x : PennedChar = record { char = c; pen = tell pen } in x) cs
told_map tell pen [] = refl
told_map tell pen (c ∷ cs) = ap (λ l. record { char = c; pen = tell pen } ∷ l) (told_map tell pen cs)

piece_told : (tell : Look → Look) (style own : ContentStyle) (cs : List ℕ) → tell (look_of_style own) ≡ tell (look_of_style style) → scalars cs ≡ true → told_chars tell (record { style = own; text = encode_utf8_all cs } ∷ []) ≡ said_in tell style cs
piece_told tell style own cs same scalar_all =
    ap (map (told_char tell)) (append-nil (map (λ (c : ℕ). let x : PennedChar = record { char = c; pen = look_of_style own } in x) (chars (encode_utf8_all cs))))
    ∙ told_map tell (look_of_style own) (chars (encode_utf8_all cs))
    ∙ ap (λ (l : List ℕ). map (λ (c : ℕ). let x : PennedChar = record { char = c; pen = tell (look_of_style own) } in x) l) (chars-encodes cs scalar_all)
    ∙ ap (λ (pen : Look). map (λ (c : ℕ). let x : PennedChar = record { char = c; pen = pen } in x) cs) same

-- a scalar value behind others
pub scalars_more : (cs : List ℕ) (c : ℕ) → scalars cs ≡ true → scalar c ≡ true → scalars (cs ++ c ∷ []) ≡ true
scalars_more [] c a b = ap (λ t. t && true) b
scalars_more (x ∷ xs) c a b =
    let both = and_parts _ _ a in
    ap (λ t. t && scalars (xs ++ c ∷ [])) both.0 ∙ scalars_more xs c both.1 b

told_by_part : (tell : Look → Look) (paint : ℕ → ContentStyle → ContentStyle) (style : ContentStyle) (p : LetterPart) (c : Letter) (cs : List Letter) (t : Bool) → TellsNothing tell paint → scalars p.chars ≡ true → scalar c.char ≡ true
    → ((q : LetterPart) → scalars q.chars ≡ true → told_chars tell (map (part_piece paint style) (parts_from q cs)) ≡ said_in tell style (q.chars ++ map (λ (c : Letter). c.char) cs))
    → told_chars tell (map (part_piece paint style) (cond t (parts_from (record { value = p.value; chars = p.chars ++ c.char ∷ [] }) cs) (p ∷ parts_from (record { value = c.value; chars = c.char ∷ [] }) cs)))
    ≡ said_in tell style (p.chars ++ (c.char ∷ map (λ (c : Letter). c.char) cs))
told_by_part tell paint style p c cs true nothing a b more =
    more (record { value = p.value; chars = p.chars ++ c.char ∷ [] }) (scalars_more p.chars c.char a b) ∙ ap (said_in tell style) (append_assoc p.chars (c.char ∷ []) (map (λ (c : Letter). c.char) cs))
told_by_part tell paint style p c cs false nothing a b more =
    told_joined tell (part_piece paint style p ∷ []) (map (part_piece paint style) (parts_from (record { value = c.value; chars = c.char ∷ [] }) cs))
    ∙ ap (λ l. l ++ told_chars tell (map (part_piece paint style) (parts_from (record { value = c.value; chars = c.char ∷ [] }) cs))) (piece_told tell style (paint p.value style) p.chars (nothing p.value style) a)
    ∙ ap (λ l. said_in tell style p.chars ++ l) (more (record { value = c.value; chars = c.char ∷ [] }) (ap (λ t. t && true) b))
    ∙ sym (map-append (λ (c : ℕ). let x : PennedChar = record { char = c; pen = tell (look_of_style style) } in x) p.chars (c.char ∷ map (λ (c : Letter). c.char) cs))

from_told : (tell : Look → Look) (paint : ℕ → ContentStyle → ContentStyle) (style : ContentStyle) (cs : List Letter) → TellsNothing tell paint → scalars (map (λ (c : Letter). c.char) cs) ≡ true → (p : LetterPart) → scalars p.chars ≡ true
    → told_chars tell (map (part_piece paint style) (parts_from p cs)) ≡ said_in tell style (p.chars ++ map (λ (c : Letter). c.char) cs)
from_told tell paint style [] nothing all p a = piece_told tell style (paint p.value style) p.chars (nothing p.value style) a ∙ ap (said_in tell style) (sym (append-nil p.chars))
from_told tell paint style (c ∷ cs) nothing all p a =
    let both = and_parts _ _ all in
    told_by_part tell paint style p c cs (goes_on p.value c.value c.char) nothing a both.0 (from_told tell paint style cs nothing both.1)

-- without its marks a text is as it was
pub letters_said : (runs : List MarkRun) (n : ℕ) (cs : List ℕ) → map (λ (c : Letter). c.char) (letters_of runs n cs) ≡ cs
letters_said runs n [] = refl
letters_said runs n (c ∷ cs) = ap (λ l. c ∷ l) (letters_said runs (number_next n c) cs)

text_said : (tell : Look → Look) (paint : ℕ → ContentStyle → ContentStyle) (runs : List MarkRun) (style : ContentStyle) (n : ℕ) (cs : List ℕ) → TellsNothing tell paint → scalars cs ≡ true → told_chars tell (text_pieces paint runs style n cs) ≡ said_in tell style cs
text_said tell paint runs style n [] nothing all = refl
text_said tell paint runs style n (c ∷ cs) nothing all =
    let both = and_parts _ _ all in
    let said = letters_said runs (number_next n c) cs in
    from_told tell paint style (letters_of runs (number_next n c) cs) nothing (ap scalars said ∙ both.1) _ (ap (λ t. t && true) both.0) ∙ ap (λ l. said_in tell style (c ∷ l)) said

-- THE LAW of a text: marks change nothing that is told
pub text_told : (tell : Look → Look) (paint : ℕ → ContentStyle → ContentStyle) (runs : List MarkRun) (style : ContentStyle) (n : ℕ) (text : List ℕ) → TellsNothing tell paint → IsUtf8 text
    → told_chars tell (text_pieces paint runs style n (chars text)) ≡ told_chars tell (record { style = style; text = text } ∷ [])
text_told tell paint runs style n text nothing utf8 =
    let all = scalars-chars text utf8 in
    text_said tell paint runs style n (chars text) nothing all
    ∙ sym (piece_told tell style style (chars text) refl all) ∙ ap (λ (t : List ℕ). told_chars tell (record { style = style; text = t } ∷ [])) (encodes-chars text utf8)

-- ---- parts show cells of their own

printed_more : (cs : List ℕ) (c : ℕ) → IsPrinted cs → IsPrinted (c ∷ []) → IsPrinted (cs ++ c ∷ [])
printed_more [] c a b = b
printed_more (x ∷ xs) c a b = (a.0, printed_more xs c a.1 b)

part_shown : (paint : ℕ → ContentStyle → ContentStyle) (style : ContentStyle) (v x : ℕ) (xs : List ℕ) → scalars (x ∷ xs) ≡ true → IsPrinted (x ∷ xs) → 0 < char_columns x → IsShownPiece (part_piece paint style (record { value = v; chars = x ∷ xs }))
part_shown paint style v x xs all printed whole =
    record { utf8 = (x ∷ xs, (all, refl)); shown = subst IsShown (sym (chars-encodes (x ∷ xs) all)) (record { printed = printed; whole = whole }) }

takes_column : (v u c : ℕ) (t w : Bool) → (u == v) ≡ t → (char_columns c == 0) ≡ w → (t || w) ≡ false → 0 < char_columns c
takes_column v u c true w a b e = absurd (let k = e in cc)
takes_column v u c false true a b e = absurd (let k = e in cc)
takes_column v u c false false a b e = grind (arith, nat_tests, b)

from_shown : (paint : ℕ → ContentStyle → ContentStyle) (style : ContentStyle) (cs : List Letter) → scalars (map (λ (c : Letter). c.char) cs) ≡ true → IsPrinted (map (λ (c : Letter). c.char) cs) → (v x : ℕ) (xs : List ℕ)
    → scalars (x ∷ xs) ≡ true → IsPrinted (x ∷ xs) → 0 < char_columns x → AreShownPieces (map (part_piece paint style) (parts_from (record { value = v; chars = x ∷ xs }) cs))
from_shown paint style [] all printed v x xs own_all own whole = (part_shown paint style v x xs own_all own whole, tt)
from_shown paint style (c ∷ cs) all printed v x xs own_all own whole =
    let both = and_parts _ _ all in
    shown_by (goes_on v c.value c.char) refl both.0 both.1 (from_shown paint style cs both.1 printed.1)
  where
    shown_by : (t : Bool) → goes_on v c.value c.char ≡ t → scalar c.char ≡ true → scalars (map (λ (c : Letter). c.char) cs) ≡ true
        → ((v x : ℕ) (xs : List ℕ) → scalars (x ∷ xs) ≡ true → IsPrinted (x ∷ xs) → 0 < char_columns x → AreShownPieces (map (part_piece paint style) (parts_from (record { value = v; chars = x ∷ xs }) cs)))
        → AreShownPieces (map (part_piece paint style) (cond t (parts_from (record { value = v; chars = (x ∷ xs) ++ c.char ∷ [] }) cs) (record { value = v; chars = x ∷ xs } ∷ parts_from (record { value = c.value; chars = c.char ∷ [] }) cs)))
    shown_by true e one rest more = more v x (xs ++ c.char ∷ []) (scalars_more (x ∷ xs) c.char own_all one) (printed_more (x ∷ xs) c.char own (printed.0, tt)) whole
    shown_by false e one rest more =
        (part_shown paint style v x xs own_all own whole, more c.value c.char [] (ap (λ t. t && true) one) (printed.0, tt) (takes_column v c.value c.char (c.value == v) (char_columns c.char == 0) refl refl e))

-- THE LAW: where a text shows cells of its own, its parts do
pub text_shown : (paint : ℕ → ContentStyle → ContentStyle) (runs : List MarkRun) (style : ContentStyle) (n : ℕ) (text : List ℕ) → IsUtf8 text → IsShown (chars text) → AreShownPieces (text_pieces paint runs style n (chars text))
text_shown paint runs style n text utf8 shown = by_chars (chars text) (scalars-chars text utf8) shown
  where
    by_chars : (cs : List ℕ) → scalars cs ≡ true → IsShown cs → AreShownPieces (text_pieces paint runs style n cs)
    by_chars [] all h = tt
    by_chars (c ∷ cs) all h =
        let both = and_parts _ _ all in
        let said = letters_said runs (number_next n c) cs in
        from_shown paint style (letters_of runs (number_next n c) cs) (ap scalars said ∙ both.1) (subst IsPrinted (sym said) h.printed.1) _ c [] (ap (λ t. t && true) both.0) (h.printed.0, tt) h.whole
