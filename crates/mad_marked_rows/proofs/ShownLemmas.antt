-- What is seen of a composite is what its row shows.
use Rattle.std.proofs.Common.{◌≡◌, ℕ, ◌+◌, Bool, true, false, ◌&&◌, cond, List, [], ◌∷◌, ◌++◌, map, refl, sym, ap, ◌∙◌, append_assoc, append-nil}
use Rattle.std.specs.Prelude.{chars, encode_utf8_all}
use Rattle.std.specs.List.{AllByRecursion}
use Rattle.std.specs.Str.{IsUtf8}
use Rattle.std.proofs.lemmas.Bool.{and_parts}
use Rattle.std.proofs.lemmas.List.{map-append}
use Rattle.std.proofs.lemmas.Str.{chars-encodes, scalars-chars}
use lib.Utf8.{scalars, scalar}
use Rattle.mad_md.specs.Flagged.{Flags, flagged_of, flags_of, run_of}
use Rattle.mad_md.specs.declared.compound.Compound.{Compound}
use Rattle.mad_term.specs.declared.styles.ContentStyle.{ContentStyle}
use Rattle.mad_screen.specs.Glyph.{Look}
use Rattle.mad_screen.specs.Painting.{look_of_style}
use Rattle.mad_style.specs.declared.compound_styles.CompoundStyle.{CompoundStyle}
use Rattle.mad_style.specs.declared.kinds.CompositeKind.{CompositeKind}
use Rattle.mad_style.specs.declared.line_styles.LineStyle.{LineStyle}
use Rattle.mad_draw.proofs.CharLemmas.{penned_both}
use Rattle.mad_draw.specs.Pieces.{PennedChar, penned_chars}
use Rattle.mad_format.specs.declared.composite.FmtComposite.{FmtComposite}
use Rattle.mad_rows.specs.RowStyles.{compound_style, line_style}
use Rattle.mad_rows.specs.Rows.{compound_piece}
use Rattle.mad_rows.specs.declared.row_skin.RowSkin.{RowSkin}
use Rattle.mad_mark_runs.specs.declared.mark_runs.MarkRun.{MarkRun}
use Rattle.mad_marks.specs.RowMarks.{counted}
use Rattle.mad_marked_rows.specs.MarkedTexts.{goes_on, Letter, letters_of, LetterPart, number_next, part_piece, parts_from, text_pieces}
use Rattle.mad_marked_rows.proofs.ToldLemmas.{letters_said, scalars_more}
use Rattle.mad_marked_rows.specs.MarkedRows.{marked_compound, marked_compounds}
use Rattle.mad_marked_rows.specs.SeenLaws.{penned}
use Rattle.mad_marked_rows.specs.Seen.{bare_text, counted_text, seen_char, seen_compound, seen_compounds, seen_from, seen_text}

abbrev in_pen : Look → List ℕ → List PennedChar
in_pen pen cs = map (λ (c : ℕ). let x : PennedChar = record { char = c; pen = pen } in x) cs

piece_penned : (paint : ℕ → ContentStyle → ContentStyle) (style : CompoundStyle) (p : LetterPart) → scalars p.chars ≡ true → penned_chars (part_piece paint style.object_style p ∷ []) ≡ in_pen (look_of_style (paint p.value style.object_style)) p.chars
piece_penned paint style p all = append-nil (in_pen (look_of_style (paint p.value style.object_style)) (chars (encode_utf8_all p.chars))) ∙ ap (in_pen (look_of_style (paint p.value style.object_style))) (chars-encodes p.chars all)

penned_by_part : (paint : ℕ → ContentStyle → ContentStyle) (style : CompoundStyle) (p : LetterPart) (c : Letter) (cs : List Letter) (t : Bool) → scalars p.chars ≡ true → scalar c.char ≡ true
    → ((q : LetterPart) → scalars q.chars ≡ true → penned_chars (map (part_piece paint style.object_style) (parts_from q cs)) ≡ in_pen (look_of_style (paint q.value style.object_style)) q.chars ++ map penned (seen_from paint style q.value cs))
    → penned_chars (map (part_piece paint style.object_style) (cond t (parts_from (record { value = p.value; chars = p.chars ++ c.char ∷ [] }) cs) (p ∷ parts_from (record { value = c.value; chars = c.char ∷ [] }) cs)))
    ≡ in_pen (look_of_style (paint p.value style.object_style)) p.chars ++ (penned (seen_char paint style (cond t p.value c.value) c.char) ∷ map penned (seen_from paint style (cond t p.value c.value) cs))
penned_by_part paint style p c cs true a b more =
    let pen = look_of_style (paint p.value style.object_style) in
    more (record { value = p.value; chars = p.chars ++ c.char ∷ [] }) (scalars_more p.chars c.char a b)
    ∙ ap (λ l. l ++ map penned (seen_from paint style p.value cs)) (map-append (λ (c : ℕ). let x : PennedChar = record { char = c; pen = pen } in x) p.chars (c.char ∷ []))
    ∙ append_assoc (in_pen pen p.chars) (in_pen pen (c.char ∷ [])) (map penned (seen_from paint style p.value cs))
penned_by_part paint style p c cs false a b more =
    penned_both (part_piece paint style.object_style p ∷ []) (map (part_piece paint style.object_style) (parts_from (record { value = c.value; chars = c.char ∷ [] }) cs))
    ∙ ap (λ l. l ++ penned_chars (map (part_piece paint style.object_style) (parts_from (record { value = c.value; chars = c.char ∷ [] }) cs))) (piece_penned paint style p a)
    ∙ ap (λ l. in_pen (look_of_style (paint p.value style.object_style)) p.chars ++ l) (more (record { value = c.value; chars = c.char ∷ [] }) (ap (λ t. t && true) b))

from_penned : (paint : ℕ → ContentStyle → ContentStyle) (style : CompoundStyle) (cs : List Letter) → scalars (map (λ (c : Letter). c.char) cs) ≡ true → (p : LetterPart) → scalars p.chars ≡ true
    → penned_chars (map (part_piece paint style.object_style) (parts_from p cs)) ≡ in_pen (look_of_style (paint p.value style.object_style)) p.chars ++ map penned (seen_from paint style p.value cs)
from_penned paint style [] all p a = piece_penned paint style p a ∙ sym (append-nil (in_pen (look_of_style (paint p.value style.object_style)) p.chars))
from_penned paint style (c ∷ cs) all p a =
    let both = and_parts _ _ all in
    penned_by_part paint style p c cs (goes_on p.value c.value c.char) a both.0 (from_penned paint style cs both.1)

text_penned : (paint : ℕ → ContentStyle → ContentStyle) (runs : List MarkRun) (style : CompoundStyle) (n : ℕ) (cs : List ℕ) → scalars cs ≡ true → penned_chars (text_pieces paint runs style.object_style n cs) ≡ map penned (counted_text paint runs style n cs)
text_penned paint runs style n [] all = refl
text_penned paint runs style n (c ∷ cs) all =
    let both = and_parts _ _ all in
    from_penned paint style (letters_of runs (number_next n c) cs) (ap scalars (letters_said runs (number_next n c) cs) ∙ both.1) _ (ap (λ t. t && true) both.0)

bare_penned : (style : CompoundStyle) (cs : List ℕ) → in_pen (look_of_style style.object_style) cs ≡ map penned (bare_text style cs)
bare_penned style [] = refl
bare_penned style (c ∷ cs) = ap (λ l. record { char = c; pen = look_of_style style.object_style } ∷ l) (bare_penned style cs)

compound_penned : (paint : ℕ → ContentStyle → ContentStyle) (has : Flags → Bool) (runs : List MarkRun) (skin : RowSkin) (style : LineStyle) (n : ℕ) (k : Compound) (t : Bool) → IsUtf8 k.src.now
    → penned_chars (cond t (text_pieces paint runs (compound_style skin style (run_of k)).object_style n (chars k.src.now)) (compound_piece skin style k ∷ []))
    ≡ map penned (cond t (counted_text paint runs (compound_style skin style (run_of k)) n (chars k.src.now)) (bare_text (compound_style skin style (run_of k)) (chars k.src.now)))
compound_penned paint has runs skin style n k true utf8 = text_penned paint runs (compound_style skin style (run_of k)) n (chars k.src.now) (scalars-chars k.src.now utf8)
compound_penned paint has runs skin style n k false utf8 = append-nil (in_pen (look_of_style (compound_style skin style (run_of k)).object_style) (chars k.src.now)) ∙ bare_penned (compound_style skin style (run_of k)) (chars k.src.now)

compounds_penned : (paint : ℕ → ContentStyle → ContentStyle) (has : Flags → Bool) (runs : List MarkRun) (skin : RowSkin) (style : LineStyle) (n : ℕ) (ks : List Compound) → AllByRecursion (λ k. IsUtf8 k.src.now) ks
    → penned_chars (marked_compounds paint has runs skin style n ks) ≡ map penned (seen_compounds paint has runs skin style n ks)
compounds_penned paint has runs skin style n [] utf8 = refl
compounds_penned paint has runs skin style n (k ∷ ks) utf8 =
    let m = n + counted has (flagged_of k) in
    penned_both (marked_compound paint has runs skin style n k) (marked_compounds paint has runs skin style m ks)
    ∙ ap (λ l. l ++ penned_chars (marked_compounds paint has runs skin style m ks)) (compound_penned paint has runs skin style n k (has (flags_of k)) utf8.0)
    ∙ ap (λ l. map penned (seen_compound paint has runs skin style n k) ++ l) (compounds_penned paint has runs skin style m ks utf8.1)
    ∙ sym (map-append penned (seen_compound paint has runs skin style n k) (seen_compounds paint has runs skin style m ks))

-- THE LAW: the characters of a composite, each with its pen, are those of its pieces
pub seen_shown : (paint : ℕ → ContentStyle → ContentStyle) (has : CompositeKind → Flags → Bool) (runs : List MarkRun) (skin : RowSkin) (n : ℕ) (l : FmtComposite) → AllByRecursion (λ k. IsUtf8 k.src.now) l.compounds.items
    → map penned (seen_text paint has runs skin n l) ≡ penned_chars (marked_compounds paint (has l.kind) runs skin (line_style skin l.kind) n l.compounds.items)
seen_shown paint has runs skin n l utf8 = sym (compounds_penned paint (has l.kind) runs skin (line_style skin l.kind) n l.compounds.items utf8)
