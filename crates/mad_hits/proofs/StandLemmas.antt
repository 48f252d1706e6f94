-- Hits stand in their rows: the cells where they are drawn have their characters.
use Rattle.std.proofs.Common.{◌≡◌, ℕ, zero, suc, ◌+◌, ◌==◌, ◌^◌, ◌<◌, ◌≤◌, Bool, true, false, List, [], ◌∷◌, ◌++◌, map, take, drop, length, Option, Some, refl, ap, sym, ◌∙◌, subst, arith, append_assoc, length-append}
use Rattle.std.specs.Prelude.{chars, if◌then◌else◌, replicate}
use Rattle.std.specs.List.{AllByRecursion, flat_map}
use Rattle.std.proofs.lemmas.Bool.Decides.{nat_tests}
use Rattle.std.proofs.lemmas.List.{map-append, take-append-drop}
use Rattle.std.proofs.lemmas.List.Concat.{flat_map-append}
use Rattle.std.proofs.Math.Seq.{drop-append-add, drop-append_seam, take-append_seam}
use Rattle.mad_characters.specs.Columns.{char_columns}
use Rattle.mad_md.specs.Flagged.{run_of}
use Rattle.mad_md.specs.declared.compound.Compound.{Compound}
use Rattle.mad_measure.specs.TextColumns.{columns}
use Rattle.mad_screen.specs.Glyph.{Glyph, Look}
use Rattle.mad_screen.specs.Grid.{glyphs}
use Rattle.mad_screen.specs.Painting.{IsWhole, attach, look_of_style, piece_cells}
use Rattle.mad_screen.proofs.Paints.{attach_more}
use Rattle.mad_screen.proofs.PaintingLemmas.{length-glyphs}
use Rattle.mad_style.specs.StyledChars.{char_alone, styled_char}
use Rattle.mad_style.specs.declared.compound_styles.CompoundStyle.{CompoundStyle}
use Rattle.mad_style.specs.declared.line_styles.LineStyle.{LineStyle}
use Rattle.mad_style.specs.declared.styled_chars.StyledChar.{StyledChar}
use Rattle.mad_draw.specs.Pieces.{AreShownPieces, IsShownPiece, PennedChar, RowPiece, penned_chars, pieces_columns, spaces}
use Rattle.mad_draw.specs.PennedCells.{penned_attached, penned_cells}
use Rattle.mad_draw.proofs.CellLemmas.{cells_of_pieces}
use Rattle.mad_draw.proofs.PieceLemmas.{length-pieces_cells, pieces_cells, spaces_columns}
use Rattle.mad_format.specs.Indents.{indent}
use Rattle.mad_format.specs.declared.composite.FmtComposite.{FmtComposite}
use Rattle.mad_rows.specs.RowStyles.{compound_style, line_style}
use Rattle.mad_rows.specs.Rows.{composite_pieces, compound_piece, inner_blanks, outer_blanks, prefix_pieces}
use Rattle.mad_rows.specs.declared.row_skin.RowSkin.{RowSkin}
use Rattle.mad_hits.specs.Drawn.{marked_columns}
use Rattle.mad_hits.specs.HitLaws.{HasIndent, StandsWithin, cell_chars, penned}
use Rattle.mad_hits.specs.Hits.{Marked, marked_at, span, text_column, widthless}
use Rattle.mad_hits.specs.Styled.{overlaid, styled_compound, styled_text}

-- ---- cells of characters

by_bool : (P : Bool → Type 0) (b : Bool) → (b ≡ true → P true) → (b ≡ false → P false) → P b
by_bool P true on off = on refl
by_bool P false on off = off refl

whole_attach : (n : ℕ) (pen : Look) (c : ℕ) (r : List ℕ × List Glyph) → 0 < n → (attach (Some n) pen c r).0 ≡ []
whole_attach zero pen c r some = absurd (omega arith)
whole_attach (suc k) pen c r some = refl

whole_front : (t : List StyledChar) → IsWhole (map char_alone t) → (penned_attached (map penned t)).0 ≡ []
whole_front [] h = refl
whole_front (c ∷ t) h = whole_attach (char_columns (char_alone c)) _ (char_alone c) (penned_attached (map penned t)) h

attached_parts : (a b : List PennedChar) → (penned_attached b).0 ≡ [] → penned_attached (a ++ b) ≡ ((penned_attached a).0, (penned_attached a).1 ++ (penned_attached b).1)
attached_parts [] b none = ap (λ (marks : List ℕ). (marks, (penned_attached b).1)) none
attached_parts (c ∷ a) b none = ap (attach (Some (char_columns c.char)) c.pen c.char) (attached_parts a b none) ∙ attach_more (Some (char_columns c.char)) c.pen c.char (penned_attached a) (penned_attached b).1

length_attach : (n : ℕ) (pen : Look) (c : ℕ) (r : List ℕ × List Glyph) → length (attach (Some n) pen c r).1 ≡ n + length r.1
length_attach zero pen c r = omega arith
length_attach (suc k) pen c r =
    let all = length-append (glyphs (c ∷ r.0) k pen) r.1 in
    let own = length-glyphs (c ∷ r.0) k pen in
    omega (arith, all, own)

cells_columns : (t : List StyledChar) → length (penned_cells (map penned t)) ≡ columns (map char_alone t)
cells_columns [] = refl
cells_columns (c ∷ t) = let own = length_attach (char_columns (char_alone c)) (penned c).pen (char_alone c) (penned_attached (map penned t)) in let rest = cells_columns t in omega (arith, own, rest)

-- with other pens they have the same characters
same_glyphs : (k : ℕ) (pen other : Look) (cs ds : List ℕ) → cs ≡ ds → cell_chars (glyphs cs k pen) ≡ cell_chars (glyphs ds k other)
same_glyphs k pen other cs ds same = ap (λ (l : List ℕ). cell_chars (glyphs l k pen)) same ∙ ap (λ (l : List (List ℕ)). ds ∷ l) (tails k)
  where
    tails : (k : ℕ) → cell_chars (replicate k (record { chars = []; pen = pen })) ≡ cell_chars (replicate k (record { chars = []; pen = other }))
    tails zero = refl
    tails (suc k) = ap (λ (l : List (List ℕ)). [] ∷ l) (tails k)

same_attach : (n : ℕ) (pen other : Look) (c : ℕ) (r s : List ℕ × List Glyph) → r.0 ≡ s.0 → cell_chars r.1 ≡ cell_chars s.1 → ((attach (Some n) pen c r).0 ≡ (attach (Some n) other c s).0) × (cell_chars (attach (Some n) pen c r).1 ≡ cell_chars (attach (Some n) other c s).1)
same_attach zero pen other c r s marks cells = (ap (λ (m : List ℕ). c ∷ m) marks, cells)
same_attach (suc k) pen other c r s marks cells = (
  refl,
  map-append (λ (g : Glyph). g.chars) (glyphs (c ∷ r.0) k pen) r.1
      ∙ ap (λ (l : List (List ℕ)). l ++ cell_chars r.1) (same_glyphs k pen other (c ∷ r.0) (c ∷ s.0) (ap (λ (m : List ℕ). c ∷ m) marks))
      ∙ ap (λ (l : List (List ℕ)). cell_chars (glyphs (c ∷ s.0) k other) ++ l) cells
      ∙ sym (map-append (λ (g : Glyph). g.chars) (glyphs (c ∷ s.0) k other) s.1),
)

same_cells : (style : CompoundStyle) (t : List StyledChar)
    → ((penned_attached (map penned (map (overlaid style) t))).0 ≡ (penned_attached (map penned t)).0) × (cell_chars (penned_attached (map penned (map (overlaid style) t))).1 ≡ cell_chars (penned_attached (map penned t)).1)
same_cells style [] = (refl, refl)
same_cells style (c ∷ t) =
    let rest = same_cells style t in same_attach (char_columns (char_alone c)) (penned (overlaid style c)).pen (penned c).pen (char_alone c) (penned_attached (map penned (map (overlaid style) t))) (penned_attached (map penned t)) rest.0 rest.1

same_chars : (style : CompoundStyle) (t : List StyledChar) → map char_alone (map (overlaid style) t) ≡ map char_alone t
same_chars style [] = refl
same_chars style (c ∷ t) = ap (λ (l : List ℕ). char_alone c ∷ l) (same_chars style t)

-- a hit that stands in a row does so in any style of hits
pub styled_stands : (style : CompoundStyle) (width : ℕ) (row : List RowPiece) (hit : Marked) → StandsWithin width row hit → StandsWithin width row (record { column = hit.column; chars = map (overlaid style) hit.chars })
styled_stands style width row hit stands within whole =
    let same : map char_alone (map (overlaid style) hit.chars) ≡ map char_alone hit.chars = same_chars style hit.chars in
    let wide : columns (map char_alone (map (overlaid style) hit.chars)) ≡ marked_columns hit = ap columns same in
    ap (λ (n : ℕ). cell_chars (take n (drop hit.column (penned_cells (penned_chars row))))) wide
    ∙ stands (subst (λ (n : ℕ). hit.column + n ≤ width) wide within) (subst IsWhole same whole)
    ∙ sym (same_cells style hit.chars).1

-- ---- the characters of a composite

in_pen_penned : (style : CompoundStyle) (cs : List ℕ) → map (λ (c : ℕ). let x : PennedChar = record { char = c; pen = look_of_style style.object_style } in x) cs ≡ map penned (map (styled_char style) cs)
in_pen_penned style [] = refl
in_pen_penned style (c ∷ cs) = ap (λ l. record { char = c; pen = look_of_style style.object_style } ∷ l) (in_pen_penned style cs)

compounds_penned : (skin : RowSkin) (l : FmtComposite) (ks : List Compound) → penned_chars (map (compound_piece skin (line_style skin l.kind)) ks) ≡ map penned (flat_map (styled_compound skin l) ks)
compounds_penned skin l [] = refl
compounds_penned skin l (k ∷ ks) =
    let style = compound_style skin (line_style skin l.kind) (run_of k) in
    ap (λ (x : List PennedChar). x ++ penned_chars (map (compound_piece skin (line_style skin l.kind)) ks)) (in_pen_penned style (chars k.src.now))
    ∙ ap (λ (x : List PennedChar). map penned (styled_compound skin l k) ++ x) (compounds_penned skin l ks)
    ∙ sym (map-append penned (styled_compound skin l k) (flat_map (styled_compound skin l) ks))

-- ---- where a hit ends

whole_after_marks : (t : List StyledChar) → IsWhole (map char_alone (drop (widthless (map char_alone t)) t))
whole_after_marks [] = tt
whole_after_marks (c ∷ t) =
    by_bool (λ b. (char_columns (char_alone c) == 0) ≡ b → IsWhole (map char_alone (drop (if b then 1 + widthless (map char_alone t) else 0) (c ∷ t)))) (char_columns (char_alone c) == 0)
    (λ e same. subst (λ (n : ℕ). IsWhole (map char_alone (drop n (c ∷ t)))) (let it : suc (widthless (map char_alone t)) ≡ 1 + widthless (map char_alone t) = omega arith in it) (whole_after_marks t))
    (λ e same. let some : 0 < char_columns (char_alone c) = grind (arith, nat_tests, same) in some) refl

whole_after : (count : ℕ) (t : List StyledChar) → IsWhole (map char_alone (drop (span count (map char_alone t)) t))
whole_after zero t = subst (λ (n : ℕ). IsWhole (map char_alone (drop n t))) (let it : widthless (map char_alone t) ≡ 0 + widthless (map char_alone t) = omega arith in it) (whole_after_marks t)
whole_after (suc k) [] = drop_none (span (suc k) [])
  where
    drop_none : (n : ℕ) → IsWhole (map char_alone (drop n []))
    drop_none zero = tt
    drop_none (suc n) = tt
whole_after (suc k) (c ∷ t) =
    subst (λ (n : ℕ). IsWhole (map char_alone (drop n (c ∷ t)))) (let it : suc (k + widthless (drop k (map char_alone t))) ≡ suc k + widthless (drop k (map char_alone t)) = omega arith in it) (whole_after k t)

-- ---- a part of a text, among its cells

part_cells : (a b c : List StyledChar) (rest : List Glyph) → IsWhole (map char_alone b) → IsWhole (map char_alone c)
    → take (columns (map char_alone b)) (drop (columns (map char_alone a)) (penned_cells (map penned (a ++ (b ++ c))) ++ rest)) ≡ penned_cells (map penned b)
part_cells a b c rest b_whole c_whole =
    let pa = penned_cells (map penned a) in
    let pb = penned_cells (map penned b) in
    let pc = penned_cells (map penned c) in
    let later : penned_attached (map penned (b ++ c)) ≡ ((penned_attached (map penned b)).0, pb ++ pc) =
    ap penned_attached (map-append penned b c) ∙ attached_parts (map penned b) (map penned c) (whole_front c c_whole) in
    let none : (penned_attached (map penned (b ++ c))).0 ≡ [] = ap (λ (r : List ℕ × List Glyph). r.0) later ∙ whole_front b b_whole in
    let all : penned_cells (map penned (a ++ (b ++ c))) ≡ pa ++ (pb ++ pc) =
    ap penned_cells (map-append penned a (b ++ c))
    ∙ ap (λ (r : List ℕ × List Glyph). r.1) (attached_parts (map penned a) (map penned (b ++ c)) none)
    ∙ ap (λ (r : List ℕ × List Glyph). pa ++ r.1) later in
    ap (λ (gs : List Glyph). take (columns (map char_alone b)) (drop (columns (map char_alone a)) (gs ++ rest))) all
    ∙ ap (λ (gs : List Glyph). take (columns (map char_alone b)) (drop (columns (map char_alone a)) gs)) (append_assoc pa (pb ++ pc) rest)
    ∙ ap (λ (n : ℕ). take (columns (map char_alone b)) (drop n (pa ++ ((pb ++ pc) ++ rest)))) (sym (cells_columns a))
    ∙ ap (take (columns (map char_alone b))) (drop-append_seam pa ((pb ++ pc) ++ rest))
    ∙ ap (take (columns (map char_alone b))) (append_assoc pb pc rest)
    ∙ ap (λ (n : ℕ). take n (pb ++ (pc ++ rest))) (sym (cells_columns b))
    ∙ take-append_seam pb (pc ++ rest)

-- ---- what is in front

behind_front : (ps qs : List RowPiece) (n k : ℕ) → pieces_columns ps ≡ n → drop (n + k) (pieces_cells (ps ++ qs)) ≡ drop k (pieces_cells qs)
behind_front ps qs n k is =
    ap (drop (n + k)) (flat_map-append (λ (p : RowPiece). piece_cells p.style p.text) ps qs)
    ∙ ap (λ (m : ℕ). drop (m + k) (pieces_cells ps ++ pieces_cells qs)) (sym (length-pieces_cells ps ∙ is))
    ∙ drop-append-add (pieces_cells ps) (pieces_cells qs) k

all_parted : (P : RowPiece → Type 0) (a b : List RowPiece) → AllByRecursion P (a ++ b) → AllByRecursion P a × AllByRecursion P b
all_parted P [] b h = (tt, h)
all_parted P (x ∷ a) b h = let rest = all_parted P a b h.1 in ((h.0, rest.0), rest.1)

regrouped : (o i p t r b : List RowPiece) → (o ++ (i ++ (p ++ (t ++ r)))) ++ b ≡ o ++ (i ++ (p ++ (t ++ (r ++ b))))
regrouped o i p t r b =
    append_assoc o (i ++ (p ++ (t ++ r))) b
    ∙ ap (λ (l : List RowPiece). o ++ l) (append_assoc i (p ++ (t ++ r)) b)
    ∙ ap (λ (l : List RowPiece). o ++ (i ++ l)) (append_assoc p (t ++ r) b)
    ∙ ap (λ (l : List RowPiece). o ++ (i ++ (p ++ l))) (append_assoc t r b)

-- the cells behind all that is in front of a text
text_cells : (f o i p t r b : List RowPiece) (nf n_o ni np k : ℕ) → pieces_columns f ≡ nf → pieces_columns o ≡ n_o → pieces_columns i ≡ ni → pieces_columns p ≡ np
    → drop (nf + (n_o + (ni + (np + k)))) (pieces_cells (f ++ ((o ++ (i ++ (p ++ (t ++ r)))) ++ b))) ≡ drop k (pieces_cells t ++ pieces_cells (r ++ b))
text_cells f o i p t r b nf n_o ni np k hf ho hi hp =
    ap (λ (l : List RowPiece). drop (nf + (n_o + (ni + (np + k)))) (pieces_cells (f ++ l))) (regrouped o i p t r b)
    ∙ behind_front f (o ++ (i ++ (p ++ (t ++ (r ++ b))))) nf (n_o + (ni + (np + k))) hf
    ∙ behind_front o (i ++ (p ++ (t ++ (r ++ b)))) n_o (ni + (np + k)) ho
    ∙ behind_front i (p ++ (t ++ (r ++ b))) ni (np + k) hi
    ∙ behind_front p (t ++ (r ++ b)) np k hp
    ∙ ap (drop k) (flat_map-append (λ (q : RowPiece). piece_cells q.style q.text) t (r ++ b))

-- ---- a hit

-- the pieces of a composite, with others before and behind it
abbrev pub amid : RowSkin → Option ℕ → ℕ × ℕ → Bool → FmtComposite → List RowPiece → List RowPiece → List RowPiece
amid skin outer margins filled l f b = f ++ (composite_pieces skin outer margins filled l ++ b)

-- a hit of a composite whose pieces come behind `nf` columns
pub mark_stands : (skin : RowSkin) (outer : Option ℕ) (margins : ℕ × ℕ) (filled : Bool) (l : FmtComposite) (f b : List RowPiece) (nf column width count start : ℕ) → pieces_columns f ≡ nf → HasIndent skin l → AreShownPieces (amid skin outer margins filled l f b)
    → column ≡ nf + text_column skin outer margins l → width < 2 ^ 16 → StandsWithin width (amid skin outer margins filled l f b) (marked_at column (styled_text skin l) count start)
mark_stands skin outer margins filled l f b nf column width count start wide_f prefix row_shown at narrow within whole =
    let style : LineStyle = line_style skin l.kind in
    let beside : ℕ × ℕ = outer_blanks style.align outer margins l in
    let o : List RowPiece = spaces skin.paragraph.compound_style beside.0 in
    let i : List RowPiece = spaces style.compound_style (inner_blanks l).0 in
    let p : List RowPiece = prefix_pieces skin l.kind in
    let t : List RowPiece = map (compound_piece skin style) l.compounds.items in
    let r : List RowPiece = spaces style.compound_style (inner_blanks l).1 ++ (if filled then spaces skin.paragraph.compound_style beside.1 else []) in
    let text : List StyledChar = styled_text skin l in
    let t1 : List StyledChar = take start text in
    let left : List StyledChar = drop start text in
    let long : ℕ = span count (map char_alone left) in
    let t2 : List StyledChar = take long left in
    let t3 : List StyledChar = drop long left in
    let hit : Marked = marked_at column text count start in
    let row : List RowPiece = amid skin outer margins filled l f b in
    let parts_l = all_parted IsShownPiece f (composite_pieces skin outer margins filled l ++ b) row_shown in
    let parts_b = all_parted IsShownPiece (o ++ (i ++ (p ++ (t ++ r)))) b parts_l.1 in
    let parts = all_parted IsShownPiece o (i ++ (p ++ (t ++ r))) parts_b.0 in
    let parts_i = all_parted IsShownPiece i (p ++ (t ++ r)) parts.1 in
    let parts_p = all_parted IsShownPiece p (t ++ r) parts_i.1 in
    let parts_t = all_parted IsShownPiece t r parts_p.1 in
    let text_is : t1 ++ (t2 ++ t3) ≡ text = ap (λ (x : List StyledChar). t1 ++ x) (take-append-drop long left) ∙ take-append-drop start text in
    let cells_t : pieces_cells t ≡ penned_cells (map penned ((t1 ++ (t2 ++ t3)))) =
    sym (cells_of_pieces t parts_t.0) ∙ ap penned_cells (compounds_penned skin l l.compounds.items) ∙ ap (λ (x : List StyledChar). penned_cells (map penned x)) (sym text_is) in
    let here : hit.column ≡ nf + (beside.0 + ((inner_blanks l).0 + (indent skin.list_items_indentation_mode l.kind + columns (map char_alone t1)))) = omega (arith, narrow, within, at) in
    let found : take (marked_columns hit) (drop hit.column (penned_cells (penned_chars row))) ≡ penned_cells (map penned t2) =
    ap (λ (gs : List Glyph). take (marked_columns hit) (drop hit.column gs)) (cells_of_pieces row row_shown)
    ∙ ap (λ (n : ℕ). take (columns (map char_alone t2)) (drop n (pieces_cells row))) here
    ∙ ap (take (columns (map char_alone t2)))
    (text_cells f o i p t r b nf beside.0 (inner_blanks l).0 (indent skin.list_items_indentation_mode l.kind) (columns (map char_alone t1)) wide_f (spaces_columns _ beside.0) (spaces_columns _ (inner_blanks l).0) prefix)
    ∙ ap (λ (gs : List Glyph). take (columns (map char_alone t2)) (drop (columns (map char_alone t1)) (gs ++ pieces_cells (r ++ b)))) cells_t
    ∙ part_cells t1 t2 t3 (pieces_cells (r ++ b)) whole (whole_after count left) in
    ap cell_chars found
