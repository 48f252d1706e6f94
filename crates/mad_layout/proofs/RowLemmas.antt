-- Rows: how many columns the pieces of a line fill.
use Rattle.std.proofs.Common.{◌≡◌, ℕ, ◌+◌, ◌-◌, ◌≤◌, List, [], ◌∷◌, ◌++◌, map, Option, Some, None, refl, ap, arith}
use Rattle.std.specs.Prelude.{Bool, unwrap_or, true, false, IfSome, if◌then◌else◌}
use Rattle.std.specs.Str.{chars}
use Rattle.mad_md.specs.declared.alignment.Alignment.{Alignment}
use Rattle.mad_md.specs.declared.alignment.Alignment.TheVariants.{Unspecified, Left, Center, Right}
use Rattle.mad_md.specs.declared.compound.Compound.{Compound}
use Rattle.mad_md.specs.Flagged.{flagged_text, flagged_of, flags_of}
use Rattle.mad_style.specs.declared.compound_styles.CompoundStyle.{CompoundStyle}
use Rattle.mad_format.specs.LineRules.{around_cell, beside_cell}
use Rattle.mad_style.specs.declared.line_styles.LineStyle.{LineStyle}
use Rattle.mad_style.specs.LineStyles.{margins_at}
use Rattle.mad_measure.specs.TextColumns.{columns, width_of}
use Rattle.mad_measure.specs.Completions.{left_completion}
use Rattle.mad_measure.specs.declared.spacing.Spacing.{Spacing}
use Rattle.mad_measure.proofs.AllLemmas.{all_joined}
use Rattle.mad_measure.proofs.FlaggedLemmas.{width_of-append, width_of-flagged}
use Rattle.mad_draw.specs.Pieces.{RowPiece, IsShownPiece, AreShownPieces, pieces_columns, spaces}
use Rattle.mad_draw.proofs.PieceLemmas.{columns-both, spaces_columns, shown_spaces}
use Rattle.mad_rows.specs.declared.row_skin.RowSkin.{RowSkin}
use Rattle.mad_format.specs.declared.composite.FmtComposite.{FmtComposite}
use Rattle.mad_format.specs.declared.line.FmtLine.TheVariants.{Normal}
use Rattle.mad_layout.specs.Drawable.{FillsItsPlace, IsDrawable}
use Rattle.mad_rows.specs.Rows.{cell_margins, compound_piece, prefix_pieces, left_of_place, right_of_place, align_in, place_of, inner_columns, inner_blanks, outer_blanks, margins_of, composite_pieces, line_pieces}
use Rattle.mad_rows.specs.RowStyles.{line_style}

-- ---- compounds

-- the pieces of compounds take the columns of their flagged text
pub compounds_columns : (skin : RowSkin) (style : LineStyle) (ps : List Compound) → pieces_columns (map (compound_piece skin style) ps) ≡ width_of (flagged_text ps)
compounds_columns skin style [] = refl
compounds_columns skin style (p ∷ ps) =
    let rest : pieces_columns (map (compound_piece skin style) ps) ≡ width_of (flagged_text ps) = compounds_columns skin style ps in
    let own : width_of (flagged_of p) ≡ columns (chars p.src.now) = width_of-flagged (flags_of p) (chars p.src.now) in
    let both : width_of (flagged_of p ++ flagged_text ps) ≡ width_of (flagged_of p) + width_of (flagged_text ps) = width_of-append (flagged_of p) (flagged_text ps) in
    omega (arith, rest, own, both)

-- ---- a line

-- no more blanks are left of a text than there is room beside it
pub left_completion-le : (align : Alignment) (rest : ℕ) → left_completion align rest ≤ rest
left_completion-le Unspecified rest = omega arith
left_completion-le Left rest = omega arith
left_completion-le Center rest = omega arith
left_completion-le Right rest = omega arith

-- a line fills its own place
own_place : (spacing : Option Spacing) (n : ℕ) → IfSome spacing (λ s. n ≤ s.width)
    → left_of_place (align_in spacing) n (place_of spacing) + n + right_of_place (align_in spacing) n (place_of spacing) ≡ unwrap_or (place_of spacing) n
own_place None n h = omega arith
own_place (Some s) n h = let half : left_completion s.align (s.width - n) ≤ s.width - n = left_completion-le s.align (s.width - n) in omega (arith, h, half)

-- A composite fills its own place, beside it are the blanks of a wider one, those on its right only where they are asked for.
composite_columns : (skin : RowSkin) (outer : Option ℕ) (margins : ℕ × ℕ) (right : Bool) (l : FmtComposite) → FillsItsPlace skin l
    → pieces_columns (composite_pieces skin outer margins right l)
    ≡ (outer_blanks (line_style skin l.kind).align outer margins l).0 + inner_columns l + pieces_columns (if right then spaces skin.paragraph.compound_style (outer_blanks (line_style skin l.kind).align outer margins l).1 else [])
composite_columns skin outer margins right l h =
    let style : LineStyle = line_style skin l.kind in
    let blank : CompoundStyle = skin.paragraph.compound_style in
    let own : (inner_blanks l).0 + l.visible_length + (inner_blanks l).1 ≡ inner_columns l = own_place l.spacing l.visible_length h.place in
    let blanks : ℕ × ℕ = outer_blanks style.align outer margins l in
    let last : List RowPiece = if right then spaces blank blanks.1 else [] in
    let tail3 : List RowPiece = spaces style.compound_style (inner_blanks l).1 ++ last in
    let tail2 : List RowPiece = map (compound_piece skin style) l.compounds.items ++ tail3 in
    let tail1 : List RowPiece = prefix_pieces skin l.kind ++ tail2 in
    let tail0 : List RowPiece = spaces style.compound_style (inner_blanks l).0 ++ tail1 in
    let e0 : pieces_columns (spaces blank blanks.0 ++ tail0) ≡ pieces_columns (spaces blank blanks.0) + pieces_columns tail0 = columns-both (spaces blank blanks.0) tail0 in
    let e1 : pieces_columns tail0 ≡ pieces_columns (spaces style.compound_style (inner_blanks l).0) + pieces_columns tail1 = columns-both (spaces style.compound_style (inner_blanks l).0) tail1 in
    let e2 : pieces_columns tail1 ≡ pieces_columns (prefix_pieces skin l.kind) + pieces_columns tail2 = columns-both (prefix_pieces skin l.kind) tail2 in
    let e3 : pieces_columns tail2 ≡ pieces_columns (map (compound_piece skin style) l.compounds.items) + pieces_columns tail3 = columns-both (map (compound_piece skin style) l.compounds.items) tail3 in
    let e4 : pieces_columns tail3 ≡ pieces_columns (spaces style.compound_style (inner_blanks l).1) + pieces_columns last = columns-both (spaces style.compound_style (inner_blanks l).1) last in
    let s0 : pieces_columns (spaces blank blanks.0) ≡ blanks.0 = spaces_columns blank blanks.0 in
    let s1 : pieces_columns (spaces style.compound_style (inner_blanks l).0) ≡ (inner_blanks l).0 = spaces_columns style.compound_style (inner_blanks l).0 in
    let s4 : pieces_columns (spaces style.compound_style (inner_blanks l).1) ≡ (inner_blanks l).1 = spaces_columns style.compound_style (inner_blanks l).1 in
    let text : pieces_columns (map (compound_piece skin style) l.compounds.items) ≡ width_of (flagged_text l.compounds.items) = compounds_columns skin style l.compounds.items in
    omega (arith, h.measured, h.indent_is, own, e0, e1, e2, e3, e4, s0, s1, s4, text)

shown_if : (right : Bool) (style : CompoundStyle) (n : ℕ) → AreShownPieces (if right then spaces style n else [])
shown_if true style n = shown_spaces style n
shown_if false style n = tt

composite_shown : (skin : RowSkin) (outer : Option ℕ) (margins : ℕ × ℕ) (right : Bool) (l : FmtComposite) → FillsItsPlace skin l → AreShownPieces (composite_pieces skin outer margins right l)
composite_shown skin outer margins right l h =
    let style : LineStyle = line_style skin l.kind in
    let blank : CompoundStyle = skin.paragraph.compound_style in
    let blanks : ℕ × ℕ = outer_blanks style.align outer margins l in
    all_joined IsShownPiece (spaces blank blanks.0) _ (shown_spaces blank blanks.0)
    (all_joined IsShownPiece (spaces style.compound_style (inner_blanks l).0) _ (shown_spaces style.compound_style (inner_blanks l).0)
    (all_joined IsShownPiece (prefix_pieces skin l.kind) _ h.prefix
    (all_joined IsShownPiece (map (compound_piece skin style) l.compounds.items) _ h.text
    (all_joined IsShownPiece (spaces style.compound_style (inner_blanks l).1) _ (shown_spaces style.compound_style (inner_blanks l).1)
    (shown_if right blank blanks.1)))))

-- a line that is drawn exactly fills its row
pub line_columns : (skin : RowSkin) (width : ℕ) (l : FmtComposite) → IsDrawable skin width l → pieces_columns (line_pieces skin (Some width) true (Normal l)) ≡ width
line_columns skin width l h =
    let style : LineStyle = line_style skin l.kind in
    let blank : CompoundStyle = skin.paragraph.compound_style in
    let m : ℕ × ℕ = margins_of skin (Some width) l in
    let m_is : m ≡ h.margins = ap (λ o. unwrap_or o (margins_at style (Some width))) h.margins_are in
    let m0 : m.0 ≡ h.margins.0 = ap (λ (p : ℕ × ℕ). p.0) m_is in
    let m1 : m.1 ≡ h.margins.1 = ap (λ (p : ℕ × ℕ). p.1) m_is in
    let blanks : ℕ × ℕ = outer_blanks style.align (Some width) m l in
    let rest : ℕ = width - (inner_columns l + m.0 + m.1) in
    let half : left_completion style.align rest ≤ rest = left_completion-le style.align rest in
    let all : pieces_columns (composite_pieces skin (Some width) m true l) ≡ blanks.0 + inner_columns l + pieces_columns (spaces blank blanks.1) = composite_columns skin (Some width) m true l h.fills in
    let last : pieces_columns (spaces blank blanks.1) ≡ blanks.1 = spaces_columns blank blanks.1 in
    omega (arith, h.fits, m0, m1, half, all, last)

-- its pieces show cells of their own
pub line_shown : (skin : RowSkin) (width : ℕ) (l : FmtComposite) → IsDrawable skin width l → AreShownPieces (line_pieces skin (Some width) true (Normal l))
line_shown skin width l h = composite_shown skin (Some width) (margins_of skin (Some width) l) true l h.fills

-- ---- a cell

both_sides : (b : Bool) → beside_cell b + beside_cell b ≡ around_cell b
both_sides true = refl
both_sides false = refl

-- a cell that fills its place takes the columns of that, and those of its blanks
pub cell_columns : (skin : RowSkin) (l : FmtComposite) → FillsItsPlace skin l → pieces_columns (composite_pieces skin None (cell_margins skin) true l) ≡ inner_columns l + around_cell skin.cell_blanks
cell_columns skin l h =
    let n : ℕ = beside_cell skin.cell_blanks in
    let blank : CompoundStyle = skin.paragraph.compound_style in
    let all : pieces_columns (composite_pieces skin None (cell_margins skin) true l) ≡ 0 + n + inner_columns l + pieces_columns (spaces blank (0 + n)) = composite_columns skin None (cell_margins skin) true l h in
    let last : pieces_columns (spaces blank (0 + n)) ≡ 0 + n = spaces_columns blank (0 + n) in
    omega (arith, all, last, both_sides skin.cell_blanks)

-- its pieces show cells of their own
pub cell_shown : (skin : RowSkin) (l : FmtComposite) → FillsItsPlace skin l → AreShownPieces (composite_pieces skin None (cell_margins skin) true l)
cell_shown skin l h = composite_shown skin None (cell_margins skin) true l h
