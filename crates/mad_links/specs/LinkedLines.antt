-- The pieces of a line whose compounds have links.
use Rattle.std.specs.Prelude.{◌≡◌, ℕ, Bool, List, [], ◌++◌, map, Option, if◌then◌else◌}
use Rattle.mad_draw.specs.Pieces.{penned_chars, spaces}
use Rattle.mad_format.specs.declared.composite.FmtComposite.{FmtComposite}
use Rattle.mad_rows.specs.Rows.{prefix_pieces, inner_blanks, outer_blanks, compound_piece}
use Rattle.mad_rows.specs.RowStyles.{line_style}
use Rattle.mad_rows.specs.declared.row_skin.RowSkin.{RowSkin}
use Rattle.mad_links.specs.LinkRows.{LinkedPiece}
use Rattle.mad_links.specs.LinkedAreas.{in_no_link, without_links}

-- The pieces of a composite of which only what its compounds say has links: all else, its blanks and its prefix, is in none.
abbrev pub composite_links : RowSkin → Option ℕ → ℕ × ℕ → Bool → FmtComposite → List LinkedPiece → List LinkedPiece
composite_links skin outer margins filled l said =
    let style = line_style skin l.kind in
    let blanks = outer_blanks style.align outer margins l in
    map in_no_link (spaces skin.paragraph.compound_style blanks.0)
    ++ (map in_no_link (spaces style.compound_style (inner_blanks l).0)
    ++ (map in_no_link (prefix_pieces skin l.kind)
    ++ (said
    ++ (map in_no_link (spaces style.compound_style (inner_blanks l).1)
    ++ map in_no_link (if filled then spaces skin.paragraph.compound_style blanks.1 else [])))))

-- such pieces say what the compounds do
abbrev pub SaysCompounds : RowSkin → FmtComposite → List LinkedPiece → Type 0
SaysCompounds skin l said = without_links said ≡ map (compound_piece skin (line_style skin l.kind)) l.compounds.items

-- such pieces show the characters of the compounds with their pens, however they are cut
abbrev pub ShowsCompounds : RowSkin → FmtComposite → List LinkedPiece → Type 0
ShowsCompounds skin l said = penned_chars (without_links said) ≡ penned_chars (map (compound_piece skin (line_style skin l.kind)) l.compounds.items)
