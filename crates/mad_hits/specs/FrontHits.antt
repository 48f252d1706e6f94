-- Hits of what is sought in rows of a page: they begin behind the fronts' columns, in the room of the rows.
use Rattle.std.specs.Prelude.{◌≡◌, ◌⊎◌, ℕ, ◌+◌, ◌-◌, List, [], ◌∷◌, ◌++◌, map, Result, IsOk, IsErr}
use Rattle.regex.specs.Patterns.{Re}
use Rattle.mad_term.specs.Draws.{DrawsSome}
use Rattle.mad_term.specs.Trace.{Trace, after}
use Rattle.mad_term.specs.declared.errors.Error.{Error}
use Rattle.mad_wrap.specs.WrapLines.{capped}
use Rattle.mad_format.specs.declared.line.FmtLine.{FmtLine}
use Rattle.mad_style.specs.declared.compound_styles.CompoundStyle.{CompoundStyle}
use Rattle.mad_rows.specs.declared.row_skin.RowSkin.{RowSkin}
use Rattle.mad_hits.specs.Drawn.{AreHitsShown, hits_bytes}
use Rattle.mad_hits.specs.Hits.{Marked}
use Rattle.mad_hits.specs.Parts.{AreRowHits}
use Rattle.mad_hits.specs.Styled.{overlaid}
use Rattle.mad_sections.specs.Gutters.{columns_of}
use Rattle.mad_page_rows.specs.FaceLaws.{fronts}
use Rattle.mad_page_rows.specs.Faces.{has_ascii_boxes, line_skin}
use Rattle.mad_pages.specs.Fronts.{FrontContent, front_at}
use Rattle.mad_pages.specs.declared.fronts.Front.{Front}
use Rattle.mad_hits.specs.Rooms.{room_columns}
use Rattle.mad_hits.specs.declared.rooms.RowRoom.{RowRoom}

-- a hit of a line, so many columns further right, whose characters are overwritten with the style of hits
abbrev pub hit_behind : CompoundStyle → ℕ → Marked → Marked
hit_behind style n hit = record { column = capped (n + hit.column); chars = map (overlaid style) hit.chars }

-- The hits of what is sought in a row of a page in its room: those of its line, in the columns that the front leaves and in the skin of the line.
abbrev pub AreLineHits : RowSkin → RowRoom → Re → List FmtLine → FrontContent → List ℕ → ℕ → List Marked → Type 0
AreLineHits skin room sought lines front starts row hits = AreRowHits (line_skin skin front) (room_columns room - columns_of (has_ascii_boxes skin) front.gutters) sought lines starts row hits

-- where they are drawn: each behind the columns before the room and those of the front, in the style of hits
abbrev pub hits_behind : RowSkin → CompoundStyle → RowRoom → FrontContent → List Marked → List Marked
hits_behind skin style room front hits = map (hit_behind style (capped (room.left + fronts skin front.gutters))) hits

-- ---- what is written

-- What a call does that draws the hits of the row of this number, in row y of the screen: they go out whole, or it is refused. Where memory for them
-- is refused, nothing went out.
abbrev pub WritesRowHits : {T : Type 0} → RowSkin → CompoundStyle → RowRoom → Re → List FmtLine → List Front → List ℕ → ℕ → ℕ → Trace → Result T Error → Trace → Type 0
WritesRowHits skin style room sought lines fs starts y row old r new =
    DrawsSome (AreLineHits skin room sought lines (front_at fs row) starts row) (λ (hits : List Marked). hits_bytes room.end y (hits_behind skin style room (front_at fs row) hits)) old r new

-- What a call does that draws those of rows, from row y of the screen on: those of each row go out whole, in order, up to a row that is refused.
abbrev pub WritesRowsHits : {T : Type 0} → RowSkin → CompoundStyle → RowRoom → Re → List FmtLine → List Front → List ℕ → ℕ → List ℕ → Trace → Result T Error → Trace → Type 0
WritesRowsHits skin style room sought lines fs starts y [] old r new = IsOk r × (new ≡ old)
WritesRowsHits skin style room sought lines fs starts y (row ∷ rows) old r new =
    ((hits : List Marked) × AreLineHits skin room sought lines (front_at fs row) starts row hits
    × WritesRowsHits skin style room sought lines fs starts (y + 1) rows (after old (hits_bytes room.end y (hits_behind skin style room (front_at fs row) hits))) r new)
    ⊎ (IsErr r × WritesRowHits skin style room sought lines fs starts y row old r new)

-- ---- what is shown

-- The bytes of the hits of what is sought in a row of a page, in row y of the screen: they are written in order, and shown.
pub record AreHitsBehind (skin : RowSkin) (style : CompoundStyle) (room : RowRoom) (sought : Re) (lines : List FmtLine) (front : FrontContent) (starts : List ℕ) (y row : ℕ) (bytes : List ℕ) : Type 0 where
  pub hits : List Marked
  pub are : AreLineHits skin room sought lines front starts row hits
  pub written : bytes ≡ hits_bytes room.end y (hits_behind skin style room front hits)
  pub shown : AreHitsShown room.end y (hits_behind skin style room front hits) bytes

-- those of the row of this number
abbrev pub IsRowMarked : RowSkin → CompoundStyle → RowRoom → Re → List FmtLine → List Front → List ℕ → ℕ → ℕ → List ℕ → Type 0
IsRowMarked skin style room sought lines fs starts y row bytes = AreHitsBehind skin style room sought lines (front_at fs row) starts y row bytes

-- the bytes of those in rows, from row y of the screen on
abbrev pub AreRowsMarked : RowSkin → CompoundStyle → RowRoom → Re → List FmtLine → List Front → List ℕ → ℕ → List ℕ → List ℕ → Type 0
AreRowsMarked skin style room sought lines fs starts y [] bytes = bytes ≡ []
AreRowsMarked skin style room sought lines fs starts y (row ∷ rows) bytes =
    (first : List ℕ) × (others : List ℕ) × (bytes ≡ first ++ others) × IsRowMarked skin style room sought lines fs starts y row first × AreRowsMarked skin style room sought lines fs starts (y + 1) rows others
