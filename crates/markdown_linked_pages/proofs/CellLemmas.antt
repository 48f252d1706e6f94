-- Rows of tables with links, as they are written.
use Rattle.std.proofs.Common.{◌≡◌, ℕ, ◌+◌, ◌-◌, ◌<◌, ◌≤◌, true, List, [], ◌∷◌, ◌++◌, map, length, drop, get_or, Option, None, refl, sym, ap, ◌∙◌, arith, append-nil}
use Rattle.std.specs.Prelude.{Bool, slice_index, if◌then◌else◌}
use Rattle.std.proofs.lemmas.List.{at_drop_more}
use Rattle.mad_md.specs.Flagged.{Flags}
use Rattle.mad_term.specs.Styles.{piece_bytes}
use Rattle.mad_term.specs.declared.styles.ContentStyle.{ContentStyle}
use Rattle.mad_style.specs.declared.kinds.CompositeKind.{CompositeKind}
use Rattle.mad_draw.specs.Pieces.{RowPiece}
use Rattle.mad_format.specs.declared.composite.FmtComposite.{FmtComposite}
use Rattle.mad_rows.specs.Rows.{cell_margins, left_of_place, right_of_place, row_columns, vertical_piece}
use Rattle.mad_rows.specs.RowStyles.{line_style}
use Rattle.mad_rows.specs.declared.row_skin.RowSkin.{RowSkin}
use Rattle.mad_draw.specs.Pieces.{spaces}
use Rattle.mad_links.specs.LinkRows.{LinkedPiece, change_bytes, linked_bytes}
use Rattle.mad_links.specs.LinkedAreas.{in_no_link}
use Rattle.mad_links.specs.LinkedLines.{composite_links}
use Rattle.mad_mark_runs.specs.Marks.{next_start}
use Rattle.mad_mark_runs.specs.declared.mark_runs.MarkRun.{MarkRun}
use Rattle.mad_marks.specs.RowNumbers.{count_in, firsts_of}
use Rattle.mad_marked_rows.specs.LinkedRows.{linked_cells, linked_composite, linked_table_row}
use Rattle.mad_marked_rows.specs.LinkedTexts.{piece_on, pieces_on}
use Rattle.mad_marked_rows.specs.MarkedTexts.{SameFrom}
use Rattle.mad_marked_rows.proofs.CursorLemmas.{same_joined}
use Rattle.mad_marked_rows.proofs.LinkLemmas.{on_both, on_end}
use Rattle.mad_marked_rows.proofs.RowLemmas.{begins_same, cell_gone, compounds_same}

-- ---- a cell

-- pieces whose last link is closed
pub closed_pieces : (a : List (Option (List ℕ))) (old new : List ℕ) (row : List ℕ × Option ℕ) (ps : List LinkedPiece) → pieces_on a (old, None) ps ≡ row → new ≡ row.0 ++ change_bytes a row.1 None → new ≡ old ++ linked_bytes a ps
closed_pieces a old new row ps on is = is ∙ ap (λ (r : List ℕ × Option ℕ). r.0 ++ change_bytes a r.1 None) (sym on) ∙ on_end a (old, None) ps

-- by runs that say the same from here on
composite_same : (paint : ℕ → ContentStyle → ContentStyle) (has : CompositeKind → Flags → Bool) (a b : List MarkRun) (skin : RowSkin) (outer : Option ℕ) (margins : ℕ × ℕ) (filled : Bool) (n : ℕ) (l : FmtComposite) → SameFrom a b n
    → linked_composite paint has b skin outer margins filled n l ≡ linked_composite paint has a skin outer margins filled n l
composite_same paint has a b skin outer margins filled n l same =
    ap (λ (text : List LinkedPiece). composite_links skin outer margins filled l text) (compounds_same paint (has l.kind) a b skin (line_style skin l.kind) n l.compounds.items same)

-- a cell more, by runs that say the same
pub cell_on : (paint : ℕ → ContentStyle → ContentStyle) (has : CompositeKind → Flags → Bool) (runs here : List MarkRun) (skin : RowSkin) (a : List (Option (List ℕ))) (old one new all : List ℕ) (cs : List FmtComposite) (i n m : ℕ) (d : FmtComposite) → i < length cs → SameFrom runs here n
    → one ≡ old ++ piece_bytes (vertical_piece skin).style (vertical_piece skin).text → new ≡ one ++ linked_bytes a (linked_composite paint has here skin None (cell_margins skin) true n (get_or cs i d)) → m ≡ n + count_in has (get_or cs i d)
    → old ++ linked_bytes a (linked_cells paint has runs skin (firsts_of has n (drop i cs)) (drop i cs)) ≡ all → new ++ linked_bytes a (linked_cells paint has runs skin (firsts_of has m (drop (i + 1) cs)) (drop (i + 1) cs)) ≡ all
cell_on paint has runs here skin a old one new all cs i n m d h same one_is new_is m_is before =
    let c = get_or cs i d in
    let first : n ≡ slice_index (firsts_of has n (drop i cs)) 0 = sym (at_drop_more (λ l. slice_index (firsts_of has n l) 0) cs i d h) in
    let next : firsts_of has m (drop (i + 1) cs) ≡ drop 1 (firsts_of has n (drop i cs)) =
    ap (λ (x : ℕ). firsts_of has x (drop (i + 1) cs)) m_is ∙ sym (at_drop_more (λ l. drop 1 (firsts_of has n l)) cs i d h) in
    cell_gone paint has runs skin a old one new all (firsts_of has n (drop i cs)) (firsts_of has m (drop (i + 1) cs)) cs i n d h one_is first
    (new_is ∙ ap (λ (ps : List LinkedPiece). one ++ linked_bytes a ps) (composite_same paint has runs here skin None (cell_margins skin) true n c same)) next before

-- runs from the character before the next cell on say the same
pub cell_passed : (runs here next : List MarkRun) (n m k : ℕ) → n ≤ m → k ≡ m - 1 → next ≡ next_start here k → SameFrom runs here n → SameFrom runs next m
cell_passed runs here next n m k up k_is next_is same = same_joined runs here next n m up same (begins_same here next m k k_is next_is)

-- ---- a row

stays_closed : (a : List (Option (List ℕ))) (row : List ℕ × Option ℕ) (qs : List RowPiece) → row.1 ≡ None → (pieces_on a row (map in_no_link qs)).1 ≡ None
stays_closed a row [] h = h
stays_closed a row (q ∷ qs) h = stays_closed a (piece_on a row (in_no_link q)) qs refl

closed_behind : (a : List (Option (List ℕ))) (row : List ℕ × Option ℕ) (ps : List LinkedPiece) (border : RowPiece) (qs : List RowPiece) → (pieces_on a row ((ps ++ in_no_link border ∷ []) ++ map in_no_link qs)).1 ≡ None
closed_behind a row ps border qs =
    ap (λ (r : List ℕ × Option ℕ). r.1) (on_both a row (ps ++ in_no_link border ∷ []) (map in_no_link qs))
    ∙ stays_closed a (pieces_on a row (ps ++ in_no_link border ∷ [])) qs (ap (λ (r : List ℕ × Option ℕ). r.1) (on_both a row ps (in_no_link border ∷ [])))

-- pieces behind which no link is open
closed_on : (a : List (Option (List ℕ))) (old new : List ℕ) (ps : List LinkedPiece) → (pieces_on a (old, None) ps).1 ≡ None → new ≡ old ++ linked_bytes a ps → pieces_on a (old, None) ps ≡ (new, None)
closed_on a old new ps closed is =
    let row = pieces_on a (old, None) ps in
    let bytes : row.0 ≡ new = sym (append-nil row.0) ∙ ap (λ (l : Option ℕ). row.0 ++ change_bytes a l None) (sym closed) ∙ on_end a (old, None) ps ∙ sym is in
    ap (λ (b : List ℕ). let x : List ℕ × Option ℕ = (b, row.1) in x) bytes ∙ ap (λ (l : Option ℕ). let x : List ℕ × Option ℕ = (new, l) in x) closed

-- no link is open behind a row of a table
pub row_closed : (paint : ℕ → ContentStyle → ContentStyle) (has : CompositeKind → Flags → Bool) (runs : List MarkRun) (skin : RowSkin) (outer : Option ℕ) (filled : Bool) (ns : List ℕ) (cells : List FmtComposite) (a : List (Option (List ℕ))) (old new : List ℕ)
    → new ≡ old ++ linked_bytes a (linked_table_row paint has runs skin outer filled ns cells) → pieces_on a (old, None) (linked_table_row paint has runs skin outer filled ns cells) ≡ (new, None)
row_closed paint has runs skin outer filled ns cells a old new is =
    let left : List RowPiece = spaces skin.paragraph.compound_style (left_of_place skin.table.align (row_columns skin cells) outer) in
    let right : List RowPiece = if filled then spaces skin.paragraph.compound_style (right_of_place skin.table.align (row_columns skin cells) outer) else [] in
    let rest : List LinkedPiece = (linked_cells paint has runs skin ns cells ++ in_no_link (vertical_piece skin) ∷ []) ++ map in_no_link right in
    let closed : (pieces_on a (old, None) (map in_no_link left ++ rest)).1 ≡ None =
    ap (λ (r : List ℕ × Option ℕ). r.1) (on_both a (old, None) (map in_no_link left) rest) ∙ closed_behind a (pieces_on a (old, None) (map in_no_link left)) (linked_cells paint has runs skin ns cells) (vertical_piece skin) right in
    closed_on a old new (linked_table_row paint has runs skin outer filled ns cells) closed is
