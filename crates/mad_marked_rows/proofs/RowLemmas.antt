-- Rows with marks, as they are written.
use Rattle.std.proofs.Common.{◌≡◌, ℕ, ◌+◌, ◌-◌, ◌<◌, ◌≤◌, Bool, true, false, cond, List, [], ◌∷◌, ◌++◌, map, length, drop, get_or, Option, None, refl, sym, ap, ◌∙◌, arith, append_assoc, append-nil}
use Rattle.std.specs.Prelude.{chars, slice_index, if◌then◌else◌}
use Rattle.std.proofs.lemmas.List.{at_drop_more, drop_all, map-append}
use Rattle.mad_md.specs.Flagged.{Flags, flagged_of, flags_of, run_of}
use Rattle.mad_md.specs.declared.compound.Compound.{Compound}
use Rattle.mad_term.specs.Styles.{piece_bytes}
use Rattle.mad_term.specs.declared.styles.ContentStyle.{ContentStyle}
use Rattle.mad_style.specs.declared.compound_styles.CompoundStyle.{CompoundStyle}
use Rattle.mad_style.specs.declared.kinds.CompositeKind.{CompositeKind}
use Rattle.mad_style.specs.declared.line_styles.LineStyle.{LineStyle}
use Rattle.mad_draw.specs.Pieces.{RowPiece, pieces_bytes, spaces}
use Rattle.mad_draw.specs.declared.spaces.Spaces.{Spaces}
use Rattle.mad_draw.proofs.PieceLemmas.{bytes_both, bytes_one}
use Rattle.mad_format.specs.declared.composite.FmtComposite.{FmtComposite}
use Rattle.mad_format.specs.declared.line.FmtLine.{FmtLine}
use Rattle.mad_format.specs.declared.line.FmtLine.TheVariants.{Normal, TableRow, TableRule, HorizontalRule}
use Rattle.mad_format.specs.declared.table.FmtTableRow.{FmtTableRow}
use Rattle.mad_rows.specs.RowStyles.{compound_style, line_style}
use Rattle.mad_rows.specs.Rows.{cell_margins, blanks_beside, compound_piece, inner_blanks, left_of_place, line_pieces, outer_blanks, prefix_pieces, right_of_place, row_columns, vertical_piece}
use Rattle.mad_rows.specs.declared.row_skin.RowSkin.{RowSkin}
use Rattle.mad_rows.proofs.PieceLemmas.{asked_behind, asked_bytes}
use Rattle.mad_links.specs.LinkRows.{LinkedPiece, change_bytes, linked_bytes}
use Rattle.mad_links.specs.LinkedAreas.{in_no_link}
use Rattle.mad_links.specs.LinkedLines.{composite_links}
use Rattle.mad_links.proofs.AreaLemmas.{no_link_no_byte}
use Rattle.mad_mark_runs.specs.Marks.{count_of, next_start, value_at}
use Rattle.mad_mark_runs.specs.declared.mark_runs.MarkRun.{MarkRun}
use Rattle.mad_marks.specs.RowMarks.{counted}
use Rattle.mad_marks.proofs.NumberLemmas.{compound_count}
use Rattle.mad_marked_rows.specs.LinkedTexts.{part_link, pieces_on, text_links}
use Rattle.mad_marked_rows.specs.MarkedTexts.{parts_of, SameFrom}
use Rattle.mad_marked_rows.proofs.CursorLemmas.{from_start, letters_same}
use Rattle.mad_marked_rows.specs.LinkedRows.{linked_cells, linked_composite, linked_compound, linked_compounds, linked_line, linked_table_row}
use Rattle.mad_marked_rows.proofs.LinkLemmas.{on_both, on_end, plain_then, then_border, then_plain}

-- ---- a compound

-- one that is counted, by what the code found
pub counted_on : (paint : ℕ → ContentStyle → ContentStyle) (has : Flags → Bool) (runs : List MarkRun) (skin : RowSkin) (style : LineStyle) (n : ℕ) (k : Compound) (own : CompoundStyle) (a : List (Option (List ℕ))) (row new : List ℕ × Option ℕ) (t : Bool)
    → t ≡ has (flags_of k) → t ≡ true → own ≡ compound_style skin style (run_of k) → pieces_on a row (text_links paint runs own.object_style n (chars k.src.now)) ≡ new → pieces_on a row (linked_compound paint has runs skin style n k) ≡ new
counted_on paint has runs skin style n k own a row new t test holds own_is is =
    ap (λ (u : Bool). pieces_on a row (cond u (text_links paint runs (compound_style skin style (run_of k)).object_style n (chars k.src.now)) (in_no_link (compound_piece skin style k) ∷ []))) (sym test ∙ holds)
    ∙ ap (λ (s : CompoundStyle). pieces_on a row (text_links paint runs s.object_style n (chars k.src.now))) (sym own_is) ∙ is

-- one that isn't: the link that is open ends before it
pub bare_on : (paint : ℕ → ContentStyle → ContentStyle) (has : Flags → Bool) (runs : List MarkRun) (skin : RowSkin) (style : LineStyle) (n : ℕ) (k : Compound) (own : CompoundStyle) (a : List (Option (List ℕ))) (old one new : List ℕ) (was : Option ℕ) (t : Bool)
    → t ≡ has (flags_of k) → t ≡ false → own ≡ compound_style skin style (run_of k) → one ≡ old ++ change_bytes a was None → new ≡ one ++ piece_bytes own.object_style k.src.now
    → pieces_on a (old, was) (linked_compound paint has runs skin style n k) ≡ (new, None)
bare_on paint has runs skin style n k own a old one new was t test fails own_is one_is is =
    let written : old ++ (change_bytes a was None ++ piece_bytes (compound_style skin style (run_of k)).object_style k.src.now) ≡ new =
    sym (append_assoc old (change_bytes a was None) (piece_bytes (compound_style skin style (run_of k)).object_style k.src.now))
    ∙ ap (λ (s : CompoundStyle). (old ++ change_bytes a was None) ++ piece_bytes s.object_style k.src.now) (sym own_is)
    ∙ ap (λ l. l ++ piece_bytes own.object_style k.src.now) (sym one_is) ∙ sym is in
    ap (λ (u : Bool). pieces_on a (old, was) (cond u (text_links paint runs (compound_style skin style (run_of k)).object_style n (chars k.src.now)) (in_no_link (compound_piece skin style k) ∷ []))) (sym test ∙ fails)
    ∙ ap (λ (l : List ℕ). let x : List ℕ × Option ℕ = (l, None) in x) written

-- how many characters are counted of one that is
pub counted_number : (has : Flags → Bool) (k : Compound) (n m : ℕ) (t : Bool) → t ≡ has (flags_of k) → t ≡ true → m ≡ n + count_of (chars k.src.now) → m ≡ n + counted has (flagged_of k)
counted_number has k n m t test holds is = is ∙ ap (λ (x : ℕ). n + x) (sym (compound_count has k true (sym test ∙ holds)))

-- none is of one that isn't
pub bare_number : (has : Flags → Bool) (k : Compound) (n : ℕ) (t : Bool) → t ≡ has (flags_of k) → t ≡ false → n ≡ n + counted has (flagged_of k)
bare_number has k n t test fails = omega (arith, compound_count has k false (sym test ∙ fails))

-- ---- compounds

compound_same : (paint : ℕ → ContentStyle → ContentStyle) (has : Flags → Bool) (a b : List MarkRun) (skin : RowSkin) (style : LineStyle) (n : ℕ) (k : Compound) → SameFrom a b n → linked_compound paint has b skin style n k ≡ linked_compound paint has a skin style n k
compound_same paint has a b skin style n k same =
    ap (λ ls. cond (has (flags_of k)) (map (part_link paint (compound_style skin style (run_of k)).object_style) (parts_of ls)) (in_no_link (compound_piece skin style k) ∷ [])) (letters_same a b n (chars k.src.now) same)

-- a compound more, by runs that say the same
pub compound_gone : (paint : ℕ → ContentStyle → ContentStyle) (has : Flags → Bool) (a b : List MarkRun) (skin : RowSkin) (style : LineStyle) (addresses : List (Option (List ℕ))) (row next all : List ℕ × Option ℕ) (ks : List Compound) (i : ℕ) (d : Compound) (n m : ℕ) → i < length ks → SameFrom a b n
    → pieces_on addresses row (linked_compound paint has b skin style n (get_or ks i d)) ≡ next → m ≡ n + counted has (flagged_of (get_or ks i d))
    → pieces_on addresses row (linked_compounds paint has a skin style n (drop i ks)) ≡ all → pieces_on addresses next (linked_compounds paint has a skin style m (drop (i + 1) ks)) ≡ all
compound_gone paint has a b skin style addresses row next all ks i d n m h same is m_is before =
    let k = get_or ks i d in
    let own = linked_compound paint has a skin style n k in
    let rest = linked_compounds paint has a skin style (n + counted has (flagged_of k)) (drop (i + 1) ks) in
    ap (λ (x : ℕ). pieces_on addresses next (linked_compounds paint has a skin style x (drop (i + 1) ks))) m_is
    ∙ ap (λ r. pieces_on addresses r rest) (sym is ∙ ap (pieces_on addresses row) (compound_same paint has a b skin style n k same))
    ∙ sym (on_both addresses row own rest)
    ∙ sym (at_drop_more (λ l. pieces_on addresses row (linked_compounds paint has a skin style n l)) ks i d h) ∙ before

-- by runs that say the same from here on
pub compounds_same : (paint : ℕ → ContentStyle → ContentStyle) (has : Flags → Bool) (a b : List MarkRun) (skin : RowSkin) (style : LineStyle) (n : ℕ) (ks : List Compound) → SameFrom a b n → linked_compounds paint has b skin style n ks ≡ linked_compounds paint has a skin style n ks
compounds_same paint has a b skin style n [] same = refl
compounds_same paint has a b skin style n (k ∷ ks) same =
    let later : SameFrom a b (n + counted has (flagged_of k)) = λ j le. same j (omega arith) in
    ap (λ l. l ++ linked_compounds paint has b skin style (n + counted has (flagged_of k)) ks) (compound_same paint has a b skin style n k same)
    ∙ ap (λ l. linked_compound paint has a skin style n k ++ l) (compounds_same paint has a b skin style (n + counted has (flagged_of k)) ks later)

-- a cursor begins at the run of the character before it
pub begins_same : (runs found : List MarkRun) (n m : ℕ) → m ≡ n - 1 → found ≡ next_start runs m → SameFrom runs found n
begins_same runs found n m m_is found_is = λ k le. ap (λ (r : List MarkRun). value_at r k) found_is ∙ from_start runs m k (omega arith)

-- the last link is closed
pub compounds_done : (paint : ℕ → ContentStyle → ContentStyle) (has : Flags → Bool) (a : List MarkRun) (skin : RowSkin) (style : LineStyle) (addresses : List (Option (List ℕ))) (row : List ℕ × Option ℕ) (old new : List ℕ) (said : List LinkedPiece) (ks : List Compound) (i n : ℕ) → length ks ≤ i
    → pieces_on addresses row (linked_compounds paint has a skin style n (drop i ks)) ≡ pieces_on addresses (old, None) said → new ≡ row.0 ++ change_bytes addresses row.1 None → new ≡ old ++ linked_bytes addresses said
compounds_done paint has a skin style addresses row old new said ks i n h before is =
    is ∙ ap (λ (r : List ℕ × Option ℕ). r.0 ++ change_bytes addresses r.1 None) (sym (ap (λ l. pieces_on addresses row (linked_compounds paint has a skin style n l)) (drop_all i ks h)) ∙ before)
    ∙ on_end addresses (old, None) said

-- ---- a composite

-- what is in front of some pieces, they, and what is after them
pub composite_bytes : (skin : RowSkin) (outer : Option ℕ) (margins : ℕ × ℕ) (filled : Bool) (l : FmtComposite) (style : LineStyle) (a : List (Option (List ℕ))) (text : List LinkedPiece) (old one two new : List ℕ) → style ≡ line_style skin l.kind
    → one ≡ old ++ pieces_bytes (spaces skin.paragraph.compound_style (outer_blanks style.align outer margins l).0 ++ (spaces style.compound_style (inner_blanks l).0 ++ prefix_pieces skin l.kind))
    → two ≡ one ++ linked_bytes a text → new ≡ two ++ pieces_bytes (spaces style.compound_style (inner_blanks l).1 ++ spaces skin.paragraph.compound_style (if filled then (outer_blanks style.align outer margins l).1 else 0))
    → new ≡ old ++ linked_bytes a (composite_links skin outer margins filled l text)
composite_bytes skin outer margins filled l style a text old one two new style_is one_is two_is new_is =
    let blank : CompoundStyle = skin.paragraph.compound_style in
    let own : LineStyle = line_style skin l.kind in
    let blanks : ℕ × ℕ = outer_blanks own.align outer margins l in
    let before : List RowPiece = spaces blank blanks.0 in
    let inner : List RowPiece = spaces own.compound_style (inner_blanks l).0 in
    let prefix : List RowPiece = prefix_pieces skin l.kind in
    let after : List RowPiece = spaces own.compound_style (inner_blanks l).1 in
    let filling : List RowPiece = spaces blank (if filled then blanks.1 else 0) in
    let last : List RowPiece = if filled then spaces blank blanks.1 else [] in
    let front : List RowPiece = before ++ (inner ++ prefix) in
    let end : List LinkedPiece = map in_no_link after ++ map in_no_link last in
    let e : linked_bytes a (text ++ end) ≡ linked_bytes a text ++ pieces_bytes (after ++ filling) =
    ap (λ l. linked_bytes a (text ++ l)) (sym (map-append in_no_link after last)) ∙ then_plain a None text (after ++ last)
    ∙ ap (λ bs. linked_bytes a text ++ bs) (sym (asked_behind filled blank blanks.1 after)) in
    let f : linked_bytes a (composite_links skin outer margins filled l text) ≡ pieces_bytes front ++ linked_bytes a (text ++ end) =
    plain_then a before (map in_no_link inner ++ (map in_no_link prefix ++ (text ++ end))) ∙ ap (λ bs. pieces_bytes before ++ bs) (plain_then a inner (map in_no_link prefix ++ (text ++ end)) ∙ ap (λ bs. pieces_bytes inner ++ bs) (plain_then a prefix (text ++ end)))
    ∙ ap (λ bs. pieces_bytes before ++ bs) (sym (append_assoc (pieces_bytes inner) (pieces_bytes prefix) (linked_bytes a (text ++ end))) ∙ ap (λ bs. bs ++ linked_bytes a (text ++ end)) (sym (bytes_both inner prefix)))
    ∙ sym (append_assoc (pieces_bytes before) (pieces_bytes (inner ++ prefix)) (linked_bytes a (text ++ end))) ∙ ap (λ bs. bs ++ linked_bytes a (text ++ end)) (sym (bytes_both before (inner ++ prefix))) in
    new_is ∙ ap (λ (s : LineStyle). two ++ pieces_bytes (spaces s.compound_style (inner_blanks l).1 ++ spaces blank (if filled then (outer_blanks s.align outer margins l).1 else 0))) style_is
    ∙ ap (λ bs. bs ++ pieces_bytes (after ++ filling)) (two_is ∙ ap (λ bs. bs ++ linked_bytes a text) (one_is
    ∙ ap (λ (s : LineStyle). old ++ pieces_bytes (spaces blank (outer_blanks s.align outer margins l).0 ++ (spaces s.compound_style (inner_blanks l).0 ++ prefix))) style_is))
    ∙ append_assoc (old ++ pieces_bytes front) (linked_bytes a text) (pieces_bytes (after ++ filling)) ∙ append_assoc old (pieces_bytes front) (linked_bytes a text ++ pieces_bytes (after ++ filling))
    ∙ ap (λ bs. old ++ bs) (ap (λ bs. pieces_bytes front ++ bs) (sym e) ∙ sym f)

-- the same by what the code found
pub composite_row : (paint : ℕ → ContentStyle → ContentStyle) (has : CompositeKind → Flags → Bool) (runs : List MarkRun) (skin : RowSkin) (outer : Option ℕ) (margins : ℕ × ℕ) (filled : Bool) (n : ℕ) (l : FmtComposite) (style : LineStyle) (ks : List Compound) (a : List (Option (List ℕ))) (old one two new : List ℕ)
    → style ≡ line_style skin l.kind → ks ≡ l.compounds.items
    → one ≡ old ++ pieces_bytes (spaces skin.paragraph.compound_style (blanks_beside style.align outer margins filled l).0 ++ (spaces style.compound_style (inner_blanks l).0 ++ prefix_pieces skin l.kind))
    → two ≡ one ++ linked_bytes a (linked_compounds paint (has l.kind) runs skin style n ks)
    → new ≡ two ++ pieces_bytes (spaces style.compound_style (inner_blanks l).1 ++ spaces skin.paragraph.compound_style (blanks_beside style.align outer margins filled l).1)
    → new ≡ old ++ linked_bytes a (linked_composite paint has runs skin outer margins filled n l)
composite_row paint has runs skin outer margins filled n l style ks a old one two new style_is ks_are one_is two_is new_is =
    composite_bytes skin outer margins filled l style a (linked_compounds paint (has l.kind) runs skin (line_style skin l.kind) n l.compounds.items) old one two new style_is one_is
    (two_is ∙ ap (λ (xs : List Compound). one ++ linked_bytes a (linked_compounds paint (has l.kind) runs skin style n xs)) ks_are
    ∙ ap (λ (s : LineStyle). one ++ linked_bytes a (linked_compounds paint (has l.kind) runs skin s n l.compounds.items)) style_is)
    new_is

-- ---- cells

-- cells begin with a border, which is in no link
cells_behind : (paint : ℕ → ContentStyle → ContentStyle) (has : CompositeKind → Flags → Bool) (runs : List MarkRun) (skin : RowSkin) (a : List (Option (List ℕ))) (ps : List LinkedPiece) (ns : List ℕ) (cs : List FmtComposite)
    → linked_bytes a (ps ++ linked_cells paint has runs skin ns cs) ≡ linked_bytes a ps ++ linked_bytes a (linked_cells paint has runs skin ns cs)
cells_behind paint has runs skin a ps ns [] = ap (linked_bytes a) (append-nil ps) ∙ sym (append-nil (linked_bytes a ps))
cells_behind paint has runs skin a ps ns (c ∷ cs) =
    then_border a None ps (vertical_piece skin) (linked_composite paint has runs skin None (cell_margins skin) true (slice_index ns 0) c ++ linked_cells paint has runs skin (drop 1 ns) cs)

-- a cell more, behind its border
pub cell_gone : (paint : ℕ → ContentStyle → ContentStyle) (has : CompositeKind → Flags → Bool) (runs : List MarkRun) (skin : RowSkin) (a : List (Option (List ℕ))) (old one new all : List ℕ) (ns next : List ℕ) (cs : List FmtComposite) (i n : ℕ) (d : FmtComposite) → i < length cs
    → one ≡ old ++ piece_bytes (vertical_piece skin).style (vertical_piece skin).text → n ≡ slice_index ns 0 → new ≡ one ++ linked_bytes a (linked_composite paint has runs skin None (cell_margins skin) true n (get_or cs i d)) → next ≡ drop 1 ns
    → old ++ linked_bytes a (linked_cells paint has runs skin ns (drop i cs)) ≡ all → new ++ linked_bytes a (linked_cells paint has runs skin next (drop (i + 1) cs)) ≡ all
cell_gone paint has runs skin a old one new all ns next cs i n d h one_is n_is new_is next_is before =
    let c = get_or cs i d in
    let border = piece_bytes (vertical_piece skin).style (vertical_piece skin).text in
    let own = linked_composite paint has runs skin None (cell_margins skin) true (slice_index ns 0) c in
    let rest = linked_cells paint has runs skin (drop 1 ns) (drop (i + 1) cs) in
    ap (λ (l : List ℕ). new ++ linked_bytes a (linked_cells paint has runs skin l (drop (i + 1) cs))) next_is
    ∙ ap (λ l. l ++ linked_bytes a rest) (new_is ∙ ap (λ (x : ℕ). one ++ linked_bytes a (linked_composite paint has runs skin None (cell_margins skin) true x c)) n_is ∙ ap (λ l. l ++ linked_bytes a own) one_is)
    ∙ append_assoc (old ++ border) (linked_bytes a own) (linked_bytes a rest) ∙ append_assoc old border (linked_bytes a own ++ linked_bytes a rest)
    ∙ ap (λ l. old ++ (border ++ l)) (sym (cells_behind paint has runs skin a own (drop 1 ns) (drop (i + 1) cs)))
    ∙ sym (at_drop_more (λ l. old ++ linked_bytes a (linked_cells paint has runs skin ns l)) cs i d h) ∙ before

-- no cell is left
pub cells_done : (paint : ℕ → ContentStyle → ContentStyle) (has : CompositeKind → Flags → Bool) (runs : List MarkRun) (skin : RowSkin) (a : List (Option (List ℕ))) (now all ns : List ℕ) (cs : List FmtComposite) (i : ℕ) → length cs ≤ i
    → now ++ linked_bytes a (linked_cells paint has runs skin ns (drop i cs)) ≡ all → now ≡ all
cells_done paint has runs skin a now all ns cs i h before = sym (append-nil now) ∙ sym (ap (λ l. now ++ linked_bytes a (linked_cells paint has runs skin ns l)) (drop_all i cs h)) ∙ before

-- a row of cells between blanks
pub row_bytes : (paint : ℕ → ContentStyle → ContentStyle) (has : CompositeKind → Flags → Bool) (runs : List MarkRun) (skin : RowSkin) (outer : Option ℕ) (filled : Bool) (ns : List ℕ) (cells : List FmtComposite) (a : List (Option (List ℕ))) (before after : Spaces) (old one two three new : List ℕ)
    → before ≡ record { style = skin.paragraph.compound_style; count = left_of_place skin.table.align (row_columns skin cells) outer }
    → after ≡ record { style = skin.paragraph.compound_style; count = if filled then right_of_place skin.table.align (row_columns skin cells) outer else 0 }
    → one ≡ old ++ pieces_bytes (spaces before.style before.count) → two ≡ one ++ linked_bytes a (linked_cells paint has runs skin ns cells) → three ≡ two ++ piece_bytes (vertical_piece skin).style (vertical_piece skin).text → new ≡ three ++ pieces_bytes (spaces after.style after.count)
    → new ≡ old ++ linked_bytes a (linked_table_row paint has runs skin outer filled ns cells)
row_bytes paint has runs skin outer filled ns cells a before after old one two three new before_is after_is one_is two_is three_is new_is =
    let blank : CompoundStyle = skin.paragraph.compound_style in
    let text : List LinkedPiece = linked_cells paint has runs skin ns cells in
    let border : RowPiece = vertical_piece skin in
    let wide : ℕ = right_of_place skin.table.align (row_columns skin cells) outer in
    let left : List RowPiece = spaces blank (left_of_place skin.table.align (row_columns skin cells) outer) in
    let right : List RowPiece = if filled then spaces blank wide else [] in
    let e : linked_bytes a (linked_table_row paint has runs skin outer filled ns cells) ≡ pieces_bytes left ++ ((linked_bytes a text ++ piece_bytes border.style border.text) ++ pieces_bytes right) =
    plain_then a left ((text ++ in_no_link border ∷ []) ++ map in_no_link right)
    ∙ ap (λ l. pieces_bytes left ++ l) (then_plain a None (text ++ in_no_link border ∷ []) right ∙ ap (λ l. l ++ pieces_bytes right) (then_plain a None text (border ∷ []) ∙ ap (λ l. linked_bytes a text ++ l) (bytes_one border))) in
    new_is ∙ ap (λ (s : Spaces). three ++ pieces_bytes (spaces s.style s.count)) after_is ∙ ap (λ l. three ++ l) (asked_bytes filled blank wide)
    ∙ ap (λ l. l ++ pieces_bytes right) (three_is ∙ ap (λ l. l ++ piece_bytes border.style border.text) (two_is ∙ ap (λ l. l ++ linked_bytes a text) (one_is ∙ ap (λ (s : Spaces). old ++ pieces_bytes (spaces s.style s.count)) before_is))
    ∙ append_assoc (old ++ pieces_bytes left) (linked_bytes a text) (piece_bytes border.style border.text))
    ∙ append_assoc (old ++ pieces_bytes left) (linked_bytes a text ++ piece_bytes border.style border.text) (pieces_bytes right)
    ∙ append_assoc old (pieces_bytes left) ((linked_bytes a text ++ piece_bytes border.style border.text) ++ pieces_bytes right)
    ∙ ap (λ l. old ++ l) (sym e)

-- ---- any other line

-- it has no marks, and is in no link
pub plain_line : (paint : ℕ → ContentStyle → ContentStyle) (has : CompositeKind → Flags → Bool) (runs : List MarkRun) (skin : RowSkin) (outer : Option ℕ) (filled : Bool) (ns : List ℕ) (line : FmtLine) (a : List (Option (List ℕ))) (old new : List ℕ)
    → ((l : FmtComposite) → line ≡ Normal l → ⊥) → ((row : FmtTableRow) → line ≡ TableRow row → ⊥)
    → new ≡ old ++ pieces_bytes (line_pieces skin outer filled line) → new ≡ old ++ linked_bytes a (linked_line paint has runs skin outer filled ns line)
plain_line paint has runs skin outer filled ns (Normal l) a old new h k is = absurd (h l refl)
plain_line paint has runs skin outer filled ns (TableRow row) a old new h k is = absurd (k row refl)
plain_line paint has runs skin outer filled ns (TableRule rule) a old new h k is = is ∙ ap (λ l. old ++ l) (sym (no_link_no_byte a (line_pieces skin outer filled (TableRule rule))))
plain_line paint has runs skin outer filled ns HorizontalRule a old new h k is = is ∙ ap (λ l. old ++ l) (sym (no_link_no_byte a (line_pieces skin outer filled HorizontalRule)))
