-- The colors of rows: their numbers are bytes.
use Rattle.std.proofs.Common.{◌≡◌, ℕ, suc, zero, ◌+◌, ◌<◌, length, take, get_or, subst, sym, List, [], ◌∷◌, ◌++◌, map, Option, Some, None, if◌then◌else◌}
use Rattle.std.proofs.lemmas.List.{take_more}
use Rattle.std.specs.Prelude.{Bool, true, false, min, slice_get, unwrap_or}
use Rattle.std.specs.Option.{option_or}
use Rattle.std.specs.List.{AllByRecursion, flat_map}
use Rattle.std.specs.Str.{bytes_eq}
use Rattle.mad_md.specs.Flagged.{Run, run_of}
use Rattle.mad_md.specs.declared.compound.Compound.{Compound}
use Rattle.mad_measure.proofs.AllLemmas.{all_push}
use Rattle.mad_term.specs.declared.color.Color.{Color}
use Rattle.mad_term.specs.Color.{IsColorOrNone}
use Rattle.mad_term.specs.Styles.{IsStyle}
use Rattle.mad_style.specs.OrderedItems.{unstyled_item}
use Rattle.mad_style.specs.CompoundStyles.{overwritten, unstyled}
use Rattle.mad_style.specs.declared.compound_styles.CompoundStyle.{CompoundStyle}
use Rattle.mad_style.specs.declared.kinds.CompositeKind.{CompositeKind}
use Rattle.mad_style.specs.declared.kinds.CompositeKind.TheVariants.{Header, ListItem, ListItemFollowUp, OrderedListItem, OrderedListItemFollowUp, Code, Quote}
use Rattle.mad_style.specs.declared.line_styles.LineStyle.{LineStyle}
use Rattle.mad_format.specs.FmtLines.{rule_columns}
use Rattle.mad_format.specs.declared.composite.FmtComposite.{FmtComposite}
use Rattle.mad_format.specs.declared.line.FmtLine.{FmtLine}
use Rattle.mad_format.specs.declared.line.FmtLine.TheVariants.{Normal, TableRow, TableRule, HorizontalRule}
use Rattle.mad_draw.specs.Pieces.{RowPiece, AreKnown, single_spaces}
use Rattle.mad_draw.specs.TableRules.{rule_pieces}
use Rattle.mad_draw.specs.declared.table_rules.RuleChars.{RuleChars}
use Rattle.mad_draw.proofs.PieceLemmas.{known_both, char_repeat_known, spaces_known, single_known}
use Rattle.mad_draw.proofs.RuleLemmas.{rule_known}
use Rattle.mad_rows.specs.Rows.{compound_piece, prefix_pieces, inner_blanks, outer_blanks, composite_pieces, cell_margins, cell_pieces, line_pieces, row_pieces, margins_of, left_of_place, right_of_place, placed_pieces, row_columns, rule_chars, vertical_piece}
use Rattle.mad_rows.specs.RowStyles.{AreKnownStyles, IsKnownItem, IsKnownLine, compound_style, ellipsis_bytes, line_style, ordered_item_style, overwritten_if}
use Rattle.mad_rows.specs.declared.row_skin.RowSkin.{RowSkin}

or_known : (a b : Option Color) → IsColorOrNone a → IsColorOrNone b → IsColorOrNone (option_or a b)
or_known None b h k = k
or_known (Some a) b h k = h

-- of a style put over another the colors' numbers are bytes, where those of both are
pub overwritten_known : (style other : CompoundStyle) → IsStyle style.object_style → IsStyle other.object_style → IsStyle (overwritten style other).object_style
overwritten_known style other h k = record {
  foreground = or_known other.object_style.foreground_color style.object_style.foreground_color k.foreground h.foreground;
  background = or_known other.object_style.background_color style.object_style.background_color k.background h.background;
  underline = h.underline;
}

if_known : (flag : Bool) (other style : CompoundStyle) → IsStyle other.object_style → IsStyle style.object_style → IsStyle (overwritten_if flag other style).object_style
if_known true other style k h = overwritten_known style other h k
if_known false other style k h = h

either_known : (b : Bool) (x y : CompoundStyle) → IsStyle x.object_style → IsStyle y.object_style → IsStyle (if b then x else y).object_style
either_known true x y h k = h
either_known false x y h k = k

compound_known : (skin : RowSkin) (style : LineStyle) (p : Run) → AreKnownStyles skin → IsStyle style.compound_style.object_style → IsStyle (compound_style skin style p).object_style
compound_known skin style p h k =
    let picture = if_known p.flags.picture skin.picture style.compound_style h.parts.picture k in
    let link = if_known p.flags.link skin.link _ h.parts.link picture in
    let italic = if_known p.flags.italic skin.italic _ h.parts.italic link in
    let strikeout = if_known p.flags.strikeout skin.strikeout _ h.parts.strikeout italic in
    let bold = if_known p.flags.bold skin.bold _ h.parts.bold strikeout in
    let sign = overwritten_known style.compound_style skin.picture_sign k h.parts.picture_sign in
    either_known (bytes_eq p.text ellipsis_bytes) skin.ellipsis _ h.parts.ellipsis
    (either_known p.flags.picture_sign _ _ sign (if_known p.flags.code skin.inline_code _ h.parts.code bold))

compounds_known : (skin : RowSkin) (style : LineStyle) (ps : List Compound) → AreKnownStyles skin → IsStyle style.compound_style.object_style → AreKnown (map (compound_piece skin style) ps)
compounds_known skin style [] h k = tt
compounds_known skin style (p ∷ ps) h k = (compound_known skin style (run_of p) h k, compounds_known skin style ps h k)

asked_known : (b : Bool) (ps : List RowPiece) → AreKnown ps → AreKnown (if b then ps else [])
asked_known true ps h = h
asked_known false ps h = tt

-- ---- the styles of a line and of an item

-- P holds of one element more
pub all_taken : {A : Type 0} (P : A → Type 0) (xs : List A) (i : ℕ) (x : A) → i < length xs → x ≡ get_or xs i x → AllByRecursion P (take i xs) → P x → AllByRecursion P (take (i + 1) xs)
all_taken {A} P xs i x inside is h k = subst (AllByRecursion P) (sym (take_more xs i x inside)) (all_push P (take i xs) (get_or xs i x) h (subst P is k))

all_get : {A : Type 0} (P : A → Type 0) (xs : List A) (n : ℕ) (other : A) → AllByRecursion P xs → P other → P (unwrap_or (slice_get xs n) other)
all_get {A} P [] n other h k = k
all_get {A} P (x ∷ xs) zero other h k = h.0
all_get {A} P (x ∷ xs) (suc n) other h k = all_get P xs n other h.1 k

-- the numbers of the colors in the style of a line of any kind are bytes
pub line_known : (skin : RowSkin) (kind : CompositeKind) → AreKnownStyles skin → IsStyle (line_style skin kind).compound_style.object_style
line_known skin (Header (suc n)) h = all_get IsKnownLine skin.headers n skin.paragraph h.headers h.parts.paragraph
line_known skin Code h = h.parts.code_block
line_known skin _ h = h.parts.paragraph

unstyled_known : IsStyle unstyled.object_style
unstyled_known = record { foreground = tt; background = tt; underline = tt }

-- so are those of an item at any level
pub item_known : (skin : RowSkin) (level : ℕ) → AreKnownStyles skin → IsKnownItem (ordered_item_style skin level)
item_known skin level h = all_get IsKnownItem skin.ordered_item_styles (min level 3) unstyled_item h.items (unstyled_known, unstyled_known)

-- ---- a composite

-- single spaces, and pieces after them
spaced_known : (style : CompoundStyle) (n : ℕ) (ps : List RowPiece) → IsStyle style.object_style → AreKnown ps → AreKnown (single_spaces style n ++ ps)
spaced_known style n ps h k = known_both (single_spaces style n) ps (single_known style n h) k

prefix_known : (skin : RowSkin) (kind : CompositeKind) → AreKnownStyles skin → AreKnown (prefix_pieces skin kind)
prefix_known skin (ListItem depth) h = spaced_known skin.paragraph.compound_style depth _ h.parts.paragraph (h.parts.bullet, (h.parts.paragraph, tt))
prefix_known skin (ListItemFollowUp depth) h = single_known skin.paragraph.compound_style _ h.parts.paragraph
prefix_known skin (OrderedListItem level index) h =
    let item = item_known skin level h in
    spaced_known skin.paragraph.compound_style level _ h.parts.paragraph (item.0, (item.1, (h.parts.paragraph, tt)))
prefix_known skin (OrderedListItemFollowUp level index) h = single_known skin.paragraph.compound_style _ h.parts.paragraph
prefix_known skin Quote h = (h.parts.quote_mark, (h.parts.paragraph, tt))
prefix_known skin _ h = tt

composite_known : (skin : RowSkin) (outer : Option ℕ) (margins : ℕ × ℕ) (right : Bool) (l : FmtComposite) → AreKnownStyles skin → AreKnown (composite_pieces skin outer margins right l)
composite_known skin outer margins right l h =
    let s : LineStyle = line_style skin l.kind in
    let known : IsStyle s.compound_style.object_style = line_known skin l.kind h in
    let blanks : ℕ × ℕ = outer_blanks s.align outer margins l in
    known_both _ _ (spaces_known skin.paragraph.compound_style blanks.0 h.parts.paragraph)
    (known_both _ _ (spaces_known s.compound_style (inner_blanks l).0 known)
    (known_both _ _ (prefix_known skin l.kind h)
    (known_both _ _ (compounds_known skin s l.compounds.items h known)
    (known_both _ _ (spaces_known s.compound_style (inner_blanks l).1 known)
    (asked_known right _ (spaces_known skin.paragraph.compound_style blanks.1 h.parts.paragraph))))))

-- ---- a line of a table

cells_known : (skin : RowSkin) (cells : List FmtComposite) → AreKnownStyles skin → AreKnown (flat_map (cell_pieces skin) cells)
cells_known skin [] h = tt
cells_known skin (cell ∷ cells) h = known_both (cell_pieces skin cell) (flat_map (cell_pieces skin) cells) (h.parts.table, composite_known skin None (cell_margins skin) true cell h) (cells_known skin cells h)

placed_known : (skin : RowSkin) (outer : Option ℕ) (right : Bool) (n : ℕ) (ps : List RowPiece) → AreKnownStyles skin → AreKnown ps → AreKnown (placed_pieces skin outer right n ps)
placed_known skin outer right n ps h own =
    known_both _ _ (spaces_known skin.paragraph.compound_style (left_of_place skin.table.align n outer) h.parts.paragraph)
    (known_both ps _ own (asked_known right _ (spaces_known skin.paragraph.compound_style (right_of_place skin.table.align n outer) h.parts.paragraph)))

-- ---- a row

line_pieces_known : (skin : RowSkin) (outer : Option ℕ) (right : Bool) (line : FmtLine) → AreKnownStyles skin → AreKnown (line_pieces skin outer right line)
line_pieces_known skin outer right (Normal l) h = composite_known skin outer (margins_of skin outer l) right l h
line_pieces_known skin outer right (TableRow row) h =
    let cells : List FmtComposite = row.cells.items in
    placed_known skin outer right (row_columns skin cells) (flat_map (cell_pieces skin) cells ++ vertical_piece skin ∷ []) h (known_both (flat_map (cell_pieces skin) cells) (vertical_piece skin ∷ []) (cells_known skin cells h) (h.parts.table, tt))
line_pieces_known skin outer right (TableRule rule) h =
    let chars : RuleChars = rule_chars skin.table_border_chars rule.position in
    placed_known skin outer right (rule_columns rule.widths.items) (rule_pieces skin.table.compound_style chars rule.widths.items) h (rule_known skin.table.compound_style chars rule.widths.items h.parts.table)
line_pieces_known skin outer right HorizontalRule h = char_repeat_known skin.horizontal_rule _ h.parts.rule

-- the numbers of a row's colors are bytes, where those of its skin are
pub row_known : (skin : RowSkin) (width : ℕ) (line : Option FmtLine) → AreKnownStyles skin → AreKnown (row_pieces skin width line)
row_known skin width (Some line) h = line_pieces_known skin (Some width) true line h
row_known skin width None h = spaces_known skin.paragraph.compound_style width h.parts.paragraph
