-- The marks of the skins of pages that are made take a column each.
use Rattle.std.proofs.Common.{◌≡◌, ℕ, zero, suc, false, List, Some, refl, sym, ap, subst, arith}
use Rattle.std.specs.Prelude.{min, replicate, slice_get, unwrap_or}
use Rattle.std.specs.Char.{IsScalar}
use Rattle.unicode_width.specs.Width.{char_width}
use Rattle.unicode_width.proofs.Computing.{unicode_width}
use Rattle.mad_characters.specs.Columns.{char_columns}
use Rattle.mad_style.specs.Borders.{rounded_borders}
use Rattle.mad_style.specs.OrderedItems.{unstyled_item}
use Rattle.mad_style.specs.StyledChars.{char_alone}
use Rattle.mad_style.specs.declared.borders.TableBorderChars.{TableBorderChars}
use Rattle.mad_style.specs.declared.ordered_items.OrderedItemStyle.{OrderedItemStyle}
use Rattle.mad_style.specs.declared.kinds.CompositeKind.{CompositeKind}
use Rattle.mad_style.specs.declared.kinds.CompositeKind.TheVariants.{ListItem, OrderedListItem, Quote}
use Rattle.mad_draw.specs.Pieces.{IsColumnChar}
use Rattle.mad_draw.proofs.BorderLemmas.{u2500_column, u2502_column, u256d_column, u256e_column, u256f_column, u2570_column, u258c_column}
use Rattle.mad_format.specs.declared.table.RelativePosition.{RelativePosition}
use Rattle.mad_format.specs.declared.table.RelativePosition.TheVariants.{Top, Other, Bottom}
use Rattle.mad_rows.specs.Rows.{rule_chars}
use Rattle.mad_rows.specs.RowStyles.{item_style_at}
use Rattle.mad_rows.specs.declared.page_styles.PageStyles.{PageStyles}
use Rattle.mad_rows.specs.declared.row_skin.RowSkin.{RowSkin}
use Rattle.mad_layout.specs.Premises.{IsPrintablePrefix, AreRuleChars, AreBordersShown}
use Rattle.mad_layout.proofs.ColumnChars.{ascii_column}
use Rattle.mad_page_rows.specs.FaceLaws.{AreFacesShown, AreSignsShown}
use Rattle.mad_term.specs.declared.attribute.Attribute.TheVariants.{Bold}
use Rattle.mad_page_skin.specs.Inks.{attributed, colored, item_in}
use Rattle.mad_page_skin.specs.DarkSkins.{dark_page_skin}
use Rattle.mad_page_skin.specs.LightSkins.{light_page_skin}
use Rattle.mad_page_skin.specs.PageSkins.{page_row_skin}
use Rattle.mad_page_skin.specs.PlainSkins.{plain_skin}
use Rattle.mad_page_skin.specs.SixteenSkins.{sixteen_page_skin}
use Rattle.mad_page_skin.specs.declared.page_skin.PageSkin.{PageSkin}
use Rattle.mad_page_skin_laws.specs.PageMarks.{ArePageMarksShown}

-- ---- characters

one_column : (c : ℕ) → IsScalar c → char_width false c ≡ Some 1 → IsColumnChar c
unfolding char_columns
one_column c scalar width = record { scalar = scalar; one = ap (λ o. unwrap_or o 0) width }

dot : IsColumnChar 46
dot = ascii_column 46 refl (omega arith) (omega arith)

-- •
u2022_column : IsColumnChar 0x2022
unfolding unicode_width
u2022_column = one_column 0x2022 refl refl

-- ━
u2501_column : IsColumnChar 0x2501
unfolding unicode_width
u2501_column = one_column 0x2501 refl refl

-- ├
u251c_column : IsColumnChar 0x251C
unfolding unicode_width
u251c_column = one_column 0x251C refl refl

-- ┤
u2524_column : IsColumnChar 0x2524
unfolding unicode_width
u2524_column = one_column 0x2524 refl refl

-- ┬
u252c_column : IsColumnChar 0x252C
unfolding unicode_width
u252c_column = one_column 0x252C refl refl

-- ┴
u2534_column : IsColumnChar 0x2534
unfolding unicode_width
u2534_column = one_column 0x2534 refl refl

-- ┼
u253c_column : IsColumnChar 0x253C
unfolding unicode_width
u253c_column = one_column 0x253C refl refl

-- ═
u2550_column : IsColumnChar 0x2550
unfolding unicode_width
u2550_column = one_column 0x2550 refl refl

-- ▣
u25a3_column : IsColumnChar 0x25A3
unfolding unicode_width
u25a3_column = one_column 0x25A3 refl refl

-- ☐
u2610_column : IsColumnChar 0x2610
unfolding unicode_width
u2610_column = one_column 0x2610 refl refl

-- ☑
u2611_column : IsColumnChar 0x2611
unfolding unicode_width
u2611_column = one_column 0x2611 refl refl

-- ---- texts

round_rules : (position : RelativePosition) → AreRuleChars (rule_chars rounded_borders position)
round_rules Top = record { left = u256d_column; horizontal = u2500_column; between = u252c_column; right = u256e_column }
round_rules Other = record { left = u251c_column; horizontal = u2500_column; between = u253c_column; right = u2524_column }
round_rules Bottom = record { left = u2570_column; horizontal = u2500_column; between = u2534_column; right = u256f_column }

round_shown : (skin : RowSkin) → skin.table_border_chars ≡ rounded_borders → AreBordersShown skin
round_shown skin same = record {
  vertical = subst (λ (b : TableBorderChars). IsColumnChar b.vertical) (sym same) u2502_column;
  rules = λ position. subst (λ (b : TableBorderChars). AreRuleChars (rule_chars b position)) (sym same) (round_rules position);
}

suffix_at : (item : OrderedItemStyle) (k n : ℕ) → IsColumnChar (char_alone item.index_suffix) → IsColumnChar (char_alone (unwrap_or (slice_get (replicate k item) n) unstyled_item).index_suffix)
suffix_at item zero n h = dot
suffix_at item (suc k) zero h = h
suffix_at item (suc k) (suc n) h = suffix_at item k n h

suffix_shown : (skin : RowSkin) (item : OrderedItemStyle) (level : ℕ) → skin.ordered_item_styles ≡ replicate 4 item → char_alone item.index_suffix ≡ 46 → IsColumnChar (char_alone (item_style_at skin.ordered_item_styles level).index_suffix)
suffix_shown skin item level items suffix =
    subst (λ (styles : List OrderedItemStyle). IsColumnChar (char_alone (item_style_at styles level).index_suffix)) (sym items) (suffix_at item 4 (min level 3) (subst IsColumnChar (sym suffix) dot))

-- a skin whose items look the same on each level, with the characters of the skins that are made
pub record HasPageMarks (skin : RowSkin) : Type 0 where
  pub item : OrderedItemStyle
  pub items : skin.ordered_item_styles ≡ replicate 4 item
  pub suffix : char_alone item.index_suffix ≡ 46
  pub bullet : char_alone skin.bullet ≡ 0x2022
  pub quote : char_alone skin.quote_mark ≡ 0x258C
  pub rule : char_alone skin.horizontal_rule ≡ 0x2500
  pub borders : skin.table_border_chars ≡ rounded_borders

prefix_by : (skin : RowSkin) (kind : CompositeKind) → HasPageMarks skin → IsPrintablePrefix skin kind
prefix_by skin (ListItem depth) h = subst IsColumnChar (sym h.bullet) u2022_column
prefix_by skin (OrderedListItem level index) h = suffix_shown skin h.item level h.items h.suffix
prefix_by skin Quote h = subst IsColumnChar (sym h.quote) u258c_column
prefix_by skin _ h = tt

-- ---- pages

beside_shown : (skin : RowSkin) → HasPageMarks skin → AreSignsShown skin.page → AreFacesShown skin
beside_shown skin h signs = record {
  bar = subst IsColumnChar (sym h.quote) u258c_column;
  bullet = subst IsColumnChar (sym h.bullet) u2022_column;
  suffix = suffix_shown skin h.item 0 h.items h.suffix;
  page = signs;
}

-- boxes, and bars of half blocks
boxes_shown : (page : PageStyles) → IsColumnChar (char_alone page.below_first) → IsColumnChar (char_alone page.below_others) → char_alone page.task ≡ 0x2610 → char_alone page.done ≡ 0x2611
    → char_alone page.note ≡ 0x258C → char_alone page.tip ≡ 0x258C → char_alone page.important ≡ 0x258C → char_alone page.warning ≡ 0x258C → char_alone page.caution ≡ 0x258C → AreSignsShown page
boxes_shown page first others task done note tip important warning caution = record {
  task = subst IsColumnChar (sym task) u2610_column;
  done = subst IsColumnChar (sym done) u2611_column;
  note = subst IsColumnChar (sym note) u258c_column;
  tip = subst IsColumnChar (sym tip) u258c_column;
  important = subst IsColumnChar (sym important) u258c_column;
  warning = subst IsColumnChar (sym warning) u258c_column;
  caution = subst IsColumnChar (sym caution) u258c_column;
  below_first = first;
  below_others = others;
}

page_shown : (skin : PageSkin) → HasPageMarks (page_row_skin skin) → AreSignsShown skin.page → char_alone skin.sign ≡ 0x25A3 → ArePageMarksShown skin
page_shown skin h signs picture = record {
  rows = record { faces = beside_shown (page_row_skin skin) h signs; borders = round_shown (page_row_skin skin) h.borders; rule = subst IsColumnChar (sym h.rule) u2500_column };
  prefixes = λ kind. prefix_by (page_row_skin skin) kind h;
  picture = subst IsColumnChar (sym picture) u25a3_column;
}

-- ---- the skins that are made

-- the marks of the skin for a dark background take a column each
pub dark_marks : ArePageMarksShown dark_page_skin
dark_marks =
    page_shown dark_page_skin (record { item = item_in (colored 215); items = refl; suffix = refl; bullet = refl; quote = refl; rule = refl; borders = refl })
    (boxes_shown dark_page_skin.page u2501_column u2500_column refl refl refl refl refl refl refl) refl

-- the marks of the skin for a light background take a column each
pub light_marks : ArePageMarksShown light_page_skin
light_marks =
    page_shown light_page_skin (record { item = item_in (colored 94); items = refl; suffix = refl; bullet = refl; quote = refl; rule = refl; borders = refl })
    (boxes_shown light_page_skin.page u2501_column u2500_column refl refl refl refl refl refl refl) refl

-- the marks of the skin of sixteen colors take a column each
pub sixteen_marks : ArePageMarksShown sixteen_page_skin
sixteen_marks =
    page_shown sixteen_page_skin (record { item = item_in (attributed Bold); items = refl; suffix = refl; bullet = refl; quote = refl; rule = refl; borders = refl })
    (boxes_shown sixteen_page_skin.page u2501_column u2500_column refl refl refl refl refl refl refl) refl

-- the marks of the skin without styles take a column each
pub plain_marks : ArePageMarksShown plain_skin
plain_marks =
    page_shown plain_skin (record { item = unstyled_item; items = refl; suffix = refl; bullet = refl; quote = refl; rule = refl; borders = refl })
    (boxes_shown plain_skin.page u2550_column u2500_column refl refl refl refl refl refl refl) refl
