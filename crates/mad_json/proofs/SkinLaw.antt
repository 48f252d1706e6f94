-- A whole skin reads back from what it is written as.
use Rattle.std.proofs.Common.{◌≡◌, ℕ, Bool, false, List, [], length, map, refl, sym, ap, ◌∙◌, Option, Some, None, Ok}
use Rattle.std.specs.Prelude.{codes, unwrap_or}
use Rattle.std.specs.List.{All}
use Rattle.std.proofs.lemmas.Bool.{cond-false}
use Rattle.serde_json.specs.Data.{Data, string, array, Members, no_members, member, put}
use Rattle.serde_json.specs.View.{items_of}
use Rattle.serde_json.specs.Written.{has_float}
use Rattle.mad_style.specs.Borders.{borders_named}
use Rattle.mad_style.specs.declared.compound_styles.CompoundStyle.{CompoundStyle}
use Rattle.mad_style.specs.declared.line_styles.LineStyle.{LineStyle}
use Rattle.mad_style.specs.declared.ordered_items.OrderedItemStyle.{OrderedItemStyle}
use Rattle.mad_style.specs.declared.styled_chars.StyledChar.{StyledChar}
use Rattle.mad_parse.specs.ReadsBack.{IsReadBackStyle, IsReadBackLine, IsReadBackChar, IsReadBackItem}
use Rattle.mad_parse.specs.TokenStyles.{style_of, line_style_of, styled_char_of, item_style_of}
use Rattle.mad_parse.specs.Written.{tokens_text, line_style_tokens, item_tokens}
use Rattle.mad_layout.specs.Skins.{default_skin}
use Rattle.mad_layout.specs.declared.skin.MadSkin.{MadSkin}
use Rattle.mad_json.specs.Fields.{field_named}
use Rattle.mad_json.specs.Lists.{replaced, headers_said, ordered_items_said}
use Rattle.mad_json.specs.Reading.{Found, nothing_found, part_said, is_seen, now_seen, members_read, value_read, names_again, found_part, skin_and_unknown, skin_read}
use Rattle.mad_json.specs.ReadsBack.{ReadsBackStyle, ReadsBackLine, ReadsBackChar, ReadsBackItem, ReadBackAdditions, ReadBackChars, ReadBackLines, ReadBackItems, IsReadBackSkin, SkinReadsBack}
use Rattle.mad_json.specs.ScrollBars.{def_of}
use Rattle.mad_json.specs.Texts.{of_text, made, and_next, value_said}
use Rattle.mad_json.specs.Written.{style_data, line_data, char_data, item_data, bar_data, mode_text, IsNameOf, skin_data}
use Rattle.mad_json.specs.declared.fields.Field.{Field}
use Rattle.mad_json.specs.declared.fields.Field.TheVariants.{Bold, Italic, Strikeout, InlineCode, Ellipsis, Bullet, QuoteMark, HorizontalRule, ScrollBar, Paragraph, CodeBlock, Table, Headers, OrderedItems, TableBorders, IndentationMode}
use Rattle.mad_json.specs.declared.scroll_bars.ScrollBarStyleDef.{ScrollBarStyleDef}
use Rattle.mad_json.specs.declared.scroll_bars.ScrollBarStyleDef.TheVariants.{Simple, Rich}
use Rattle.mad_json.proofs.ReadingBack.{items_back, replaced_all, texts_flat}

-- ---- values

style_said : (style : CompoundStyle) → ReadsBackStyle style → IsReadBackStyle style → value_said style_of (style_data style) ≡ Ok style
style_said style reads written = ap of_text (reads written)

line_said : (line : LineStyle) → ReadsBackLine line → IsReadBackLine line → value_said line_style_of (line_data line) ≡ Ok line
line_said line reads written = ap of_text (reads written)

char_said : (drawn : StyledChar) → ReadsBackChar drawn → IsReadBackChar drawn → value_said (styled_char_of 42) (char_data drawn) ≡ Ok drawn
char_said drawn reads written = ap of_text (reads written 42)

item_said : (style : OrderedItemStyle) → ReadsBackItem style → IsReadBackItem style → value_said (item_style_of 46) (item_data style) ≡ Ok style
item_said style reads written = ap of_text (reads written 46)

-- lists that are as long as those of the default skin
lines_said : (lines old : List LineStyle) → All ReadsBackLine lines → All IsReadBackLine lines → length old ≡ length lines → headers_said (array (items_of (map line_data lines))) old ≡ Ok lines
lines_said lines old reads written same =
    ap (made (replaced old)) (items_back line_style_of line_data lines [] (λ k d within. line_said _ (reads k d within) (written k d within))) ∙ ap Ok (replaced_all old lines same)

items_all_said : (styles old : List OrderedItemStyle) → All ReadsBackItem styles → All IsReadBackItem styles → length old ≡ length styles → ordered_items_said (array (items_of (map item_data styles))) old ≡ Ok styles
items_all_said styles old reads written same =
    ap (made (replaced old)) (items_back (item_style_of 46) item_data styles [] (λ k d within. item_said _ (reads k d within) (written k d within))) ∙ ap Ok (replaced_all old styles same)

bar_flat : (def : ScrollBarStyleDef) → has_float (bar_data def) ≡ false
bar_flat (Simple drawn) = refl
bar_flat (Rich track thumb) = refl

-- ---- members

-- a member that names a part which no key named before
pub part_read : (key : List ℕ) (d : Data) (field : Field) (found : Found) (skin : MadSkin) (ms : Members) → field_named key ≡ Some field → is_seen field found.seen ≡ false → has_float d ≡ false
    → part_said field d found.skin ≡ Ok skin → members_read (member key d ms) found ≡ members_read ms (record { skin = skin; seen = now_seen field found.seen; unknown = found.unknown })
part_read key d field found skin ms names new flat said =
    ap (λ r. and_next r (members_read ms))
    (cond-false (names_again (field_named key) found.seen) _ _ (ap (λ o. names_again o found.seen) names ∙ new)
    ∙ cond-false (has_float d) _ _ flat
    ∙ ap (λ o. value_read o key d found) names
    ∙ ap (found_part key (now_seen field found.seen) found.unknown) said)

-- the members of a skin's object, in byte order
abbrev in_order : Data → Data → Data → Data → Data → Data → Data → Data → Data → Data → Data → Data → Data → Data → Data → Data → Members
in_order bold italic strikeout inline_code ellipsis bullet quote rule bar paragraph code table headers items mode borders =
    member (codes "bold") bold
    (member (codes "bullet") bullet
    (member (codes "code_block") code
    (member (codes "ellipsis") ellipsis
    (member (codes "headers") headers
    (member (codes "horizontal_rule") rule
    (member (codes "inline_code") inline_code
    (member (codes "italic") italic
    (member (codes "list_items_indentation_mode") mode
    (member (codes "ordered_items") items
    (member (codes "paragraph") paragraph
    (member (codes "quote") quote
    (member (codes "scrollbar") bar
    (member (codes "strikeout") strikeout
    (member (codes "table") table
    (member (codes "table_border_chars") borders no_members)))))))))))))))

members_in_order : (bold italic strikeout inline_code ellipsis bullet quote rule bar paragraph code table headers items mode borders : Data)
    → put (codes "table_border_chars") borders
    (put (codes "list_items_indentation_mode") mode
    (put (codes "ordered_items") items
    (put (codes "headers") headers
    (put (codes "table") table
    (put (codes "code_block") code
    (put (codes "paragraph") paragraph
    (put (codes "scrollbar") bar
    (put (codes "horizontal_rule") rule
    (put (codes "quote") quote
    (put (codes "bullet") bullet
    (put (codes "ellipsis") ellipsis
    (put (codes "inline_code") inline_code
    (put (codes "strikeout") strikeout
    (put (codes "italic") italic
    (put (codes "bold") bold no_members)))))))))))))))
    ≡ in_order bold italic strikeout inline_code ellipsis bullet quote rule bar paragraph code table headers items mode borders
members_in_order bold italic strikeout inline_code ellipsis bullet quote rule bar paragraph code table headers items mode borders = refl

-- the skin of a name that borders have
written_skin : (skin : MadSkin) (name : List ℕ) → borders_named name ≡ Some skin.table_border_chars → ReadBackAdditions skin → ReadBackChars skin → ReadBackLines skin → ReadBackItems skin → IsReadBackSkin skin
    → skin_read (skin_data skin (Some name)) ≡ Ok (skin, [])
written_skin skin name named a m l i h =
    let s0 : MadSkin = default_skin in
    let f0 : Found = nothing_found in
    let s1 : MadSkin = record s0 { bold = skin.bold } in
    let f1 : Found = record { skin = s1; seen = now_seen Bold f0.seen; unknown = [] } in
    let s2 : MadSkin = record s1 { bullet = skin.bullet } in
    let f2 : Found = record { skin = s2; seen = now_seen Bullet f1.seen; unknown = [] } in
    let s3 : MadSkin = record s2 { code_block = skin.code_block } in
    let f3 : Found = record { skin = s3; seen = now_seen CodeBlock f2.seen; unknown = [] } in
    let s4 : MadSkin = record s3 { ellipsis = skin.ellipsis } in
    let f4 : Found = record { skin = s4; seen = now_seen Ellipsis f3.seen; unknown = [] } in
    let s5 : MadSkin = record s4 { headers = skin.headers } in
    let f5 : Found = record { skin = s5; seen = now_seen Headers f4.seen; unknown = [] } in
    let s6 : MadSkin = record s5 { horizontal_rule = skin.horizontal_rule } in
    let f6 : Found = record { skin = s6; seen = now_seen HorizontalRule f5.seen; unknown = [] } in
    let s7 : MadSkin = record s6 { inline_code = skin.inline_code } in
    let f7 : Found = record { skin = s7; seen = now_seen InlineCode f6.seen; unknown = [] } in
    let s8 : MadSkin = record s7 { italic = skin.italic } in
    let f8 : Found = record { skin = s8; seen = now_seen Italic f7.seen; unknown = [] } in
    let s9 : MadSkin = record s8 { list_items_indentation_mode = skin.list_items_indentation_mode } in
    let f9 : Found = record { skin = s9; seen = now_seen IndentationMode f8.seen; unknown = [] } in
    let s10 : MadSkin = record s9 { ordered_item_styles = skin.ordered_item_styles } in
    let f10 : Found = record { skin = s10; seen = now_seen OrderedItems f9.seen; unknown = [] } in
    let s11 : MadSkin = record s10 { paragraph = skin.paragraph } in
    let f11 : Found = record { skin = s11; seen = now_seen Paragraph f10.seen; unknown = [] } in
    let s12 : MadSkin = record s11 { quote_mark = skin.quote_mark } in
    let f12 : Found = record { skin = s12; seen = now_seen QuoteMark f11.seen; unknown = [] } in
    let s13 : MadSkin = record s12 { scrollbar = skin.scrollbar } in
    let f13 : Found = record { skin = s13; seen = now_seen ScrollBar f12.seen; unknown = [] } in
    let s14 : MadSkin = record s13 { strikeout = skin.strikeout } in
    let f14 : Found = record { skin = s14; seen = now_seen Strikeout f13.seen; unknown = [] } in
    let s15 : MadSkin = record s14 { table = skin.table } in
    let f15 : Found = record { skin = s15; seen = now_seen Table f14.seen; unknown = [] } in
    let s16 : MadSkin = record s15 { table_border_chars = skin.table_border_chars } in
    let f16 : Found = record { skin = s16; seen = now_seen TableBorders f15.seen; unknown = [] } in
    let m16 : Members = no_members in
    let m15 : Members = member (codes "table_border_chars") (string name) m16 in
    let m14 : Members = member (codes "table") (line_data skin.table) m15 in
    let m13 : Members = member (codes "strikeout") (style_data skin.strikeout) m14 in
    let m12 : Members = member (codes "scrollbar") (bar_data (def_of skin.scrollbar)) m13 in
    let m11 : Members = member (codes "quote") (char_data skin.quote_mark) m12 in
    let m10 : Members = member (codes "paragraph") (line_data skin.paragraph) m11 in
    let m9 : Members = member (codes "ordered_items") (array (items_of (map item_data skin.ordered_item_styles))) m10 in
    let m8 : Members = member (codes "list_items_indentation_mode") (string (mode_text skin.list_items_indentation_mode)) m9 in
    let m7 : Members = member (codes "italic") (style_data skin.italic) m8 in
    let m6 : Members = member (codes "inline_code") (style_data skin.inline_code) m7 in
    let m5 : Members = member (codes "horizontal_rule") (char_data skin.horizontal_rule) m6 in
    let m4 : Members = member (codes "headers") (array (items_of (map line_data skin.headers))) m5 in
    let m3 : Members = member (codes "ellipsis") (style_data skin.ellipsis) m4 in
    let m2 : Members = member (codes "code_block") (line_data skin.code_block) m3 in
    let m1 : Members = member (codes "bullet") (char_data skin.bullet) m2 in
    ap (λ ms. skin_and_unknown (members_read ms nothing_found)) (members_in_order (style_data skin.bold) (style_data skin.italic) (style_data skin.strikeout) (style_data skin.inline_code) (style_data skin.ellipsis) (char_data skin.bullet) (char_data skin.quote_mark) (char_data skin.horizontal_rule) (bar_data (def_of skin.scrollbar)) (line_data skin.paragraph) (line_data skin.code_block) (line_data skin.table) (array (items_of (map line_data skin.headers))) (array (items_of (map item_data skin.ordered_item_styles))) (string (mode_text skin.list_items_indentation_mode)) (string name))
    ∙ ap skin_and_unknown
    (part_read (codes "bold") (style_data skin.bold) Bold f0 s1 m1 refl refl (refl) (ap (made (λ x. record s0 { bold = x })) (style_said _ a.bold h.bold))
    ∙ part_read (codes "bullet") (char_data skin.bullet) Bullet f1 s2 m2 refl refl (refl) (ap (made (λ x. record s1 { bullet = x })) (char_said _ m.bullet h.bullet))
    ∙ part_read (codes "code_block") (line_data skin.code_block) CodeBlock f2 s3 m3 refl refl (refl) (ap (made (λ x. record s2 { code_block = x })) (line_said _ l.code_block h.code_block))
    ∙ part_read (codes "ellipsis") (style_data skin.ellipsis) Ellipsis f3 s4 m4 refl refl (refl) (ap (made (λ x. record s3 { ellipsis = x })) (style_said _ a.ellipsis h.ellipsis))
    ∙ part_read (codes "headers") (array (items_of (map line_data skin.headers))) Headers f4 s5 m5 refl refl (texts_flat (λ x. tokens_text (line_style_tokens x)) skin.headers) (ap (made (λ x. record s4 { headers = x })) (lines_said skin.headers default_skin.headers l.headers h.headers (sym l.levels)))
    ∙ part_read (codes "horizontal_rule") (char_data skin.horizontal_rule) HorizontalRule f5 s6 m6 refl refl (refl) (ap (made (λ x. record s5 { horizontal_rule = x })) (char_said _ m.horizontal_rule h.horizontal_rule))
    ∙ part_read (codes "inline_code") (style_data skin.inline_code) InlineCode f6 s7 m7 refl refl (refl) (ap (made (λ x. record s6 { inline_code = x })) (style_said _ a.inline_code h.inline_code))
    ∙ part_read (codes "italic") (style_data skin.italic) Italic f7 s8 m8 refl refl (refl) (ap (made (λ x. record s7 { italic = x })) (style_said _ a.italic h.italic))
    ∙ part_read (codes "list_items_indentation_mode") (string (mode_text skin.list_items_indentation_mode)) IndentationMode f8 s9 m9 refl refl (refl) (ap (made (λ x. record s8 { list_items_indentation_mode = x })) (i.mode))
    ∙ part_read (codes "ordered_items") (array (items_of (map item_data skin.ordered_item_styles))) OrderedItems f9 s10 m10 refl refl (texts_flat (λ x. tokens_text (item_tokens x)) skin.ordered_item_styles) (ap (made (λ x. record s9 { ordered_item_styles = x })) (items_all_said skin.ordered_item_styles default_skin.ordered_item_styles i.items h.ordered_items (sym i.levels)))
    ∙ part_read (codes "paragraph") (line_data skin.paragraph) Paragraph f10 s11 m11 refl refl (refl) (ap (made (λ x. record s10 { paragraph = x })) (line_said _ l.paragraph h.paragraph))
    ∙ part_read (codes "quote") (char_data skin.quote_mark) QuoteMark f11 s12 m12 refl refl (refl) (ap (made (λ x. record s11 { quote_mark = x })) (char_said _ m.quote_mark h.quote_mark))
    ∙ part_read (codes "scrollbar") (bar_data (def_of skin.scrollbar)) ScrollBar f12 s13 m13 refl refl (bar_flat (def_of skin.scrollbar)) (ap (made (λ x. record s12 { scrollbar = x })) (m.scrollbar h.scrollbar))
    ∙ part_read (codes "strikeout") (style_data skin.strikeout) Strikeout f13 s14 m14 refl refl (refl) (ap (made (λ x. record s13 { strikeout = x })) (style_said _ a.strikeout h.strikeout))
    ∙ part_read (codes "table") (line_data skin.table) Table f14 s15 m15 refl refl (refl) (ap (made (λ x. record s14 { table = x })) (line_said _ l.table h.table))
    ∙ part_read (codes "table_border_chars") (string name) TableBorders f15 s16 m16 refl refl (refl) (ap (λ o. let s : MadSkin = record s15 { table_border_chars = unwrap_or o s15.table_border_chars } in Ok s) named))
    ∙ ap (λ (b : Bool). Ok (record skin { whole_words = b }, [])) (sym h.whole_words)

-- a skin whose parts each read back is read equal from its value
pub skin_back : (skin : MadSkin) (name : Option (List ℕ)) (d : Data) → IsNameOf skin.table_border_chars name → d ≡ skin_data skin name → ReadBackAdditions skin → ReadBackChars skin → ReadBackLines skin → ReadBackItems skin → SkinReadsBack skin d
skin_back skin None d unnamed is a m l i h = absurd (unnamed h.borders.0 h.borders.1)
skin_back skin (Some name) d named is a m l i h = ap skin_read is ∙ written_skin skin name named a m l i h
