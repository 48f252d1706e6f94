-- A layout of a printable text is drawn exactly.
use Rattle.std.proofs.Common.{◌≡◌, ℕ, Bool, true, false, zero, suc, ◌+◌, ◌-◌, ◌^◌, ◌<◌, ◌≤◌, inl, inr, List, [], ◌∷◌, ◌++◌, map, Option, Some, None, Contains, drop, length, min, take, refl, sym, ap, ◌∙◌, subst, arith, append_assoc}
use Rattle.std.specs.Prelude.{IfSome, unwrap_or}
use Rattle.std.specs.List.{AllByRecursion}
use Rattle.mad_characters.specs.Columns.{char_columns}
use Rattle.mad_md.specs.Flagged.{FlaggedChar, run_of, flagged_text}
use Rattle.mad_md.specs.declared.alignment.Alignment.{Alignment}
use Rattle.mad_md.specs.Lines.{StyledRuns, LineContent, normal, table_row, table_rule, horizontal_rule}
use Rattle.mad_md.specs.declared.compound.Compound.{Compound}
use Rattle.mad_style.specs.Kinds.{kind_of}
use Rattle.mad_style.specs.LineStyles.{width_inside}
use Rattle.mad_style.specs.declared.kinds.CompositeKind.{CompositeKind}
use Rattle.mad_measure.specs.TextColumns.{width_of}
use Rattle.mad_measure.specs.Tokens.{token_run}
use Rattle.mad_measure.specs.declared.tokens.Token.{Token}
use Rattle.mad_measure.proofs.AllLemmas.{all_joined, all_each}
use Rattle.mad_measure.proofs.ExistLemmas.{tokens_of_all}
use Rattle.mad_wrap.specs.Rooms.{most_indent, token_limit}
use Rattle.mad_wrap.specs.WrapLines.{HasRoom, LinesFit, IsMadeOf}
use Rattle.mad_wrap.specs.declared.room.Room.{Room}
use Rattle.mad_layout.specs.Drawable.{IsDrawableLine, AreDrawable}
use Rattle.mad_measure.specs.declared.spacing.Spacing.{Spacing}
use Rattle.mad_blocks.specs.FittingLayouts.{IsFittingWrap, IsFittingLayout}
use Rattle.mad_format.specs.Indents.{indent, follow_up, room_of}
use Rattle.mad_blocks.specs.Layouts.{AreRead}
use Rattle.mad_blocks.proofs.WideLayouts.{IsLayout}
use Rattle.mad_format.specs.FmtLines.{IsLineRead, is_table_line}
use Rattle.mad_blocks.specs.LayoutParts.{Part, table, block, single, parts_of, justified, code_room, IsLineAt, AreLinesAt, ArePartsAt}
use Rattle.mad_layout.specs.Premises.{inner_width, runs_text}
use Rattle.mad_rows.specs.Rows.{place_of}
use Rattle.mad_rows.specs.RowStyles.{line_rules, line_style}
use Rattle.mad_format.specs.CompositeWraps.{line_compounds, HaveKinds}
use Rattle.mad_format.specs.WrappedLines.{inner_columns_at, style_margins, line_with, IsLaidOutBy}
use Rattle.mad_blocks.specs.TextParts.{LineInPart, text_parts, aligns_at, lines_in, lines_in_parts}
use Rattle.mad_format.specs.Wraps.{text_of, columns_of, IsMeasured}
use Rattle.mad_rows.specs.declared.row_skin.RowSkin.{RowSkin}
use Rattle.mad_format.specs.declared.composite.FmtComposite.{FmtComposite}
use Rattle.mad_format.specs.declared.line.FmtLine.{FmtLine}
use Rattle.mad_format.specs.declared.line.FmtLine.TheVariants.{Normal, TableRow, TableRule, HorizontalRule}
use Rattle.mad_layout.proofs.DrawableTables.{Later, table_drawable}
use Rattle.mad_layout.proofs.DrawnParts.{each_of, pieces_shown, runs_are, some_joined, utf8_of}
use Rattle.mad_layout.proofs.PrefixLemmas.{prefix_shown, prefix_columns, follow_up_printable}
use Rattle.mad_blocks.proofs.PartLemmas.{IsPlacedOrKept, ArePlacedOrKept, IsPartOfKind, parts_kinds, code_placed}
use Rattle.mad_layout.proofs.ReadParts.{ArePartsRead, parts_read, part_raw, all_in}
use Rattle.mad_blocks.proofs.WrapKinds.{layout_fits}
use Rattle.mad_format.proofs.ReadWraps.{margins-le}
use Rattle.mad_layout.proofs.ColumnChars.{column_piece}
use Rattle.mad_layout.proofs.WholeTokens.{IsShownRun, printable_is_shown, tokens_shown}
use Rattle.mad_layout.proofs.SoundLines.{IsSoundRun, IsSoundPrefix, IsSoundText, IsSoundContent, AreSoundLines}

-- ---- one line

-- a line of this many columns within its own place, if it has one, which fits with these margins
abbrev FitsPlace : Option Spacing → ℕ → ℕ × ℕ → ℕ → Type 0
FitsPlace place columns margins drawn = IfSome place (λ s. (columns ≤ s.width) × (margins.0 + s.width + margins.1 ≤ drawn))

within_place : (place : Option Spacing) (length columns : ℕ) (margins : ℕ × ℕ) (drawn : ℕ) → length ≡ columns → FitsPlace place columns margins drawn → IfSome place (λ s. length ≤ s.width)
within_place None length columns margins drawn same h = tt
within_place (Some s) length columns margins drawn same h = omega (arith, same, h.0)

place_inside : (place : Option Spacing) (length columns : ℕ) (margins : ℕ × ℕ) (drawn : ℕ) → length ≡ columns → margins.0 + columns + margins.1 ≤ drawn → FitsPlace place columns margins drawn
    → margins.0 + unwrap_or (place_of place) length + margins.1 ≤ drawn
place_inside None length columns margins drawn same fits h = omega (arith, same, fits)
place_inside (Some s) length columns margins drawn same fits h = h.1

-- a line that fits with these margins
drawable : (skin : RowSkin) (drawn : ℕ) (margins : ℕ × ℕ) (l : FmtComposite) → drawn < 2 ^ 64 - 1 → IsSoundPrefix skin l.kind → IsMeasured (line_rules skin) l
    → margins.0 + columns_of (line_rules skin) l + margins.1 ≤ drawn → FitsPlace l.spacing (columns_of (line_rules skin) l) margins drawn → AllByRecursion IsShownRun (map run_of l.compounds.items) → IsDrawableLine skin drawn (line_with margins l)
drawable skin drawn margins l bound prefix measured fits place shown =
    let same : l.visible_length ≡ columns_of (line_rules skin) l = omega (arith, measured, fits, bound) in
    record {
      margins = margins;
      margins_are = refl;
      fits = place_inside l.spacing l.visible_length (columns_of (line_rules skin) l) margins drawn same fits place;
      fills = record {
        measured = same;
        place = within_place l.spacing l.visible_length (columns_of (line_rules skin) l) margins drawn same place;
        prefix = prefix_shown skin l.kind prefix;
        indent_is = prefix_columns skin l.kind prefix;
        text = pieces_shown skin (line_style skin l.kind) l.compounds.items shown;
      };
    }

narrower_fits : (place : Option Spacing) (columns wider : ℕ) (margins : ℕ × ℕ) (drawn : ℕ) → columns ≤ wider → FitsPlace place wider margins drawn → FitsPlace place columns margins drawn
narrower_fits None columns wider margins drawn less h = tt
narrower_fits (Some s) columns wider margins drawn less h = (omega (arith, less, h.0), h.1)

-- the lines of a composite that is wrapped in what its margins leave
wrapped_drawable : (skin : RowSkin) (drawn first : ℕ) (margins : ℕ × ℕ) (kind other : CompositeKind) (place : Option Spacing) (r : Room) (ps : List Compound) (ts : List Token) (wrap : List FmtComposite) → drawn < 2 ^ 64 - 1
    → margins.0 + r.width + margins.1 ≤ drawn → FitsPlace place r.width margins drawn → first ≡ indent skin.list_items_indentation_mode kind → r.other ≡ indent skin.list_items_indentation_mode other
    → IsSoundPrefix skin kind → IsSoundPrefix skin other → AllByRecursion IsShownRun (map run_of ps ++ map token_run ts) → HaveKinds kind other wrap → AllByRecursion (λ l. l.spacing ≡ place) wrap
    → AllByRecursion (IsMeasured (line_rules skin)) wrap → LinesFit first r (map flagged_text (line_compounds wrap)) → AllByRecursion (IsMadeOf ps ts) (line_compounds wrap) → AreDrawable skin drawn (map (line_with margins) wrap)
wrapped_drawable skin drawn first margins kind other place r ps ts [] bound inside fits_place first_is other_is prefix follow shown kinds spacing measured fits parts = tt
wrapped_drawable skin drawn first margins kind other place r ps ts (l ∷ ls) bound inside fits_place first_is other_is prefix follow shown kinds spacing measured fits parts =
    let runs = map run_of ps ++ map token_run ts in
    let own : indent skin.list_items_indentation_mode l.kind ≡ first = ap (indent skin.list_items_indentation_mode) kinds.0 ∙ sym first_is in
    let columns : columns_of (line_rules skin) l ≤ r.width = omega (arith, own, fits.0) in
    let in_place : FitsPlace l.spacing (columns_of (line_rules skin) l) margins drawn =
    subst (λ (s : Option Spacing). FitsPlace s (columns_of (line_rules skin) l) margins drawn) (sym spacing.0) (narrower_fits place (columns_of (line_rules skin) l) r.width margins drawn columns fits_place) in (
      drawable skin drawn margins l bound (subst (IsSoundPrefix skin) (sym kinds.0) prefix) measured.0 (omega (arith, columns, inside)) in_place
          (all_each (Contains runs) IsShownRun (λ x has. each_of IsShownRun runs x shown has) (map run_of l.compounds.items) parts.0),
      wrapped_drawable skin drawn r.other margins other other place r ps ts ls bound inside fits_place other_is other_is follow follow shown kinds.1 spacing.1 measured.1 fits.1 parts.1,
    )

-- ---- a composite as it was read

-- what the margins of a composite's kind leave of a width
abbrev pub inner_of : RowSkin → ℕ → FmtComposite → ℕ
inner_of skin width l = inner_columns_at (line_rules skin) width l

-- The composite says what was read, and has no place of its own, or one that is no wider than what its margins leave, and as wide as the
-- composite or as that.
pub record IsPlacedFor (skin : RowSkin) (width : ℕ) (line : StyledRuns) (l : FmtComposite) : Type 0 where
  pub kind : l.kind ≡ kind_of line.style
  pub text : map run_of l.compounds.items ≡ line.runs
  pub measured : IsMeasured (line_rules skin) l
  pub place : IfSome l.spacing (λ s. (s.width ≤ inner_of skin width l) × (min l.visible_length (inner_of skin width l) ≤ s.width))

-- where the composite doesn't fit, its characters have room
pub has_room : (skin : RowSkin) (width : ℕ) (line : StyledRuns) (source : FmtComposite) → IsSoundText skin (inner_width skin width line) (kind_of line.style) line.runs → IsPlacedFor skin width line source
    → width < source.visible_length + (style_margins (line_rules skin) width source).0 + (style_margins (line_rules skin) width source).1 → HasRoom (room_of (line_rules skin) source.kind (inner_of skin width source)) (text_of source)
has_room skin width line source printable read wide =
    let left = λ (k : CompositeKind). width_inside (line_style skin k) width in
    let premise = λ (k : CompositeKind) (text : List FlaggedChar). left k < indent skin.list_items_indentation_mode k + width_of text → HasRoom (room_of (line_rules skin) k (left k)) text in
    let text : runs_text line.runs ≡ text_of source = ap runs_text (sym read.text) ∙ runs_are source.compounds.items in
    let room : premise source.kind (text_of source) = subst (λ k. premise k (text_of source)) (sym read.kind) (subst (premise (kind_of line.style)) text printable.room) in
    room (omega (arith, wide, read.measured, margins-le (line_style skin source.kind) width))

kept_place : (place : Option Spacing) (length columns inner : ℕ) (margins : ℕ × ℕ) (drawn : ℕ) → columns ≡ length → length ≤ inner → margins.0 + inner + margins.1 ≤ drawn
    → IfSome place (λ s. (s.width ≤ inner) × (min length inner ≤ s.width)) → FitsPlace place columns margins drawn
kept_place None length columns inner margins drawn same fits inside h = tt
kept_place (Some s) length columns inner margins drawn same fits inside h = (omega (arith, same, fits, h.1), omega (arith, inside, h.0))

wrapped_place : (place : Option Spacing) (length inner : ℕ) (margins : ℕ × ℕ) (drawn : ℕ) → inner < length → margins.0 + inner + margins.1 ≤ drawn
    → IfSome place (λ s. (s.width ≤ inner) × (min length inner ≤ s.width)) → FitsPlace place inner margins drawn
wrapped_place None length inner margins drawn wide inside h = tt
wrapped_place (Some s) length inner margins drawn wide inside h = (omega (arith, wide, h.1), omega (arith, inside, h.0))

read_drawable : (skin : RowSkin) (width drawn : ℕ) (line : StyledRuns) (source : FmtComposite) (lines : List FmtLine) → width ≤ drawn → drawn < 2 ^ 64 - 1
    → IsSoundText skin (inner_width skin width line) (kind_of line.style) line.runs → IsPlacedFor skin width line source → IsLaidOutBy IsFittingWrap (line_rules skin) width source lines → AreDrawable skin drawn lines
read_drawable skin width drawn line source lines narrower bound printable read (inl (fits, same)) =
    let margins : ℕ × ℕ = style_margins (line_rules skin) width source in
    let prefix : IsSoundPrefix skin source.kind = subst (IsSoundPrefix skin) (sym read.kind) printable.prefix in
    let runs : AllByRecursion IsSoundRun (map run_of source.compounds.items) = subst (AllByRecursion IsSoundRun) (sym read.text) printable.printable in
    let columns : columns_of (line_rules skin) source ≡ source.visible_length = omega (arith, fits, read.measured, narrower, bound) in
    let inside : margins.0 + inner_of skin width source + margins.1 ≤ drawn = omega (arith, narrower, margins-le (line_style skin source.kind) width) in
    let inner : source.visible_length ≤ inner_of skin width source = omega (arith, fits) in
    let one = drawable skin drawn margins source bound prefix read.measured (omega (arith, fits, columns, narrower))
    (kept_place source.spacing source.visible_length (columns_of (line_rules skin) source) (inner_of skin width source) margins drawn columns inner inside read.place)
    (all_each IsSoundRun IsShownRun printable_is_shown (map run_of source.compounds.items) runs) in
    subst (AreDrawable skin drawn) (sym same) (one, tt)
read_drawable skin width drawn line source lines narrower bound printable read (inr (wide, (wrap, wraps, same))) =
    let ps = source.compounds.items in
    let margins : ℕ × ℕ = style_margins (line_rules skin) width source in
    let prefix : IsSoundPrefix skin source.kind = subst (IsSoundPrefix skin) (sym read.kind) printable.prefix in
    let r : Room = room_of (line_rules skin) source.kind (inner_of skin width source) in
    let runs : AllByRecursion IsSoundRun (map run_of ps) = subst (AllByRecursion IsSoundRun) (sym read.text) printable.printable in
    let room : HasRoom r (text_of source) = has_room skin width line source printable read wide in
    let narrow : AllByRecursion (λ x. char_columns x.char ≤ token_limit r) (flagged_text ps) =
    all_each (λ x. most_indent r + char_columns x.char ≤ r.width) (λ x. char_columns x.char ≤ token_limit r) (λ x h. omega (arith, h)) (flagged_text ps) room.each in
    let tokens = tokens_of_all (token_limit r) ps (utf8_of ps runs) in
    let shown = all_joined IsShownRun (map run_of ps) (map token_run tokens.0) (all_each IsSoundRun IsShownRun printable_is_shown (map run_of ps) runs)
    (tokens_shown (token_limit r) ps tokens.0 runs narrow tokens.1) in
    let inside : margins.0 + r.width + margins.1 ≤ drawn = omega (arith, narrower, margins-le (line_style skin source.kind) width) in
    let place : FitsPlace source.spacing r.width margins drawn =
    wrapped_place source.spacing source.visible_length (inner_of skin width source) margins drawn (omega (arith, wide, margins-le (line_style skin source.kind) width)) inside read.place in
    subst (AreDrawable skin drawn) (sym same)
    (wrapped_drawable skin drawn r.first margins source.kind (follow_up source.kind) source.spacing r ps tokens.0 wrap bound inside place refl refl prefix (follow_up_printable skin source.kind prefix) shown
    wraps.made.kinds wraps.made.spacing wraps.made.measured (wraps.fits room) (wraps.parts tokens.0 tokens.1))

-- ---- a text

-- so it has a line at least
read_some : (skin : RowSkin) (width : ℕ) (line : StyledRuns) (source : FmtComposite) (lines : List FmtLine) → IsSoundText skin (inner_width skin width line) (kind_of line.style) line.runs → IsPlacedFor skin width line source
    → IsLaidOutBy IsFittingWrap (line_rules skin) width source lines → 0 < length lines
read_some skin width line source lines printable read (inl (fits, same)) = let one : length lines ≡ 1 = ap length same in omega (arith, one)
read_some skin width line source lines printable read (inr (wide, ([], wraps, same))) =
    let room : HasRoom (room_of (line_rules skin) source.kind (inner_of skin width source)) (text_of source) = has_room skin width line source printable read wide in
    let empty : width_of (text_of source) ≡ 0 = ap width_of wraps.keeps in
    absurd (omega (arith, wide, read.measured, room.indent, empty, margins-le (line_style skin source.kind) width))
read_some skin width line source lines printable read (inr (wide, (w ∷ ws, wraps, same))) =
    let more : length lines ≡ suc (length (map (line_with (style_margins (line_rules skin) width source)) ws)) = ap length same in omega (arith, more)

-- what becomes of one line of a text
content_drawable : (skin : RowSkin) (width drawn : ℕ) (part : List LineContent) (content : LineContent) (l m : FmtLine) (own : List FmtLine) → width ≤ drawn → drawn < 2 ^ 64 - 1 → IsSoundContent skin width part content → IsLineRead (line_rules skin) content l → is_table_line l ≡ false
    → IsPlacedOrKept (line_rules skin) width l m → IsLineAt IsFittingWrap (line_rules skin) (Some width) m own → (0 < length own) × AreDrawable skin drawn own
content_drawable skin width drawn part (table_row cells) (TableRow row) m own narrower bound printable read alone placed here = absurd (cc)
content_drawable skin width drawn part (table_rule aligns) (TableRule rule) m own narrower bound printable read alone placed here = absurd (cc)
content_drawable skin width drawn part (normal said) (Normal l) m own narrower bound printable read alone (inl same) here =
    let becomes : IsLaidOutBy IsFittingWrap (line_rules skin) width l own = subst (λ (x : FmtLine). IsLineAt IsFittingWrap (line_rules skin) (Some width) x own) same here in
    let is : IsPlacedFor skin width said l = record {
      kind = read.kind;
      text = read.text;
      measured = read.measured;
      place = subst (λ (s : Option Spacing). IfSome s (λ p. (p.width ≤ inner_of skin width l) × (min l.visible_length (inner_of skin width l) ≤ p.width))) (sym read.spacing) tt;
    } in
    (read_some skin width said l own printable is becomes, read_drawable skin width drawn said l own narrower bound printable is becomes)
content_drawable skin width drawn part (normal said) (Normal l) m own narrower bound printable read alone (inr placed) here =
    let p : FmtComposite = record l { spacing = Some placed.place } in
    let becomes : IsLaidOutBy IsFittingWrap (line_rules skin) width p own = subst (λ (x : FmtLine). IsLineAt IsFittingWrap (line_rules skin) (Some width) x own) placed.is here in
    let is : IsPlacedFor skin width said p = record { kind = read.kind; text = read.text; measured = read.measured; place = (placed.inside, placed.holds) } in
    (read_some skin width said p own printable is becomes, read_drawable skin width drawn said p own narrower bound printable is becomes)
content_drawable skin width drawn part horizontal_rule HorizontalRule m own narrower bound printable read alone (inl same) here =
    let becomes : own ≡ HorizontalRule ∷ [] = subst (λ (x : FmtLine). IsLineAt IsFittingWrap (line_rules skin) (Some width) x own) same here in
    let one : length own ≡ 1 = ap length becomes in
    (omega (arith, one), subst (AreDrawable skin drawn) (sym becomes) (column_piece skin.horizontal_rule printable, tt))
content_drawable skin width drawn part horizontal_rule HorizontalRule m own narrower bound printable read alone (inr placed) here = absurd placed
content_drawable skin width drawn part _ _ m own narrower bound printable read alone _ here = absurd read

-- the lines of a part, where those of the parts after it are drawn exactly
lines_drawable : (skin : RowSkin) (width drawn n : ℕ) (part : List LineContent) (above : Option (List Alignment)) (begins : Bool) (text : List LineContent) (xs : List LineInPart) (read placed own others : List FmtLine) → width ≤ drawn → drawn < 2 ^ 64 - 1 → Later skin width drawn xs others
    → AreSoundLines skin width (take n (lines_in part above begins text ++ xs)) → AreRead (line_rules skin) text read → AllByRecursion (λ l. is_table_line l ≡ false) read → ArePlacedOrKept (line_rules skin) width read placed → AreLinesAt IsFittingWrap (line_rules skin) (Some width) placed own
    → AreDrawable skin drawn (take n (own ++ others))
lines_drawable skin width drawn zero part above begins text xs read placed own others narrower bound later keeps reads alone places becomes = tt
lines_drawable skin width drawn (suc n) part above begins [] xs [] [] own others narrower bound later keeps reads alone places becomes =
    subst (λ (ls : List FmtLine). AreDrawable skin drawn (take (suc n) (ls ++ others))) (sym becomes) (later (suc n) keeps)
lines_drawable skin width drawn (suc n) part above begins (c ∷ cs) xs [] [] own others narrower bound later keeps reads alone places becomes = absurd reads
lines_drawable skin width drawn (suc n) part above begins [] xs (l ∷ ls) placed own others narrower bound later keeps reads alone places becomes = absurd reads
lines_drawable skin width drawn (suc n) part above begins (c ∷ cs) xs (l ∷ ls) (m ∷ ms) own others narrower bound later keeps reads alone places (first, more, joins, here, below) =
    let one = content_drawable skin width drawn part c l m first narrower bound keeps.0 reads.0 alone.0 places.0 here in
    subst (λ (xs : List FmtLine). AreDrawable skin drawn (take (suc n) xs)) (sym (ap (λ xs. xs ++ others) joins ∙ append_assoc first more others))
    (some_joined skin drawn first (more ++ others) n one.0 one.1 (lines_drawable skin width drawn n part (aligns_at above c) false cs xs ls ms more others narrower bound later keeps.1 reads.1 alone.1 places.1 below))
lines_drawable skin width drawn _ part above begins _ xs _ _ own others narrower bound later keeps reads alone places _ = absurd places

no_table_lines : (ls : List FmtComposite) → AllByRecursion (λ l. is_table_line l ≡ false) (map Normal ls)
no_table_lines [] = tt
no_table_lines (l ∷ ls) = (refl, no_table_lines ls)

-- the parts of a text, one after the other
parts_drawable : (skin : RowSkin) (width drawn n : ℕ) (css : List (List LineContent)) (ps : List Part) (lines : List FmtLine) → width ≤ drawn → drawn < 2 ^ 64 - 1 → AllByRecursion IsPartOfKind ps
    → AreSoundLines skin width (take n (all_in css)) → ArePartsRead skin css ps → ArePartsAt IsFittingWrap (line_rules skin) width (Some width) ps lines → AreDrawable skin drawn (take n lines)
parts_drawable skin width drawn zero css ps lines narrower bound kinds keeps reads becomes = tt
parts_drawable skin width drawn (suc n) [] [] lines narrower bound kinds keeps reads becomes = subst (λ (ls : List FmtLine). AreDrawable skin drawn (take (suc n) ls)) (sym becomes) tt
parts_drawable skin width drawn (suc n) ([] ∷ css) (p ∷ ps) lines narrower bound kinds keeps reads becomes = absurd reads.0
parts_drawable skin width drawn (suc n) ((c ∷ cs) ∷ css) (table [] ∷ ps) lines narrower bound kinds keeps reads becomes = absurd reads.0
parts_drawable skin width drawn (suc n) ((c ∷ cs) ∷ css) (table (l ∷ ls) ∷ ps) lines narrower bound kinds keeps reads (own, others, joins, here, more) =
    subst (λ (xs : List FmtLine). AreDrawable skin drawn (take (suc n) xs)) (sym joins)
    (table_drawable skin width drawn n c cs (all_in css) l ls own others narrower bound (λ m k. parts_drawable skin width drawn m css ps others narrower bound kinds.1 k reads.1 more) keeps reads.0 kinds.0 here)
parts_drawable skin width drawn (suc n) ((c ∷ cs) ∷ css) (block ls ∷ ps) lines narrower bound kinds keeps reads (own, others, joins, here, more) =
    subst (λ (xs : List FmtLine). AreDrawable skin drawn (take (suc n) xs)) (sym joins)
    (lines_drawable skin width drawn (suc n) (c ∷ cs) None true (c ∷ cs) (all_in css) (map Normal ls) (map Normal (justified (code_room (line_rules skin) (Some width)) ls)) own others narrower bound
    (λ m k. parts_drawable skin width drawn m css ps others narrower bound kinds.1 k reads.1 more) keeps (part_raw skin (c ∷ cs) (block ls) reads.0) (no_table_lines ls) (code_placed (line_rules skin) width ls kinds.0) here)
parts_drawable skin width drawn (suc n) ((c ∷ cs) ∷ css) (single l ∷ ps) lines narrower bound kinds keeps reads (own, others, joins, here, more) =
    subst (λ (xs : List FmtLine). AreDrawable skin drawn (take (suc n) xs)) (sym joins)
    (lines_drawable skin width drawn (suc n) (c ∷ cs) None true (c ∷ cs) (all_in css) (l ∷ []) (l ∷ []) own others narrower bound
    (λ m k. parts_drawable skin width drawn m css ps others narrower bound kinds.1 k reads.1 more) keeps (part_raw skin (c ∷ cs) (single l) reads.0) (kinds.0, tt) (inl refl, tt) here)
parts_drawable skin width drawn _ _ _ lines narrower bound kinds keeps reads _ = absurd reads

-- Where the first lines of a text keep the premises, the first lines of its layout are drawn exactly in a row at least as wide, however
-- many lines it has.
pub fitting_is_drawable : (skin : RowSkin) (width drawn n : ℕ) (text : List LineContent) (lines : List FmtLine) → width ≤ drawn → drawn < 2 ^ 64 - 1
    → AreSoundLines skin width (take n (lines_in_parts text)) → IsFittingLayout (line_rules skin) width text lines → AreDrawable skin drawn (take n lines)
fitting_is_drawable skin width drawn n text lines narrower bound keeps layout =
    parts_drawable skin width drawn n (text_parts text) (parts_of layout.read) lines narrower bound (parts_kinds layout.read) keeps (parts_read skin text layout.read layout.reads) layout.laid

-- ---- a layout with the fewest lines

-- So are the first lines of a layout with the fewest lines.
pub layout_is_drawable : (skin : RowSkin) (width drawn n : ℕ) (text : List LineContent) (lines : List FmtLine) → width ≤ drawn → drawn < 2 ^ 64 - 1
    → AreSoundLines skin width (take n (lines_in_parts text)) → IsLayout (line_rules skin) width text lines → AreDrawable skin drawn (take n lines)
layout_is_drawable skin width drawn n text lines narrower bound keeps layout = fitting_is_drawable skin width drawn n text lines narrower bound keeps (layout_fits (line_rules skin) width text lines layout)

-- ---- the lines that have a row

none_drawable : (skin : RowSkin) (width n : ℕ) → AreDrawable skin width (take n [])
none_drawable skin width zero = tt
none_drawable skin width (suc n) = tt

-- of the first lines, those from one on
pub drawable_from : (skin : RowSkin) (width : ℕ) (lines : List FmtLine) (scroll count n : ℕ) → n ≡ scroll + count → AreDrawable skin width (take n lines) → AreDrawable skin width (take count (drop scroll lines))
drawable_from skin width lines zero count n e h = let same : n ≡ count = omega (arith, e) in subst (λ (m : ℕ). AreDrawable skin width (take m lines)) same h
drawable_from skin width [] (suc scroll) count n e h = none_drawable skin width count
drawable_from skin width (l ∷ lines) (suc scroll) count zero e h = absurd (omega (arith, e))
drawable_from skin width (l ∷ lines) (suc scroll) count (suc n) e h = drawable_from skin width lines scroll count n (omega (arith, e)) h.1
