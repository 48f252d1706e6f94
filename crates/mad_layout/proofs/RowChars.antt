-- The characters of a row's pieces, and of a line across an area.
use Rattle.std.proofs.Common.{◌≡◌, ℕ, zero, suc, ◌+◌, ◌-◌, ◌^◌, ◌<◌, ◌≤◌, Bool, true, false, List, [], ◌∷◌, ◌++◌, map, replicate, chars, Option, Some, None, if◌then◌else◌, refl, ap, sym, ◌∙◌, subst, arith, append_assoc}
use Rattle.std.specs.Prelude.{unwrap_or, min, decimal}
use Rattle.std.specs.List.{repeat}
use Rattle.std.specs.Str.{IsUtf8}
use Rattle.std.proofs.lemmas.Fmt.{IsAscii-decimal}
use Rattle.std.proofs.lemmas.List.{append-nil, map-append}
use Rattle.std.proofs.lemmas.Str.{chars-IsAscii, chars-append, chars-nil}
use Rattle.mad_measure.proofs.UniqueLemmas.{chars_of_flagged}
use Rattle.mad_screen.specs.Glyph.{Look}
use Rattle.mad_screen.specs.Painting.{look_of_style}
use Rattle.mad_md.specs.declared.alignment.Alignment.TheVariants.{Left}
use Rattle.mad_md.specs.Flagged.{FlaggedChar, flags_of, flagged_of, flagged_text}
use Rattle.mad_md.specs.Lines.{StyledRuns, LineContent}
use Rattle.mad_md.specs.declared.compound.Compound.{Compound}
use Rattle.mad_style.specs.LineStyles.{margins_at}
use Rattle.mad_style.specs.StyledChars.{char_alone, char_style}
use Rattle.mad_style.specs.declared.compound_styles.CompoundStyle.{CompoundStyle}
use Rattle.mad_style.specs.declared.kinds.CompositeKind.{CompositeKind}
use Rattle.mad_style.specs.declared.kinds.CompositeKind.TheVariants.{ListItem, ListItemFollowUp, OrderedListItem, OrderedListItemFollowUp, Quote}
use Rattle.mad_style.specs.declared.line_styles.LineStyle.{LineStyle}
use Rattle.mad_style.specs.declared.styled_chars.StyledChar.{StyledChar}
use Rattle.mad_measure.specs.Completions.{left_completion}
use Rattle.mad_measure.specs.declared.spacing.Spacing.{Spacing}
use Rattle.mad_draw.specs.Pieces.{RowPiece, IsColumnPiece, char_piece, char_repeat, PennedChar, penned_chars, spaces, single_spaces}
use Rattle.mad_draw.proofs.PieceLemmas.{ascii_spaces}
use Rattle.mad_layout.specs.FlaggedLines.{widest_in, skin_char, front_of, placed_columns, row_across}
use Rattle.mad_style.specs.OrderedItems.{ordered_indent}
use Rattle.mad_format.specs.Indents.{later_indent}
use Rattle.mad_blocks.specs.LayoutParts.{is_code_kind}
use Rattle.mad_layout.specs.Premises.{inner_width}
use Rattle.mad_rows.specs.Rows.{number_piece, prefix_space, prefix_pieces, compound_piece, composite_pieces, row_pieces, left_of_place, right_of_place, align_in, place_of, inner_blanks, outer_blanks}
use Rattle.mad_rows.specs.RowStyles.{line_rules, line_style, ordered_item_style}
use Rattle.mad_format.specs.WrappedLines.{line_with}
use Rattle.mad_format.specs.Wraps.{text_of, columns_of, IsMeasured}
use Rattle.mad_rows.specs.declared.row_skin.RowSkin.{RowSkin}
use Rattle.mad_format.specs.declared.composite.FmtComposite.{FmtComposite}
use Rattle.mad_format.specs.declared.line.FmtLine.{FmtLine}
use Rattle.mad_format.proofs.ReadWraps.{margins-le}
use Rattle.mad_layout.proofs.RowLemmas.{left_completion-le}
use Rattle.mad_blocks.proofs.LayoutJoins.{by_bool}
use Rattle.mad_layout.proofs.SoundLines.{IsSoundPrefix}

-- ---- pieces

-- a character without its pen
abbrev pub char_of : PennedChar → ℕ
char_of c = c.char

-- the characters of pieces
abbrev pub chars_in : List RowPiece → List ℕ
chars_in ps = map char_of (penned_chars ps)

unpenned : (pen : Look) (cs : List ℕ) → map char_of (map (λ c. record { char = c; pen = pen }) cs) ≡ cs
unpenned pen [] = refl
unpenned pen (c ∷ cs) = ap (λ l. c ∷ l) (unpenned pen cs)

-- those of the first piece come first
pub first_piece : (p : RowPiece) (ps : List RowPiece) → chars_in (p ∷ ps) ≡ chars p.text ++ chars_in ps
first_piece p ps =
    map-append char_of (map (λ c. record { char = c; pen = look_of_style p.style }) (chars p.text)) (penned_chars ps)
    ∙ ap (λ l. l ++ chars_in ps) (unpenned (look_of_style p.style) (chars p.text))

-- those of pieces and then of others
pub both : (ps qs : List RowPiece) → chars_in (ps ++ qs) ≡ chars_in ps ++ chars_in qs
both [] qs = refl
both (p ∷ ps) qs =
    first_piece p (ps ++ qs) ∙ ap (λ l. chars p.text ++ l) (both ps qs) ∙ sym (append_assoc (chars p.text) (chars_in ps) (chars_in qs)) ∙ ap (λ l. l ++ chars_in qs) (sym (first_piece p ps))

-- a piece of spaces has so many spaces
pub spaces_chars : (style : CompoundStyle) (n : ℕ) → chars_in (spaces style n) ≡ replicate n 32
spaces_chars style zero = refl
spaces_chars style (suc n) =
    first_piece (record { style = style.object_style; text = replicate (suc n) 32 }) [] ∙ append-nil (chars (replicate (suc n) 32)) ∙ chars-IsAscii (replicate (suc n) 32) (ascii_spaces (suc n))

singles_chars : (style : CompoundStyle) (n : ℕ) → chars_in (single_spaces style n) ≡ replicate n 32
singles_chars style zero = refl
singles_chars style (suc n) =
    first_piece (record { style = style.object_style; text = 32 ∷ [] }) (single_spaces style n)
    ∙ ap (λ l. l ++ chars_in (single_spaces style n)) (chars-IsAscii (32 ∷ []) (ascii_spaces 1)) ∙ ap (λ l. 32 ∷ l) (singles_chars style n)

-- the pieces of compounds have the characters of their flagged text
pub compounds_chars : (skin : RowSkin) (style : LineStyle) (ps : List Compound) → chars_in (map (compound_piece skin style) ps) ≡ map (λ (x : FlaggedChar). x.char) (flagged_text ps)
compounds_chars skin style [] = refl
compounds_chars skin style (p ∷ ps) =
    let char : FlaggedChar → ℕ = λ x. x.char in
    first_piece (compound_piece skin style p) (map (compound_piece skin style) ps)
    ∙ ap (λ l. chars p.src.now ++ l) (compounds_chars skin style ps)
    ∙ sym (map-append char (flagged_of p) (flagged_text ps) ∙ ap (λ l. l ++ map char (flagged_text ps)) (chars_of_flagged (flags_of p) (chars p.src.now)))

repeat_chars : (n : ℕ) (t : List ℕ) → IsUtf8 t → chars (repeat n t) ≡ repeat n (chars t)
repeat_chars zero t utf8 = chars-nil
repeat_chars (suc n) t utf8 = chars-append t (repeat n t) utf8 ∙ ap (λ l. chars t ++ l) (repeat_chars n t utf8)

-- a repeated character is as often what the skin shows of it
pub run_chars : (c : StyledChar) (n : ℕ) → IsColumnPiece (char_piece c) → chars_in (char_repeat c n) ≡ repeat n (skin_char (char_alone c))
run_chars c zero h = refl
run_chars c (suc n) h =
    let t : List ℕ = (char_piece c).text in
    first_piece (record { style = (char_style c).object_style; text = repeat (suc n) t }) [] ∙ append-nil (chars (repeat (suc n) t)) ∙ repeat_chars (suc n) t h.shown.utf8

-- ---- in front of a row

last_space : (skin : RowSkin) → chars_in (prefix_space skin ∷ []) ≡ 32 ∷ []
last_space skin = first_piece (prefix_space skin) [] ∙ append-nil (chars (32 ∷ [])) ∙ chars-IsAscii (32 ∷ []) (ascii_spaces 1)

after_char : (skin : RowSkin) (c : StyledChar) → chars_in (char_piece c ∷ prefix_space skin ∷ []) ≡ skin_char (char_alone c) ++ 32 ∷ []
after_char skin c = first_piece (char_piece c) (prefix_space skin ∷ []) ∙ ap (λ l. skin_char (char_alone c) ++ l) (last_space skin)

-- the pieces of a prefix have the characters that are in front of a row
pub front_chars : (skin : RowSkin) (kind : CompositeKind) → IsSoundPrefix skin kind → chars_in (prefix_pieces skin kind) ≡ front_of skin kind
front_chars skin (ListItem depth) h =
    let blank : CompoundStyle = skin.paragraph.compound_style in
    both (single_spaces blank depth) (char_piece skin.bullet ∷ prefix_space skin ∷ [])
    ∙ ap (λ l. l ++ chars_in (char_piece skin.bullet ∷ prefix_space skin ∷ [])) (singles_chars blank depth) ∙ ap (λ l. replicate depth 32 ++ l) (after_char skin skin.bullet)
front_chars skin (ListItemFollowUp depth) h = singles_chars skin.paragraph.compound_style (later_indent skin.list_items_indentation_mode (2 + depth))
front_chars skin (OrderedListItem level index) h =
    let blank : CompoundStyle = skin.paragraph.compound_style in
    let style = ordered_item_style skin level in
    let after : List RowPiece = char_piece style.index_suffix ∷ prefix_space skin ∷ [] in
    let number : chars (decimal index) ≡ decimal index = chars-IsAscii (decimal index) (IsAscii-decimal index (omega (arith, h.0))) in
    both (single_spaces blank level) (number_piece style.index_style index ∷ after)
    ∙ ap (λ l. l ++ chars_in (number_piece style.index_style index ∷ after)) (singles_chars blank level)
    ∙ ap (λ l. replicate level 32 ++ l) (first_piece (number_piece style.index_style index) after ∙ ap (λ l. l ++ chars_in after) number ∙ ap (λ l. decimal index ++ l) (after_char skin style.index_suffix))
front_chars skin (OrderedListItemFollowUp level index) h = singles_chars skin.paragraph.compound_style (later_indent skin.list_items_indentation_mode (ordered_indent level index))
front_chars skin Quote h = after_char skin skin.quote_mark
front_chars skin _ h = refl

-- ---- a row

-- spaces and then more are as many as both
pub spaces_both : (m n : ℕ) → replicate {A = ℕ} m 32 ++ replicate {A = ℕ} n 32 ≡ replicate {A = ℕ} (m + n) 32
spaces_both zero n = let e : n ≡ 0 + n = omega arith in ap (λ (k : ℕ). replicate {A = ℕ} k 32) e
spaces_both (suc m) n = let e : suc (m + n) ≡ suc m + n = omega arith in ap (λ (l : List ℕ). 32 ∷ l) (spaces_both m n) ∙ ap (λ (k : ℕ). replicate {A = ℕ} k 32) e

composite_chars : (skin : RowSkin) (width : ℕ) (margins : ℕ × ℕ) (l : FmtComposite) → IsSoundPrefix skin l.kind
    → chars_in (composite_pieces skin (Some width) margins true l) ≡ replicate (outer_blanks (line_style skin l.kind).align (Some width) margins l).0 32 ++ (replicate (inner_blanks l).0 32 ++ (front_of skin l.kind
    ++ (map (λ (x : FlaggedChar). x.char) (text_of l) ++ (replicate (inner_blanks l).1 32 ++ replicate (outer_blanks (line_style skin l.kind).align (Some width) margins l).1 32))))
composite_chars skin width margins l prefix =
    let style : LineStyle = line_style skin l.kind in
    let blank : CompoundStyle = skin.paragraph.compound_style in
    let own : CompoundStyle = style.compound_style in
    let outer : ℕ × ℕ = outer_blanks style.align (Some width) margins l in
    let text : List ℕ = map (λ (x : FlaggedChar). x.char) (text_of l) in
    let tail3 : List RowPiece = spaces own (inner_blanks l).1 ++ spaces blank outer.1 in
    let tail2 : List RowPiece = map (compound_piece skin style) l.compounds.items ++ tail3 in
    let tail1 : List RowPiece = prefix_pieces skin l.kind ++ tail2 in
    let tail0 : List RowPiece = spaces own (inner_blanks l).0 ++ tail1 in
    let e3 : chars_in tail3 ≡ replicate (inner_blanks l).1 32 ++ replicate outer.1 32 =
    both (spaces own (inner_blanks l).1) (spaces blank outer.1) ∙ ap (λ x. x ++ chars_in (spaces blank outer.1)) (spaces_chars own (inner_blanks l).1) ∙ ap (λ x. replicate (inner_blanks l).1 32 ++ x) (spaces_chars blank outer.1) in
    let e2 : chars_in tail2 ≡ text ++ (replicate (inner_blanks l).1 32 ++ replicate outer.1 32) =
    both (map (compound_piece skin style) l.compounds.items) tail3 ∙ ap (λ x. x ++ chars_in tail3) (compounds_chars skin style l.compounds.items) ∙ ap (λ x. text ++ x) e3 in
    let e1 : chars_in tail1 ≡ front_of skin l.kind ++ (text ++ (replicate (inner_blanks l).1 32 ++ replicate outer.1 32)) =
    both (prefix_pieces skin l.kind) tail2 ∙ ap (λ x. x ++ chars_in tail2) (front_chars skin l.kind prefix) ∙ ap (λ x. front_of skin l.kind ++ x) e2 in
    let e0 : chars_in tail0 ≡ replicate (inner_blanks l).0 32 ++ (front_of skin l.kind ++ (text ++ (replicate (inner_blanks l).1 32 ++ replicate outer.1 32))) =
    both (spaces own (inner_blanks l).0) tail1 ∙ ap (λ x. x ++ chars_in tail1) (spaces_chars own (inner_blanks l).0) ∙ ap (λ x. replicate (inner_blanks l).0 32 ++ x) e1 in
    both (spaces blank outer.0) tail0 ∙ ap (λ x. x ++ chars_in tail0) (spaces_chars blank outer.0) ∙ ap (λ x. replicate outer.0 32 ++ x) e0

-- what a line's own place makes of its columns
record PlaceFacts (s : Option Spacing) (n own placed : ℕ) : Type 0 where
  left : left_of_place (align_in s) n (place_of s) ≡ 0
  right : right_of_place (align_in s) n (place_of s) ≡ placed - own
  all : unwrap_or (place_of s) n ≡ placed
  holds : own ≤ placed

-- the place of a line of this kind: its block's, if it is one of code
abbrev pub place_for : Bool → ℕ → Option Spacing
place_for code width = if code then Some (record { width = width; align = Left }) else None

place_facts : (code : Bool) (s : Option Spacing) (n own width : ℕ) → s ≡ place_for code width → n ≡ own → (code ≡ true → own ≤ width) → PlaceFacts s n own (if code then width else own)
place_facts true s n own width e same fits = subst (λ (o : Option Spacing). PlaceFacts o n own width) (sym e) (record { left = refl; right = omega (arith, same); all = refl; holds = fits refl })
place_facts false s n own width e same fits = subst (λ (o : Option Spacing). PlaceFacts o n own own) (sym e) (record { left = refl; right = omega arith; all = same; holds = omega arith })

-- the characters of a line's row
abbrev pub line_chars : RowSkin → ℕ → FmtLine → List ℕ
line_chars skin width line = chars_in (row_pieces skin width (Some line))

-- a layout's width, and the columns across which it is drawn
pub record AreWidths (width drawn : ℕ) : Type 0 where
  pub narrower : width ≤ drawn
  pub small : drawn < 2 ^ 64 - 1

-- a line that is placed so is a row across these columns
pub row_chars : (skin : RowSkin) (width drawn : ℕ) (part : List LineContent) (said : StyledRuns) (l : FmtComposite) → AreWidths width drawn → IsSoundPrefix skin l.kind → IsMeasured (line_rules skin) l
    → l.spacing ≡ place_for (is_code_kind l.kind) (min (widest_in part) (inner_width skin width said))
    → inner_width skin width said ≡ width - (margins_at (line_style skin l.kind) (Some width)).0 - (margins_at (line_style skin l.kind) (Some width)).1
    → columns_of (line_rules skin) l ≤ inner_width skin width said → (is_code_kind l.kind ≡ true → columns_of (line_rules skin) l ≤ widest_in part)
    → line_chars skin drawn (line_with (margins_at (line_style skin l.kind) (Some width)) l) ≡ row_across skin width drawn part said l.kind (text_of l)
row_chars skin width drawn part said l bound prefix measured place inner_is inside holds =
    let style : LineStyle = line_style skin l.kind in
    let margins : ℕ × ℕ = margins_at style (Some width) in
    let own : ℕ = columns_of (line_rules skin) l in
    let block : ℕ = min (widest_in part) (inner_width skin width said) in
    let columns : ℕ = placed_columns skin width part said l.kind (text_of l) in
    let same : l.visible_length ≡ own = omega (arith, measured, inside, inner_is, bound.narrower, bound.small) in
    let facts : PlaceFacts l.spacing l.visible_length own columns = place_facts (is_code_kind l.kind) l.spacing l.visible_length own block place same (λ on. omega (arith, inside, holds on)) in
    let narrow : columns ≤ inner_width skin width said =
    by_bool (λ b. (if b then block else own) ≤ inner_width skin width said) (is_code_kind l.kind) (λ on. omega arith) (λ off. inside) in
    let rest : ℕ = drawn - (columns + margins.0 + margins.1) in
    let half : left_completion style.align rest ≤ rest = left_completion-le style.align rest in
    let left : ℕ = left_completion style.align rest + margins.0 in
    let fits : margins.0 + columns + margins.1 ≤ drawn = omega (arith, narrow, inner_is, bound.narrower, margins-le style width) in
    let right : (columns - own) + ((rest - left_completion style.align rest) + margins.1) ≡ drawn - left - own = omega (arith, half, fits, facts.holds) in
    let text : List ℕ = map (λ (x : FlaggedChar). x.char) (text_of l) in
    let shape : ℕ → ℕ → ℕ → List ℕ = λ placed inner_left inner_right.
    let r = drawn - (placed + margins.0 + margins.1) in
    replicate (left_completion style.align r + margins.0) 32 ++ (replicate inner_left 32 ++ (front_of skin l.kind ++ (text ++ (replicate inner_right 32 ++ replicate ((r - left_completion style.align r) + margins.1) 32)))) in
    composite_chars skin drawn margins (record l { margins = Some margins }) prefix
    ∙ ap (λ n. shape n (inner_blanks l).0 (inner_blanks l).1) facts.all
    ∙ ap (λ n. shape columns n (inner_blanks l).1) facts.left
    ∙ ap (λ n. shape columns 0 n) facts.right
    ∙ ap (λ t. replicate left 32 ++ (front_of skin l.kind ++ (text ++ t))) (spaces_both (columns - own) ((rest - left_completion style.align rest) + margins.1) ∙ ap (λ n. replicate n 32) right)
