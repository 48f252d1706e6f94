-- The bytes of composites that are by themselves, of lines of tables, and of lines one after another.
use Rattle.std.proofs.Common.{◌≡◌, ℕ, ◌+◌, ◌<◌, Bool, true, false, List, [], ◌∷◌, ◌++◌, map, length, take, get_or, Option, refl, ap, sym, ◌∙◌, append_assoc}
use Rattle.std.specs.Prelude.{if◌then◌else◌}
use Rattle.std.specs.List.{flat_map}
use Rattle.std.proofs.lemmas.List.Concat.{flat_map-append}
use Rattle.mad_md.specs.Flagged.{run_of}
use Rattle.mad_md.specs.declared.compound.Compound.{Compound}
use Rattle.mad_term.specs.Styles.{IsUnstyled, piece_bytes}
use Rattle.mad_term.proofs.Pieces.{unstyled_piece}
use Rattle.mad_style.specs.declared.compound_styles.CompoundStyle.{CompoundStyle}
use Rattle.mad_style.specs.declared.kinds.CompositeKind.{CompositeKind}
use Rattle.mad_style.specs.declared.line_styles.LineStyle.{LineStyle}
use Rattle.mad_draw.specs.Pieces.{RowPiece, pieces_bytes, spaces}
use Rattle.mad_draw.specs.TableRules.{rule_pieces}
use Rattle.mad_draw.specs.declared.spaces.Spaces.{Spaces}
use Rattle.mad_draw.specs.declared.table_rules.RuleChars.{RuleChars}
use Rattle.mad_draw.proofs.PieceLemmas.{bytes_both, bytes_one, bytes_taken_of, pieces_taken}
use Rattle.mad_rows.specs.declared.row_skin.RowSkin.{RowSkin}
use Rattle.mad_format.specs.declared.composite.FmtComposite.{FmtComposite}
use Rattle.mad_format.specs.declared.line.FmtLine.{FmtLine}
use Rattle.mad_format.specs.declared.table.FmtTableRule.{FmtTableRule}
use Rattle.mad_format.specs.FmtLines.{rule_columns}
use Rattle.mad_rows.specs.RowStyles.{line_style, compound_style}
use Rattle.mad_rows.specs.Rows.{compound_piece, run_piece, prefix_pieces, free_pieces, left_of_place, right_of_place, inner_blanks, outer_blanks, composite_pieces, placed_pieces, vertical_piece, cell_pieces, row_columns, rule_chars, table_row_pieces, table_rule_pieces, line_bytes, text_bytes}

-- the pieces of compounds are those of what they say
pub pieces_of_runs : (skin : RowSkin) (style : LineStyle) (ps : List Compound) → map (compound_piece skin style) ps ≡ map (run_piece skin style) (map run_of ps)
pieces_of_runs skin style [] = refl
pieces_of_runs skin style (p ∷ ps) = ap (λ qs. compound_piece skin style p ∷ qs) (pieces_of_runs skin style ps)

-- a compound that looks as its line does, which has no style, writes its text alone
pub bare_piece : (skin : RowSkin) (line : LineStyle) (p : Compound) → IsUnstyled line.compound_style.object_style → compound_style skin line (run_of p) ≡ line.compound_style
    → p.src.now ≡ piece_bytes (compound_piece skin line p).style (compound_piece skin line p).text
bare_piece skin line p unstyled same = sym (ap (λ (s : CompoundStyle). piece_bytes s.object_style p.src.now) same ∙ unstyled_piece line.compound_style.object_style p.src.now unstyled)

-- the bytes of one such compound more
pub bare_taken : (skin : RowSkin) (line : LineStyle) (ps : List Compound) (i : ℕ) (d : Compound) → i < length ps → IsUnstyled line.compound_style.object_style → compound_style skin line (run_of (get_or ps i d)) ≡ line.compound_style
    → pieces_bytes (map (compound_piece skin line) (take i ps)) ++ (get_or ps i d).src.now ≡ pieces_bytes (map (compound_piece skin line) (take (i + 1) ps))
bare_taken skin line ps i d inside unstyled same =
    ap (λ r. pieces_bytes (map (compound_piece skin line) (take i ps)) ++ r) (bare_piece skin line (get_or ps i d) unstyled same) ∙ pieces_taken (compound_piece skin line) ps i d inside

-- bytes after those that are there
pub put_after : (base so_far kept piece next new : List ℕ) → new ≡ kept ++ piece → kept ≡ base ++ so_far → so_far ++ piece ≡ next → new ≡ base ++ next
put_after base so_far kept piece next new put held more = put ∙ ap (λ (bs : List ℕ). bs ++ piece) held ∙ append_assoc base so_far piece ∙ ap (λ (bs : List ℕ). base ++ bs) more

-- the bytes of a composite that is by itself, part by part
pub free_bytes : (skin : RowSkin) (kind k : CompositeKind) (style : LineStyle) (ps items : List Compound) → kind ≡ k → style ≡ line_style skin kind → ps ≡ items
    → pieces_bytes (spaces skin.paragraph.compound_style style.left_margin) ++ (pieces_bytes (prefix_pieces skin kind) ++ pieces_bytes (map (compound_piece skin style) ps)) ≡ pieces_bytes (free_pieces skin k (map run_of items))
free_bytes skin kind k style ps items kind_is style_is items_are =
    let blank : CompoundStyle = skin.paragraph.compound_style in
    let bytes : RowPiece → List ℕ = λ p. piece_bytes p.style p.text in
    let mark : List RowPiece = prefix_pieces skin kind in
    let text : List RowPiece = map (compound_piece skin style) ps in
    ap (λ r. pieces_bytes (spaces blank style.left_margin) ++ r) (sym (flat_map-append bytes mark text))
    ∙ sym (flat_map-append bytes (spaces blank style.left_margin) (mark ++ text))
    ∙ ap (λ (xs : List Compound). pieces_bytes (spaces blank style.left_margin ++ (mark ++ map (compound_piece skin style) xs))) items_are
    ∙ ap (λ (s : LineStyle). pieces_bytes (spaces blank s.left_margin ++ (mark ++ map (compound_piece skin s) items))) style_is
    ∙ ap (λ (x : CompositeKind). pieces_bytes (spaces blank (line_style skin x).left_margin ++ (prefix_pieces skin x ++ map (compound_piece skin (line_style skin x)) items))) kind_is
    ∙ ap (λ (xs : List RowPiece). pieces_bytes (spaces blank (line_style skin k).left_margin ++ (prefix_pieces skin k ++ xs))) (pieces_of_runs skin (line_style skin k) items)

-- ---- lines of tables

-- blanks of a number that is 0 where they aren't asked for
pub asked_bytes : (right : Bool) (style : CompoundStyle) (n : ℕ) → pieces_bytes (spaces style (if right then n else 0)) ≡ pieces_bytes (if right then spaces style n else [])
asked_bytes true style n = refl
asked_bytes false style n = refl

-- the same behind other pieces
pub asked_behind : (right : Bool) (style : CompoundStyle) (n : ℕ) (ps : List RowPiece) → pieces_bytes (ps ++ spaces style (if right then n else 0)) ≡ pieces_bytes (ps ++ (if right then spaces style n else []))
asked_behind right style n ps =
    bytes_both ps (spaces style (if right then n else 0)) ∙ ap (λ bs. pieces_bytes ps ++ bs) (asked_bytes right style n) ∙ sym (bytes_both ps (if right then spaces style n else []))

-- the bytes of what is in front of a text in a row, of it, and of what is after it, whose blanks at the end are asked for or not
pub placed_joined : (before inner prefix text after : List RowPiece) (filled : Bool) (style : CompoundStyle) (n : ℕ)
    → (pieces_bytes (before ++ (inner ++ prefix)) ++ pieces_bytes text) ++ pieces_bytes (after ++ spaces style (if filled then n else 0))
    ≡ pieces_bytes (before ++ (inner ++ (prefix ++ (text ++ (after ++ (if filled then spaces style n else []))))))
placed_joined before inner prefix text after filled style n =
    let front : List RowPiece = before ++ (inner ++ prefix) in
    let end : List RowPiece = after ++ (if filled then spaces style n else []) in
    ap (λ bs. (pieces_bytes front ++ pieces_bytes text) ++ bs) (asked_behind filled style n after) ∙ append_assoc (pieces_bytes front) (pieces_bytes text) (pieces_bytes end)
    ∙ ap (λ bs. pieces_bytes front ++ bs) (sym (bytes_both text end)) ∙ sym (bytes_both front (text ++ end))
    ∙ ap pieces_bytes (append_assoc before (inner ++ prefix) (text ++ end) ∙ ap (λ qs. before ++ qs) (append_assoc inner prefix (text ++ end)))

-- the bytes of a composite in its row: what is in front of its compounds, they, and what is after them
placed_bytes_joined : (skin : RowSkin) (outer : Option ℕ) (margins : ℕ × ℕ) (filled : Bool) (l : FmtComposite) → let style = line_style skin l.kind in
    (pieces_bytes (spaces skin.paragraph.compound_style (outer_blanks style.align outer margins l).0 ++ (spaces style.compound_style (inner_blanks l).0 ++ prefix_pieces skin l.kind)) ++ pieces_bytes (map (compound_piece skin style) l.compounds.items))
    ++ pieces_bytes (spaces style.compound_style (inner_blanks l).1 ++ spaces skin.paragraph.compound_style (if filled then (outer_blanks style.align outer margins l).1 else 0)) ≡ pieces_bytes (composite_pieces skin outer margins filled l)
placed_bytes_joined skin outer margins filled l =
    let style : LineStyle = line_style skin l.kind in
    let blank : CompoundStyle = skin.paragraph.compound_style in
    let blanks : ℕ × ℕ = outer_blanks style.align outer margins l in
    placed_joined (spaces blank blanks.0) (spaces style.compound_style (inner_blanks l).0) (prefix_pieces skin l.kind) (map (compound_piece skin style) l.compounds.items) (spaces style.compound_style (inner_blanks l).1) filled blank blanks.1

-- the same by the line's style and the compounds that were found
pub composite_joined : (skin : RowSkin) (outer : Option ℕ) (margins : ℕ × ℕ) (filled : Bool) (l : FmtComposite) (style : LineStyle) (ps : List Compound) → style ≡ line_style skin l.kind → ps ≡ l.compounds.items
    → (pieces_bytes (spaces skin.paragraph.compound_style (outer_blanks style.align outer margins l).0 ++ (spaces style.compound_style (inner_blanks l).0 ++ prefix_pieces skin l.kind)) ++ pieces_bytes (map (compound_piece skin style) ps))
    ++ pieces_bytes (spaces style.compound_style (inner_blanks l).1 ++ spaces skin.paragraph.compound_style (if filled then (outer_blanks style.align outer margins l).1 else 0)) ≡ pieces_bytes (composite_pieces skin outer margins filled l)
composite_joined skin outer margins filled l style ps style_is ps_are = rw style_is (rw ps_are (placed_bytes_joined skin outer margins filled l))

-- the bytes of spaces
abbrev spaces_bytes : Spaces → List ℕ
spaces_bytes s = pieces_bytes (spaces s.style s.count)

-- pieces between blanks
pub placed_bytes : (skin : RowSkin) (outer : Option ℕ) (right : Bool) (n : ℕ) (before after : Spaces) (ps : List RowPiece) → before ≡ record { style = skin.paragraph.compound_style; count = left_of_place skin.table.align n outer }
    → after ≡ record { style = skin.paragraph.compound_style; count = if right then right_of_place skin.table.align n outer else 0 }
    → spaces_bytes before ++ (pieces_bytes ps ++ spaces_bytes after) ≡ pieces_bytes (placed_pieces skin outer right n ps)
placed_bytes skin outer right n before after ps left_is right_is =
    let blank : CompoundStyle = skin.paragraph.compound_style in
    let left : List RowPiece = spaces blank (left_of_place skin.table.align n outer) in
    let last : List RowPiece = if right then spaces blank (right_of_place skin.table.align n outer) else [] in
    ap (λ bs. spaces_bytes before ++ (pieces_bytes ps ++ bs)) (ap spaces_bytes right_is ∙ asked_bytes right blank (right_of_place skin.table.align n outer))
    ∙ ap (λ bs. bs ++ (pieces_bytes ps ++ pieces_bytes last)) (ap spaces_bytes left_is) ∙ ap (λ bs. pieces_bytes left ++ bs) (sym (bytes_both ps last)) ∙ sym (bytes_both left (ps ++ last))

-- cells, and a last border between blanks
pub row_bytes : (skin : RowSkin) (outer : Option ℕ) (right : Bool) (before after : Spaces) (cells all : List FmtComposite) → cells ≡ all
    → before ≡ record { style = skin.paragraph.compound_style; count = left_of_place skin.table.align (row_columns skin all) outer }
    → after ≡ record { style = skin.paragraph.compound_style; count = if right then right_of_place skin.table.align (row_columns skin all) outer else 0 }
    → spaces_bytes before ++ (pieces_bytes (flat_map (cell_pieces skin) cells) ++ (piece_bytes (vertical_piece skin).style (vertical_piece skin).text ++ spaces_bytes after)) ≡ pieces_bytes (table_row_pieces skin outer right all)
row_bytes skin outer right before after cells all same left_is right_is =
    let border : RowPiece = vertical_piece skin in
    let own : List RowPiece = flat_map (cell_pieces skin) all in
    let text : List ℕ = piece_bytes border.style border.text in
    ap (λ (cs : List FmtComposite). spaces_bytes before ++ (pieces_bytes (flat_map (cell_pieces skin) cs) ++ (text ++ spaces_bytes after))) same
    ∙ ap (λ bs. spaces_bytes before ++ bs) (sym (append_assoc (pieces_bytes own) text (spaces_bytes after)))
    ∙ ap (λ bs. spaces_bytes before ++ ((pieces_bytes own ++ bs) ++ spaces_bytes after)) (sym (bytes_one border))
    ∙ ap (λ bs. spaces_bytes before ++ (bs ++ spaces_bytes after)) (sym (bytes_both own (border ∷ []))) ∙ placed_bytes skin outer right (row_columns skin all) before after (own ++ border ∷ []) left_is right_is

-- a rule between blanks
pub table_rule_bytes : (skin : RowSkin) (outer : Option ℕ) (right : Bool) (before after : Spaces) (rule : FmtTableRule) (ends : RuleChars) (ws : List ℕ) → ws ≡ rule.widths.items → ends ≡ rule_chars skin.table_border_chars rule.position
    → before ≡ record { style = skin.paragraph.compound_style; count = left_of_place skin.table.align (rule_columns rule.widths.items) outer }
    → after ≡ record { style = skin.paragraph.compound_style; count = if right then right_of_place skin.table.align (rule_columns rule.widths.items) outer else 0 }
    → spaces_bytes before ++ (pieces_bytes (rule_pieces skin.table.compound_style ends ws) ++ spaces_bytes after) ≡ pieces_bytes (table_rule_pieces skin outer right rule)
table_rule_bytes skin outer right before after rule ends ws same ends_are left_is right_is =
    let style : CompoundStyle = skin.table.compound_style in
    ap (λ vs. spaces_bytes before ++ (pieces_bytes (rule_pieces style ends vs) ++ spaces_bytes after)) same
    ∙ ap (λ e. spaces_bytes before ++ (pieces_bytes (rule_pieces style e rule.widths.items) ++ spaces_bytes after)) ends_are
    ∙ placed_bytes skin outer right (rule_columns rule.widths.items) before after (rule_pieces style (rule_chars skin.table_border_chars rule.position) rule.widths.items) left_is right_is

-- ---- lines, each with its newline

-- the rows down to a line, and its own
pub rows_with : (skin : RowSkin) (width : Option ℕ) (kept : List ℕ) (lines : List FmtLine) (i : ℕ) (x : FmtLine) → i < length lines → x ≡ get_or lines i x
    → kept ++ text_bytes skin width (take (i + 1) lines) ≡ (kept ++ text_bytes skin width (take i lines)) ++ line_bytes skin width x
rows_with skin width kept lines i x inside here =
    ap (λ (t : List ℕ). kept ++ t) (sym (bytes_taken_of (line_bytes skin width) lines i x inside here)) ∙ sym (append_assoc kept (text_bytes skin width (take i lines)) (line_bytes skin width x))
