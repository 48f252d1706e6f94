-- Rows of composites that were read are those of the lines that they become.
use Rattle.std.proofs.Common.{◌≡◌, ℕ, ◌+◌, ◌-◌, ◌<◌, ◌≤◌, ◌^◌, false, true, List, [], ◌∷◌, ◌++◌, map, length, drop, get_or, is_some, Option, Some, None, Vec, Global, refl, ap, sym, ◌∙◌, subst, arith, append-nil, append_assoc, Bool}
use Rattle.std.specs.Str.{bytes_eq}
use Rattle.mad_term.specs.Styles.{piece_bytes, opening_bytes, closing_bytes}
use Rattle.mad_read_rows.specs.ReadRows.{IsBetween}
use Rattle.mad_rows.specs.RowStyles.{compound_style, ellipsis_bytes, style_over_flags}
use Rattle.mad_style.specs.CompoundStyles.{overwritten}
use Rattle.std.specs.Prelude.{if◌then◌else◌}
use Rattle.std.specs.List.{flat_map}
use Rattle.std.proofs.lemmas.List.{length-append, length-map, map-append, at_drop_more, drop_all}
use Rattle.mad_md.specs.Flagged.{Flags, run_of, flags_of, flagged_text}
use Rattle.mad_md.specs.TypedLines.{IsTypedText}
use Rattle.mad_md.specs.declared.compound.Compound.{Compound}
use Rattle.mad_md.specs.declared.composite.CompositeStyle.{CompositeStyle}
use Rattle.mad_style.specs.Kinds.{kind_of}
use Rattle.mad_style.specs.LineStyles.{margins_at}
use Rattle.mad_style.specs.declared.compound_styles.CompoundStyle.{CompoundStyle}
use Rattle.mad_style.specs.declared.kinds.CompositeKind.{CompositeKind}
use Rattle.mad_style.specs.declared.kinds.CompositeKind.TheVariants.{Paragraph, Header, ListItem, ListItemFollowUp, OrderedListItem, OrderedListItemFollowUp, Code, Quote}
use Rattle.mad_style.specs.declared.line_styles.LineStyle.{LineStyle}
use Rattle.mad_measure.specs.Completions.{left_completion}
use Rattle.mad_measure.specs.TextColumns.{width_of}
use Rattle.mad_measure.specs.TokenPositions.{bytes_of}
use Rattle.mad_measure.specs.Tokens.{AreTokensFrom, AreTokensOf, token_run, token_text}
use Rattle.mad_measure.specs.declared.tokens.Token.{Token}
use Rattle.mad_wrap.specs.Breaks.{LineAndGap, lines_and_gaps, total_width}
use Rattle.mad_wrap.specs.CleanCut.{clean_cut, is_cut_clean}
use Rattle.mad_wrap.specs.LeastWords.{IsWrapBy}
use Rattle.mad_wrap.specs.LeastWrap.{AreTokensIn}
use Rattle.mad_wrap.specs.Rooms.{token_limit}
use Rattle.mad_wrap.specs.TokenLines.{HoldsTokens, HoldBreak, ArePlacedLines}
use Rattle.mad_wrap.specs.WordLines.{AreWordLines}
use Rattle.mad_wrap.specs.Words.{Piece, pieces_tokens, pieces_of, token_break}
use Rattle.mad_wrap.specs.WrapLines.{capped, compounds_of}
use Rattle.mad_wrap.specs.FirstFit.{at_first}
use Rattle.mad_wrap.specs.Writings.{IsWrittenBare, Writes, WritesUpTo, WritesBefore, open_rows, AreRows}
use Rattle.mad_wrap.specs.declared.first_fit.FirstFit.{FirstFit}
use Rattle.mad_wrap.proofs.WritingLemmas.{rows_written, compound_more}
use Rattle.mad_wrap.specs.declared.room.Room.{Room}
use Rattle.mad_wrap.specs.declared.wrapped_line.WrappedLine.{WrappedLine}
use Rattle.mad_wrap.proofs.WordLemmas.{all_tokens, token_break_covers}
use Rattle.mad_wrap.proofs.WordWraps.{words_wrap, words_counted}
use Rattle.mad_wrap.proofs.WrapLemmas.{placed_wrap, placed_counted}
use Rattle.mad_draw.specs.Pieces.{RowPiece, pieces_bytes, spaces}
use Rattle.mad_draw.proofs.PieceLemmas.{bytes_both}
use Rattle.mad_format.specs.CompositeWraps.{composite_of, AreComposites}
use Rattle.mad_format.specs.Indents.{follow_up, room_of}
use Rattle.mad_format.specs.WrappedLines.{line_with}
use Rattle.mad_format.specs.declared.composite.FmtComposite.{FmtComposite}
use Rattle.mad_format.specs.declared.line.FmtLine.{FmtLine}
use Rattle.mad_format.specs.declared.line.FmtLine.TheVariants.{Normal}
use Rattle.mad_format.proofs.ReadWraps.{read_fits, read_wraps}
use Rattle.mad_rows.specs.RowStyles.{line_style, line_rules}
use Rattle.mad_rows.specs.Rows.{compound_piece, run_piece, prefix_pieces, line_bytes, text_bytes}
use Rattle.mad_read_rows.specs.ReadRows.{run_bytes, token_bytes, front_bytes, later_front, IsPlainIn, PutsRead, WritesWrap}
use Rattle.mad_read_rows.specs.WordRows.{PiecesOut}
use Rattle.mad_rows.specs.declared.composites.CompositeFront.{CompositeFront}
use Rattle.mad_rows.specs.declared.row_skin.RowSkin.{RowSkin}
use Rattle.mad_rows.proofs.PieceLemmas.{pieces_of_runs}
use Rattle.mad_read_rows.proofs.WordRowLemmas.{ArePieceRows, piece_rows}

-- ---- compounds that need no commands

-- a style that a compound has by its flags alone
flagged_style : RowSkin → LineStyle → Flags → CompoundStyle
flagged_style skin style f =
    if f.picture_sign then overwritten style.compound_style skin.picture_sign
    else style_over_flags skin.picture skin.link skin.italic skin.strikeout skin.bold skin.inline_code style.compound_style f

style_by_flags : (skin : RowSkin) (style : LineStyle) (p : Compound) → bytes_eq p.src.now ellipsis_bytes ≡ false → compound_style skin style (run_of p) ≡ flagged_style skin style (flags_of p)
unfolding flagged_style
style_by_flags skin style p h = ap (λ (b : Bool). if b then skin.ellipsis else flagged_style skin style (flags_of p)) h

-- parts of a compound are written between its commands
pub between : (skin : RowSkin) (style : LineStyle) (p part : Compound) (open_bytes close_bytes : List ℕ) → bytes_eq p.src.now ellipsis_bytes ≡ false → flags_of part ≡ flags_of p
    → open_bytes ≡ opening_bytes (compound_style skin style (run_of p)).object_style → close_bytes ≡ closing_bytes (compound_style skin style (run_of p)).object_style → IsBetween skin style open_bytes close_bytes part
between skin style p part open_bytes close_bytes other same opens closes = λ part_other.
    let own : CompoundStyle = compound_style skin style (run_of p) in
    let text : List ℕ = part.src.now in
    let styles : compound_style skin style (run_of part) ≡ own = style_by_flags skin style part part_other ∙ ap (flagged_style skin style) same ∙ sym (style_by_flags skin style p other) in
    ap (λ (s : CompoundStyle). piece_bytes s.object_style text) styles ∙ ap (λ (b : List ℕ). b ++ (text ++ closing_bytes own.object_style)) (sym opens) ∙ ap (λ (b : List ℕ). open_bytes ++ (text ++ b)) (sym closes)

-- a compound that is plain in a line has each of its tokens written as it is
pub written_bare : (skin : RowSkin) (style : LineStyle) (p : Compound) → IsPlainIn skin style p → IsWrittenBare (token_bytes skin style) p
written_bare skin style p h = λ t e. ap (λ (q : Compound). run_bytes skin style (record { flags = flags_of q; text = token_text t })) e ∙ h (token_text t)

-- ---- the lines that no call makes

-- a vector of any compounds, short enough, in whatever memory
abbrev holding : Vec Compound Global → (ps : List Compound) → length ps < 2 ^ 63 → Vec Compound Global
holding v ps short = record { ptr = v.ptr; len = length ps; cap = length ps; alloc = v.alloc; items = ps; ok = (refl, omega arith); small = short }

-- a token as a compound
abbrev token_compound : Token → Compound
token_compound t = record t.compound { src = record t.compound.src { now = token_text t } }

token_runs : (ts : List Token) → map run_of (map token_compound ts) ≡ map token_run ts
token_runs [] = refl
token_runs (t ∷ ts) = ap (λ rs. token_run t ∷ rs) (token_runs ts)

line_of : (v : Vec Compound Global) (ts : List Token) → length ts < 2 ^ 63 → (l : WrappedLine) × HoldsTokens ts l
line_of v ts short = (
  record { compounds = holding v (map token_compound ts) (omega (arith, short, length-map ts token_compound)); columns = capped (total_width ts) },
  record { runs_are = token_runs ts; columns_are = refl },
)

made_lines : (v : Vec Compound Global) (breaks : List (LineAndGap Token)) → length (lines_and_gaps breaks) < 2 ^ 63 → (ls : List WrappedLine) × HoldBreak breaks ls
made_lines v [] short = ([], tt)
made_lines v (p ∷ ps) short =
    let size = length-append p.line (p.gap ++ lines_and_gaps ps) in
    let rest_size = length-append p.gap (lines_and_gaps ps) in
    let first = line_of v p.line (omega (arith, short, size)) in
    let others = made_lines v ps (omega (arith, short, size, rest_size)) in
    (first.0 ∷ others.0, (first.1, others.1))

composites : CompositeKind → CompositeKind → ℕ → ℕ → List WrappedLine → List FmtComposite
composites kind other i n [] = []
composites kind other i n (l ∷ ls) = composite_of kind i None l ∷ composites other other n n ls

are_composites : (kind other : CompositeKind) (i n : ℕ) (ls : List WrappedLine) → AreComposites kind other i n None ls (composites kind other i n ls)
unfolding composites
are_composites kind other i n [] = refl
are_composites kind other i n (l ∷ ls) = (refl, are_composites other other n n ls)

-- ---- no more tokens than bytes

tokens_within : (max start : ℕ) (p : Compound) (ts : List Token) → AreTokensFrom max p start ts → start + length ts ≤ length p.src.now
tokens_within max start p [] h = omega (arith, h)
tokens_within max start p (t ∷ ts) (first, more) = omega (arith, tokens_within max t.end_in_compound p ts more, first.begins, first.within.some)

tokens_short : (max : ℕ) (ps : List Compound) (ts : List Token) → AreTokensOf max ps ts → length ts ≤ bytes_of ps
tokens_short max [] ts h = omega (arith, ap length h)
tokens_short max (p ∷ ps) ts (own, others, joins, first, more) = omega (arith, ap length joins, length-append own others, tokens_within max 0 p own first, tokens_short max ps others more)

-- ---- the bytes of lines

-- what is in front of a line's text: blanks, and its prefix
abbrev pub front_text : RowSkin → CompositeKind → ℕ → List ℕ
front_text skin kind margin = pieces_bytes (spaces skin.paragraph.compound_style margin ++ prefix_pieces skin kind)

-- lines of this style have all blank columns on their right
abbrev pub LeftOfAll : LineStyle → Type 0
LeftOfAll style = (rest : ℕ) → left_completion style.align rest ≡ 0

-- a line with margins, of a style that is aligned left
abbrev placed_line : CompositeKind → ℕ → Vec Compound Global → ℕ × ℕ → FmtLine
placed_line kind columns ps margins = Normal (record { kind = kind; compounds = ps; visible_length = columns; spacing = None; margins = Some margins })

line_text : (skin : RowSkin) (width : ℕ) (margins : ℕ × ℕ) (style : LineStyle) (kind : CompositeKind) (columns : ℕ) (ps : Vec Compound Global) → LeftOfAll style → line_style skin kind ≡ style
    → line_bytes skin (Some width) (placed_line kind columns ps margins) ≡ front_text skin kind margins.0 ++ (pieces_bytes (map (compound_piece skin style) ps.items) ++ 10 ∷ [])
line_text skin width margins style kind columns ps left same =
    let room : ℕ = width - (columns + margins.0 + margins.1) in
    let blank : CompoundStyle = skin.paragraph.compound_style in
    let own : LineStyle = line_style skin kind in
    let front : List RowPiece = spaces blank margins.0 in
    let prefix : List RowPiece = prefix_pieces skin kind in
    let text : List RowPiece = map (compound_piece skin style) ps.items in
    let none : left_completion own.align room + margins.0 ≡ margins.0 = ap (λ (s : LineStyle). left_completion s.align room + margins.0) same ∙ ap (λ n. n + margins.0) (left room) ∙ omega arith in
    ap (λ n. pieces_bytes (spaces blank n ++ (prefix ++ (map (compound_piece skin own) ps.items ++ []))) ++ 10 ∷ []) none
    ∙ ap (λ (s : LineStyle). pieces_bytes (front ++ (prefix ++ (map (compound_piece skin s) ps.items ++ []))) ++ 10 ∷ []) same
    ∙ ap (λ (x : List RowPiece). pieces_bytes (front ++ (prefix ++ x)) ++ 10 ∷ []) (append-nil text)
    ∙ ap (λ (x : List RowPiece). pieces_bytes x ++ 10 ∷ []) (sym (append_assoc front prefix text))
    ∙ ap (λ (x : List ℕ). x ++ 10 ∷ []) (bytes_both (front ++ prefix) text)
    ∙ append_assoc (pieces_bytes (front ++ prefix)) (pieces_bytes text) (10 ∷ [])

run_texts : (skin : RowSkin) (style : LineStyle) (ts : List Token) → pieces_bytes (map (run_piece skin style) (map token_run ts)) ≡ flat_map (token_bytes skin style) ts
run_texts skin style [] = refl
run_texts skin style (t ∷ ts) = ap (λ (x : List ℕ). token_bytes skin style t ++ x) (run_texts skin style ts)

held_text : (skin : RowSkin) (style : LineStyle) (ts : List Token) (l : WrappedLine) → HoldsTokens ts l → pieces_bytes (map (compound_piece skin style) l.compounds.items) ≡ flat_map (token_bytes skin style) ts
held_text skin style ts l h = ap pieces_bytes (pieces_of_runs skin style l.compounds.items) ∙ ap (λ rs. pieces_bytes (map (run_piece skin style) rs)) h.runs_are ∙ run_texts skin style ts

-- a row, and those after it
rows_joined : (front own later rest : List ℕ) → (front ++ (own ++ 10 ∷ [])) ++ (later ++ (rest ++ 10 ∷ [])) ≡ front ++ ((own ++ (10 ∷ (later ++ rest))) ++ 10 ∷ [])
rows_joined front own later rest =
    append_assoc front (own ++ 10 ∷ []) (later ++ (rest ++ 10 ∷ []))
    ∙ ap (λ (x : List ℕ). front ++ x) (append_assoc own (10 ∷ []) (later ++ (rest ++ 10 ∷ [])) ∙ ap (λ (x : List ℕ). own ++ (10 ∷ x)) (sym (append_assoc later rest (10 ∷ []))) ∙ sym (append_assoc own (10 ∷ (later ++ rest)) (10 ∷ [])))

wrap_text : (skin : RowSkin) (width : ℕ) (margins : ℕ × ℕ) (style : LineStyle) (b : List (LineAndGap Token)) (kind other : CompositeKind) (i n : ℕ) (ls : List WrappedLine) (l g : List Token) → LeftOfAll style
    → line_style skin kind ≡ style → line_style skin other ≡ style → HoldBreak (b ++ record { line = l; gap = g } ∷ []) ls
    → text_bytes skin (Some width) (map (line_with margins) (composites kind other i n ls)) ≡ front_text skin kind margins.0 ++ (open_rows (token_bytes skin style) (front_text skin other margins.0) b l ++ 10 ∷ [])
unfolding composites
wrap_text skin width margins style [] kind other i n [] l g left same after h = absurd h
wrap_text skin width margins style [] kind other i n (x ∷ []) l g left same after h =
    append-nil (line_bytes skin (Some width) (line_with margins (composite_of kind i None x))) ∙ line_text skin width margins style kind (capped (x.columns + i)) x.compounds left same
    ∙ ap (λ (t : List ℕ). front_text skin kind margins.0 ++ (t ++ 10 ∷ [])) (held_text skin style l x h.0)
wrap_text skin width margins style [] kind other i n (x ∷ y ∷ ls) l g left same after h = absurd h.1
wrap_text skin width margins style (p ∷ b) kind other i n [] l g left same after h = absurd h
wrap_text skin width margins style (p ∷ b) kind other i n (x ∷ ls) l g left same after h =
    let write = token_bytes skin style in
    let later = front_text skin other margins.0 in
    let rest = text_bytes skin (Some width) (map (line_with margins) (composites other other n n ls)) in
    ap (λ (t : List ℕ). t ++ rest) (line_text skin width margins style kind (capped (x.columns + i)) x.compounds left same)
    ∙ ap (λ (t : List ℕ). (front_text skin kind margins.0 ++ (t ++ 10 ∷ [])) ++ rest) (held_text skin style p.line x h.0)
    ∙ ap (λ (t : List ℕ). (front_text skin kind margins.0 ++ (flat_map write p.line ++ 10 ∷ [])) ++ t) (wrap_text skin width margins style b other other n n ls l g left after after h.1)
    ∙ rows_joined (front_text skin kind margins.0) (flat_map write p.line) later (open_rows write later b l)

later_style : (skin : RowSkin) (kind : CompositeKind) → line_style skin (follow_up kind) ≡ line_style skin kind
later_style skin Paragraph = refl
later_style skin (Header level) = refl
later_style skin (ListItem depth) = refl
later_style skin (ListItemFollowUp depth) = refl
later_style skin (OrderedListItem level index) = refl
later_style skin (OrderedListItemFollowUp level index) = refl
later_style skin Code = refl
later_style skin Quote = refl

none_of : {A : Type 0} (o : Option A) → is_some o ≡ false → o ≡ None
none_of {A} None h = refl
none_of {A} (Some x) h = absurd (cc)

-- ---- what was put

-- of a composite that fits
pub read_whole : (skin : RowSkin) (width columns : ℕ) (style : CompositeStyle) (line : LineStyle) (kind : CompositeKind) (compounds : Vec Compound Global) (margins : ℕ × ℕ) (r : Room) (old new : List ℕ)
    → kind ≡ kind_of style → line ≡ line_style skin kind → margins ≡ margins_at (line_style skin kind) (Some width) → r ≡ room_of (line_rules skin) kind (width - margins.0 - margins.1) → LeftOfAll line
    → columns ≡ width_of (flagged_text compounds.items) → r.first + columns ≤ r.width → width < 2 ^ 64
    → new ≡ old ++ (front_text skin kind margins.0 ++ (pieces_bytes (map (compound_piece skin line) compounds.items) ++ 10 ∷ []))
    → IsTypedText (record { style = style; runs = map run_of compounds.items })
    → PutsRead skin width (record { style = style; runs = map run_of compounds.items }) old new
read_whole skin width columns style line kind compounds margins r old new kind_is line_is margins_are room_is left measured fits range put typed =
    let own : FmtLine = placed_line kind (r.first + columns) compounds margins in
    let pushed = read_fits (line_rules skin) width columns style kind compounds margins r [] (own ∷ []) kind_is margins_are room_is measured fits range refl typed in
    let text : text_bytes skin (Some width) (own ∷ []) ≡ front_text skin kind margins.0 ++ (pieces_bytes (map (compound_piece skin line) compounds.items) ++ 10 ∷ []) =
    append-nil (line_bytes skin (Some width) own) ∙ line_text skin width margins line kind (r.first + columns) compounds left (sym line_is) in
    (pushed.0, pushed.1, pushed.2, put ∙ ap (λ (x : List ℕ). old ++ x) (sym text) ∙ ap (λ (x : List FmtLine). old ++ text_bytes skin (Some width) x) pushed.3, pushed.4)

-- of one that is wrapped
pub read_wrapped : (skin : RowSkin) (width : ℕ) (style : CompositeStyle) (line : LineStyle) (kind : CompositeKind) (compounds : Vec Compound Global) (margins : ℕ × ℕ) (r : Room) (ts : List Token) (out old new : List ℕ)
    → kind ≡ kind_of style → line ≡ line_style skin kind → margins ≡ margins_at (line_style skin kind) (Some width) → r ≡ room_of (line_rules skin) kind (width - margins.0 - margins.1) → LeftOfAll line
    → r.width < r.first + width_of (flagged_text compounds.items) → r.whole_words ≡ false → is_cut_clean r compounds.items ≡ false → bytes_of compounds.items < 2 ^ 62 → width < 2 ^ 64 - 1
    → AreTokensIn r compounds.items ts → AreRows (token_bytes skin line) (front_text skin (follow_up kind) margins.0) r ts out
    → new ≡ old ++ (front_text skin kind margins.0 ++ (out ++ 10 ∷ []))
    → IsTypedText (record { style = style; runs = map run_of compounds.items })
    → PutsRead skin width (record { style = style; runs = map run_of compounds.items }) old new
read_wrapped skin width style line kind compounds margins r ts out old new kind_is line_is margins_are room_is left wide loose uncut short range cut rows put typed =
    let ps : List Compound = compounds.items in
    let breaks : List (LineAndGap Token) = rows.breaks ++ record { line = rows.line; gap = rows.gap } ∷ [] in
    let size : length (lines_and_gaps breaks) ≡ length ts = ap length rows.first_fit.placing.covers in
    let made = made_lines compounds breaks (omega (arith, size, tokens_short (token_limit r) ps ts cut, short)) in
    let ws : List WrappedLine = made.0 in
    let placed : ArePlacedLines r ts ws = record { breaks = breaks; first_fit = rows.first_fit; holds = made.1 } in
    let lines : List FmtComposite = composites kind (follow_up kind) r.first r.other ws in
    let own : List FmtLine = map (line_with margins) lines in
    let pushed = read_wraps (line_rules skin) width style kind compounds margins r ws [] own kind_is margins_are room_is wide range (subst (λ (b : Bool). IsWrapBy b r ps (compounds_of ws)) (sym loose) (placed_wrap r ps ts ws wide (none_of (clean_cut r ps) uncut) cut placed)) (placed_counted r ps ts ws cut placed)
    (lines, refl, are_composites kind (follow_up kind) r.first r.other ws) typed in
    let text : text_bytes skin (Some width) own ≡ front_text skin kind margins.0 ++ (out ++ 10 ∷ []) =
    wrap_text skin width margins line rows.breaks kind (follow_up kind) r.first r.other ws rows.line rows.gap left (sym line_is) (later_style skin kind ∙ sym line_is) made.1
    ∙ ap (λ (x : List ℕ). front_text skin kind margins.0 ++ (x ++ 10 ∷ [])) (sym rows.rows) in
    (pushed.0, pushed.1, pushed.2, put ∙ ap (λ (x : List ℕ). old ++ x) (sym text) ∙ ap (λ (x : List FmtLine). old ++ text_bytes skin (Some width) x) pushed.3, pushed.4)

-- of one that is wrapped, words whole
pub read_words : (skin : RowSkin) (width : ℕ) (style : CompositeStyle) (line : LineStyle) (kind : CompositeKind) (compounds : Vec Compound Global) (margins : ℕ × ℕ) (r : Room) (ts : List Token) (n : FirstFit) (out old new : List ℕ)
    → kind ≡ kind_of style → line ≡ line_style skin kind → margins ≡ margins_at (line_style skin kind) (Some width) → r ≡ room_of (line_rules skin) kind (width - margins.0 - margins.1) → LeftOfAll line
    → r.width < r.first + width_of (flagged_text compounds.items) → r.whole_words ≡ true → bytes_of compounds.items < 2 ^ 62 → width < 2 ^ 64 - 1
    → AreTokensIn r compounds.items ts → PiecesOut (token_bytes skin line) (front_text skin (follow_up kind) margins.0) (at_first r) (pieces_of (token_limit r) ts) n out
    → new ≡ old ++ (front_text skin kind margins.0 ++ (out ++ 10 ∷ []))
    → IsTypedText (record { style = style; runs = map run_of compounds.items })
    → PutsRead skin width (record { style = style; runs = map run_of compounds.items }) old new
read_words skin width style line kind compounds margins r ts n out old new kind_is line_is margins_are room_is left wide whole short range cut writes put typed =
    let ps : List Compound = compounds.items in
    let write : Token → List ℕ = token_bytes skin line in
    let later : List ℕ = front_text skin (follow_up kind) margins.0 in
    let rows : ArePieceRows write later r (pieces_of (token_limit r) ts) out = piece_rows write later (pieces_of (token_limit r) ts) r n out writes in
    let x : LineAndGap Piece = record { line = rows.line; gap = rows.gap } in
    let breaks : List (LineAndGap Piece) = rows.breaks ++ x ∷ [] in
    let all : lines_and_gaps (token_break breaks) ≡ ts = token_break_covers breaks ∙ ap pieces_tokens rows.covers ∙ all_tokens (token_limit r) ts in
    let made = made_lines compounds (token_break breaks) (omega (arith, ap length all, tokens_short (token_limit r) ps ts cut, short)) in
    let ws : List WrappedLine = made.0 in
    let placed : AreWordLines r ts ws = record { breaks = breaks; covers = rows.covers; first_fit = rows.first_fit; holds = made.1 } in
    let lines : List FmtComposite = composites kind (follow_up kind) r.first r.other ws in
    let own : List FmtLine = map (line_with margins) lines in
    let pushed = read_wraps (line_rules skin) width style kind compounds margins r ws [] own kind_is margins_are room_is wide range (subst (λ (b : Bool). IsWrapBy b r ps (compounds_of ws)) (sym whole) (words_wrap r ps ts ws wide cut placed)) (words_counted r ps ts ws cut placed)
    (lines, refl, are_composites kind (follow_up kind) r.first r.other ws) typed in
    let split : token_break breaks ≡ token_break rows.breaks ++ record { line = pieces_tokens rows.line; gap = pieces_tokens rows.gap } ∷ [] = map-append _ rows.breaks (x ∷ []) in
    let text : text_bytes skin (Some width) own ≡ front_text skin kind margins.0 ++ (out ++ 10 ∷ []) =
    wrap_text skin width margins line (token_break rows.breaks) kind (follow_up kind) r.first r.other ws (pieces_tokens rows.line) (pieces_tokens rows.gap) left (sym line_is) (later_style skin kind ∙ sym line_is)
    (subst (λ (b : List (LineAndGap Token)). HoldBreak b ws) split made.1)
    ∙ ap (λ (y : List ℕ). front_text skin kind margins.0 ++ (y ++ 10 ∷ [])) (sym rows.rows) in
    (pushed.0, pushed.1, pushed.2, put ∙ ap (λ (y : List ℕ). old ++ y) (sym text) ∙ ap (λ (y : List FmtLine). old ++ text_bytes skin (Some width) y) pushed.3, pushed.4)

-- ---- what was written on the way

-- a compound more
pub compound_next : (write : Token → List ℕ) (later : List ℕ) (max : ℕ) (ps : List Compound) (i : ℕ) (d : Compound) (s : FirstFit) (old : List ℕ) (m n : FirstFit) (mid new : List ℕ) → i < length ps
    → WritesBefore write later max ps (drop i ps) s old m mid → WritesUpTo write later max (get_or ps i d) (length (get_or ps i d).src.now) m mid n new → WritesBefore write later max ps (drop (i + 1) ps) s old n new
compound_next write later max ps i d s old m n mid new inside h own =
    compound_more write later max ps (drop i ps) (drop (i + 1) ps) (get_or ps i d) (length (get_or ps i d).src.now) s old m n mid new (at_drop_more (λ (qs : List Compound). qs) ps i d inside) refl h own

-- all of them
pub compounds_end : (write : Token → List ℕ) (later : List ℕ) (max : ℕ) (ps : List Compound) (i : ℕ) (s : FirstFit) (old : List ℕ) (n : FirstFit) (new : List ℕ) → length ps ≤ i
    → WritesBefore write later max ps (drop i ps) s old n new → WritesBefore write later max ps [] s old n new
compounds_end write later max ps i s old n new past h = subst (λ (qs : List Compound). WritesBefore write later max ps qs s old n new) (drop_all i ps past) h

-- what is in front, the compounds and a newline are the written wrap of a composite
pub wrap_written : (front : CompositeFront) (r : Room) (ps : List Compound) (max : ℕ) (later : List ℕ) (s n : FirstFit) (old mid end new : List ℕ) → max ≡ token_limit r → s ≡ at_first r → later ≡ front_bytes (later_front front)
    → mid ≡ old ++ front_bytes front → WritesBefore (token_bytes front.skin.now front.style.now) later max ps [] s mid n end → new ≡ end ++ 10 ∷ [] → WritesWrap front r ps old new
wrap_written front r ps max later s n old mid end new max_is first later_is begun h put =
    let write : Token → List ℕ = token_bytes front.skin.now front.style.now in
    let before : List ℕ = front_bytes front in
    record {
      tokens = h.own;
      cut = subst (λ k. AreTokensOf k ps h.own) max_is (subst (AreTokensOf max ps) (append-nil h.own) (h.tokens [] refl));
      out = h.out;
      rows = subst (λ (b : List ℕ). AreRows write b r h.own h.out) later_is (rows_written write later h.own r n h.out (subst (λ (x : FirstFit). Writes write later x h.own n h.out) first h.writes));
      bytes = put ∙ ap (λ (x : List ℕ). x ++ 10 ∷ []) (h.bytes ∙ ap (λ (x : List ℕ). x ++ h.out) begun ∙ append_assoc old before h.out) ∙ append_assoc old (before ++ h.out) (10 ∷ [])
          ∙ ap (λ (x : List ℕ). old ++ x) (append_assoc before h.out (10 ∷ []));
    }
