-- Composites whose last link may stay open.
use Rattle.std.proofs.Common.{◌≡◌, ℕ, zero, suc, ◌+◌, ◌<◌, ◌≤◌, Bool, true, false, List, [], ◌∷◌, ◌++◌, map, length, drop, Option, None, refl, sym, ap, ◌∙◌, arith, append_assoc, append-nil, subst}
use Rattle.std.specs.Prelude.{if◌then◌else◌}
use Rattle.std.proofs.lemmas.List.{drop_all, length-append, map-append}
use Rattle.mad_md.specs.Flagged.{Flags}
use Rattle.mad_md.specs.declared.compound.Compound.{Compound}
use Rattle.mad_term.specs.Styles.{piece_bytes}
use Rattle.mad_term.specs.declared.styles.ContentStyle.{ContentStyle}
use Rattle.mad_style.specs.declared.compound_styles.CompoundStyle.{CompoundStyle}
use Rattle.mad_style.specs.declared.kinds.CompositeKind.{CompositeKind}
use Rattle.mad_style.specs.declared.line_styles.LineStyle.{LineStyle}
use Rattle.mad_draw.specs.Pieces.{RowPiece, pieces_bytes, spaces}
use Rattle.mad_draw.proofs.PieceLemmas.{bytes_both}
use Rattle.mad_format.specs.declared.composite.FmtComposite.{FmtComposite}
use Rattle.mad_rows.specs.RowStyles.{line_style}
use Rattle.mad_rows.specs.Rows.{blanks_beside, inner_blanks, outer_blanks, prefix_pieces}
use Rattle.mad_rows.specs.declared.row_skin.RowSkin.{RowSkin}
use Rattle.mad_rows.proofs.PieceLemmas.{asked_behind}
use Rattle.mad_links.specs.LinkRows.{LinkedPiece, change_bytes}
use Rattle.mad_links.specs.LinkedAreas.{in_no_link}
use Rattle.mad_links.specs.LinkedLines.{composite_links}
use Rattle.mad_mark_runs.specs.declared.mark_runs.MarkRun.{MarkRun}
use Rattle.mad_marked_rows.specs.LinkedTexts.{pieces_on}
use Rattle.mad_marked_rows.specs.LinkedRows.{linked_composite, linked_compounds}
use Rattle.mad_marked_rows.proofs.LinkLemmas.{on_both}

-- ---- behind a row so far

-- pieces in no link, where none is open
pub plain_on : (a : List (Option (List ℕ))) (row : List ℕ) (ps : List RowPiece) (qs : List LinkedPiece) → pieces_on a (row, None) (map in_no_link ps ++ qs) ≡ pieces_on a (row ++ pieces_bytes ps, None) qs
plain_on a row [] qs = ap (λ (l : List ℕ). pieces_on a (l, None) qs) (sym (append-nil row))
plain_on a row (p ∷ ps) qs =
    plain_on a (row ++ piece_bytes p.style p.text) ps qs ∙ ap (λ (l : List ℕ). pieces_on a (l, None) qs) (append_assoc row (piece_bytes p.style p.text) (pieces_bytes ps))

-- so many of them close the link that is open, where there are some
pub plain_behind : (a : List (Option (List ℕ))) (row : List ℕ × Option ℕ) (ps : List RowPiece) → 0 < length ps → pieces_on a row (map in_no_link ps) ≡ ((row.0 ++ change_bytes a row.1 None) ++ pieces_bytes ps, None)
plain_behind a row [] h = absurd (omega arith)
plain_behind a row (p ∷ ps) h =
    let own = piece_bytes p.style p.text in
    let first : List ℕ = row.0 ++ (change_bytes a row.1 None ++ own) in
    ap (λ (l : List LinkedPiece). pieces_on a (first, None) l) (sym (append-nil (map in_no_link ps))) ∙ plain_on a first ps []
    ∙ ap (λ (l : List ℕ). let x : List ℕ × Option ℕ = (l, None) in x) (ap (λ (l : List ℕ). l ++ pieces_bytes ps) (sym (append_assoc row.0 (change_bytes a row.1 None) own)) ∙ append_assoc (row.0 ++ change_bytes a row.1 None) own (pieces_bytes ps))

-- ---- compounds

-- none is left
pub compounds_whole : (paint : ℕ → ContentStyle → ContentStyle) (has : Flags → Bool) (a : List MarkRun) (skin : RowSkin) (style : LineStyle) (addresses : List (Option (List ℕ))) (row all : List ℕ × Option ℕ) (ks : List Compound) (i n : ℕ) → length ks ≤ i
    → pieces_on addresses row (linked_compounds paint has a skin style n (drop i ks)) ≡ all → all ≡ row
compounds_whole paint has a skin style addresses row all ks i n h before = sym before ∙ ap (λ l. pieces_on addresses row (linked_compounds paint has a skin style n l)) (drop_all i ks h)

-- ---- a composite

-- what is in front of a text, the text, and what is behind it
open_composite : (skin : RowSkin) (outer : Option ℕ) (margins : ℕ × ℕ) (filled : Bool) (l : FmtComposite) (a : List (Option (List ℕ))) (text : List LinkedPiece) (old one : List ℕ) (two : List ℕ × Option ℕ)
    → one ≡ old ++ pieces_bytes (spaces skin.paragraph.compound_style (outer_blanks (line_style skin l.kind).align outer margins l).0 ++ (spaces (line_style skin l.kind).compound_style (inner_blanks l).0 ++ prefix_pieces skin l.kind))
    → pieces_on a (one, None) text ≡ two
    → pieces_on a (old, None) (composite_links skin outer margins filled l text)
    ≡ pieces_on a two (map in_no_link (spaces (line_style skin l.kind).compound_style (inner_blanks l).1) ++ map in_no_link (if filled then spaces skin.paragraph.compound_style (outer_blanks (line_style skin l.kind).align outer margins l).1 else []))
open_composite skin outer margins filled l a text old one two one_is two_is =
    let blank : CompoundStyle = skin.paragraph.compound_style in
    let own : LineStyle = line_style skin l.kind in
    let blanks : ℕ × ℕ = outer_blanks own.align outer margins l in
    let before : List RowPiece = spaces blank blanks.0 in
    let inner : List RowPiece = spaces own.compound_style (inner_blanks l).0 in
    let prefix : List RowPiece = prefix_pieces skin l.kind in
    let last : List RowPiece = if filled then spaces blank blanks.1 else [] in
    let end : List LinkedPiece = map in_no_link (spaces own.compound_style (inner_blanks l).1) ++ map in_no_link last in
    let front : ((old ++ pieces_bytes before) ++ pieces_bytes inner) ++ pieces_bytes prefix ≡ one =
    append_assoc (old ++ pieces_bytes before) (pieces_bytes inner) (pieces_bytes prefix) ∙ append_assoc old (pieces_bytes before) (pieces_bytes inner ++ pieces_bytes prefix)
    ∙ ap (λ bs. old ++ bs) (ap (λ bs. pieces_bytes before ++ bs) (sym (bytes_both inner prefix)) ∙ sym (bytes_both before (inner ++ prefix))) ∙ sym one_is in
    plain_on a old before (map in_no_link inner ++ (map in_no_link prefix ++ (text ++ end)))
    ∙ plain_on a (old ++ pieces_bytes before) inner (map in_no_link prefix ++ (text ++ end))
    ∙ plain_on a ((old ++ pieces_bytes before) ++ pieces_bytes inner) prefix (text ++ end)
    ∙ ap (λ (l : List ℕ). pieces_on a (l, None) (text ++ end)) front
    ∙ on_both a (one, None) text end ∙ ap (λ r. pieces_on a r end) two_is

none_asked : (filled : Bool) (style : CompoundStyle) (n : ℕ) → (if filled then n else 0) ≡ 0 → map in_no_link (if filled then spaces style n else []) ≡ []
none_asked true style n h = ap (λ (k : ℕ). map in_no_link (spaces style k)) h
none_asked false style n h = refl

-- spaces are some pieces
pub some_spaces : (style : CompoundStyle) (n : ℕ) → 0 < n → 0 < length (spaces style n)
some_spaces style zero h = absurd (omega arith)
some_spaces style (suc n) h = omega arith

some_asked : (filled : Bool) (style : CompoundStyle) (n : ℕ) → 0 < (if filled then n else 0) → 0 < length (if filled then spaces style n else [])
some_asked true style n h = some_spaces style n h
some_asked false style n h = absurd (omega arith)

some_behind : (m n : ℕ) (ps qs : List RowPiece) → (0 < m → 0 < length ps) → (0 < n → 0 < length qs) → 0 < m + n → 0 < length (ps ++ qs)
some_behind zero n ps qs h k some = omega (arith, length-append ps qs, k (omega (arith, some)))
some_behind (suc m) n ps qs h k some = omega (arith, length-append ps qs, h (omega arith))

-- by what the code found
open_by : (paint : ℕ → ContentStyle → ContentStyle) (has : CompositeKind → Flags → Bool) (runs : List MarkRun) (skin : RowSkin) (outer : Option ℕ) (margins : ℕ × ℕ) (filled : Bool) (n : ℕ) (l : FmtComposite) (style : LineStyle) (ks : List Compound) (a : List (Option (List ℕ))) (old one : List ℕ) (two : List ℕ × Option ℕ)
    → style ≡ line_style skin l.kind → ks ≡ l.compounds.items
    → one ≡ old ++ pieces_bytes (spaces skin.paragraph.compound_style (blanks_beside style.align outer margins filled l).0 ++ (spaces style.compound_style (inner_blanks l).0 ++ prefix_pieces skin l.kind))
    → pieces_on a (one, None) (linked_compounds paint (has l.kind) runs skin style n ks) ≡ two
    → pieces_on a (old, None) (linked_composite paint has runs skin outer margins filled n l)
    ≡ pieces_on a two (map in_no_link (spaces (line_style skin l.kind).compound_style (inner_blanks l).1) ++ map in_no_link (if filled then spaces skin.paragraph.compound_style (outer_blanks (line_style skin l.kind).align outer margins l).1 else []))
open_by paint has runs skin outer margins filled n l style ks a old one two style_is ks_are one_is two_is =
    open_composite skin outer margins filled l a (linked_compounds paint (has l.kind) runs skin (line_style skin l.kind) n l.compounds.items) old one two
    (one_is ∙ ap (λ (s : LineStyle). old ++ pieces_bytes (spaces skin.paragraph.compound_style (outer_blanks s.align outer margins l).0 ++ (spaces s.compound_style (inner_blanks l).0 ++ prefix_pieces skin l.kind))) style_is)
    (ap (λ (xs : List Compound). pieces_on a (one, None) (linked_compounds paint (has l.kind) runs skin (line_style skin l.kind) n xs)) (sym ks_are)
    ∙ ap (λ (s : LineStyle). pieces_on a (one, None) (linked_compounds paint (has l.kind) runs skin s n ks)) (sym style_is) ∙ two_is)

-- no blank follows the text
pub open_row : (paint : ℕ → ContentStyle → ContentStyle) (has : CompositeKind → Flags → Bool) (runs : List MarkRun) (skin : RowSkin) (outer : Option ℕ) (margins : ℕ × ℕ) (filled : Bool) (n : ℕ) (l : FmtComposite) (style : LineStyle) (ks : List Compound) (a : List (Option (List ℕ))) (old one : List ℕ) (two : List ℕ × Option ℕ)
    → style ≡ line_style skin l.kind → ks ≡ l.compounds.items
    → one ≡ old ++ pieces_bytes (spaces skin.paragraph.compound_style (blanks_beside style.align outer margins filled l).0 ++ (spaces style.compound_style (inner_blanks l).0 ++ prefix_pieces skin l.kind))
    → pieces_on a (one, None) (linked_compounds paint (has l.kind) runs skin style n ks) ≡ two → (inner_blanks l).1 ≡ 0 → (blanks_beside style.align outer margins filled l).1 ≡ 0
    → pieces_on a (old, None) (linked_composite paint has runs skin outer margins filled n l) ≡ two
open_row paint has runs skin outer margins filled n l style ks a old one two style_is ks_are one_is two_is inner_none outer_none =
    let blank : CompoundStyle = skin.paragraph.compound_style in
    let own : LineStyle = line_style skin l.kind in
    open_by paint has runs skin outer margins filled n l style ks a old one two style_is ks_are one_is two_is
    ∙ ap (λ (k : ℕ). pieces_on a two (map in_no_link (spaces own.compound_style k) ++ map in_no_link (if filled then spaces blank (outer_blanks own.align outer margins l).1 else []))) inner_none
    ∙ ap (pieces_on a two) (none_asked filled blank (outer_blanks own.align outer margins l).1 (ap (λ (s : LineStyle). (blanks_beside s.align outer margins filled l).1) (sym style_is) ∙ outer_none))

-- some do
pub closed_row : (paint : ℕ → ContentStyle → ContentStyle) (has : CompositeKind → Flags → Bool) (runs : List MarkRun) (skin : RowSkin) (outer : Option ℕ) (margins : ℕ × ℕ) (filled : Bool) (n : ℕ) (l : FmtComposite) (style : LineStyle) (ks : List Compound) (a : List (Option (List ℕ))) (old one three new : List ℕ) (two : List ℕ × Option ℕ)
    → style ≡ line_style skin l.kind → ks ≡ l.compounds.items
    → one ≡ old ++ pieces_bytes (spaces skin.paragraph.compound_style (blanks_beside style.align outer margins filled l).0 ++ (spaces style.compound_style (inner_blanks l).0 ++ prefix_pieces skin l.kind))
    → pieces_on a (one, None) (linked_compounds paint (has l.kind) runs skin style n ks) ≡ two → 0 < (inner_blanks l).1 + (blanks_beside style.align outer margins filled l).1
    → three ≡ two.0 ++ change_bytes a two.1 None → new ≡ three ++ pieces_bytes (spaces style.compound_style (inner_blanks l).1 ++ spaces skin.paragraph.compound_style (blanks_beside style.align outer margins filled l).1)
    → pieces_on a (old, None) (linked_composite paint has runs skin outer margins filled n l) ≡ (new, None)
closed_row paint has runs skin outer margins filled n l style ks a old one three new two style_is ks_are one_is two_is some three_is new_is =
    let blank : CompoundStyle = skin.paragraph.compound_style in
    let own : LineStyle = line_style skin l.kind in
    let wide : ℕ = (outer_blanks own.align outer margins l).1 in
    let after : List RowPiece = spaces own.compound_style (inner_blanks l).1 in
    let last : List RowPiece = if filled then spaces blank wide else [] in
    let more : 0 < (inner_blanks l).1 + (if filled then wide else 0) = subst (λ (s : LineStyle). 0 < (inner_blanks l).1 + (blanks_beside s.align outer margins filled l).1) style_is some in
    let written : (two.0 ++ change_bytes a two.1 None) ++ pieces_bytes (after ++ last) ≡ new =
    ap (λ bs. (two.0 ++ change_bytes a two.1 None) ++ bs) (sym (asked_behind filled blank wide after)) ∙ ap (λ (bs : List ℕ). bs ++ pieces_bytes (after ++ spaces blank (if filled then wide else 0))) (sym three_is)
    ∙ ap (λ (s : LineStyle). three ++ pieces_bytes (spaces s.compound_style (inner_blanks l).1 ++ spaces blank (blanks_beside s.align outer margins filled l).1)) (sym style_is) ∙ sym new_is in
    open_by paint has runs skin outer margins filled n l style ks a old one two style_is ks_are one_is two_is
    ∙ ap (pieces_on a two) (sym (map-append in_no_link after last))
    ∙ plain_behind a two (after ++ last) (some_behind (inner_blanks l).1 (if filled then wide else 0) after last (some_spaces own.compound_style (inner_blanks l).1) (some_asked filled blank wide) more)
    ∙ ap (λ (l : List ℕ). let x : List ℕ × Option ℕ = (l, None) in x) written
