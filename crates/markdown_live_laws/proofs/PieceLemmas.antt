-- Rows of pieces without the blanks at their ends are rows of pieces.
use Rattle.std.proofs.Common.{◌≡◌, ◌⊎◌, inl, inr, ⊎_elim, ℕ, suc, ◌+◌, ◌<◌, ◌≤◌, Bool, true, false, not, ◌||◌, ◌==◌, List, [], ◌∷◌, ◌++◌, length, take, get_or, Option, Some, None, refl, sym, ap, subst, ◌∙◌, arith, append_assoc, append-nil, if◌then◌else◌}
use Rattle.std.specs.Prelude.{chars, is_some}
use Rattle.std.specs.List.{list_all}
use Rattle.std.specs.Str.{IsUtf8}
use Rattle.std.proofs.Math.Seq.{get_or-append_seam, take-append_seam}
use Rattle.std.proofs.lemmas.Bool.{and_parts}
use Rattle.std.proofs.lemmas.Bool.Decides.{nat_tests}
use Rattle.std.proofs.lemmas.List.{length-append}
use Rattle.std.proofs.lemmas.Str.{IsUtf8-take, IsCharBoundary-before_ascii, chars-append}
use Rattle.mad_term.specs.Commands.{numbers_bytes, sgr_bytes}
use Rattle.mad_term.specs.Styles.{IsStyle, IsUnstyled, closing_bytes, opening_bytes, piece_bytes, present_bytes}
use Rattle.mad_term.specs.Attributes.{attribute_bits}
use Rattle.mad_term.specs.declared.color.Color.{Color}
use Rattle.mad_term.specs.declared.styles.ContentStyle.{ContentStyle}
use Rattle.mad_term.proofs.Pieces.{unstyled_piece}
use Rattle.mad_screen.specs.Painting.{IsPrinted, IsShown, IsWhole}
use Rattle.mad_measure.specs.TextColumns.{columns}
use Rattle.mad_draw.specs.Pieces.{AreKnown, AreShownPieces, IsShownPiece, RowPiece, pieces_bytes, pieces_columns}
use Rattle.markdown_layout.specs.RowEnds.{in_front, is_end, without_end}
use Rattle.markdown_layout.proofs.EndLemmas.{rows_end, whole_off}

-- ---- what ends a piece

-- nothing that a style writes is behind its texts, or an m ends it
abbrev ClosesWith : Bool → Option Color → Option Color → List ℕ → Type 0
ClosesWith reset background foreground closing =
    ((reset ≡ false) × (background ≡ None) × (foreground ≡ None)) ⊎ ((front : List ℕ) × (closing ≡ front ++ 109 ∷ []))

closes : (reset : Bool) (background foreground : Option Color)
    → ClosesWith reset background foreground (if reset then sgr_bytes (0 ∷ []) else present_bytes (λ _. sgr_bytes (49 ∷ [])) background ++ present_bytes (λ _. sgr_bytes (39 ∷ [])) foreground)
closes true background foreground = inr (27 ∷ 91 ∷ numbers_bytes (0 ∷ []), refl)
closes false None None = inl (refl, refl, refl)
closes false (Some c) None = inr (27 ∷ 91 ∷ numbers_bytes (49 ∷ []), append-nil (sgr_bytes (49 ∷ [])))
closes false None (Some c) = inr (27 ∷ 91 ∷ numbers_bytes (39 ∷ []), refl)
closes false (Some c) (Some d) = inr (sgr_bytes (49 ∷ []) ++ (27 ∷ 91 ∷ numbers_bytes (39 ∷ [])), sym (append_assoc (sgr_bytes (49 ∷ [])) (27 ∷ 91 ∷ numbers_bytes (39 ∷ [])) (109 ∷ [])))

no_color : (color : Option Color) (bits : ℕ) → (is_some color || not (bits == 0)) ≡ false → (color ≡ None) × (bits ≡ 0)
no_color None bits h = (refl, grind (arith, nat_tests, h))
no_color (Some c) bits h = absurd (cc)

-- a style writes nothing, or an m ends what it writes behind a text
pub style_ends : (style : ContentStyle) → IsUnstyled style ⊎ ((front : List ℕ) × (closing_bytes style ≡ front ++ 109 ∷ []))
style_ends style =
    ⊎_elim
    (λ h. let none = no_color style.underline_color (attribute_bits style.attributes) h.0 in inl (record { foreground = h.2; background = h.1; underline = none.0; attributes = none.1 }))
    (λ h. inr h)
    (closes (is_some style.underline_color || not (attribute_bits style.attributes == 0)) style.background_color style.foreground_color)

-- ---- the end of two rows

-- what is left of a row, in front of what is left of what is behind it
abbrev over : List ℕ → List ℕ → List ℕ
over [] rest = rest
over (b ∷ bs) rest = in_front b (over bs rest)

without_both : (a b : List ℕ) → without_end (a ++ b) ≡ over a (without_end b)
without_both [] b = refl
without_both (x ∷ a) b = ap (in_front x) (without_both a b)

over_nothing : (a : List ℕ) → over a [] ≡ without_end a
over_nothing [] = refl
over_nothing (x ∷ a) = ap (in_front x) (over_nothing a)

stays : (x : ℕ) (a : List ℕ) (c : ℕ) (cs : List ℕ) → in_front x (a ++ c ∷ cs) ≡ x ∷ (a ++ c ∷ cs)
stays x [] c cs = refl
stays x (y ∷ a) c cs = refl

over_some : (a : List ℕ) (c : ℕ) (cs : List ℕ) → over a (c ∷ cs) ≡ a ++ c ∷ cs
over_some [] c cs = refl
over_some (x ∷ a) c cs = ap (in_front x) (over_some a c cs) ∙ stays x a c cs

-- ---- texts

-- the front of a text that is shown is shown
printed_front : (xs ys : List ℕ) → IsPrinted (xs ++ ys) → IsPrinted xs
printed_front [] ys h = tt
printed_front (x ∷ xs) ys h = (h.0, printed_front xs ys h.1)

whole_front : (xs ys : List ℕ) → IsWhole (xs ++ ys) → IsWhole xs
whole_front [] ys h = tt
whole_front (x ∷ xs) ys h = h

columns_front : (xs ys : List ℕ) → columns xs ≤ columns (xs ++ ys)
columns_front [] ys = omega arith
columns_front (x ∷ xs) ys = let rest = columns_front xs ys in omega (arith, rest)

small : (b : ℕ) → is_end b ≡ true → b < 128
small b h = grind (arith, nat_tests, h)

front_text : (text front lost : List ℕ) → IsUtf8 text → text ≡ front ++ lost → list_all is_end lost ≡ true → IsUtf8 front
front_text text front [] utf8 is ends = subst IsUtf8 (is ∙ append-nil front) utf8
front_text text front (b ∷ lost) utf8 is ends =
    let own = and_parts (is_end b) (list_all is_end lost) ends in
    let long : length text ≡ length front + suc (length lost) = ap length is ∙ length-append front (b ∷ lost) in
    let at : get_or text (length front) 0 ≡ b = ap (λ (l : List ℕ). get_or l (length front) 0) is ∙ get_or-append_seam front b lost 0 in
    let low : get_or text (length front) 0 < 128 = omega (arith, at, small b own.0) in
    subst IsUtf8 (ap (take (length front)) is ∙ take-append_seam front (b ∷ lost)) (IsUtf8-take text (length front) utf8 (IsCharBoundary-before_ascii text (length front) (omega (arith, long)) low))

-- a text without its end is shown, in no more columns
record IsShownFront (text front : List ℕ) : Type 0 where
  utf8 : IsUtf8 front
  shown : IsShown (chars front)
  fewer : columns (chars front) ≤ columns (chars text)

text_ends : (text : List ℕ) → IsUtf8 text → IsShown (chars text) → IsShownFront text (without_end text)
text_ends text utf8 shown =
    let lost = rows_end text in
    let front : List ℕ = without_end text in
    let own : IsUtf8 front = front_text text front lost.lost utf8 lost.row_is lost.are_ends in
    let both : chars text ≡ chars front ++ chars lost.lost = ap chars lost.row_is ∙ chars-append front lost.lost own in
    record {
      utf8 = own;
      shown = record { printed = printed_front (chars front) (chars lost.lost) (subst IsPrinted both shown.printed); whole = whole_front (chars front) (chars lost.lost) (subst IsWhole both shown.whole) };
      fewer = subst (λ (cs : List ℕ). columns (chars front) ≤ columns cs) (sym both) (columns_front (chars front) (chars lost.lost));
    }

-- ---- pieces

-- pieces that are known and shown, in so many columns at most
pub record FitPieces (most : ℕ) (bytes : List ℕ) : Type 0 where
  pub pieces : List RowPiece
  pub bytes_are : bytes ≡ pieces_bytes pieces
  pub known : AreKnown pieces
  pub shown : AreShownPieces pieces
  pub fewer : pieces_columns pieces ≤ most

no_end : is_end 109 ≡ false
no_end = refl

whole_piece : (style : ContentStyle) (text front : List ℕ) → closing_bytes style ≡ front ++ 109 ∷ [] → without_end (piece_bytes style text) ≡ piece_bytes style text
whole_piece style text front is =
    let same : piece_bytes style text ≡ (opening_bytes style ++ (text ++ front)) ++ 109 ∷ [] =
    ap (λ (l : List ℕ). opening_bytes style ++ (text ++ l)) is ∙ ap (λ (l : List ℕ). opening_bytes style ++ l) (sym (append_assoc text front (109 ∷ []))) ∙ sym (append_assoc (opening_bytes style) (text ++ front) (109 ∷ [])) in
    ap without_end same ∙ whole_off (opening_bytes style ++ (text ++ front)) 109 no_end ∙ sym same

-- a piece without its end
piece_ends : (p : RowPiece) → IsStyle p.style → IsShownPiece p → FitPieces (columns (chars p.text)) (without_end (piece_bytes p.style p.text))
piece_ends p known shown =
    ⊎_elim
    (λ (plain : IsUnstyled p.style).
    let own = text_ends p.text shown.utf8 shown.shown in
    let short : RowPiece = record { style = p.style; text = without_end p.text } in
    record {
      pieces = short ∷ [];
      bytes_are = ap without_end (unstyled_piece p.style p.text plain) ∙ sym (unstyled_piece p.style (without_end p.text) plain) ∙ sym (append-nil (piece_bytes p.style (without_end p.text)));
      known = (known, tt);
      shown = (record { utf8 = own.utf8; shown = own.shown }, tt);
      fewer = let few = own.fewer in omega (arith, few);
    })
    (λ ends. record {
      pieces = p ∷ [];
      bytes_are = whole_piece p.style p.text ends.0 ends.1 ∙ sym (append-nil (piece_bytes p.style p.text));
      known = (known, tt);
      shown = (shown, tt);
      fewer = omega arith;
    })
    (style_ends p.style)

ends_by : (p : RowPiece) (ps : List RowPiece) (rest : List ℕ) → rest ≡ without_end (pieces_bytes ps) → IsStyle p.style → IsShownPiece p → FitPieces (pieces_columns ps) rest
    → FitPieces (columns (chars p.text) + pieces_columns ps) (over (piece_bytes p.style p.text) rest)
ends_by p ps [] is known shown h =
    let own : FitPieces (columns (chars p.text)) (without_end (piece_bytes p.style p.text)) = piece_ends p known shown in
    record { pieces = own.pieces; bytes_are = over_nothing (piece_bytes p.style p.text) ∙ own.bytes_are; known = own.known; shown = own.shown; fewer = let few = own.fewer in omega (arith, few) }
ends_by p ps (c ∷ cs) is known shown h = record {
  pieces = p ∷ h.pieces;
  bytes_are = over_some (piece_bytes p.style p.text) c cs ∙ ap (λ (l : List ℕ). piece_bytes p.style p.text ++ l) h.bytes_are;
  known = (known, h.known);
  shown = (shown, h.shown);
  fewer = let few = h.fewer in omega (arith, few);
}

-- pieces without the blanks at their end are pieces, in no more columns
pub pieces_end : (ps : List RowPiece) → AreKnown ps → AreShownPieces ps → FitPieces (pieces_columns ps) (without_end (pieces_bytes ps))
pieces_end [] known shown = record { pieces = []; bytes_are = refl; known = tt; shown = tt; fewer = omega arith }
pieces_end (p ∷ ps) known shown =
    subst (λ (l : List ℕ). FitPieces (columns (chars p.text) + pieces_columns ps) l) (sym (without_both (piece_bytes p.style p.text) (pieces_bytes ps)))
    (ends_by p ps (without_end (pieces_bytes ps)) refl known.0 shown.0 (pieces_end ps known.1 shown.1))
