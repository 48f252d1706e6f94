-- Cells that are whole characters in one pen, read back from the piece that writes them.
use Rattle.std.proofs.Common.{◌≡◌, ◌⊎◌, ⊎_elim, inl, inr, ℕ, zero, suc, ◌+◌, ◌-◌, ◌<◌, ◌≤◌, true, false, nat_lt, eqb, List, [], ◌∷◌, ◌++◌, length, get_or, take, drop, replicate, Option, Some, None, refl, ap, sym, ◌∙◌, subst, arith, append_assoc, IsUtf8, Bool, ◌||◌}
use Rattle.std.specs.Prelude.{IsSome, unwrap_or}
use Rattle.std.specs.List.{flat_map}
use Rattle.std.specs.Option.{option_eq}
use Rattle.std.specs.Str.{chars}
use Rattle.std.proofs.Math.Seq.{take-add}
use Rattle.std.proofs.Math.Utf8.{encode, encodes}
use Rattle.std.proofs.lemmas.Bool.{false≢true, eqb-true, ltb-true}
use Rattle.std.proofs.lemmas.List.{get_or-take, length-take-le, append-nil}
use Rattle.std.proofs.lemmas.Str.{chars_from_encodes, encodes-append}
use Rattle.unicode_width.specs.Width.{char_width}
use Rattle.mad_characters.specs.Columns.{char_columns}
use Rattle.mad_term.specs.declared.styles.ContentStyle.{ContentStyle}
use Rattle.mad_term.specs.Styles.{piece_bytes, IsStyle}
use Rattle.mad_screen.specs.Glyph.{Glyph, Look}
use Rattle.mad_screen.specs.Grid.{blank, has_none, is_tail}
use Rattle.mad_screen.specs.Painting.{attach, attached, cells_of, IsPrinted, IsWhole, IsShown, Paints, look_of_style, piece_cells}
use Rattle.mad_screen.specs.Pictures.{cell_text, row_text, same_look}
use Rattle.mad_screen.proofs.Paints.{paints_piece, paints_both, paints_nothing}
use Rattle.mad_frames.specs.Changes.{AddsPaint}
use Rattle.mad_frames.specs.Whole.{is_widthless, are_joined, is_cell_text, is_writable, tails_of, are_whole_after, are_whole}
use Rattle.mad_frames.proofs.LooksLemmas.{both_true, same_look_true}
use Rattle.mad_frames.proofs.WholeLemmas.{no_tail}

-- the characters of all cells
abbrev pub all_chars : List Glyph → List ℕ
all_chars = flat_map (λ g. g.chars)

-- a tail in a pen
abbrev pub tail_in : Look → Glyph
tail_in p = record { chars = []; pen = p }

-- each cell is a tail or in this pen
abbrev pub InPen : List Glyph → Look → Type 0
InPen gs p = (i : ℕ) → i < length gs → (is_tail (get_or gs i blank) ≡ true) ⊎ ((get_or gs i blank).pen ≡ p)

-- cells after a character that still has `n` tails, read back from their characters
record Back (n : ℕ) (p : Look) (gs : List Glyph) : Type 0 where
  rest : List Glyph
  cells : gs ≡ replicate n (tail_in p) ++ rest
  back : attached p (all_chars gs) ≡ ([], rest)
  printed : IsPrinted (all_chars gs)
  whole : IsWhole (all_chars gs)

zero_width : (o : Option ℕ) → option_eq eqb o (Some 0) ≡ true → o ≡ Some 0
zero_width None h = absurd (false≢true h)
zero_width (Some n) h = ap Some (eqb-true n 0 h)

wide : (o : Option ℕ) → nat_lt 0 (unwrap_or o 0) ≡ true → o ≡ Some (suc (unwrap_or o 0 - 1))
wide None h = absurd (false≢true h)
wide (Some n) h =
    let e : n ≡ suc (n - 1) = omega (arith, ltb-true 0 n h) in
    ap Some e

column_width : (c : ℕ) → nat_lt 0 (char_columns c) ≡ true → char_width false c ≡ Some (suc (char_columns c - 1))
unfolding char_columns
column_width c h = wide (char_width false c) h

some_width : (o : Option ℕ) (n : ℕ) → o ≡ Some n → IsSome o
some_width o n e = subst (λ (p : Option ℕ). IsSome p) (sym e) refl

joined_back : (ms : List ℕ) (p : Look) (r : List ℕ) (rs : List Glyph) → are_joined ms ≡ true → attached p r ≡ ([], rs) → attached p (ms ++ r) ≡ (ms, rs)
joined_back [] p r rs j h = h
joined_back (m ∷ ms) p r rs j h =
    let s = both_true (is_widthless m) (are_joined ms) j in
    ap (λ o. attach o p m (attached p (ms ++ r))) (zero_width (char_width false m) s.0) ∙ ap (attach (Some 0) p m) (joined_back ms p r rs s.1 h)

joined_printed : (ms r : List ℕ) → are_joined ms ≡ true → IsPrinted r → IsPrinted (ms ++ r)
joined_printed [] r j h = h
joined_printed (m ∷ ms) r j h =
    let s = both_true (is_widthless m) (are_joined ms) j in
    (some_width (char_width false m) 0 (zero_width (char_width false m) s.0), joined_printed ms r s.1 h)

first_back : (cs : List ℕ) (p : Look) (gs : List Glyph) → is_cell_text cs ≡ true → Back (tails_of cs) p gs → Back 0 p (record { chars = cs; pen = p } ∷ gs)
first_back [] p gs h b = absurd (false≢true h)
first_back (c ∷ ms) p gs h b =
    let s = both_true (nat_lt 0 (char_columns c)) (are_joined ms) h in
    let k = char_columns c - 1 in
    let g : Glyph = record { chars = c ∷ ms; pen = p } in
    let width : char_width false c ≡ Some (suc k) = column_width c s.0 in
    let text = ms ++ all_chars gs in
    record {
      rest = g ∷ gs;
      cells = refl;
      back = ap (λ o. attach o p c (attached p text)) width ∙ ap (attach (Some (suc k)) p c) (joined_back ms p (all_chars gs) b.rest s.1 b.back)
          ∙ ap (λ (l : List Glyph). let r : List ℕ × List Glyph = ([], g ∷ l) in r) (sym b.cells);
      printed = (some_width (char_width false c) (suc k) width, joined_printed ms (all_chars gs) s.1 b.printed);
      whole = ltb-true 0 (char_columns c) s.0;
    }

tail_back : (cs : List ℕ) (p : Look) (n : ℕ) (gs : List Glyph) → has_none cs ≡ true → Back n p gs → Back (suc n) p (record { chars = cs; pen = p } ∷ gs)
tail_back [] p n gs h b = record { rest = b.rest; cells = ap (λ (l : List Glyph). tail_in p ∷ l) b.cells; back = b.back; printed = b.printed; whole = b.whole }
tail_back (c ∷ cs) p n gs h b = absurd (false≢true h)

cells_back : (gs : List Glyph) (n : ℕ) (p : Look) → are_whole_after n p gs ≡ true → InPen gs p → Back n p gs
cells_back [] zero p h f = record { rest = []; cells = refl; back = refl; printed = tt; whole = tt }
cells_back [] (suc n) p h f = absurd (false≢true h)
cells_back (g ∷ gs) zero p h f =
    let s = both_true (is_cell_text g.chars) _ h in
    let t = both_true (is_writable g.pen) _ s.1 in
    let pen : g.pen ≡ p = ⊎_elim (λ (tail : is_tail g ≡ true). absurd (no_tail g.chars s.0 tail)) (λ (e : g.pen ≡ p). e) (f 0 (omega arith)) in
    let b : Back (tails_of g.chars) p gs = cells_back gs (tails_of g.chars) p (ap (λ (q : Look). are_whole_after (tails_of g.chars) q gs) (sym pen) ∙ t.1) (λ i below. f (suc i) (omega arith)) in
    subst (λ (q : Look). Back 0 p (record { chars = g.chars; pen = q } ∷ gs)) (sym pen) (first_back g.chars p gs s.0 b)
cells_back (g ∷ gs) (suc n) p h f =
    let s = both_true (is_tail g) _ h in
    let t = both_true (same_look g.pen p) _ s.1 in
    let b : Back n p gs = cells_back gs n p t.1 (λ i below. f (suc i) (omega arith)) in
    subst (λ (q : Look). Back (suc n) p (record { chars = g.chars; pen = q } ∷ gs)) (sym (same_look_true g.pen p t.0)) (tail_back g.chars p n gs s.0 b)

encoded : (cs : List ℕ) → encodes cs ≡ flat_map encode cs
encoded [] = refl
encoded (c ∷ cs) = ap (λ l. encode c ++ l) (encoded cs)

row_encoded : (gs : List Glyph) → encodes (all_chars gs) ≡ row_text gs
row_encoded [] = refl
row_encoded (g ∷ gs) =
    encodes-append g.chars (all_chars gs) ∙ ap (λ l. l ++ encodes (all_chars gs)) (encoded g.chars) ∙ ap (λ l. cell_text g ++ l) (row_encoded gs)

-- a piece of cells in one pen paints these cells
pub piece_painted : (style : ContentStyle) (text : List ℕ) (p : Look) (gs : List Glyph) → IsStyle style → look_of_style style ≡ p → IsUtf8 text → text ≡ row_text gs → are_whole gs ≡ true → InPen gs p → Paints (piece_bytes style text) gs
piece_painted style text p gs known look is_text written are f =
    let b : Back 0 p gs = cells_back gs 0 p (whole_any gs are) f in
    let same : all_chars gs ≡ chars text = chars_from_encodes (all_chars gs) text is_text (row_encoded gs ∙ sym written) in
    let shown : IsShown (chars text) = subst (λ (cs : List ℕ). IsShown cs) same (record { printed = b.printed; whole = b.whole }) in
    let read : piece_cells style text ≡ gs = ap (λ (q : Look). cells_of q (chars text)) look ∙ ap (cells_of p) (sym same) ∙ ap (λ (r : List ℕ × List Glyph). r.1) b.back ∙ sym b.cells in
    subst (λ (l : List Glyph). Paints (piece_bytes style text) l) read (paints_piece style text known is_text shown)
  where
    whole_any : (gs : List Glyph) → are_whole gs ≡ true → are_whole_after 0 p gs ≡ true
    whole_any [] h = refl
    whole_any (g ∷ gs) h = h

-- no cells yet
pub adds_none : (before : List ℕ) → AddsPaint before [] before
adds_none before = ([], sym (append-nil before), paints_nothing)

-- one more piece
pub adds_more : (before mid after piece : List ℕ) (cells : List Glyph) (i n : ℕ) → AddsPaint before (take i cells) mid → after ≡ mid ++ piece → Paints piece (take n (drop i cells)) → AddsPaint before (take (i + n) cells) after
adds_more before mid after piece cells i n a e paints = (
  a.0 ++ piece,
  e ∙ ap (λ l. l ++ piece) a.1 ∙ append_assoc before a.0 piece,
  subst (λ (l : List Glyph). Paints (a.0 ++ piece) l) (sym (take-add i n cells)) (paints_both a.0 piece (take i cells) (take n (drop i cells)) a.2 paints),
)

-- the first cells of a list that are in a pen
pub in_pen_front : (gs : List Glyph) (n : ℕ) (p : Look) → n ≤ length gs → ((i : ℕ) → i < n → (is_tail (get_or gs i blank) ≡ true) ⊎ ((get_or gs i blank).pen ≡ p)) → InPen (take n gs) p
in_pen_front gs n p within h i below =
    let count : length (take n gs) ≡ n = length-take-le n gs within in
    let inside : i < n = omega arith in
    subst (λ (g : Glyph). (is_tail g ≡ true) ⊎ (g.pen ≡ p)) (sym (get_or-take n gs i blank inside)) (h i inside)

-- a cell that a piece goes on with
pub tail_or_in_pen : (g : Glyph) (p : Look) → (is_tail g || same_look g.pen p) ≡ true → (is_tail g ≡ true) ⊎ (g.pen ≡ p)
tail_or_in_pen g p h = by (is_tail g) h
  where
    by : (t : Bool) → (t || same_look g.pen p) ≡ true → (t ≡ true) ⊎ (g.pen ≡ p)
    by true k = inl refl
    by false k = inr (same_look_true g.pen p k)
