-- The cells of a row's characters are those that its pieces show.
use Rattle.std.proofs.Common.{◌≡◌, ℕ, zero, suc, ◌<◌, List, [], ◌∷◌, ◌++◌, map, Option, Some, None, refl, ap, sym, ◌∙◌, arith}
use Rattle.std.specs.Prelude.{IsSome, unwrap_or}
use Rattle.std.specs.Str.{chars}
use Rattle.mad_characters.specs.Columns.{char_columns}
use Rattle.mad_screen.specs.Glyph.{Glyph, Look}
use Rattle.mad_screen.specs.Painting.{attach, attached, IsPrinted, IsShown, look_of_style}
use Rattle.mad_screen.proofs.Paints.{attach_more}
use Rattle.mad_draw.specs.Pieces.{RowPiece, PennedChar, AreShownPieces, penned_chars}
use Rattle.mad_draw.specs.PennedCells.{penned_attached, penned_cells}
use Rattle.mad_draw.proofs.PieceLemmas.{pieces_cells}

some_columns : (o : Option ℕ) (pen : Look) (c : ℕ) (r : List ℕ × List Glyph) → IsSome o → attach o pen c r ≡ attach (Some (unwrap_or o 0)) pen c r
some_columns None pen c r h = absurd (cc)
some_columns (Some n) pen c r h = refl

joined_by_columns : (pen : Look) (c : ℕ) (cs : List ℕ) → IsPrinted (c ∷ cs) → attached pen (c ∷ cs) ≡ attach (Some (char_columns c)) pen c (attached pen cs)
unfolding char_columns
joined_by_columns pen c cs h = some_columns _ pen c (attached pen cs) h.0

joined_piece : (pen : Look) (cs : List ℕ) (rest : List PennedChar) → IsPrinted cs → (penned_attached rest).0 ≡ []
    → penned_attached (map (λ c. record { char = c; pen = pen }) cs ++ rest) ≡ ((attached pen cs).0, (attached pen cs).1 ++ (penned_attached rest).1)
joined_piece pen [] rest printed none = ap (λ marks. (marks, (penned_attached rest).1)) none
joined_piece pen (c ∷ cs) rest printed none =
    ap (attach (Some (char_columns c)) pen c) (joined_piece pen cs rest printed.1 none)
    ∙ attach_more (Some (char_columns c)) pen c (attached pen cs) (penned_attached rest).1
    ∙ sym (ap (λ (r : List ℕ × List Glyph). (r.0, r.1 ++ (penned_attached rest).1)) (joined_by_columns pen c cs printed))

whole_attach : (n : ℕ) (pen : Look) (c : ℕ) (r : List ℕ × List Glyph) → 0 < n → (attach (Some n) pen c r).0 ≡ []
whole_attach zero pen c r some = absurd (omega arith)
whole_attach (suc k) pen c r some = refl

whole_joined : (pen : Look) (cs : List ℕ) → IsShown cs → (attached pen cs).0 ≡ []
whole_joined pen [] h = refl
whole_joined pen (c ∷ cs) h = ap (λ (r : List ℕ × List Glyph). r.0) (joined_by_columns pen c cs h.printed) ∙ whole_attach (char_columns c) pen c (attached pen cs) h.whole

pieces_joined : (ps : List RowPiece) → AreShownPieces ps → penned_attached (penned_chars ps) ≡ ([], pieces_cells ps)
pieces_joined [] h = refl
pieces_joined (p ∷ ps) h =
    let rest : penned_attached (penned_chars ps) ≡ ([], pieces_cells ps) = pieces_joined ps h.1 in
    let pen : Look = look_of_style p.style in
    joined_piece pen (chars p.text) (penned_chars ps) h.0.shown.printed (ap (λ (r : List ℕ × List Glyph). r.0) rest)
    ∙ ap (λ marks. (marks, (attached pen (chars p.text)).1 ++ (penned_attached (penned_chars ps)).1)) (whole_joined pen (chars p.text) h.0.shown)
    ∙ ap (λ (r : List ℕ × List Glyph). ([], (attached pen (chars p.text)).1 ++ r.1)) rest

-- the cells that pieces show are those of their characters
pub cells_of_pieces : (ps : List RowPiece) → AreShownPieces ps → penned_cells (penned_chars ps) ≡ pieces_cells ps
cells_of_pieces ps h = ap (λ (r : List ℕ × List Glyph). r.1) (pieces_joined ps h)
