-- Bytes that paint cells, some columns at most.
use Rattle.std.proofs.Common.{◌≡◌, ℕ, zero, suc, ◌+◌, ◌-◌, ◌≤◌, List, [], ◌∷◌, ◌++◌, length, take, map, replicate, chars, refl, ap, sym, ◌∙◌, arith, length-append}
use Rattle.std.specs.List.{AllByRecursion, flat_map, repeat}
use Rattle.mad_term.specs.declared.styles.ContentStyle.{ContentStyle}
use Rattle.mad_term.specs.Styles.{piece_bytes, IsStyle}
use Rattle.mad_screen.specs.Glyph.{Glyph, Look}
use Rattle.mad_screen.specs.Painting.{cells_of, piece_cells, Paints, look_of_style}
use Rattle.mad_screen.proofs.PaintingLemmas.{length-cells_of}
use Rattle.mad_screen.proofs.Paints.{paints_nothing, paints_both, paints_piece}
use Rattle.mad_measure.specs.TextColumns.{columns}
use Rattle.mad_list_columns.specs.Drawing.{separated}
use Rattle.mad_list_columns.proofs.PlaceLemmas.{ShowsWithin, columns_sum}

-- the bytes paint these cells, at most as many as these
pub record PaintsWithin (n : ℕ) (bytes : List ℕ) (cells : List Glyph) : Type 0 where
  pub paints : Paints bytes cells
  pub within : length cells ≤ n

-- nothing is within no column
pub within_nothing : PaintsWithin 0 [] []
within_nothing = record { paints = paints_nothing; within = omega arith }

-- two texts side by side take the columns of both
pub within_both : (n m : ℕ) (a b : List ℕ) (g h : List Glyph) → PaintsWithin n a g → PaintsWithin m b h → PaintsWithin (n + m) (a ++ b) (g ++ h)
within_both n m a b g h p q = record { paints = paints_both a b g h p.paints q.paints; within = omega (arith, length-append g h, p.within, q.within) }

-- what is within some columns is within more
pub within_more : (n m : ℕ) (bytes : List ℕ) (cells : List Glyph) → n ≤ m → PaintsWithin n bytes cells → PaintsWithin m bytes cells
within_more n m bytes cells h p = record { paints = p.paints; within = omega (arith, h, p.within) }

-- the cells of a text
pub length-text_cells : (pen : Look) (text : List ℕ) → length (cells_of pen (chars text)) ≡ columns (chars text)
length-text_cells pen text = length-cells_of pen (chars text) ∙ columns_sum (chars text)

-- a piece of a text is within the text's columns
pub within_piece : (s : ContentStyle) (text : List ℕ) (n : ℕ) → IsStyle s → ShowsWithin n text → PaintsWithin n (piece_bytes s text) (piece_cells s text)
within_piece s text n known h = record {
  paints = paints_piece s text known h.utf8 h.shown;
  within = omega (arith, length-text_cells (look_of_style s) text, h.most);
}

-- bytes of one cell, some times
pub within_repeat : (n : ℕ) (bytes : List ℕ) (cell : Glyph) → PaintsWithin 1 bytes (cell ∷ []) → PaintsWithin n (repeat n bytes) (replicate n cell)
within_repeat zero bytes cell p = within_nothing
within_repeat (suc n) bytes cell p = within_more (1 + n) (suc n) (bytes ++ repeat n bytes) (cell ∷ replicate n cell) (omega arith) (within_both 1 n bytes (repeat n bytes) (cell ∷ []) (replicate n cell) p (within_repeat n bytes cell p))

-- ---- texts with another between each two

-- the columns of some, with one more for each
abbrev pub spread : {X : Type 0} → (X → ℕ) → List X → ℕ
spread n [] = 0
spread n (x ∷ xs) = n x + 1 + spread n xs

-- each of them paints its cells, and so it does after what is between
pub record PaintsEach {X : Type 0} (between : List ℕ) (line : Glyph) (f : X → List ℕ) (g : X → List Glyph) (n : X → ℕ) (x : X) : Type 0 where
  pub alone : PaintsWithin (n x) (f x) (g x)
  pub after : PaintsWithin (n x + 1) (between ++ f x) (line ∷ g x)

within_each : {X : Type 0} (between : List ℕ) (line : Glyph) (f : X → List ℕ) (g : X → List Glyph) (n : X → ℕ) (xs : List X) → AllByRecursion (PaintsEach between line f g n) xs → PaintsWithin (spread n xs) (flat_map (λ u. between ++ u) (map f xs)) (flat_map (λ u. line ∷ u) (map g xs))
within_each between line f g n [] h = within_nothing
within_each between line f g n (x ∷ xs) h =
    within_both (n x + 1) (spread n xs) (between ++ f x) (flat_map (λ u. between ++ u) (map f xs)) (line ∷ g x) (flat_map (λ u. line ∷ u) (map g xs)) h.0.after (within_each between line f g n xs h.1)

-- cells with a border between each two are within their places and the borders
pub within_separated : {X : Type 0} (between : List ℕ) (line : Glyph) (f : X → List ℕ) (g : X → List Glyph) (n : X → ℕ) (xs : List X) → AllByRecursion (PaintsEach between line f g n) xs → PaintsWithin (spread n xs - 1) (separated between (map f xs)) (separated (line ∷ []) (map g xs))
within_separated between line f g n [] h = within_nothing
within_separated between line f g n (x ∷ xs) h =
    within_more (n x + spread n xs) (n x + 1 + spread n xs - 1) (f x ++ flat_map (λ u. between ++ u) (map f xs)) (g x ++ flat_map (λ u. line ∷ u) (map g xs)) (omega arith)
    (within_both (n x) (spread n xs) (f x) (flat_map (λ u. between ++ u) (map f xs)) (g x) (flat_map (λ u. line ∷ u) (map g xs)) h.0.alone (within_each between line f g n xs h.1))

-- the same where what is between paints one cell by itself
pub after_one : {X : Type 0} (between : List ℕ) (line : Glyph) (f : X → List ℕ) (g : X → List Glyph) (n : X → ℕ) (xs : List X) → PaintsWithin 1 between (line ∷ []) → AllByRecursion (λ x. PaintsWithin (n x) (f x) (g x)) xs → AllByRecursion (PaintsEach between line f g n) xs
after_one between line f g n [] one h = tt
after_one between line f g n (x ∷ xs) one h = (
  record {
    alone = h.0;
    after = within_more (1 + n x) (n x + 1) (between ++ f x) (line ∷ g x) (omega arith) (within_both 1 (n x) between (f x) (line ∷ []) (g x) one h.0);
  },
  after_one between line f g n xs one h.1,
)

-- the same, for a border of one column
pub separated_by_one : {X : Type 0} (between : List ℕ) (line : Glyph) (f : X → List ℕ) (g : X → List Glyph) (n : X → ℕ) (xs : List X) → PaintsWithin 1 between (line ∷ []) → AllByRecursion (λ x. PaintsWithin (n x) (f x) (g x)) xs → PaintsWithin (spread n xs - 1) (separated between (map f xs)) (separated (line ∷ []) (map g xs))
separated_by_one between line f g n xs one h = within_separated between line f g n xs (after_one between line f g n xs one h)
