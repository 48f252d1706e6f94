-- The steps of the loops over cells.
use Rattle.std.proofs.Common.{◌≡◌, ℕ, suc, ◌+◌, ◌*◌, leb, ◌-◌, ◌<◌, ◌≤◌, Bool, true, cond, List, [], ◌∷◌, length, get_or, set, replicate, Some, None, ap, sym, ◌∙◌, arith}
use Rattle.std.proofs.lemmas.List.{replicate_more, length-replicate, get_or_read}
use Rattle.std.proofs.lemmas.Bool.Decides.{nat_tests}
use Rattle.mad_screen.specs.Glyph.{Glyph}
use Rattle.mad_screen.specs.Grid.{Grid, put_list, is_tail, blank, painted, glyphs}
use Rattle.mad_screen.specs.Terminal.{head_before, put_wide}
use Rattle.mad_screen.proofs.PutList.{put_list-append}

-- one more of the same cell
pub same_more : (cells : List Glyph) (from n : ℕ) (space : Glyph) → set (put_list cells from (replicate n space)) (from + n) space ≡ put_list cells from (replicate (n + 1) space)
same_more cells from n space =
    let place : from + n ≡ from + length (replicate n space) = omega (arith, length-replicate n space) in
    ap (λ i. set (put_list cells from (replicate n space)) i space) place
    ∙ sym (put_list-append cells from (replicate n space) (space ∷ []))
    ∙ ap (put_list cells from) (replicate_more n space)

-- one more tail
pub lay_more : (cells : List Glyph) (at i : ℕ) (first tail : Glyph) → set (put_list cells at (first ∷ replicate i tail)) (at + 1 + i) tail ≡ put_list cells at (first ∷ replicate (i + 1) tail)
lay_more cells at i first tail =
    let place : at + 1 + i ≡ at + length (first ∷ replicate i tail) = omega (arith, length-replicate i tail) in
    ap (λ n. set (put_list cells at (first ∷ replicate i tail)) n tail) place
    ∙ sym (put_list-append cells at (first ∷ replicate i tail) (tail ∷ []))
    ∙ ap (λ l. put_list cells at (first ∷ l)) (replicate_more i tail)

-- one cell further left
pub head_step : (cells : List Glyph) (start left n : ℕ) (cell : Glyph) (b : Bool) → 0 < left → n ≡ left - 1 → start + n < length cells → cell ≡ get_or cells (start + n) cell → b ≡ is_tail cell → head_before cells start left ≡ cond b (head_before cells start n) (Some (start + n))
head_step cells start left n cell b some before below read test =
    let next : left ≡ suc n = omega arith in
    ap (head_before cells start) next
    ∙ ap (λ t. cond t (head_before cells start n) (Some (start + n))) (ap is_tail (sym (get_or_read cells (start + n) cell below read blank)) ∙ sym test)

-- a character with room, as the code writes it
pub print_is : (g : Grid) (c k : ℕ) (cells : List Glyph) → g.x + suc k ≤ g.width → cells ≡ put_list g.cells (g.y * g.width + g.x) (glyphs (c ∷ []) k g.pen) → put_wide (Some (suc k)) g c ≡ Some (record g { cells = cells; x = g.x + (k + 1) })
unfolding painted
print_is g c k cells fits cells_is =
    let test : leb (g.x + suc k) g.width ≡ true = grind (arith, nat_tests) in
    let T : Glyph = record { chars = []; pen = g.pen } in
    let column : g.x + length (glyphs (c ∷ []) k g.pen) ≡ g.x + (k + 1) = omega (arith, length-replicate k T) in
    ap (λ b. cond b (Some (painted g (glyphs (c ∷ []) k g.pen))) None) test
    ∙ ap (λ n. Some (record (painted g (glyphs (c ∷ []) k g.pen)) { x = n })) column
    ∙ ap (λ l. Some (record g { cells = l; x = g.x + (k + 1) })) (sym cells_is)
