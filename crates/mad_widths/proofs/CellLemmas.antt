-- What is known of the cells of columns.
use Rattle.std.proofs.Common.{◌≡◌, ℕ, zero, suc, ◌+◌, ◌-◌, ◌*◌, ◌^◌, ◌≤◌, ◌<◌, min, max, List, [], ◌∷◌, ◌++◌, length, map, get_or, set, replicate, sum, refl, ap, ap₂, arith, All, length-append}
use Rattle.std.specs.List.{AllZip, AllByRecursion}
use Rattle.std.proofs.lemmas.List.Elements.{All-push, All-weaker, All-map, All-from_get_or}
use Rattle.std.proofs.lemmas.List.Sums.{sum_by-le, sum_by_push}
use Rattle.mad_widths.specs.ColumnWidths.{widest, average_width, needs_of, natural_widths}
use Rattle.mad_widths.specs.SeenCells.{needs_in, ColumnHasSeen}
use Rattle.mad_widths.specs.declared.sharing.SeenColumn.{SeenColumn}

widest_push : (ws : List ℕ) (w : ℕ) → widest (ws ++ w ∷ []) ≡ max (widest ws) w
widest_push [] w = omega arith
widest_push (v ∷ ws) w = omega (arith, widest_push ws w)

-- one cell more
pub seen_more : (c r : SeenColumn) (width : ℕ) (cells : List ℕ) → width < 2 ^ 64 → r.widest ≡ max c.widest width → r.count ≡ min (c.count + 1) (2 ^ 64 - 1) → r.total ≡ min (c.total + width) (2 ^ 128 - 1)
    → ColumnHasSeen c cells → ColumnHasSeen r (cells ++ width ∷ [])
seen_more c r width cells fits ew ec et h = record {
  widths = All-push (λ w. w < 2 ^ 64) cells width h.widths fits;
  widest_is = omega (arith, ew, h.widest_is, widest_push cells width);
  counted = λ l.
      let e : length (cells ++ width ∷ []) ≡ length cells + 1 = length-append cells (width ∷ []) in
      let old = h.counted (omega (arith, l, e)) in
      let most : sum cells ≤ length cells * (2 ^ 64 - 1) = sum_by-le (λ x. x) (2 ^ 64 - 1) cells (All-weaker (λ w. w < 2 ^ 64) (λ w. w ≤ 2 ^ 64 - 1) (λ w b. omega (arith, b)) cells h.widths) in
      (omega (arith, ec, old.0, l, e), omega (arith, et, old.1, most, l, e, fits, sum_by_push (λ (x : ℕ). x) cells width));
}

-- lists that repeat two related elements are related place by place
pub zip_replicate : {A B : Type 0} (R : A → B → Type 0) (n : ℕ) (x : A) (y : B) → R x y → AllZip R (replicate n x) (replicate n y)
zip_replicate R zero x y h = tt
zip_replicate R (suc n) x y h = (h, zip_replicate R n x y h)

-- related lists stay so where both get related elements at one place
pub zip_set : {A B : Type 0} (R : A → B → Type 0) (xs : List A) (ys : List B) (i : ℕ) (x : A) (y : B) → AllZip R xs ys → R x y → AllZip R (set xs i x) (set ys i y)
zip_set R [] [] i x y h one = tt
zip_set R (a ∷ xs) (b ∷ ys) zero x y h one = (one, h.1)
zip_set R (a ∷ xs) (b ∷ ys) (suc i) x y h one = (h.0, zip_set R xs ys i x y h.1 one)
zip_set _ _ _ _ x y h one = absurd h

-- related lists have the same length
pub zip_length : {A B : Type 0} (R : A → B → Type 0) (xs : List A) (ys : List B) → AllZip R xs ys → length xs ≡ length ys
zip_length R [] [] h = refl
zip_length R (a ∷ xs) (b ∷ ys) h = ap suc (zip_length R xs ys h.1)
zip_length _ _ _ h = absurd h

-- related lists have related elements at each place
pub zip_at : {A B : Type 0} (R : A → B → Type 0) (xs : List A) (ys : List B) (i : ℕ) (d : A) (e : B) → AllZip R xs ys → i < length xs → R (get_or xs i d) (get_or ys i e)
zip_at R [] ys i d e h l = absurd (omega (arith, l))
zip_at R (a ∷ xs) [] i d e h l = absurd h
zip_at R (a ∷ xs) (b ∷ ys) zero d e h l = h.0
zip_at R (a ∷ xs) (b ∷ ys) (suc i) d e h l = zip_at R xs ys i d e h.1 (omega (arith, l))

-- the natural widths of cells follow from what is kept of them
pub same_naturals : (cs : List SeenColumn) (cells : List (List ℕ)) → AllZip ColumnHasSeen cs cells → natural_widths (map needs_in cs) ≡ natural_widths (map needs_of cells)
same_naturals [] [] h = refl
same_naturals (c ∷ cs) (x ∷ cells) h = ap₂ (λ n ns. n ∷ ns) (ap (λ w. max w 3) h.0.widest_is) (same_naturals cs cells h.1)
same_naturals _ _ h = absurd h

-- the needs of cells follow from what is kept of them, where each column saw fewer than 2^64
pub same_needs : (cs : List SeenColumn) (cells : List (List ℕ)) → AllZip ColumnHasSeen cs cells → AllByRecursion (λ c. length c < 2 ^ 64) cells → map needs_in cs ≡ map needs_of cells
same_needs [] [] h few = refl
same_needs (c ∷ cs) (x ∷ cells) h few =
    let n : max c.widest 3 ≡ max (widest x) 3 = ap (λ w. max w 3) h.0.widest_is in
    let counted = h.0.counted few.0 in
    let a : average_width c.total c.count ≡ average_width (sum x) (length x) = ap₂ (λ t k. average_width t k) counted.1 counted.0 in
    let one : needs_in c ≡ needs_of x = ap₂ (λ (n : ℕ) (a : ℕ). record { natural = n; average = a }) n a in
    ap₂ (λ n ns. n ∷ ns) one (same_needs cs cells h.1 few.1)
same_needs _ _ h few = absurd h

-- natural widths are three at least
pub naturals_wide : (cs : List SeenColumn) → All (λ n. 3 ≤ n.natural) (map needs_in cs)
naturals_wide cs = All-map (λ n. 3 ≤ n.natural) needs_in cs (All-from_get_or (λ c. 3 ≤ (needs_in c).natural) cs (record { widest = 0; count = 0; total = 0 }) (λ i l. omega arith))

-- a column's natural width is that of its widest cell, three at least
pub naturals_in : (cs : List SeenColumn) → natural_widths (map needs_in cs) ≡ map (λ c. max c.widest 3) cs
naturals_in [] = refl
naturals_in (c ∷ cs) = ap (λ ns. max c.widest 3 ∷ ns) (naturals_in cs)
