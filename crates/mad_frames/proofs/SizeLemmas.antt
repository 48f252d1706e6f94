-- No text changes the size of a screen.
use Rattle.std.proofs.Common.{◌≡◌, ℕ, zero, suc, ◌+◌, ◌*◌, ◌-◌, Bool, true, false, cond, List, [], ◌∷◌, ◌++◌, Option, Some, None, refl, ◌∙◌, subst}
use Rattle.std.specs.Prelude.{IfSome, option_map, option_and_then, min, ◌==◌, ◌&&◌, nat_le, nat_lt}
use Rattle.std.specs.Str.{chars, is_utf8}
use Rattle.unicode_width.specs.Width.{char_width}
use Rattle.mad_screen.specs.Glyph.{Look}
use Rattle.mad_screen.specs.Grid.{Grid, painted, glyphs}
use Rattle.mad_screen.specs.Terminal.{Mode, Outside, Escape, Numbers, Reading, resting, numbers, put, put_wide, join_at, head_before, go_to, erased, row_start, row_end, screen_end, erase_screen, erase_row, restyled, perform, with_digit, is_digit, end_number, feed_in, feed_all, settled, settled_in, after_bytes}
use Rattle.mad_frames.specs.Changes.{SameSize}

-- a screen of the size of `g`, if there is one
abbrev Kept : Grid → Option Grid → Type 0
Kept g o = IfSome o (SameSize g)

-- the same of a reading
abbrev Has : Grid → Reading → Type 0
Has g r = SameSize g r.grid

abbrev Reads : Grid → Option Reading → Type 0
Reads g o = IfSome o (Has g)

same : (g : Grid) → SameSize g g
same g = record { width = refl; height = refl }

either : {X : Type 0} (P : X → Type 0) (b : Bool) (a c : Option X) → IfSome a P → IfSome c P → IfSome (cond b a c) P
either P true a c p q = p
either P false a c p q = q

joins : (g : Grid) (c : ℕ) (o : Option ℕ) → Kept g (join_at g c o)
joins g c None = tt
joins g c (Some i) = record { width = refl; height = refl }

puts_wide : (g : Grid) (c : ℕ) (o : Option ℕ) → Kept g (put_wide o g c)
unfolding painted
puts_wide g c None = tt
puts_wide g c (Some zero) = joins g c (head_before g.cells (g.y * g.width) g.x)
puts_wide g c (Some (suc k)) = either (SameSize g) (nat_le (g.x + suc k) g.width) (Some (painted g (glyphs (c ∷ []) k g.pen))) None (record { width = refl; height = refl }) tt

puts : (g : Grid) (c : ℕ) → Kept g (put g c)
puts g c = either (SameSize g) (nat_lt g.y g.height) (put_wide (char_width false c) g c) None (puts_wide g c (char_width false c)) tt

goes : (g : Grid) (ns : List ℕ) → Kept g (go_to ns g)
goes g [] = tt
goes g (row ∷ []) = tt
goes g (row ∷ column ∷ []) = either (SameSize g) (nat_le 1 row && nat_le row g.height && nat_le 1 column && nat_le column g.width) (Some (record g { x = column - 1; y = row - 1 })) None (record { width = refl; height = refl }) tt
goes g (row ∷ column ∷ n ∷ ns) = tt

styles : (g : Grid) (o : Option Look) → Kept g (option_map (λ p. record g { pen = p }) o)
styles g None = tt
styles g (Some p) = record { width = refl; height = refl }

erases : (g : Grid) (from to : ℕ) → SameSize g (erased from to g)
unfolding erased
erases g from to = record { width = refl; height = refl }

erases_screen : (g : Grid) (ns : List ℕ) → Kept g (erase_screen ns g)
erases_screen g [] = erases g (row_start g + g.x) (screen_end g)
erases_screen g (n ∷ []) =
    let front : Grid = erased 0 (row_start g + min (g.x + 1) g.width) g in
    let all : Grid = erased 0 (screen_end g) g in
    either (SameSize g) (n == 1) (Some front) (cond (n == 2) (Some all) None) (erases g 0 (row_start g + min (g.x + 1) g.width))
    (either (SameSize g) (n == 2) (Some all) None (erases g 0 (screen_end g)) tt)
erases_screen g (n ∷ m ∷ ns) = tt

erases_row : (g : Grid) (ns : List ℕ) → Kept g (erase_row ns g)
erases_row g [] = erases g (row_start g + g.x) (row_end g)
erases_row g (n ∷ []) = either (SameSize g) (n == 2) (Some (erased (row_start g) (row_end g) g)) None (erases g (row_start g) (row_end g)) tt
erases_row g (n ∷ m ∷ ns) = tt

performs : (g : Grid) (c : ℕ) (ns : List ℕ) → Kept g (perform c ns g)
performs g c ns =
    let styled : Option Grid = option_map (λ p. record g { pen = p }) (restyled ns g.pen) in
    let row : Option Grid = cond (c == 75) (erase_row ns g) None in
    let screen : Option Grid = cond (c == 74) (erase_screen ns g) row in
    either (SameSize g) (c == 72) (go_to ns g) (cond (c == 109) styled screen) (goes g ns)
    (either (SameSize g) (c == 109) styled screen (styles g (restyled ns g.pen))
    (either (SameSize g) (c == 74) (erase_screen ns g) row (erases_screen g ns) (either (SameSize g) (c == 75) (erase_row ns g) None (erases_row g ns) tt)))

rests : (g : Grid) (o : Option Grid) → Kept g o → Reads g (option_map resting o)
rests g None h = tt
rests g (Some new) h = h

digits : (g : Grid) (ps : List ℕ) (o : Option ℕ) → Reads g (option_map (λ n. numbers g ps (Some n)) o)
digits g ps None = tt
digits g ps (Some n) = same g

more : (g : Grid) (ps : List ℕ) (n c : ℕ) → Reads g (cond (c == 59) (Some (numbers g (ps ++ n ∷ []) None)) (option_map resting (perform c (ps ++ n ∷ []) g)))
more g ps n c = either (Has g) (c == 59) (Some (numbers g (ps ++ n ∷ []) None)) (option_map resting (perform c (ps ++ n ∷ []) g)) (same g) (rests g (perform c (ps ++ n ∷ []) g) (performs g c (ps ++ n ∷ [])))

ends : (g : Grid) (ps : List ℕ) (now : Option ℕ) (c : ℕ) → Reads g (end_number g ps now c)
ends g [] None c = rests g (perform c [] g) (performs g c [])
ends g (p ∷ ps) None c = tt
ends g [] (Some n) c = more g [] n c
ends g (p ∷ ps) (Some n) c = more g (p ∷ ps) n c

feeds : (m : Mode) (g : Grid) (c : ℕ) → Reads g (feed_in m g c)
feeds Outside g c = either (Has g) (c == 27) (Some (record { grid = g; mode = Escape })) (option_map resting (put g c)) (same g) (rests g (put g c) (puts g c))
feeds Escape g c = either (Has g) (c == 91) (Some (numbers g [] None)) None (same g) tt
feeds (Numbers ps now) g c =
    either (Has g) (is_digit c) (option_map (λ n. numbers g ps (Some n)) (with_digit now (c - 48))) (end_number g ps now c) (digits g ps (with_digit now (c - 48))) (ends g ps now c)

feeds_all : (cs : List ℕ) (g : Grid) (o : Option Reading) → Reads g o → Reads g (option_and_then (feed_all cs) o)
feeds_all cs g None h = tt
feeds_all [] g (Some r) h = h
feeds_all (c ∷ cs) g (Some r) h = feeds_all cs g (feed_in r.mode r.grid c) (as_before (feed_in r.mode r.grid c) (feeds r.mode r.grid c))
  where
    as_before : (o : Option Reading) → Reads r.grid o → Reads g o
    as_before None k = tt
    as_before (Some s) k = record { width = h.width ∙ k.width; height = h.height ∙ k.height }

settles : (g : Grid) (o : Option Reading) → Reads g o → Kept g (option_and_then settled o)
settles g None h = tt
settles g (Some r) h = by_mode r.mode
  where
    by_mode : (m : Mode) → Kept g (settled_in m r.grid)
    by_mode Outside = h
    by_mode Escape = tt
    by_mode (Numbers ps now) = tt

reads : (g : Grid) (bytes : List ℕ) → Kept g (after_bytes g bytes)
unfolding after_bytes
reads g bytes = either (SameSize g) (is_utf8 bytes) (option_and_then settled (feed_all (chars bytes) (resting g))) None (settles g (feed_all (chars bytes) (resting g)) (feeds_all (chars bytes) g (Some (resting g)) (same g))) tt

-- a screen that has read bytes has the size that it had
pub read_size : (g new : Grid) (bytes : List ℕ) → after_bytes g bytes ≡ Some new → SameSize g new
read_size g new bytes e = subst (λ (o : Option Grid). Kept g o) e (reads g bytes)
