-- Characters that are fed to a screen paint their cells: wide ones with their tails, and widthless ones joined.
use Rattle.std.proofs.Common.{◌≡◌, ⊎_elim, ℕ, suc, zero, ◌+◌, ◌*◌, ◌<◌, ◌≤◌, true, false, cond, eqb, leb, ltb, List, [], ◌∷◌, ◌++◌, length, get_or, set, replicate, Option, Some, None, refl, ap, sym, ◌∙◌, subst, arith, length-append, append_assoc}
use Rattle.std.specs.Prelude.{IsSome, option_map, unwrap_or}
use Rattle.std.specs.List.{sum_by}
use Rattle.std.proofs.lemmas.List.{set-set, append-nil, get_or-replicate, length-replicate}
use Rattle.std.proofs.lemmas.List.Sums.{sum_by-cons}
use Rattle.std.proofs.lemmas.Nat.{row_fits}
use Rattle.std.proofs.lemmas.Bool.{cases_eq, false≢true}
use Rattle.std.proofs.lemmas.Bool.Decides.{nat_tests}
use Rattle.unicode_width.specs.Width.{char_width}
use Rattle.mad_characters.specs.Columns.{char_columns}
use Rattle.mad_screen.specs.Glyph.{Glyph, Look}
use Rattle.mad_screen.specs.Grid.{Grid, IsGrid, put_list, painted, glyphs, blank, is_tail}
use Rattle.mad_screen.specs.Terminal.{Escape, put, put_wide, join_at, joined_glyph, head_before, feed, Leads, resting}
use Rattle.mad_screen.specs.Painting.{attach, attached, cells_of, IsPrinted, IsShown, HasColumns}
use Rattle.mad_screen.proofs.PutList.{put_list-append, put_list-same, set-put_list, length-put_list}
use Rattle.mad_screen.proofs.Reading.{nothing_leads, next_leads}

-- ---- painting

-- cells, and then cells after them
pub painted-append : (g : Grid) (a b : List Glyph) → painted (painted g a) b ≡ painted g (a ++ b)
unfolding painted
painted-append g a b =
    let place : g.y * g.width + (g.x + length a) ≡ (g.y * g.width + g.x) + length a = omega arith in
    let column : g.x + length a + length b ≡ g.x + length (a ++ b) = omega (arith, length-append a b) in
    ap (λ n. record g { cells = put_list (put_list g.cells (g.y * g.width + g.x) a) n b; x = g.x + length a + length b }) place
    ∙ ap (λ l. record g { cells = l; x = g.x + length a + length b }) (sym (put_list-append g.cells (g.y * g.width + g.x) a b))
    ∙ ap (λ n. record g { cells = put_list g.cells (g.y * g.width + g.x) (a ++ b); x = n }) column

-- no cells change nothing
pub painted-nil : (g : Grid) → painted g [] ≡ g
unfolding painted
painted-nil g =
    let column : g.x + 0 ≡ g.x = omega arith in
    ap (λ n. record g { x = n }) column

-- painted cells leave a grid, where there are columns for them
pub painted_is_grid : (g : Grid) (gs : List Glyph) → IsGrid g → g.x + length gs ≤ g.width → IsGrid (painted g gs)
unfolding painted
painted_is_grid g gs h fits = record {
  full = length-put_list g.cells (g.y * g.width + g.x) gs ∙ h.full;
  column = fits;
  row = h.row;
}

-- what is left of the columns
pub painted_columns : (g : Grid) (gs : List Glyph) (n m : ℕ) → HasColumns g n → length gs + m ≤ n → HasColumns (painted g gs) m
unfolding painted
painted_columns g gs n m h fits = record {
  grid = painted_is_grid g gs h.grid (omega (arith, h.columns));
  row = h.row;
  columns = omega (arith, h.columns);
}

-- where columns are free, fewer are
pub fewer_columns : (g : Grid) (n m : ℕ) → HasColumns g n → m ≤ n → HasColumns g m
fewer_columns g n m h fits = record { grid = h.grid; row = h.row; columns = omega (arith, h.columns) }

-- what follows the cursor in its row is within the grid
pub rest_fits : (g : Grid) (n : ℕ) → HasColumns g n → (g.y * g.width + g.x) + n ≤ length g.cells
rest_fits g n h = omega (arith, h.grid.full, h.columns, row_fits g.y g.width g.height g.width h.row (omega arith))

-- ---- one character

no_escape : char_width false 27 ≡ None
unfolding char_width
no_escape = refl

printed_no_escape : (c w : ℕ) → char_width false c ≡ Some w → eqb c 27 ≡ false
printed_no_escape c w e =
    ⊎_elim (λ (same : c ≡ 27). absurd (clash (sym e ∙ ap (char_width false) same ∙ no_escape))) (λ ne. grind (arith, nat_tests)) (cases_eq c 27)
  where
    clash : {A : Type 0} {a : A} → Some a ≡ None → ⊥
    clash h = cc

-- a character outside a sequence, in a row of the screen
printed_feeds : (g : Grid) (c w : ℕ) → g.y < g.height → char_width false c ≡ Some w → feed (resting g) c ≡ option_map resting (put_wide (Some w) g c)
printed_feeds g c w in_rows e =
    let on_screen : ltb g.y g.height ≡ true = grind (arith, nat_tests) in
    ap (λ b. cond b (Some (record { grid = g; mode = Escape })) (option_map resting (put g c))) (printed_no_escape c w e)
    ∙ ap (λ b. option_map resting (cond b (put_wide (char_width false c) g c) None)) on_screen
    ∙ ap (λ o. option_map resting (put_wide o g c)) e

-- a character that takes columns paints its cells
pub wide_feeds : (g : Grid) (c k : ℕ) → char_width false c ≡ Some (suc k) → HasColumns g (suc k) → feed (resting g) c ≡ Some (resting (painted g (glyphs (c ∷ []) k g.pen)))
wide_feeds g c k e h =
    let fits : g.x + suc k ≤ g.width = h.columns in
    let test : leb (g.x + suc k) g.width ≡ true = grind (arith, nat_tests) in
    printed_feeds g c (suc k) h.row e
    ∙ ap (λ b. option_map resting (cond b (Some (painted g (glyphs (c ∷ []) k g.pen))) None)) test

-- ---- a widthless character

-- the first cell to the left that is no tail, over k tails
pub head_found : (cells : List Glyph) (start x k : ℕ) → ((i : ℕ) → i < k → is_tail (get_or cells (start + (x + suc i)) blank) ≡ true) → is_tail (get_or cells (start + x) blank) ≡ false → head_before cells start (x + suc k) ≡ Some (start + x)
head_found cells start x zero tails head =
    let next : x + 1 ≡ suc x = omega arith in
    ap (head_before cells start) next ∙ ap (λ b. cond b (head_before cells start x) (Some (start + x))) head
head_found cells start x (suc k) tails head =
    let next : x + suc (suc k) ≡ suc (x + suc k) = omega arith in
    ap (head_before cells start) next
    ∙ ap (λ b. cond b (head_before cells start (x + suc k)) (Some (start + (x + suc k)))) (tails k (omega arith))
    ∙ head_found cells start x k (λ i h. tails i (omega arith)) head

-- the cells of one character as they were written
glyph_there : (g : Grid) (chars : List ℕ) (k : ℕ) → HasColumns g (suc k) → get_or (put_list g.cells (g.y * g.width + g.x) (glyphs chars k g.pen)) (g.y * g.width + g.x) blank ≡ record { chars = chars; pen = g.pen }
glyph_there g chars k h =
    let place : g.y * g.width + g.x + 0 ≡ g.y * g.width + g.x = omega arith in
    let length_is : length (glyphs chars k g.pen) ≡ suc k = ap suc (length-replicate k (record { chars = []; pen = g.pen })) in
    ap (λ i. get_or (put_list g.cells (g.y * g.width + g.x) (glyphs chars k g.pen)) i blank) (sym place)
    ∙ put_list-same g.cells (g.y * g.width + g.x) (glyphs chars k g.pen) 0 blank (omega arith) (omega (arith, rest_fits g (suc k) h))

tail_there : (g : Grid) (chars : List ℕ) (k i : ℕ) → HasColumns g (suc k) → i < k → get_or (put_list g.cells (g.y * g.width + g.x) (glyphs chars k g.pen)) (g.y * g.width + (g.x + suc i)) blank ≡ record { chars = []; pen = g.pen }
tail_there g chars k i h below =
    let place : g.y * g.width + (g.x + suc i) ≡ g.y * g.width + g.x + suc i = omega arith in
    let length_is : length (glyphs chars k g.pen) ≡ suc k = ap suc (length-replicate k (record { chars = []; pen = g.pen })) in
    ap (λ i. get_or (put_list g.cells (g.y * g.width + g.x) (glyphs chars k g.pen)) i blank) place
    ∙ put_list-same g.cells (g.y * g.width + g.x) (glyphs chars k g.pen) (suc i) blank (omega arith) (omega (arith, rest_fits g (suc k) h))
    ∙ get_or-replicate k i (record { chars = []; pen = g.pen }) blank below

-- a widthless character joins the character before it
pub widthless_feeds : (g : Grid) (c m k : ℕ) (done : List ℕ) → HasColumns g (suc k) → char_width false m ≡ Some 0 → feed (resting (painted g (glyphs (c ∷ done) k g.pen))) m ≡ Some (resting (painted g (glyphs (c ∷ (done ++ m ∷ [])) k g.pen)))
unfolding painted
widthless_feeds g c m k done h e =
    let start = g.y * g.width in
    let G : Glyph = record { chars = c ∷ done; pen = g.pen } in
    let T : List Glyph = replicate k (record { chars = []; pen = g.pen }) in
    let cells : List Glyph = put_list g.cells (start + g.x) (glyphs (c ∷ done) k g.pen) in
    let r : Grid = painted g (glyphs (c ∷ done) k g.pen) in
    let there : get_or cells (start + g.x) blank ≡ G = glyph_there g (c ∷ done) k h in
    let found : head_before cells start (g.x + suc k) ≡ Some (start + g.x) = head_found cells start g.x k (λ i below. ap is_tail (tail_there g (c ∷ done) k i h below)) (ap is_tail there) in
    let length_is : length (glyphs (c ∷ done) k g.pen) ≡ suc k = ap suc (length-replicate k (record { chars = []; pen = g.pen })) in
    printed_feeds r m 0 h.row e
    ∙ ap (λ n. option_map resting (join_at r m (head_before cells start n))) (ap (λ n. g.x + n) length_is)
    ∙ ap (λ o. option_map resting (join_at r m o)) found
    ∙ ap (λ (a : Glyph). Some (resting (record r { cells = set cells (start + g.x) (joined_glyph a m) }))) there
    ∙ ap (λ l. Some (resting (record r { cells = l })))
    (set-put_list (set g.cells (start + g.x) G) (suc (start + g.x)) (start + g.x) T (joined_glyph G m) (omega arith)
    ∙ ap (λ l. put_list l (suc (start + g.x)) T) (set-set g.cells (start + g.x) G (joined_glyph G m)))

-- ---- a text

-- how many cells a character takes
pub length-glyphs : (chars : List ℕ) (k : ℕ) (pen : Look) → length (glyphs chars k pen) ≡ suc k
length-glyphs chars k pen = ap suc (length-replicate k (record { chars = []; pen = pen }))

-- the statement of `rest_leads` at a text
abbrev RestLeads : List ℕ → Type 0
RestLeads cs = (g : Grid) (c : ℕ) (done : List ℕ) (k : ℕ) → HasColumns g (suc k + length (attached g.pen cs).1) → Leads (resting (painted g (glyphs (c ∷ done) k g.pen))) cs (resting (painted g (glyphs (c ∷ (done ++ (attached g.pen cs).0)) k g.pen ++ (attached g.pen cs).1)))

rest_step : (o : Option ℕ) (d : ℕ) (cs : List ℕ) → char_width false d ≡ o → IsSome o → RestLeads cs → (g : Grid) (c : ℕ) (done : List ℕ) (k : ℕ) → HasColumns g (suc k + length (attach o g.pen d (attached g.pen cs)).1) → Leads (resting (painted g (glyphs (c ∷ done) k g.pen))) (d ∷ cs) (resting (painted g (glyphs (c ∷ (done ++ (attach o g.pen d (attached g.pen cs)).0)) k g.pen ++ (attach o g.pen d (attached g.pen cs)).1)))
unfolding painted
rest_step None d cs e some ih g c done k h = absurd (false≢true some)
rest_step (Some zero) d cs e some ih g c done k h =
    let j : List ℕ × List Glyph = attached g.pen cs in
    next_leads _ _ _ _ _ (widthless_feeds g c d k done (fewer_columns g (suc k + length j.1) (suc k) h (omega arith)) e)
    (subst (λ (l : List ℕ). Leads (resting (painted g (glyphs (c ∷ (done ++ d ∷ [])) k g.pen))) cs (resting (painted g (glyphs (c ∷ l) k g.pen ++ j.1)))) (append_assoc done (d ∷ []) j.0)
    (ih g c (done ++ d ∷ []) k h))
rest_step (Some (suc n)) d cs e some ih g c done k h =
    let j : List ℕ × List Glyph = attached g.pen cs in
    let a : List Glyph = glyphs (c ∷ done) k g.pen in
    let b : List Glyph = glyphs (d ∷ j.0) n g.pen ++ j.1 in
    let length_a : length a ≡ suc k = length-glyphs (c ∷ done) k g.pen in
    let length_b : length b ≡ suc n + length j.1 = length-append (glyphs (d ∷ j.0) n g.pen) j.1 ∙ ap (λ m. m + length j.1) (length-glyphs (d ∷ j.0) n g.pen) in
    let r : Grid = painted g a in
    let left : HasColumns r (suc n + length j.1) = painted_columns g a (suc k + length b) (suc n + length j.1) h (omega arith) in
    next_leads _ _ _ _ _ (wide_feeds r d n e (fewer_columns r (suc n + length j.1) (suc n) left (omega arith)))
    (subst (λ (s : Grid). Leads (resting (painted r (glyphs (d ∷ []) n g.pen))) cs (resting s))
    (painted-append g a b ∙ ap (λ (l : List ℕ). painted g (glyphs (c ∷ l) k g.pen ++ b)) (sym (append-nil done)))
    (ih r d [] n left))

-- what is left of a text, after a character that was printed with some combining ones
rest_leads : (cs : List ℕ) → IsPrinted cs → RestLeads cs
rest_leads [] printed g c done k h =
    subst (λ (s : Grid). Leads (resting (painted g (glyphs (c ∷ done) k g.pen))) [] (resting s))
    (ap (painted g) (ap (λ (l : List ℕ). glyphs (c ∷ l) k g.pen) (sym (append-nil done)) ∙ sym (append-nil (glyphs (c ∷ (done ++ [])) k g.pen))))
    (nothing_leads _)
rest_leads (d ∷ cs) printed g c done k h =
    rest_step (char_width false d) d cs refl printed.0 (rest_leads cs printed.1) g c done k h

text_step : (o : Option ℕ) (d : ℕ) (cs : List ℕ) → char_width false d ≡ o → IsSome o → RestLeads cs → (g : Grid) → 0 < unwrap_or o 0 → HasColumns g (length (attach o g.pen d (attached g.pen cs)).1) → Leads (resting g) (d ∷ cs) (resting (painted g (attach o g.pen d (attached g.pen cs)).1))
text_step None d cs e some ih g whole h = absurd (false≢true some)
text_step (Some zero) d cs e some ih g whole h = absurd (omega arith)
text_step (Some (suc n)) d cs e some ih g whole h =
    let j : List ℕ × List Glyph = attached g.pen cs in
    let b : List Glyph = glyphs (d ∷ j.0) n g.pen ++ j.1 in
    let length_b : length b ≡ suc n + length j.1 = length-append (glyphs (d ∷ j.0) n g.pen) j.1 ∙ ap (λ m. m + length j.1) (length-glyphs (d ∷ j.0) n g.pen) in
    next_leads _ _ _ _ _ (wide_feeds g d n e (fewer_columns g (length b) (suc n) h (omega arith))) (ih g d [] n (fewer_columns g (length b) (suc n + length j.1) h (omega arith)))

-- characters with cells of their own show these in the pen, and the cursor is after them
pub text_leads : (cs : List ℕ) (g : Grid) → IsShown cs → HasColumns g (length (cells_of g.pen cs)) → Leads (resting g) cs (resting (painted g (cells_of g.pen cs)))
unfolding char_columns
text_leads [] g shown h = subst (λ (s : Grid). Leads (resting g) [] (resting s)) (sym (painted-nil g)) (nothing_leads _)
text_leads (d ∷ cs) g shown h = text_step (char_width false d) d cs refl shown.printed.0 (rest_leads cs shown.printed.1) g shown.whole h

-- ---- columns

columns_step : (o : Option ℕ) (pen : Look) (c : ℕ) (r : List ℕ × List Glyph) → length (attach o pen c r).1 ≡ unwrap_or o 0 + length r.1
columns_step None pen c r = omega arith
columns_step (Some zero) pen c r = omega arith
columns_step (Some (suc k)) pen c r = length-append (glyphs (c ∷ r.0) k pen) r.1 ∙ ap (λ n. n + length r.1) (length-glyphs (c ∷ r.0) k pen)

-- a text has as many cells as columns
pub length-cells_of : (pen : Look) (cs : List ℕ) → length (cells_of pen cs) ≡ sum_by char_columns cs
unfolding char_columns
length-cells_of pen [] = refl
length-cells_of pen (c ∷ cs) =
    columns_step (char_width false c) pen c (attached pen cs) ∙ ap (λ n. char_columns c + n) (length-cells_of pen cs) ∙ sym (sum_by-cons char_columns c cs)
