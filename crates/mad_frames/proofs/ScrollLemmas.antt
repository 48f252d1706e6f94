-- What a terminal that scrolls shows once rows have gone.
use Rattle.std.proofs.Common.{◌≡◌, ⊎_elim, ℕ, zero, suc, ◌+◌, ◌-◌, ◌*◌, ◌<◌, ◌≤◌, Bool, true, false, cond, ◌&&◌, List, [], ◌∷◌, ◌++◌, length, take, drop, replicate, Option, Some, None, refl, ap, sym, ◌∙◌, subst, arith, length-append, length-drop}
use Rattle.std.specs.Prelude.{IfSome, nat_lt, nat_le, option_and_then}
use Rattle.std.specs.List.{flat_map}
use Rattle.std.proofs.Math.Nat.{suc-mul}
use Rattle.std.proofs.lemmas.Bool.{false≢true, cases_lt}
use Rattle.std.proofs.lemmas.Bool.Decides.{nat_tests}
use Rattle.std.proofs.lemmas.Grind.{flat_map-append}
use Rattle.std.proofs.lemmas.List.{append-nil, length-replicate, take_all, take-append-le, drop_at, drop-append-le}
use Rattle.std.proofs.lemmas.Nat.{row_fits}
use Rattle.mad_screen.specs.Glyph.{Glyph}
use Rattle.mad_screen.specs.Grid.{Grid, blank, plain_pen}
use Rattle.mad_screen.specs.Pictures.{same_look, row_cells}
use Rattle.mad_screen.specs.Terminal.{after_bytes}
use Rattle.mad_frames.specs.declared.scrolling.Scroll.{Scroll}
use Rattle.mad_frames.specs.declared.scrolling.Scroll.TheVariants.{Up, Down}
use Rattle.mad_frames.specs.Changes.{SameSize, ShowsCells, LeadTo, RowsOf}
use Rattle.mad_frames.specs.Mending.{mended_row, mended}
use Rattle.mad_frames.specs.Scrolling.{count_of, row_from, row_or_blank, gone_rows, gone, Part, Plain, Goes, part_bytes, after_part, after_parts, scroll_bytes, ReadsTo, BringTo, Bring}
use Rattle.mad_frames.proofs.HalfwayLemmas.{row_length}
use Rattle.mad_frames.proofs.LooksLemmas.{same_look_refl}
use Rattle.mad_frames.proofs.MendLemmas.{blanks_whole, mended_full, mended_row_cells, whole_stays}

-- ---- the rows

by_test : (b : Bool) (n : ℕ) (a : ℕ) (o : Option ℕ) → (b ≡ true → a < n) → (b ≡ false → IfSome o (λ k. k < n)) → IfSome (cond b (Some a) o) (λ k. k < n)
by_test true n a o p q = p refl
by_test false n a o p q = q refl

by_other : (b : Bool) (n : ℕ) (o : Option ℕ) (a : ℕ) → (b ≡ true → IfSome o (λ k. k < n)) → (b ≡ false → a < n) → IfSome (cond b o (Some a)) (λ k. k < n)
by_other true n o a p q = p refl
by_other false n o a p q = q refl

-- a row that comes is on the screen
pub from_within : (s : Scroll) (rows h y : ℕ) → rows ≤ h → y < h → IfSome (row_from s rows y) (λ k. k < h)
from_within (Up count) rows h y within below =
    by_other (nat_lt y rows) h (cond (nat_lt (y + count) rows) (Some (y + count)) None) y
    (λ e. by_test (nat_lt (y + count) rows) h (y + count) None (λ t. grind (arith, nat_tests)) (λ f. tt))
    (λ e. below)
from_within (Down count) rows h y within below =
    by_other (nat_lt y rows) h (cond (nat_lt y count) None (Some (y - count))) y
    (λ e. by_other (nat_lt y count) h None (y - count) (λ t. tt) (λ f. omega arith))
    (λ e. below)

-- a row that comes has as many cells as columns
pub from_length : (g : Grid) (o : Option ℕ) → length g.cells ≡ g.height * g.width → IfSome o (λ k. k < g.height) → length (row_or_blank g o) ≡ g.width
from_length g None full h = length-replicate g.width blank
from_length g (Some k) full h = row_length g.cells k g.width g.height h full

rows_length : (s : Scroll) (rows : ℕ) (g : Grid) (n : ℕ) → length g.cells ≡ g.height * g.width → rows ≤ g.height → n ≤ g.height → length (gone_rows s rows g n) ≡ n * g.width
rows_length s rows g zero full fits within = omega arith
rows_length s rows g (suc n) full fits within =
    let row : length (row_or_blank g (row_from s rows n)) ≡ g.width = from_length g (row_from s rows n) full (from_within s rows g.height n fits (omega arith)) in
    omega (arith, length-append (gone_rows s rows g n) (row_or_blank g (row_from s rows n)), rows_length s rows g n full fits (omega arith), suc-mul n g.width)

-- as many cells as before
pub gone_full : (s : Scroll) (rows : ℕ) (g : Grid) → length g.cells ≡ g.height * g.width → rows ≤ g.height → length (gone s rows g).cells ≡ g.height * g.width
gone_full s rows g full fits = rows_length s rows g g.height full fits (omega arith)

row_of : (s : Scroll) (rows : ℕ) (g : Grid) (n y : ℕ) → length g.cells ≡ g.height * g.width → rows ≤ g.height → n ≤ g.height → y < n → take g.width (drop (y * g.width) (gone_rows s rows g n)) ≡ row_or_blank g (row_from s rows y)
row_of s rows g zero y full fits within below = absurd (omega arith)
row_of s rows g (suc n) y full fits within below =
    let above = gone_rows s rows g n in
    let last = row_or_blank g (row_from s rows n) in
    let count : length above ≡ n * g.width = rows_length s rows g n full fits (omega arith) in
    let columns : length last ≡ g.width = from_length g (row_from s rows n) full (from_within s rows g.height n fits (omega arith)) in
    ⊎_elim
    (λ (earlier : y < n).
    let fits_in : y * g.width + g.width ≤ n * g.width = row_fits y g.width n g.width earlier (omega arith) in
    ap (take g.width) (drop-append-le (y * g.width) above last (omega arith)) ∙ take-append-le g.width (drop (y * g.width) above) last (omega (arith, length-drop (y * g.width) above)) ∙ row_of s rows g n y full fits (omega arith) earlier)
    (λ (later : n ≤ y).
    let same : y ≡ n = omega arith in
    ap (λ (k : ℕ). take g.width (drop (k * g.width) (above ++ last))) same
    ∙ ap (take g.width) (drop_at above last (n * g.width) count) ∙ take_all g.width last (omega arith) ∙ ap (λ (k : ℕ). row_or_blank g (row_from s rows k)) (sym same))
    (cases_lt y n)

-- the rows of the screen are those that come
pub gone_row : (s : Scroll) (rows : ℕ) (g : Grid) (y : ℕ) → length g.cells ≡ g.height * g.width → rows ≤ g.height → y < g.height → row_cells (gone s rows g) y ≡ row_or_blank g (row_from s rows y)
gone_row s rows g y full fits below = row_of s rows g g.height y full fits (omega arith) below

-- a row of a mended screen is mended
mended_from : (g : Grid) (o : Option ℕ) → length g.cells ≡ g.height * g.width → IfSome o (λ k. k < g.height) → mended_row (row_or_blank g o) ≡ row_or_blank (mended g) o
mended_from g None full h = whole_stays 0 plain_pen (replicate g.width blank) (blanks_whole g.width plain_pen)
mended_from g (Some k) full h = sym (mended_row_cells g k full h)

-- rows of a mended screen whose rows have gone, and of another one
pub gone_rows_of : (s : Scroll) (rows : ℕ) (old new : Grid) (y : ℕ) (a b : List Glyph) → SameSize old new → length old.cells ≡ old.height * old.width → length new.cells ≡ new.height * new.width → rows ≤ old.height → y < new.height → a ≡ row_or_blank old (row_from s rows y) → b ≡ row_cells new y → RowsOf (gone s rows (mended old)) (mended new) y (mended_row a) (mended_row b)
gone_rows_of s rows old new y a b size full_old full fits below p q =
    let there : y < old.height = omega (arith, size.height) in
    let from : IfSome (row_from s rows y) (λ k. k < old.height) = from_within s rows old.height y fits there in
    let place : old.height * old.width ≡ new.height * new.width = ap (λ h. h * old.width) size.height ∙ ap (λ w. new.height * w) size.width in
    let full_mended : length (mended old).cells ≡ old.height * old.width = mended_full old full_old in
    record {
      size = record { width = size.width; height = size.height };
      same = gone_full s rows (mended old) full_mended fits ∙ place ∙ sym (mended_full new full);
      full = mended_full new full;
      row = below;
      old_row = ap mended_row p ∙ mended_from old (row_from s rows y) full_old from ∙ sym (gone_row s rows (mended old) y full_mended fits there);
      new_row = ap mended_row q ∙ sym (mended_row_cells new y full below);
    }

-- ---- the terminal

from_same : (a b : Grid) (o : Option ℕ) → a.width ≡ b.width → a.cells ≡ b.cells → row_or_blank a o ≡ row_or_blank b o
from_same a b None width cells = ap (λ n. replicate n blank) width
from_same a b (Some k) width cells = ap (λ n. take n (drop (k * n) a.cells)) width ∙ ap (λ (l : List Glyph). take b.width (drop (k * b.width) l)) cells

gone_same : (s : Scroll) (rows : ℕ) (a b : Grid) (n : ℕ) → a.width ≡ b.width → a.cells ≡ b.cells → gone_rows s rows a n ≡ gone_rows s rows b n
gone_same s rows a b zero width cells = refl
gone_same s rows a b (suc n) width cells =
    ap (λ (l : List Glyph). l ++ row_or_blank a (row_from s rows n)) (gone_same s rows a b n width cells)
    ∙ ap (λ (l : List Glyph). gone_rows s rows b n ++ l) (from_same a b (row_from s rows n) width cells)

-- a terminal that shows a screen shows it with its rows gone, once they are
pub gone_shown : (s : Scroll) (rows : ℕ) (g t : Grid) → rows ≤ g.height → ShowsCells g t → ShowsCells (gone s rows g) (gone s rows t)
gone_shown s rows g t fits shows =
    let cells : gone_rows s rows t t.height ≡ gone_rows s rows g g.height =
    ap (gone_rows s rows t) (sym shows.size.height) ∙ gone_same s rows t g g.height (sym shows.size.width) shows.cells in
    record {
      grid = record { full = gone_full s rows t shows.grid.full (omega (arith, shows.size.height)); column = omega arith; row = omega arith };
      pen = shows.pen;
      size = record { width = shows.size.width; height = shows.size.height };
      cells = cells;
    }

-- the terminal can read the command
pub goes : (s : Scroll) (rows : ℕ) (g t : Grid) → 0 < count_of s → count_of s < rows → rows ≤ g.height → ShowsCells g t → after_part (Goes s rows) t ≡ Some (gone s rows t)
goes s rows g t some fewer fits shows =
    let pen : same_look t.pen plain_pen ≡ true = ap (λ p. same_look p plain_pen) shows.pen ∙ same_look_refl plain_pen in
    let height : rows ≤ t.height = omega (arith, shows.size.height) in
    ap (λ b. cond b (Some (gone s rows t)) None) (tests (nat_lt 0 (count_of s)) (nat_lt (count_of s) rows) (nat_le rows t.height) (same_look t.pen plain_pen) (grind (arith, nat_tests)) (grind (arith, nat_tests)) (grind (arith, nat_tests)) pen)
  where
    tests : (a b c d : Bool) → a ≡ true → b ≡ true → c ≡ true → d ≡ true → (a && (b && (c && d))) ≡ true
    tests true true true true p q r s = refl
    tests false b c d p q r s = absurd (false≢true p)
    tests true false c d p q r s = absurd (false≢true q)
    tests true true false d p q r s = absurd (false≢true r)
    tests true true true false p q r s = absurd (false≢true s)

-- ---- what it reads

parts_both : (ps qs : List Part) (g : Grid) → after_parts (ps ++ qs) g ≡ option_and_then (after_parts qs) (after_parts ps g)
parts_both [] qs g = refl
parts_both (p ∷ ps) qs g = at_each (parts_both ps qs) (after_part p g)
  where
    at_each : ((m : Grid) → after_parts (ps ++ qs) m ≡ option_and_then (after_parts qs) (after_parts ps m)) → (o : Option Grid) → option_and_then (after_parts (ps ++ qs)) o ≡ option_and_then (after_parts qs) (option_and_then (after_parts ps) o)
    at_each f None = refl
    at_each f (Some m) = f m

-- one text after another
pub reads_both : (g mid new : Grid) (a b : List ℕ) → ReadsTo g a mid → ReadsTo mid b new → ReadsTo g (a ++ b) new
reads_both g mid new a b p q = (
  p.0 ++ q.0,
  flat_map-append part_bytes p.0 q.0 ∙ ap (λ l. l ++ flat_map part_bytes q.0) p.1 ∙ ap (λ l. a ++ l) q.1,
  parts_both p.0 q.0 g ∙ ap (option_and_then (after_parts q.0)) p.2 ∙ q.2,
)

-- what the plain terminal reads
pub plain_reads : (g new : Grid) (bytes : List ℕ) → after_bytes g bytes ≡ Some new → ReadsTo g bytes new
plain_reads g new bytes h = (Plain bytes ∷ [], append-nil bytes, ap (option_and_then (after_parts [])) h)

-- the command
goes_reads : (g new : Grid) (s : Scroll) (rows : ℕ) → after_part (Goes s rows) g ≡ Some new → ReadsTo g (scroll_bytes s rows) new
goes_reads g new s rows h = (Goes s rows ∷ [], append-nil (scroll_bytes s rows), ap (option_and_then (after_parts [])) h)

-- the plain terminal's changes
pub plain_brings : (old new : Grid) (bytes : List ℕ) → LeadTo old new bytes → BringTo old new bytes
plain_brings old new bytes leads t shows =
    let r = leads t shows in (r.0, plain_reads t r.0 bytes r.1, r.2)

-- the command, and changes from the screen with its rows gone
pub scroll_brings : (s : Scroll) (rows : ℕ) (old new : Grid) (changes all : List ℕ) → 0 < count_of s → count_of s < rows → rows ≤ old.height → LeadTo (gone s rows old) new changes → all ≡ scroll_bytes s rows ++ changes → BringTo old new all
scroll_brings s rows old new changes all some fewer fits leads e t shows =
    let mid : Grid = gone s rows t in
    let r = leads mid (gone_shown s rows old t fits shows) in
    let both : ReadsTo t (scroll_bytes s rows ++ changes) r.0 =
    reads_both t mid r.0 (scroll_bytes s rows) changes (goes_reads t mid s rows (goes s rows old t some fewer fits shows)) (plain_reads mid r.0 changes r.1) in
    (r.0, subst (λ l. ReadsTo t l r.0) (sym e) both, r.2)

-- a screen is brought, and then another one
pub brings_on : (old new : Grid) (a b : List ℕ) → SameSize old new → Bring old a → BringTo old new b → Bring new (a ++ b)
brings_on old new a b size first then t grid same =
    let f = first t grid (record { width = size.width ∙ same.width; height = size.height ∙ same.height }) in
    let r = then f.0 f.2 in
    (r.0, reads_both t f.0 r.0 a b f.1 r.1, r.2)
