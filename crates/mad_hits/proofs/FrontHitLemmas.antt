-- Hits behind fronts, row by row.
use Rattle.std.proofs.Common.{◌≡◌, ℕ, zero, suc, ◌+◌, ◌-◌, ◌^◌, ◌<◌, ◌≤◌, drop, List, [], ◌∷◌, ◌++◌, map, take, length, get_or, refl, ap, sym, ◌∙◌, subst, arith, append_assoc}
use Rattle.std.specs.List.{range_with_len}
use Rattle.std.proofs.lemmas.List.{append-nil, map-append, map-id, map_more}
use Rattle.std.proofs.lemmas.List.FromFn.{length-range_with_len, map-range_with_len_more}
use Rattle.regex.specs.Patterns.{Re}
use Rattle.mad_wrap.specs.WrapLines.{capped}
use Rattle.mad_format.specs.declared.line.FmtLine.{FmtLine}
use Rattle.mad_style.specs.declared.compound_styles.CompoundStyle.{CompoundStyle}
use Rattle.mad_rows.specs.declared.row_skin.RowSkin.{RowSkin}
use Rattle.mad_hits.specs.Drawn.{AreHitsShown, IsHitShown}
use Rattle.mad_hits.specs.Hits.{Marked, marked_of}
use Rattle.mad_hits.specs.declared.hits.Hit.{Hit}
use Rattle.mad_hits.specs.declared.rooms.RowRoom.{RowRoom}
use Rattle.mad_hits.proofs.DrawnHits.{hits_more}
use Rattle.mad_sections.specs.declared.gutters.Gutter.{Gutter}
use Rattle.mad_page_rows.specs.FaceLaws.{fronts}
use Rattle.mad_pages.specs.declared.fronts.Front.{Front}
use Rattle.mad_hits.specs.FrontHits.{AreRowsMarked, IsRowMarked, hit_behind}

-- a hit more
pub hit_more : (style : CompoundStyle) (width y front : ℕ) (hits : List Hit) (i : ℕ) (d : Hit) (a b : List ℕ) → i < length hits → AreHitsShown width y (map (hit_behind style front) (map marked_of (take i hits))) a → IsHitShown width y (hit_behind style front (marked_of (get_or hits i d))) b
    → AreHitsShown width y (map (hit_behind style front) (map marked_of (take (i + 1) hits))) (a ++ b)
hit_more style width y front hits i d a b inside so here =
    let last : Marked = marked_of (get_or hits i d) in
    let more : map (hit_behind style front) (map marked_of (take (i + 1) hits)) ≡ map (hit_behind style front) (map marked_of (take i hits)) ++ hit_behind style front last ∷ [] =
    ap (map (hit_behind style front)) (map_more marked_of hits i d inside) ∙ map-append (hit_behind style front) (map marked_of (take i hits)) (last ∷ []) in
    subst (λ (m : List Marked). AreHitsShown width y m (a ++ b)) (sym more) (hits_more width y (map (hit_behind style front) (map marked_of (take i hits))) (hit_behind style front last) a b so here)

range_more : (a n j : ℕ) → a + n ≡ j → range_with_len a (n + 1) ≡ range_with_len a n ++ j ∷ []
range_more a n j e =
    sym (map-id (range_with_len a (n + 1))) ∙ (map-range_with_len_more (λ (k : ℕ). k) a n j e ∙ ap (λ (l : List ℕ). l ++ j ∷ []) (map-id (range_with_len a n)))

rows_more : (skin : RowSkin) (style : CompoundStyle) (room : RowRoom) (sought : Re) (lines : List FmtLine) (fs : List Front) (starts : List ℕ) (y n : ℕ) (rows : List ℕ) (row : ℕ) (a b : List ℕ) → n ≡ y + length rows
    → AreRowsMarked skin style room sought lines fs starts y rows a → IsRowMarked skin style room sought lines fs starts n row b → AreRowsMarked skin style room sought lines fs starts y (rows ++ row ∷ []) (a ++ b)
rows_more skin style room sought lines fs starts y n [] row a b at none here =
    let same : n ≡ y = omega (arith, at) in
    (b, [], ap (λ (l : List ℕ). l ++ b) none ∙ sym (append-nil b), subst (λ (k : ℕ). IsRowMarked skin style room sought lines fs starts k row b) same here, refl)
rows_more skin style room sought lines fs starts y n (r ∷ rows) row a b at (first, others, are, marked, rest) here = (
  first,
  others ++ b,
  ap (λ (s : List ℕ). s ++ b) are ∙ append_assoc first others b,
  marked,
  rows_more skin style room sought lines fs starts (y + 1) n rows row others b (omega (arith, at)) rest here,
)

-- a row more
pub row_more : (skin : RowSkin) (style : CompoundStyle) (room : RowRoom) (sought : Re) (lines : List FmtLine) (fs : List Front) (starts : List ℕ) (top y row : ℕ) (a b : List ℕ) → row ≡ top + y
    → AreRowsMarked skin style room sought lines fs starts 0 (range_with_len top y) a → IsRowMarked skin style room sought lines fs starts y row b → AreRowsMarked skin style room sought lines fs starts 0 (range_with_len top (y + 1)) (a ++ b)
row_more skin style room sought lines fs starts top y row a b at so here =
    let long : length (range_with_len top y) ≡ y = length-range_with_len top y in
    subst (λ (rows : List ℕ). AreRowsMarked skin style room sought lines fs starts 0 rows (a ++ b)) (sym (range_more top y (top + y) refl))
    (rows_more skin style room sought lines fs starts 0 y (range_with_len top y) (top + y) a b (omega (arith, long)) so (subst (λ (r : ℕ). IsRowMarked skin style room sought lines fs starts y r b) at here))

none_left : (i : ℕ) (gs : List Gutter) → length gs ≤ i → drop i gs ≡ []
none_left zero [] h = refl
none_left (suc i) [] h = refl
none_left zero (g ∷ gs) h = absurd (omega arith)
none_left (suc i) (g ∷ gs) h = none_left i gs (omega arith)

-- the columns of all gutters
pub front_whole : (skin : RowSkin) (gs : List Gutter) (i columns : ℕ) → length gs ≤ i → columns ≤ 2 ^ 64 - 1 → capped (columns + fronts skin (drop i gs)) ≡ capped (fronts skin gs) → columns ≡ capped (fronts skin gs)
front_whole skin gs i columns past fits so_far =
    let last : capped (columns + 0) ≡ capped (fronts skin gs) = sym (ap (λ (l : List Gutter). capped (columns + fronts skin l)) (none_left i gs past)) ∙ so_far in
    omega (arith, last, fits)
