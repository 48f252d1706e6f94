-- Drawing the rows of an area, one by one.
use Rattle.std.proofs.Common.{◌≡◌, ℕ, suc, ◌+◌, ◌-◌, ◌<◌, ◌≤◌, List, [], ◌∷◌, ◌++◌, map, length, length-append, refl, ap, sym, ◌∙◌, subst, arith, append_assoc}
use Rattle.std.specs.List.{AllByRecursion}
use Rattle.std.proofs.lemmas.List.{append-nil, map-append, length-map}
use Rattle.mad_term.specs.Commands.{move_to_bytes}
use Rattle.mad_term.specs.Draws.{Refused}
use Rattle.mad_term.specs.Trace.{Trace, after, TookWith}
use Rattle.mad_term.specs.declared.errors.Error.{Error}
use Rattle.mad_term.proofs.Exits.{refused_between}
use Rattle.mad_term.proofs.Traces.{after-nil, took_both, took_with}
use Rattle.mad_screen.specs.Drawing.{drawing}
use Rattle.mad_screen.proofs.RowLoops.{drawing-append}
use Rattle.mad_measure.specs.Areas.{IsWithinLimits}
use Rattle.mad_measure.specs.declared.area.Area.{Area}
use Rattle.mad_measure.proofs.AllLemmas.{all_push}
use Rattle.mad_draw.specs.Pieces.{RowPiece, AreKnown, pieces_bytes}
use Rattle.mad_draw.specs.DrawnRows.{rows_from, rows_bytes, FillArea, AreRowsShown}
use Rattle.mad_draw.proofs.ShownLemmas.{area_shown}

-- The area's rows above number y went out, and these are known.
pub record DrawnSoFar (row : ℕ → List RowPiece) (area : Area) (y : ℕ) (old new : Trace) : Type 0 where
  pub done : List (List RowPiece)
  pub count : length done ≡ y
  pub whole : done ++ rows_from row y (area.height - y) ≡ rows_from row 0 area.height
  pub known : AllByRecursion AreKnown done
  pub went : new ≡ after old (drawing area.left area.top (map pieces_bytes done))

-- before the first row nothing went out
pub drawn_none : (row : ℕ → List RowPiece) (area : Area) (t : Trace) → DrawnSoFar row area 0 t t
drawn_none row area t = record {
  done = [];
  count = refl;
  whole = let e : area.height - 0 ≡ area.height = omega arith in ap (rows_from row 0) e;
  known = tt;
  went = sym (after-nil t);
}

-- what is left begins with row y
left_is : (row : ℕ → List RowPiece) (area : Area) (y : ℕ) → y < area.height → rows_from row y (area.height - y) ≡ row y ∷ rows_from row (y + 1) (area.height - (y + 1))
left_is row area y inside =
    let more : area.height - y ≡ suc (area.height - (y + 1)) = omega arith in
    let next : suc y ≡ y + 1 = omega arith in
    ap (rows_from row y) more ∙ ap (λ k. row y ∷ rows_from row k (area.height - (y + 1))) next

-- one row more
pub drawn_more : (row : ℕ → List RowPiece) (area : Area) (y : ℕ) (old mid new : Trace) → y < area.height → DrawnSoFar row area y old mid
    → new ≡ after mid (move_to_bytes area.left (area.top + y) ++ pieces_bytes (row y)) → AreKnown (row y) → DrawnSoFar row area (y + 1) old new
drawn_more row area y old mid new inside h went known =
    let rest : List (List RowPiece) = rows_from row (y + 1) (area.height - (y + 1)) in
    let count : length (map pieces_bytes h.done) ≡ y = length-map h.done pieces_bytes ∙ h.count in
    let text : List ℕ = move_to_bytes area.left (area.top + y) ++ pieces_bytes (row y) in
    let bytes : drawing area.left area.top (map pieces_bytes (h.done ++ row y ∷ [])) ≡ drawing area.left area.top (map pieces_bytes h.done) ++ text =
    ap (drawing area.left area.top) (map-append pieces_bytes h.done (row y ∷ []))
    ∙ drawing-append area.left area.top (map pieces_bytes h.done) (pieces_bytes (row y) ∷ [])
    ∙ ap (λ k. drawing area.left area.top (map pieces_bytes h.done) ++ (move_to_bytes area.left (area.top + k) ++ (pieces_bytes (row y) ++ []))) count
    ∙ ap (λ r. drawing area.left area.top (map pieces_bytes h.done) ++ (move_to_bytes area.left (area.top + y) ++ r)) (append-nil (pieces_bytes (row y))) in
    record {
      done = h.done ++ row y ∷ [];
      count = let one : length (h.done ++ row y ∷ []) ≡ length h.done + 1 = length-append h.done (row y ∷ []) in omega (arith, one, h.count);
      whole = append_assoc h.done (row y ∷ []) rest ∙ ap (λ rs. h.done ++ rs) (sym (left_is row area y inside)) ∙ h.whole;
      known = all_push AreKnown h.done (row y) h.known known;
      went = took_both old mid new (drawing area.left area.top (map pieces_bytes h.done)) text h.went went ∙ ap (after old) (sym bytes);
    }

-- a row was refused
pub refused_row : (row : ℕ → List RowPiece) (area : Area) (y : ℕ) (e : Error) (old mid new : Trace) → y < area.height → DrawnSoFar row area y old mid
    → Refused mid (move_to_bytes area.left (area.top + y) ++ pieces_bytes (row y)) e new → Refused old (rows_bytes row area) e new
refused_row row area y e old mid new inside h refused =
    let rest : List (List RowPiece) = rows_from row (y + 1) (area.height - (y + 1)) in
    let count : length (map pieces_bytes h.done) ≡ y = length-map h.done pieces_bytes ∙ h.count in
    let before : List ℕ = drawing area.left area.top (map pieces_bytes h.done) in
    let move : List ℕ = move_to_bytes area.left (area.top + y) in
    let later : List ℕ = drawing area.left (suc (area.top + y)) (map pieces_bytes rest) in
    let rows_are : h.done ++ row y ∷ rest ≡ rows_from row 0 area.height = ap (λ rs. h.done ++ rs) (sym (left_is row area y inside)) ∙ h.whole in
    let bytes : before ++ ((move ++ pieces_bytes (row y)) ++ later) ≡ rows_bytes row area =
    ap (λ r. before ++ r) (append_assoc move (pieces_bytes (row y)) later)
    ∙ sym (ap (λ k. before ++ (move_to_bytes area.left (area.top + k) ++ (pieces_bytes (row y) ++ drawing area.left (suc (area.top + k)) (map pieces_bytes rest)))) count)
    ∙ sym (drawing-append area.left area.top (map pieces_bytes h.done) (pieces_bytes (row y) ∷ map pieces_bytes rest))
    ∙ sym (ap (drawing area.left area.top) (map-append pieces_bytes h.done (row y ∷ rest)))
    ∙ ap (λ rs. drawing area.left area.top (map pieces_bytes rs)) rows_are in
    subst (λ (t : List ℕ). Refused old t e new) bytes (refused_between e old mid new before (move ++ pieces_bytes (row y)) later h.went refused)

-- all rows went out
done_all : (row : ℕ → List RowPiece) (area : Area) (y : ℕ) (old new : Trace) → area.height ≤ y → (h : DrawnSoFar row area y old new) → h.done ≡ rows_from row 0 area.height
done_all row area y old new all h =
    let none : area.height - y ≡ 0 = omega arith in
    sym (append-nil h.done) ∙ sym (ap (λ n. h.done ++ rows_from row y n) none) ∙ h.whole

-- after the last row the bytes of all rows went out
pub drawn_all : (row : ℕ → List RowPiece) (area : Area) (y : ℕ) (old new : Trace) → area.height ≤ y → DrawnSoFar row area y old new → new ≡ after old (rows_bytes row area)
drawn_all row area y old new all h = h.went ∙ ap (λ rs. after old (drawing area.left area.top (map pieces_bytes rs))) (done_all row area y old new all h)

-- and are shown
pub shown_all : (row : ℕ → List RowPiece) (area : Area) (y : ℕ) (old new : Trace) → IsWithinLimits area → area.height ≤ y → DrawnSoFar row area y old new
    → FillArea row area → TookWith old new (AreRowsShown row area)
shown_all row area y old new limits all h fill =
    took_with old new (rows_bytes row area) (AreRowsShown row area) (drawn_all row area y old new all h)
    (area_shown row area (omega (arith, limits.columns)) limits.rows (subst (λ (rs : List (List RowPiece)). AllByRecursion AreKnown rs) (done_all row area y old new all h) h.known) fill)
