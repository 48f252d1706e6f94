-- Hits that are drawn in turn.
use Rattle.std.proofs.Common.{◌≡◌, ℕ, ◌+◌, ◌-◌, ◌^◌, ◌<◌, ◌≤◌, min, List, [], ◌∷◌, ◌++◌, map, refl, ap, sym, ◌∙◌, subst, arith, append_assoc}
use Rattle.std.proofs.lemmas.List.{append-nil}
use Rattle.std.specs.List.{AllByRecursion}
use Rattle.mad_draw.specs.Pieces.{AreKnown, char_piece}
use Rattle.mad_style.specs.declared.styled_chars.StyledChar.{StyledChar}
use Rattle.mad_term.specs.Styles.{IsStyle}
use Rattle.mad_draw.specs.DrawnRows.{AreRowsShown, FillArea}
use Rattle.mad_measure.specs.TextColumns.{columns}
use Rattle.mad_measure.specs.declared.area.Area.{Area}
use Rattle.mad_style.specs.StyledChars.{char_alone, char_style}
use Rattle.mad_term.specs.Trace.{Trace, TookWith, after}
use Rattle.mad_wrap.specs.WrapLines.{capped}
use Rattle.mad_hits.proofs.TookLemmas.{known, took_so}
use Rattle.mad_hits.specs.Hits.{Marked}
use Rattle.mad_hits.specs.Drawn.{AreHitsShown, IsHitShown, hit_area, hit_row, marked_columns}

-- the colors of a character are known
abbrev pub IsKnownChar : StyledChar → Type 0
IsKnownChar c = IsStyle (char_style c).object_style

-- the colors of pieces are known where those of their characters are
pub chars_known : (cs : List StyledChar) → AllByRecursion IsKnownChar cs → AreKnown (map char_piece cs)
chars_known [] h = tt
chars_known (c ∷ cs) h = (h.0, chars_known cs h.1)

-- a hit that was drawn, within the columns
pub hit_drawn : (width y wide end : ℕ) (hit : Marked) (chars counted : List StyledChar) (old new : Trace) (bytes : List ℕ) → chars ≡ hit.chars → counted ≡ hit.chars → wide ≡ capped (columns (map char_alone counted))
    → end ≡ min (hit.column + wide) (2 ^ 64 - 1) → end ≤ width → width < 2 ^ 16 → new ≡ after old bytes
    → (FillArea (λ row. map char_piece chars) (record { left = hit.column; top = y; width = wide; height = 1 })
    → TookWith old new (AreRowsShown (λ row. map char_piece chars) (record { left = hit.column; top = y; width = wide; height = 1 })))
    → TookWith old new (IsHitShown width y hit)
hit_drawn width y wide end hit chars counted old new bytes drawn same is at within narrow taken shown =
    let all : wide ≡ capped (marked_columns hit) = is ∙ ap (λ (cs : List StyledChar). capped (columns (map char_alone cs))) same in
    let here : wide ≡ marked_columns hit = omega (arith, all, at, within, narrow) in
    let moved : FillArea (hit_row hit) (hit_area y hit) → TookWith old new (AreRowsShown (hit_row hit) (hit_area y hit)) =
    subst
    (λ (n : ℕ).
    let area : Area = record { left = hit.column; top = y; width = n; height = 1 } in FillArea (hit_row hit) area → TookWith old new (AreRowsShown (hit_row hit) area))
    here
    (subst
    (λ (cs : List StyledChar).
    let area : Area = record { left = hit.column; top = y; width = wide; height = 1 } in FillArea (λ row. map char_piece cs) area → TookWith old new (AreRowsShown (λ row. map char_piece cs) area))
    drawn shown) in
    took_so old new _ (IsHitShown width y hit) (λ text h fits fill. h fill) (known old new bytes (FillArea (hit_row hit) (hit_area y hit)) (AreRowsShown (hit_row hit) (hit_area y hit)) taken moved)

-- a hit more
pub hits_more : (width y : ℕ) (hits : List Marked) (hit : Marked) (a b : List ℕ) → AreHitsShown width y hits a → IsHitShown width y hit b → AreHitsShown width y (hits ++ hit ∷ []) (a ++ b)
hits_more width y [] hit a b none here = (b, [], ap (λ (l : List ℕ). l ++ b) none ∙ sym (append-nil b), here, refl)
hits_more width y (h ∷ hits) hit a b (first, others, are, shown, rest) here = (
  first,
  others ++ b,
  ap (λ (l : List ℕ). l ++ b) are ∙ append_assoc first others b,
  shown,
  hits_more width y hits hit others b rest here,
)
