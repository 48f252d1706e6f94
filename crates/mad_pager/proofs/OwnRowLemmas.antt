-- Rows whose characters have styles of their own, on the screen.
use Rattle.std.proofs.Common.{◌≡◌, ℕ, ◌≤◌, List, map, take, drop, length, Option, ap, ◌∙◌, subst, arith}
use Rattle.std.proofs.lemmas.List.{length-map, length-take}
use Rattle.regex.specs.Patterns.{Re}
use Rattle.mad_term.specs.Trace.{Trace, TookWith}
use Rattle.mad_style.specs.declared.compound_styles.CompoundStyle.{CompoundStyle}
use Rattle.mad_style.specs.declared.styled_chars.StyledChar.{StyledChar}
use Rattle.mad_hits.specs.OwnRows.{AreRowsDrawn}
use Rattle.mad_hits.specs.declared.rooms.RowRoom.{RowRoom}
use Rattle.mad_plain_page.specs.StyledRows.{row_chars}
use Rattle.mad_plain_page.specs.declared.painted.StyledRow.{StyledRow}

-- no more rows than were asked for
pub few_rows : (rows : List StyledRow) (n : ℕ) (all : List (List StyledChar)) → map row_chars rows ≡ take n all → length rows ≤ n
few_rows rows n all e = omega (arith, length-map rows row_chars, ap length e, length-take n all)

-- rows that were drawn, along what is equal
pub own_along : (style : CompoundStyle) (given_room room : RowRoom) (text sought : Option Re) (given rows : List StyledRow) (wide width count height top : ℕ) (all : ℕ → List (List StyledChar)) (old new : Trace)
    → given_room ≡ room → text ≡ sought → given ≡ rows → wide ≡ width → count ≡ height → map row_chars rows ≡ take count (drop top (all wide)) → TookWith old new (AreRowsDrawn style given_room text 0 (map row_chars given))
    → TookWith old new (AreRowsDrawn style room sought 0 (take height (drop top (all width))))
own_along style given_room room text sought given rows wide width count height top all old new a b d e f are h =
    let of : RowRoom → Option Re → List (List StyledChar) → Type 0 = λ r s rs. TookWith old new (AreRowsDrawn style r s 0 rs) in
    subst (λ (r : RowRoom). of r sought (take height (drop top (all width)))) a
    (subst (λ (s : Option Re). of given_room s (take height (drop top (all width)))) b
    (subst (λ (rs : List (List StyledChar)). of given_room text rs) (ap (map row_chars) d ∙ are ∙ ap (λ (n : ℕ). take n (drop top (all wide))) f ∙ ap (λ (n : ℕ). take height (drop top (all n))) e) h))
