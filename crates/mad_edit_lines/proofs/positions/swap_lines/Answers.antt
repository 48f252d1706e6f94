use Rattle.std.proofs.Common.{ℕ, ◌<◌, ◌≡◌, List, [], ◌∷◌, length, set, get_or, ap, sym, ◌∙◌, arith}
use Rattle.std.specs.List.{swap}
use Rattle.std.proofs.lemmas.List.{map-set, get_or-map, length-map}
use Rattle.std.proofs.lemmas.List.Edits.{swap_is}
use Rattle.mad_edit_lines.specs.declared.line.Line.{Line}
use Rattle.mad_edit_lines.specs.TextLines.{lines_of, chars_of}
use Rattle.mad_edit_lines.proofs.positions.swap_lines.Goals as goal

lines_swapped : (ls : List Line) (a b : ℕ) → a < length ls → b < length ls → lines_of (swap ls a b) ≡ swap (lines_of ls) a b
lines_swapped [] a b ha hb = absurd (omega arith)
lines_swapped (d ∷ rest) a b ha hb =
    let ls = d ∷ rest in
    let first : chars_of (get_or ls a d) ≡ get_or (lines_of ls) a [] = sym (get_or-map chars_of ls a d [] ha) in
    let second : chars_of (get_or ls b d) ≡ get_or (lines_of ls) b [] = sym (get_or-map chars_of ls b d [] hb) in
    ap lines_of (sym (swap_is ls a b d ha hb))
    ∙ map-set chars_of (set ls a (get_or ls b d)) b (get_or ls a d)
    ∙ ap (λ s. set s b (chars_of (get_or ls a d))) (map-set chars_of ls a (get_or ls b d))
    ∙ ap (λ l. set (set (lines_of ls) a l) b (chars_of (get_or ls a d))) second
    ∙ ap (λ l. set (set (lines_of ls) a (get_or (lines_of ls) b [])) b l) first
    ∙ swap_is (lines_of ls) a b [] (omega (arith, length-map ls chars_of)) (omega (arith, length-map ls chars_of))

pub returns : goal.returns
returns c = ap lines_of c.swap.ensures.items ∙ lines_swapped c.args.lines.now.items c.args.one c.args.other c.requires.one c.requires.other
