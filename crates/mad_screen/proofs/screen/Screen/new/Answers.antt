use Rattle.std.proofs.Common.{◌≡◌, ℕ, ◌*◌, List, [], ◌∷◌, ◌++◌, replicate, ap, ◌∙◌, arith}
use Rattle.std.proofs.lemmas.List.{replicate_more}
use Rattle.mad_screen.specs.Glyph.{Glyph, Look, look_of}
use Rattle.mad_screen.specs.Grid.{Grid, blank}
use Rattle.mad_screen.proofs.screen.Screen.new.Goals as goal

pub loop-i-preserved : goal.loop-i-preserved
loop-i-preserved c =
    let i = c.loop-i._i in
    let cell = c.in_ok-of.field-0 in
    let made : cell ≡ blank = c.in_ok-of.ensures ∙ ap (λ (pen : Look). let g : Glyph = record { chars = 32 ∷ []; pen = pen } in g) c.loop-i.invariant.pen in
    record {
      cells = c.in_ok-push.ensures.items ∙ ap (λ (l : List Glyph). l ++ cell ∷ []) c.loop-i.invariant.cells ∙ ap (λ (x : Glyph). replicate i blank ++ x ∷ []) made ∙ replicate_more i blank;
      pen = c.loop-i.invariant.pen;
    }

pub returns : goal.returns
returns c =
    let ended : c.loop-i._i ≡ c.from.result * c.from-2.result = omega arith in
    let count : c.loop-i._i ≡ c.args.height * c.args.width = rw (c.from.ensures, c.from-2.ensures) at ended in
    let cells = c.loop-i.invariant.cells ∙ ap (λ (n : ℕ). replicate n blank) count in
    ap (λ (l : List Glyph). let g : Grid = record { width = c.args.width; height = c.args.height; cells = l; x = 0; y = 0; pen = look_of c.default-pen.result } in g) cells
    ∙ ap (λ (pen : Look). let g : Grid = record { width = c.args.width; height = c.args.height; cells = replicate (c.args.height * c.args.width) blank; x = 0; y = 0; pen = pen } in g) c.loop-i.invariant.pen
