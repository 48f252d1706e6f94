use Rattle.std.proofs.Common.{◌≡◌, ℕ, ◌+◌, ◌*◌, [], ◌∷◌, ap, sym, ◌∙◌, arith}
use Rattle.mad_screen.specs.Glyph.{look_of}
use Rattle.mad_screen.specs.Grid.{Grid, put_list, glyphs}
use Rattle.mad_screen.proofs.Finding.{print_is}
use Rattle.mad_screen.proofs.screen.Screen.print.Goals as goal

pub invariant_of-self : goal.invariant_of-self
invariant_of-self c = record {
  full = c.lay.ensures.same ∙ c.self.invariant.full;
  column = c.self.invariant.column;
  row = c.self.invariant.row;
}

pub invariant_of-self-2 : goal.invariant_of-self-2
invariant_of-self-2 c = record {
  full = c.lay.ensures.same ∙ c.self.invariant.full;
  column = omega arith;
  row = c.self.invariant.row;
}

pub returns : goal.returns
returns c =
    let start : c.row_start.result ≡ c.self.inside.y * c.self.inside.width = c.row_start.ensures ∙ ap (λ (g : Grid). g.y * g.width) (sym c.self.view_is) in
    let place : c.row_start.result + c.from-2.result ≡ c.self.inside.y * c.self.inside.width + c.self.inside.x = omega arith in
    rw (← c.self.view_is) (print_is _ _ _ _ (omega arith) (c.in_ok-lay.ensures.laid ∙ ap (λ (i : ℕ). put_list c.self.inside.cells.items i (glyphs (c.args.c ∷ []) c.args.tails (look_of c.self.inside.pen))) place))
