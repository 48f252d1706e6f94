use Rattle.std.proofs.Common.{◌≡◌, [], ◌∷◌, vec_len}
use Rattle.mad_screen.specs.Glyph.{look_of}
use Rattle.mad_screen.specs.Grid.{put_list, glyphs}
use Rattle.mad_screen.proofs.cell.lay.Given as goal

abbrev pub invariant-loop-i : goal.invariant-loop-i
invariant-loop-i l = record {
  len : vec_len l.cells ≡ vec_len l.fn.cells;
  laid : l.cells.items ≡ put_list l.fn.cells.items l.at (glyphs (l.fn.c ∷ []) l.i (look_of l.pen));
}
