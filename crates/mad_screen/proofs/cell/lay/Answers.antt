use Rattle.std.proofs.Common.{◌+◌, [], ◌∷◌, List, slice_set, ap, ◌∙◌}
use Rattle.mad_screen.specs.Glyph.{Glyph, look_of}
use Rattle.mad_screen.specs.Grid.{put_list, glyphs}
use Rattle.mad_screen.proofs.Finding.{lay_more}
use Rattle.mad_screen.proofs.cell.lay.Goals as goal

pub loop-i-preserved : goal.loop-i-preserved
loop-i-preserved c =
    let first : Glyph = record { chars = c.args.c ∷ []; pen = look_of c.args.pen } in
    let tail : Glyph = record { chars = []; pen = look_of c.args.pen } in
    let place = c.args.at + 1 + c.loop-i.i in
    record {
      len = c.loop-i.invariant.len;
      laid = ap (λ (l : List Glyph). slice_set l place c.set_tail.new.self) c.loop-i.invariant.laid
          ∙ ap (λ (t : Glyph). slice_set (put_list c.args.cells.now.items c.args.at (glyphs (c.args.c ∷ []) c.loop-i.i (look_of c.args.pen))) place t) c.set_tail.ensures
          ∙ lay_more c.args.cells.now.items c.args.at c.loop-i.i first tail;
    }
