use Rattle.std.proofs.Common.{◌≡◌, ◌<◌, ◌-◌, length, min, replicate}
use Rattle.mad_screen.specs.Glyph.{look_of}
use Rattle.mad_screen.specs.Grid.{put_list}
use Rattle.mad_screen.specs.Terminal.{space_of}
use Rattle.mad_screen.proofs.cell.erase.Given as goal

abbrev pub invariant-loop-at : goal.invariant-loop-at
invariant-loop-at l = record {
  len : length l.cells.items ≡ length l.fn.cells.items;
  end : l.end ≡ min l.to (length l.fn.cells.items);
  erased : l.cells.items ≡ put_list l.fn.cells.items l.from (replicate (l.at - l.from) (space_of (look_of l.fn.pen)));
  at_end : l.end < l.from → l.at ≡ l.from;
  space : look_of l.space ≡ (space_of (look_of l.fn.pen)).pen;
}
