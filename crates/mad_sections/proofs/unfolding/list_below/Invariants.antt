use Rattle.std.proofs.Common.{◌≡◌, ◌-◌, ◌^◌, ◌<◌, ◌++◌, map}
use Rattle.std.specs.Vec.Iter.{into_iter_items}
use Rattle.mad_md.specs.Lines.{styled_runs}
use Rattle.mad_sections.specs.Sections.{section_content}
use Rattle.mad_sections.specs.Items.{item_lines}
use Rattle.mad_sections.specs.Shown.{rows_said}
use Rattle.mad_sections.specs.Unfolded.{list_sections}
use Rattle.mad_sections.proofs.unfolding.list_below.Given as goal

abbrev pub invariant-loop-row : goal.invariant-loop-row
invariant-loop-row l = record {
  few : l.fresh < 2 ^ 64 - 1;
  so_far : map section_content l.items.items ++ list_sections l.gutters l.fresh (map (item_lines (map styled_runs l.heads)) (rows_said (into_iter_items l.row-iterator)))
      ≡ list_sections l.gutters l.fn.fresh (map (item_lines (map styled_runs l.heads)) (rows_said (into_iter_items l.fn.rows)));
}
