use Rattle.std.proofs.Common.{◌≡◌, ◌<◌, ◌^◌, ◌+◌, drop}
use Rattle.mad_md.specs.Flagged.{flagged_text}
use Rattle.mad_measure.specs.TextColumns.{width_of}
use Rattle.mad_format.specs.Indents.{indent}
use Rattle.mad_wrap.specs.WrapLines.{capped}
use Rattle.mad_format.proofs.indents.composite_columns.Given as goal

abbrev pub invariant-loop-compound : goal.invariant-loop-compound
invariant-loop-compound l = record {
  small : l.length < 2 ^ 64;
  so_far : capped (l.length + width_of (flagged_text (drop l.compound-index l.compounds))) ≡ capped (indent l.fn.mode l.fn.kind + width_of (flagged_text l.compounds));
}
