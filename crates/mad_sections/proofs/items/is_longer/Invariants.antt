use Rattle.std.proofs.Common.{◌≡◌, ◌+◌, map, drop}
use Rattle.mad_md.specs.Flagged.{run_of}
use Rattle.mad_sections.specs.Items.{runs_length}
use Rattle.mad_sections.proofs.items.is_longer.Given as goal

abbrev pub invariant-loop-compound : goal.invariant-loop-compound
invariant-loop-compound l = runs_length (map run_of (drop l.compound-index l.compounds)) + l.most ≡ runs_length (map run_of l.compounds) + l.left
