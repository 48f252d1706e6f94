use Rattle.std.proofs.Common.{◌≡◌, ◌*◌, ◌≤◌, [], length, string_bytes}
use Rattle.mad_frames.specs.RunBytes.{most_to}
use Rattle.mad_frames.specs.Changes.{LeadTo, halfway}
use Rattle.mad_frames.specs.Whole.{IsWholeGrid}
use Rattle.mad_frames.proofs.writing.changes.Given as goal

abbrev pub invariant-loop-y : goal.invariant-loop-y
invariant-loop-y l = record {
  leads : LeadTo l.old (halfway l.old l.new (l.y * l.new.width)) (string_bytes l.out);
  bound : IsWholeGrid l.old → length (string_bytes l.out) ≤ most_to l.old.cells l.new.cells (l.y * l.new.width);
  same : l.old.cells ≡ l.new.cells → string_bytes l.out ≡ [];
}
