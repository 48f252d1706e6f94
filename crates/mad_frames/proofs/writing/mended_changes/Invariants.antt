use Rattle.std.proofs.Common.{◌≡◌, ◌*◌, ◌≤◌, [], length, string_bytes}
use Rattle.mad_frames.specs.RunBytes.{most_to}
use Rattle.mad_frames.specs.Changes.{LeadTo, halfway}
use Rattle.mad_frames.specs.Mending.{mended}
use Rattle.mad_frames.proofs.writing.mended_changes.Given as goal

abbrev pub invariant-loop-y : goal.invariant-loop-y
invariant-loop-y l = record {
  leads : LeadTo (mended l.old) (halfway (mended l.old) (mended l.new) (l.y * l.new.width)) (string_bytes l.out);
  bound : length (string_bytes l.out) ≤ most_to (mended l.old).cells (mended l.new).cells (l.y * l.new.width);
  same : (mended l.old).cells ≡ (mended l.new).cells → string_bytes l.out ≡ [];
}
