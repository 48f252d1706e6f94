use Rattle.std.proofs.Common.{◌*◌, string_bytes}
use Rattle.mad_frames.specs.Changes.{LeadTo, halfway}
use Rattle.mad_frames.specs.Mending.{mended}
use Rattle.mad_frames.specs.Scrolling.{gone}
use Rattle.mad_frames.proofs.scrolled.changes_behind.Given as goal

abbrev pub invariant-loop-y : goal.invariant-loop-y
invariant-loop-y l = LeadTo (gone l.scroll l.rows (mended l.old)) (halfway (gone l.scroll l.rows (mended l.old)) (mended l.new) (l.y * l.new.width)) (string_bytes l.out)
