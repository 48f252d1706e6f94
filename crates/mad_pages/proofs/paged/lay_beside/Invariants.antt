use Rattle.std.proofs.Common.{map}
use Rattle.std.specs.Vec.Iter.{into_iter_items}
use Rattle.mad_dressing.specs.Dressed.{sections_dressed}
use Rattle.mad_pages.proofs.BesideLemmas.{PagedSoFar}
use Rattle.mad_pages.proofs.paged.lay_beside.Given as goal

abbrev pub invariant-loop-dressed : goal.invariant-loop-dressed
invariant-loop-dressed g l = PagedSoFar (g.S.LineSkin.rules l.skin) l.ascii l.width (map sections_dressed l.fn.page.items) (map sections_dressed (into_iter_items l.dressed-iterator)) l.paged
