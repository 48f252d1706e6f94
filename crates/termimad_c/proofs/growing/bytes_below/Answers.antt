use Rattle.std.proofs.Common.{refl}
use Rattle.mad_frames.specs.Gathered.{gathered_trace}
use Rattle.termimad_c.proofs.GrowthLemmas.{went_below}
use Rattle.termimad_c.proofs.growing.bytes_below.Goals as goal

pub returns-clause-below : goal.returns-clause-below
returns-clause-below c =
    went_below c.args.live c.go_on_below.new.self c.args.width c.args.height c.go_on_below.new.out.bytes.items c.go_on_below.result (gathered_trace c.new-out.result) (gathered_trace c.go_on_below.new.out)
    c.new-out.ensures c.in_ok-go_on_below.was c.go_on_below.ensures.goes_on c.go_on_below.ensures.skin refl
