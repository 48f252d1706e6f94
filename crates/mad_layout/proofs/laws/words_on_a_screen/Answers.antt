use Rattle.std.proofs.Common.{ap, rules}
use Rattle.mad_term.specs.Trace.{Trace}
use Rattle.mad_layout.proofs.WordScreens.{corner_stays}
use Rattle.mad_layout.proofs.laws.words_on_a_screen.Goals as goal

pub returns : goal.returns
returns c =
    let shows = corner_stays _ _ _ _ _ _ _ _ c.no_style-skin.ensures c.new-area.ensures (ap (λ (t : Trace). t.bytes) c.in_ok-out.ensures.trace_is) c.taken-taken.ensures
    c.in_ok-write_in_area_on.ensures.shown_source c.in_ok-screen.ensures c.in_ok-show.ensures.shown c.in_ok-show-2.ensures.shown in
    record { inside = shows.inside; outside = shows.outside; wide = search rules }
