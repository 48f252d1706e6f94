use Rattle.std.proofs.Common.{None, Some, refl, subst, sym}
use Rattle.mad_frames.specs.Gathered.{gathered_trace}
use Rattle.termimad_c.specs.GrowingTexts.{ShowsNext}
use Rattle.termimad_c.proofs.GrowthLemmas.{last_fed, next_fed}
use Rattle.termimad_c.proofs.growing.bytes_of.Goals as goal

pub returns-then-is_last-clause-shows : goal.returns-then-is_last-clause-shows
returns-then-is_last-clause-shows c =
    subst (λ b. ShowsNext b c.args.live c.args.text.now c.finish.new.out.bytes.items None) (sym c.if-is_last.true)
    (last_fed c.args.live c.feed.new.self c.args.text.now c.finish.new.out.bytes.items c.feed.result c.finish.result (gathered_trace c.new-out.result) (gathered_trace c.feed.new.out) (gathered_trace c.finish.new.out)
    c.new-out.ensures c.in_ok-feed.was c.feed.ensures.fed c.feed.ensures.skin c.feed.ensures.width c.feed.ensures.height c.in_ok-finish.was c.finish.ensures.ends refl)

pub returns-clause-shows : goal.returns-clause-shows
returns-clause-shows c =
    subst (λ b. ShowsNext b c.args.live c.args.text.now c.feed.new.out.bytes.items (Some c.feed.new.self)) (sym c.if-is_last.false)
    (next_fed c.args.live c.feed.new.self c.args.text.now c.feed.new.out.bytes.items c.feed.result (gathered_trace c.new-out.result) (gathered_trace c.feed.new.out)
    c.new-out.ensures c.in_ok-feed.was c.feed.ensures.fed c.feed.ensures.skin c.feed.ensures.width c.feed.ensures.height refl)
