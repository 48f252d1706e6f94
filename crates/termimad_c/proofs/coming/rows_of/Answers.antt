use Rattle.std.proofs.Common.{None, Some, refl, subst, sym}
use Rattle.mad_frames.specs.Gathered.{gathered_trace}
use Rattle.termimad_c.specs.TextsInPieces.{Reads}
use Rattle.termimad_c.proofs.PieceLemmas.{last_read, next_read}
use Rattle.termimad_c.proofs.coming.rows_of.Goals as goal

pub returns-then-is_last-clause-reads : goal.returns-then-is_last-clause-reads
returns-then-is_last-clause-reads c =
    subst (λ b. Reads b c.args.stream c.args.text.now c.finish.new.out.bytes.items None) (sym c.if-is_last.true)
    (last_read c.args.stream c.feed.new.self c.args.text.now c.finish.new.out.bytes.items c.feed.result c.finish.result (gathered_trace c.new-out.result) (gathered_trace c.feed.new.out) (gathered_trace c.finish.new.out)
    c.new-out.ensures c.in_ok-feed.was c.feed.ensures.fed c.in_ok-finish.was c.finish.ensures refl)

pub returns-clause-reads : goal.returns-clause-reads
returns-clause-reads c =
    subst (λ b. Reads b c.args.stream c.args.text.now c.feed.new.out.bytes.items (Some c.feed.new.self)) (sym c.if-is_last.false)
    (next_read c.args.stream c.feed.new.self c.args.text.now c.feed.new.out.bytes.items c.feed.result (gathered_trace c.new-out.result) (gathered_trace c.feed.new.out)
    c.new-out.ensures c.in_ok-feed.was c.feed.ensures.fed c.in_ok-feed.ensures.prompt refl)
