use Rattle.std.proofs.Common.{refl}
use Rattle.std.proofs.Output.{has_written_of_eq, has_written_append}
use Rattle.mad_rows.specs.Rows.{line_bytes}
use Rattle.mad_draw.proofs.PieceLemmas.{bytes_taken_of}
use Rattle.mad_rows.proofs.lines.PlacedLinesDisplay.fmt.Goals as goal

pub loop-line-preserved : goal.loop-line-preserved
loop-line-preserved g c = λ p.
    has_written_of_eq _ _ _ _ _ (bytes_taken_of (line_bytes c.args.self.now.skin.now c.args.self.now.outer) c.args.self.now.lines.now c.loop-line.line-index c.line-item.result c.loop-line-test.true c.line-item.is)
    (has_written_append _ _ _ _ _ _ (c.loop-line.invariant p) (c.in_ok-write.ensures.writes (c.loop-line.invariant p).plain refl))
