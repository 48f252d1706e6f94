use Rattle.std.proofs.Output.{has_written_of_eq}
use Rattle.mad_draw.proofs.ProgressLemmas.{bar_bytes}
use Rattle.mad_draw.proofs.progress_bars.ProgressBarDisplay.fmt.Goals as goal

pub returns-clause-writes : goal.returns-clause-writes
returns-clause-writes g c = λ p ok.
    let bar = c.args.self.now in
    has_written_of_eq _ _ _ _ _ (bar_bytes c.default.result c.block_text-last.result.now bar.num bar.den bar.chars_len c.default.ensures c.block_text-last.ensures) (c.write.ensures.writes p ok)
