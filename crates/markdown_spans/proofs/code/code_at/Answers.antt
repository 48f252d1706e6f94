use Rattle.std.proofs.Common.{ap, ◌∙◌}
use Rattle.markdown_marks.specs.Bytes.{count_in_front}
use Rattle.markdown_spans.proofs.TickLemmas.{tickless}
use Rattle.markdown_spans.proofs.code.code_at.Goals as goal

pub first_run-requires-clause-apart : goal.first_run-requires-clause-apart
first_run-requires-clause-apart c =
    tickless c.args.at c.count_in_front-marks.result c.args.text.now (c.count_in_front-marks.ensures.value ∙ ap (count_in_front 96) c.tail.ensures)
