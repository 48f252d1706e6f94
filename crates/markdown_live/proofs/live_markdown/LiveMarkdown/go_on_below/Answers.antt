use Rattle.std.proofs.Common.{refl, ap}
use Rattle.mad_live.specs.declared.live_rows.LiveRows.{LiveRows}
use Rattle.mad_live.proofs.CodeLemmas.{on_err}
use Rattle.markdown_live.proofs.LiveLemmas.{below_fails, goes_below}
use Rattle.markdown_live.proofs.live_markdown.LiveMarkdown.go_on_below.Goals as goal

pub returns-in_err-begin_below-clause-goes_on : goal.returns-in_err-begin_below-clause-goes_on
returns-in_err-begin_below-clause-goes_on g c = below_fails c.args.self.now _ c.args.width c.args.height _ _ c.from_residual.result _ c.from_residual.ensures.1 c.in_err-begin_below.ensures.begins

pub returns-in_err-begin_below-clause-err : goal.returns-in_err-begin_below-clause-err
returns-in_err-begin_below-clause-err g c = on_err c.from_residual.result _ (ap (λ (rows : LiveRows). record c.args.self.now { rows = rows }) c.in_err-begin_below.ensures.begins.kept)

pub returns-clause-goes_on : goal.returns-clause-goes_on
returns-clause-goes_on g c = goes_below c.args.self.now _ c.args.width c.args.height _ _ refl refl refl refl c.in_ok-begin_below.ensures.begins
