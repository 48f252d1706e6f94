use Rattle.std.proofs.Common.{◌≡◌, ℕ, List, [], ◌++◌, drop, ap, sym, ◌∙◌, arith, append-nil}
use Rattle.std.proofs.lemmas.Grind.{common_steps}
use Rattle.std.proofs.lemmas.List.{drop_all}
use Rattle.mad_blocks.specs.Tables.{centered}
use Rattle.mad_blocks.proofs.table_columns.centered.Goals as goal

pub loop-width-init : goal.loop-width-init
loop-width-init c = ap (λ cs. cs ++ centered c.args.widths.now) c.in_ok-columns.ensures.items

pub loop-width-preserved : goal.loop-width-preserved
loop-width-preserved c = grind (arith, common_steps)

pub returns : goal.returns
returns c =
    let none : drop c.loop-width.width-index c.args.widths.now ≡ [] = drop_all _ _ c.loop-width-test.false in
    sym (append-nil c.loop-width.columns.items) ∙ ap (λ (ws : List ℕ). c.loop-width.columns.items ++ centered ws) (sym none) ∙ c.loop-width.invariant
