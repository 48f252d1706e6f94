use Rattle.std.proofs.Common.{◌≡◌, List, [], ◌++◌, map, drop, refl, ap, sym, ◌∙◌, arith, append-nil}
use Rattle.std.proofs.lemmas.Grind.{common_steps}
use Rattle.std.proofs.lemmas.List.{drop_all}
use Rattle.mad_measure.specs.declared.spacing.Spacing.{Spacing}
use Rattle.mad_blocks.specs.Tables.{rule_width}
use Rattle.mad_blocks.proofs.table_layout.rule_across.Goals as goal

pub loop-column-init : goal.loop-column-init
loop-column-init c = record {
  widths_are = ap (λ widths. widths ++ map (λ (s : Spacing). rule_width c.args.cell_blanks s.width) c.args.columns.now) c.in_ok-widths.ensures.items;
  aligns_are = ap (λ aligns. aligns ++ map (λ (s : Spacing). s.align) c.args.columns.now) c.in_ok-aligns.ensures.items;
}

pub loop-column-preserved : goal.loop-column-preserved
loop-column-preserved c = record {
  widths_are = grind (arith, common_steps);
  aligns_are = grind (arith, common_steps);
}

pub returns : goal.returns
returns c =
    let columns = c.args.columns.now in
    let none : drop c.loop-column.column-index columns ≡ [] = drop_all _ _ c.loop-column-test.false in
    record {
      position_is = refl;
      widths_are = sym (append-nil c.loop-column.widths.items) ∙ ap (λ (cs : List Spacing). c.loop-column.widths.items ++ map (λ (s : Spacing). rule_width c.args.cell_blanks s.width) cs) (sym none) ∙ c.loop-column.invariant.widths_are;
      aligns_are = sym (append-nil c.loop-column.aligns.items) ∙ ap (λ (cs : List Spacing). c.loop-column.aligns.items ++ map (λ (s : Spacing). s.align) cs) (sym none) ∙ c.loop-column.invariant.aligns_are;
    }
