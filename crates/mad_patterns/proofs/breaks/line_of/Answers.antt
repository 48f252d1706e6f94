use Rattle.std.proofs.Common.{Bool, ℕ, ◌+◌, ◌<◌, ap, subst, sym, ◌∙◌}
use Rattle.std.specs.Prelude.{if◌then◌else◌}
use Rattle.mad_patterns.specs.Breaks.{part_end, part_start}
use Rattle.mad_patterns.proofs.BreakLemmas.{end_below}
use Rattle.mad_patterns.proofs.breaks.line_of.Goals as goal

pub returns-then-not-is_text-clause-start : goal.returns-then-not-is_text-clause-start
returns-then-not-is_text-clause-start c =
    sym (ap (λ (b : Bool). if b then part_start c.args.starts.rows.now c.args.row else c.args.row) (sym c.is_text_row-is_text.ensures.is ∙ c.if-not-is_text.true))

pub returns-then-not-is_text-clause-end : goal.returns-then-not-is_text-clause-end
returns-then-not-is_text-clause-end c =
    sym (ap (λ (b : Bool). if b then part_end c.args.starts.rows.now c.args.row else c.args.row + 1) (sym c.is_text_row-is_text.ensures.is ∙ c.if-not-is_text.true))

pub returns-clause-start : goal.returns-clause-start
returns-clause-start c =
    c.part_start.ensures.start ∙ sym (ap (λ (b : Bool). if b then part_start c.args.starts.rows.now c.args.row else c.args.row) (sym c.is_text_row-is_text.ensures.is ∙ c.if-not-is_text.false))

pub returns-clause-end : goal.returns-clause-end
returns-clause-end c =
    c.part_end.ensures ∙ sym (ap (λ (b : Bool). if b then part_end c.args.starts.rows.now c.args.row else c.args.row + 1) (sym c.is_text_row-is_text.ensures.is ∙ c.if-not-is_text.false))

pub returns-clause-below : goal.returns-clause-below
returns-clause-below c = subst (λ (n : ℕ). c.args.row < n) (sym c.part_end.ensures) (end_below c.args.row c.args.starts.rows.now)
