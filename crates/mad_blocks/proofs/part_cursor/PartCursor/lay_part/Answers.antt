use Rattle.std.proofs.Common.{◌∷◌, [], refl}
use Rattle.mad_md.specs.Lines.{horizontal_rule}
use Rattle.mad_blocks.specs.LayoutParts.{wrap_width}
use Rattle.mad_blocks.specs.PartCursors.{lines_left}
use Rattle.mad_format.specs.declared.line.FmtLine.TheVariants.{HorizontalRule}
use Rattle.mad_format.proofs.WrapLemmas.{then_ok}
use Rattle.mad_blocks.proofs.PartCursorLemmas.{single_laid}
use Rattle.mad_blocks.proofs.LayoutLemmas.{rule_at}
use Rattle.mad_blocks.proofs.part_cursor.PartCursor.lay_part.Goals as goal

pub returns-in-HorizontalRule : goal.returns-in-HorizontalRule
returns-in-HorizontalRule g c = rw c.in-HorizontalRule.is
    (then_ok _ _ c.put_line.result (λ pushed. single_laid (g.S.LineSkin.rules c.args.skin.now) c.args.width horizontal_rule (lines_left c.args.self.now) HorizontalRule c.args.lines.now.items c.put_line.new.lines.items (HorizontalRule ∷ []) refl refl tt pushed
    (rule_at (g.S.LineSkin.rules c.args.skin.now) (wrap_width c.args.width))) c.put_line.ensures)
