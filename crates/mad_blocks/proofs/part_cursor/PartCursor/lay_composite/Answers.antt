use Rattle.std.proofs.Common.{◌≡◌, false, refl, ap, sym, ◌∙◌}
use Rattle.mad_md.specs.Lines.{normal, styled_runs}
use Rattle.mad_blocks.specs.LayoutParts.{is_code_kind}
use Rattle.mad_blocks.specs.PartCursors.{lines_left}
use Rattle.mad_blocks.specs.TextParts.{is_code}
use Rattle.mad_format.specs.declared.line.FmtLine.TheVariants.{Normal}
use Rattle.mad_format.proofs.WrapLemmas.{then_ok}
use Rattle.mad_blocks.proofs.PartCursorLemmas.{single_laid}
use Rattle.mad_blocks.proofs.part_cursor.PartCursor.lay_composite.Goals as goal

pub returns-else-is_code_kind : goal.returns-else-is_code_kind
returns-else-is_code_kind g c =
    let line = normal (styled_runs c.args.composite) in
    let other : is_code line ≡ false = ap is_code_kind (sym c.from.ensures) ∙ sym c.is_code_kind.ensures ∙ c.if-is_code_kind.false in
    then_ok _ _ c.push_read_at.result
    (λ (source, is, own, pushed, becomes). single_laid (g.S.LineSkin.rules c.args.skin.now) c.args.width line (lines_left c.args.self.now) (Normal source) c.args.lines.now.items c.push_read_at.new.lines.items own other refl is pushed
    (rw c.wrap_width.ensures at becomes)) c.push_read_at.ensures
