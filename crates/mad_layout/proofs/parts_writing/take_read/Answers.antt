use Rattle.std.proofs.Common.{List, string_bytes, sym, subst}
use Rattle.mad_md.specs.Lines.{styled_runs}
use Rattle.mad_format.specs.declared.line.FmtLine.{FmtLine}
use Rattle.mad_format.proofs.WrapLemmas.{then_ok}
use Rattle.mad_layout.specs.WrittenParts.{TakesRead}
use Rattle.mad_layout.proofs.TakenParts.{read_laid}
use Rattle.mad_layout.proofs.parts_writing.take_read.Goals as goal

pub returns-then-branch : goal.returns-then-branch
returns-then-branch c =
    subst (λ (ls : List FmtLine). TakesRead c.args.skin.now c.args.width (styled_runs c.args.composite) (string_bytes c.args.rows.now) (string_bytes c.append_at.new.rows) ls) (sym c.requires) (rw c.if-branch.true at c.in_ok-append_at.ensures)

pub returns : goal.returns
returns c =
    then_ok _ _ c.push_read_at.result
    (λ (source, read, own, pushed, becomes). read_laid c.args.skin.now c.args.width (styled_runs c.args.composite) source own c.args.lines.now.items c.push_read_at.new.lines.items (string_bytes c.args.rows.now) (string_bytes c.append_at.new.rows) read c.requires pushed
    (rw c.wrap_width.ensures at becomes) (rw c.if-branch.false at c.in_ok-append_at.ensures)) c.push_read_at.ensures
