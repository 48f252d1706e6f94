use Rattle.std.proofs.Common.{[], subst}
use Rattle.mad_widths.specs.SeenCells.{TableHasSeen}
use Rattle.mad_blocks.proofs.TableWidths.{lengths_start}
use Rattle.mad_blocks.proofs.table_columns.seen_lines.Goals as goal

pub returns : goal.returns
returns g c = λ read h. c.see_lines.ensures read h c.args.width c.args.nbcols [] (subst (TableHasSeen c.in_ok-fit.fit c.args.width) (lengths_start c.args.by_word c.args.nbcols) c.in_ok-fit.ensures)
