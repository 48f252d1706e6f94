use Rattle.std.proofs.Common.{sym, subst, None, Option, ℕ}
use Rattle.memchr.specs.Find.{IsFirstByte, is_byte}
use Rattle.markdown_marks.proofs.TableLemmas.{none_found, one_cell}
use Rattle.markdown_marks.proofs.tables.cells_of.Goals as goal

pub returns-in-None : goal.returns-in-None
returns-in-None c =
    let row = c.args.row.now in
    let none : IsFirstByte (is_byte 124) row None = subst (λ (r : Option ℕ). IsFirstByte (is_byte 124) row r) c.in-None.is c.memchr.ensures in
    sym (one_cell row c.requires (none_found row none))
