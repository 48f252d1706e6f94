use Rattle.std.proofs.Common.{ap, ◌∙◌, arith}
use Rattle.mad_md.specs.Flagged.{flagged_text}
use Rattle.mad_sections.specs.CellWords.{capped, longest_word}
use Rattle.mad_sections.proofs.TableLemmas.{word_at}
use Rattle.mad_sections.proofs.table_rooms.word_in.Goals as goal

pub returns-in-TableRow : goal.returns-in-TableRow
returns-in-TableRow c = rw c.in-TableRow.is (word_at c.in-TableRow.row.cells.items c.args.column c.longest_word.result c.index.result.now (omega (arith, c.len.ensures)) c.index.ensures (c.longest_word.ensures ∙ ap (λ ps. capped (longest_word (flagged_text ps))) c.deref.ensures.value))
