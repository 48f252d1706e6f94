use Rattle.std.proofs.Common.{◌≡◌, ◌+◌, ◌∙◌, Bool, List, ap, subst, sym}
use Rattle.mad_md.specs.Flagged.{flagged_text}
use Rattle.mad_md.specs.declared.compound.Compound.{Compound}
use Rattle.mad_measure.specs.TextColumns.{width_of}
use Rattle.mad_wrap.specs.WrapLines.{capped}
use Rattle.mad_format.specs.Indents.{indent}
use Rattle.mad_sections.specs.CellWords.{longest_word}
use Rattle.mad_blocks.specs.Tables.{measure_of}
use Rattle.mad_blocks.proofs.ReadTables.{length_read, word_read}
use Rattle.mad_blocks.proofs.table_columns.measure_of_read.Goals as goal

pub returns-then-by_word : goal.returns-then-by_word
returns-then-by_word g c = λ read h.
    subst (λ (b : Bool). c.longest_word.result ≡ measure_of b read) (sym c.if-by_word.true)
    (word_read (g.S.LineSkin.rules c.args.skin.now) c.args.cell.now read c.longest_word.result (c.longest_word.ensures ∙ ap (λ (ps : List Compound). capped (longest_word (flagged_text ps))) c.deref.ensures.value) h)

pub returns-else-by_word : goal.returns-else-by_word
returns-else-by_word g c = λ read h.
    subst (λ (b : Bool). c.composite_columns.result ≡ measure_of b read) (sym c.if-by_word.false)
    (length_read (g.S.LineSkin.rules c.args.skin.now) c.args.cell.now read c.composite_columns.result c.from-kind.result c.items_indentation.result c.items_indentation.ensures c.from-kind.ensures
    (c.composite_columns.ensures ∙ ap (λ (ps : List Compound). capped (indent c.items_indentation.result c.from-kind.result + width_of (flagged_text ps))) c.deref-else-by_word.ensures.value) h)
