-- From bytes to rows.
use Rattle.markdown_pieces.specs.Spelling.{PiecesSpellTheirText}
use Rattle.markdown_text_laws.proofs.ShownLemmas.{each_shown}
use Rattle.markdown_row_laws.specs.Bytes.{BytesAreKept}
use Rattle.markdown_row_laws.proofs.CellLemmas.{cells_keep}
use Rattle.markdown_row_laws.proofs.RowLemmas.{rows_keep}

-- where pieces spell their text, each byte of it is kept
pub bytes_kept : PiecesSpellTheirText → BytesAreKept
bytes_kept spell_it labels text = record { spelled = spell_it labels text; shown = each_shown labels text; rows = rows_keep labels text; cell = λ bold. cells_keep labels bold text }
