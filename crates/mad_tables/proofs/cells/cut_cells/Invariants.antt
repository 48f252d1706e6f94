use Rattle.std.proofs.Common.{map, drop}
use denote.Text.{Utf8}
use denote.Shadow.{shadow}
use Rattle.mad_tables.proofs.CutLemmas.{IsCutOff}
use Rattle.mad_tables.proofs.cells.cut_cells.Given as goal

-- the cells so far, and the text that is left
abbrev pub invariant-loop-length : goal.invariant-loop-length
invariant-loop-length l = shadow (Utf8 l.rest) × IsCutOff l.fn.text l.fn.lengths (map (λ cell. cell.now) l.cells.items) l.rest (drop l.length-index l.fn.lengths)
