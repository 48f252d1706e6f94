use Rattle.std.proofs.Common.{◌≡◌, ℕ}
use Rattle.regex.specs.Strings.{regex_pattern}
use Rattle.mad_wrap.specs.WrapLines.{capped}
use Rattle.mad_hits.proofs.LineLemmas.{CellsSoFar}
use Rattle.mad_hits.proofs.hits.push_cells_hits.Given as goal

-- the cells so far, and what is left
abbrev pub invariant-loop-cell : goal.invariant-loop-cell
invariant-loop-cell l = (start : ℕ) → l.left ≡ capped start → CellsSoFar l.skin (regex_pattern l.sought) l.cells l.cell-index start l.column l.fn.hits.items l.hits.items
