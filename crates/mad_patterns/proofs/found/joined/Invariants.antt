use Rattle.std.proofs.Common.{◌≡◌, take, string_bytes}
use Rattle.mad_patterns.specs.Searches.{joined, places, row_texts}
use Rattle.mad_patterns.proofs.found.joined.Given as goal

-- the rows so far
abbrev pub invariant-loop-index : goal.invariant-loop-index
invariant-loop-index l = record {
  text : string_bytes l.text ≡ joined (take l.index (row_texts l.rows));
  places : l.places.items ≡ places 0 (take l.index (row_texts l.rows));
}
