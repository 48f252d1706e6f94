use Rattle.std.proofs.Common.{◌≡◌, ◌++◌, map, drop}
use Rattle.std.specs.Prelude.{string_bytes}
use Rattle.markdown_pieces.specs.Places.{AreCut}
use Rattle.markdown_lines.specs.Names.{names_from}
use Rattle.markdown_lines.proofs.names.names_of.Given as goal

abbrev pub invariant-loop-index : goal.invariant-loop-index
invariant-loop-index l = record {
  cut : AreCut l.text l.at (drop l.index l.pieces);
  names : map string_bytes l.names.items ++ names_from l.text l.at (drop l.index l.pieces) ≡ names_from l.text 0 l.pieces;
}
