use Rattle.std.proofs.Common.{◌≡◌, ◌++◌, map, take}
use Rattle.markdown_emphasis.specs.Pieces.{moved}
use Rattle.markdown_brackets.proofs.brackets.add_moved.Given as goal

abbrev pub invariant-loop-pair : goal.invariant-loop-pair
invariant-loop-pair l = l.out.items ≡ l.fn.out.items ++ map (moved l.places) (take l.pair-index l.pairs)
