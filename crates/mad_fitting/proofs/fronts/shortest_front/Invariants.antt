use Rattle.std.proofs.Common.{◌≡◌, drop}
use Rattle.std.specs.Str.Iter.{char_indices_offset, char_indices_rest}
use Rattle.mad_fitting.specs.Pieces.{IsNoLonger}
use Rattle.mad_fitting.proofs.FrontLemmas.{IsRead}
use Rattle.mad_fitting.proofs.fronts.shortest_front.Given as goal

abbrev pub invariant-loop-index : goal.invariant-loop-index
invariant-loop-index l = record {
  read : IsRead l.text (char_indices_offset l.index-iterator) l.columns;
  position : drop (char_indices_offset l.index-iterator) l.text ≡ char_indices_rest l.index-iterator;
  shortest : IsNoLonger l.least l.text (record { bytes = char_indices_offset l.index-iterator; columns = l.columns });
}
