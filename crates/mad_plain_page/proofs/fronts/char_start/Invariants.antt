use Rattle.std.proofs.Common.{◌≡◌, ◌+◌, chars, drop, length, take}
use Rattle.std.specs.Str.Iter.{char_indices_offset, char_indices_rest}
use Rattle.mad_measure.specs.TextColumns.{columns}
use Rattle.mad_fitting.proofs.FrontLemmas.{IsRead}
use Rattle.mad_plain_page.proofs.fronts.char_start.Given as goal

abbrev pub invariant-loop-index : goal.invariant-loop-index
invariant-loop-index l =
    let at = char_indices_offset l.index-iterator in
    record {
      read : IsRead l.text at (columns (chars (take at l.text)));
      position : drop at l.text ≡ char_indices_rest l.index-iterator;
      number : length (chars (take at l.text)) + l.left ≡ l.fn.number;
    }
