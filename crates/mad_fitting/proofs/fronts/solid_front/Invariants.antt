use Rattle.std.proofs.Common.{◌≡◌, chars, drop, take, false}
use Rattle.std.specs.Char.{is_whitespace}
use Rattle.std.specs.List.{AllByRecursion}
use Rattle.std.specs.Str.Iter.{char_indices_offset, char_indices_rest}
use Rattle.mad_fitting.proofs.FrontLemmas.{IsRead}
use Rattle.mad_fitting.proofs.fronts.solid_front.Given as goal

abbrev pub invariant-loop-index : goal.invariant-loop-index
invariant-loop-index l = record {
  read : IsRead l.text (char_indices_offset l.index-iterator) l.columns;
  position : drop (char_indices_offset l.index-iterator) l.text ≡ char_indices_rest l.index-iterator;
  solid : AllByRecursion (λ c. is_whitespace c ≡ false) (chars (take (char_indices_offset l.index-iterator) l.text));
}
