use Rattle.std.proofs.Common.{◌≡◌, ◌++◌, List, ℕ, map}
use Rattle.std.specs.Prelude.{chars}
use Rattle.std.specs.Str.{IsUtf8}
use Rattle.std.specs.Vec.Iter.{into_iter_items}
use Rattle.mad_wrap.specs.WrapLines.{compounds_of}
use Rattle.mad_format.specs.PlainWraps.{chars_of, AreFronts}
use Rattle.mad_format.proofs.plain.push_fronts.Given as goal

-- the lines so far are slices of the text, and those that are left are fronts of the rest
abbrev pub invariant-loop-line : goal.invariant-loop-line
invariant-loop-line l = record {
  utf8 : IsUtf8 l.rest;
  fronts : AreFronts (chars l.rest) (compounds_of (into_iter_items l.line-iterator));
  own : List (List ℕ);
  lines_are : map (λ x. x.now) l.lines.items ≡ map (λ x. x.now) l.fn.lines.items ++ own;
  said : map chars own ++ map chars_of (compounds_of (into_iter_items l.line-iterator)) ≡ map chars_of (compounds_of l.fn.wrap.items);
}
