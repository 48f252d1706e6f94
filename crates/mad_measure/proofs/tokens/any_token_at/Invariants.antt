use Rattle.std.proofs.Common.{◌≡◌, ◌<◌, ◌+◌, ◌-◌, drop}
use Rattle.std.specs.Str.Iter.{char_indices_offset, char_indices_rest}
use Rattle.mad_md.specs.Flagged.{flags_of}
use Rattle.mad_measure.proofs.TokenLemmas.{IsFront}
use Rattle.mad_measure.proofs.tokens.any_token_at.Given as goal

abbrev pub invariant-loop-index : goal.invariant-loop-index
invariant-loop-index l =
    let n = l.begin + char_indices_offset l.index-iterator - l.start in
    record {
      some : 0 < n;
      front : IsFront l.max (flags_of l.compound) (drop l.start l.compound.src.now) n l.blank l.width;
      position : drop n (drop l.start l.compound.src.now) ≡ char_indices_rest l.index-iterator;
    }
