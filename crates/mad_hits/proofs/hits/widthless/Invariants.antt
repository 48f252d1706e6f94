use Rattle.std.proofs.Common.{◌≡◌, ◌+◌, map, drop}
use Rattle.mad_style.specs.StyledChars.{char_alone}
use Rattle.mad_hits.specs.Hits.{widthless}
use Rattle.mad_hits.proofs.hits.widthless.Given as goal

-- so many characters without columns came so far
abbrev pub invariant-loop-c : goal.invariant-loop-c
invariant-loop-c l = record {
  count : l.count ≡ l.c-index;
  before : widthless (map char_alone l.text) ≡ l.c-index + widthless (map char_alone (drop l.c-index l.text));
}
