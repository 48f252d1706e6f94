use Rattle.std.proofs.Common.{◌≡◌, map, take}
use Rattle.mad_hits.specs.Styled.{overlaid}
use Rattle.mad_hits.proofs.styled.overlaid_chars.Given as goal

-- the characters so far
abbrev pub invariant-loop-c : goal.invariant-loop-c
invariant-loop-c l = l.chars.items ≡ map (overlaid l.style) (take l.c-index l.text)
