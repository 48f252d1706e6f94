use Rattle.std.proofs.Common.{◌≡◌, ◌++◌, map}
use Rattle.mad_style.specs.StyledChars.{styled_char}
use Rattle.mad_hits.proofs.styled.push_styled.Given as goal

-- the characters so far
abbrev pub invariant-loop-c : goal.invariant-loop-c
invariant-loop-c l = l.text.items ≡ l.fn.text.items ++ map (styled_char l.style) l.yielded
