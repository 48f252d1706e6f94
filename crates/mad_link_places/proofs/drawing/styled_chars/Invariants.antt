use Rattle.std.proofs.Common.{◌≡◌, map}
use Rattle.mad_style.specs.StyledChars.{styled_char}
use Rattle.mad_link_places.proofs.drawing.styled_chars.Given as goal

-- the characters so far
abbrev pub invariant-loop-c : goal.invariant-loop-c
invariant-loop-c l = l.styled.items ≡ map (styled_char l.fn.style) l.yielded
