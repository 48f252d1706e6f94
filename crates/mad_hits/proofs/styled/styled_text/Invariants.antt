use Rattle.std.proofs.Common.{◌≡◌, ◌++◌, drop}
use Rattle.std.specs.List.{flat_map}
use Rattle.mad_hits.specs.Styled.{styled_compound, styled_text}
use Rattle.mad_hits.proofs.styled.styled_text.Given as goal

-- what was put, and what is left, are the whole
abbrev pub invariant-loop-compound : goal.invariant-loop-compound
invariant-loop-compound l = l.text.items ++ flat_map (styled_compound l.skin l.composite) (drop l.compound-index l.compound-items) ≡ styled_text l.skin l.composite
