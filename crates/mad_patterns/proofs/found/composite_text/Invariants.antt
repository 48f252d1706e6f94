use Rattle.std.proofs.Common.{◌≡◌, ◌++◌, drop, string_bytes}
use Rattle.std.specs.List.{flat_map}
use Rattle.mad_md.specs.declared.compound.Compound.{Compound}
use Rattle.mad_patterns.specs.Searches.{composite_text}
use Rattle.mad_patterns.proofs.found.composite_text.Given as goal

-- what was put, and what is left, are the whole
abbrev pub invariant-loop-compound : goal.invariant-loop-compound
invariant-loop-compound l = string_bytes l.text ++ flat_map (λ (k : Compound). k.src.now) (drop l.compound-index l.compound-items) ≡ composite_text l.composite
