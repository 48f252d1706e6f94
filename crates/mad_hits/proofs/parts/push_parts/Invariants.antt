use Rattle.std.proofs.Common.{◌≡◌, ℕ, ◌++◌, map, take}
use Rattle.std.specs.List.{flat_map}
use Rattle.mad_wrap.specs.WrapLines.{capped}
use Rattle.mad_hits.specs.Hits.{marked_of}
use Rattle.mad_hits.specs.Parts.{marked_bytes, part_of}
use Rattle.mad_hits.proofs.parts.push_parts.Given as goal

-- the parts that were put so far
abbrev pub invariant-loop-hit : goal.invariant-loop-hit
invariant-loop-hit l = (n : ℕ) → l.column ≡ capped n → map marked_of l.hits.items ≡ map marked_of l.fn.hits.items ++ flat_map (λ (hit : ℕ × ℕ). marked_bytes n l.text l.bytes (part_of l.own hit)) (take l.hit-index l.found)
