use Rattle.std.proofs.Common.{map, drop}
use Rattle.mad_format.proofs.PlainLemmas.{ArePartsLeft}
use Rattle.mad_format.proofs.plain.wrap_parts.Given as goal

abbrev pub invariant-loop-part : goal.invariant-loop-part
invariant-loop-part l = ArePartsLeft l.width l.text (drop l.part-index l.part-items) (map (λ x. x.now) l.lines.items)
