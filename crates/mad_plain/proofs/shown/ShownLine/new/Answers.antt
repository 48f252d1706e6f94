use Rattle.std.proofs.Common.{◌∙◌, ap, sym, length, chars}
use Rattle.std.proofs.lemmas.Str.{chars-nil}
use Rattle.mad_plain.specs.Runs.{are_within}
use Rattle.mad_plain.proofs.shown.ShownLine.new.Goals as goal

pub invariant_of-result : goal.invariant_of-result
invariant_of-result c = record { counted = sym (ap (λ bs. length (chars bs)) c.in_ok-with_capacity.ensures.bytes ∙ ap length chars-nil); ordered = ap (λ rs. are_within 0 rs 0) c.new.ensures.items }
