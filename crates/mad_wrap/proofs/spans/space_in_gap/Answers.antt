use Rattle.std.proofs.Common.{◌≡◌, ℕ, ◌≤◌, ◌<◌, ◌+◌, ◌⊎◌, List, length, false, refl, rules, subst}
use Rattle.mad_measure.specs.Chunks.{is_space_at}
use Rattle.mad_wrap.proofs.SpanLemmas.{lone_space}
use Rattle.mad_wrap.proofs.spans.space_in_gap.Goals as goal

pub returns : goal.returns
returns c max =
    lone_space max _ _ _ _ _ (search rules) c.requires.border c.requires.plain c.requires.plain_inside c.requires.inside c.requires.space c.requires.uncoded c.requires.full (subst (λ (bs : List ℕ). (length bs ≤ c.args.at + 1) ⊎ ((c.args.at + 1 < c.args.plain) × (is_space_at bs (c.args.at + 1) ≡ false))) c.as_bytes.ensures.value (c.begins_word.ensures (search rules))) refl
