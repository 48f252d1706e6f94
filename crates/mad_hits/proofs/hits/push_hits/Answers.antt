use Rattle.std.proofs.Common.{◌∙◌}
use Rattle.mad_hits.proofs.LineLemmas.{parts_are}
use Rattle.mad_hits.proofs.hits.push_hits.Goals as goal

pub returns : goal.returns
returns c = λ n here.
    parts_are n c.args.own c.args.found.now c.as_slice.result.now _ c.as_bytes.result.now _ _ _ (c.as_slice.ensures.value ∙ c.in_ok-text.ensures) (c.as_bytes.ensures.value ∙ (c.as_str.ensures.value ∙ c.in_ok-bytes.ensures)) (c.in_ok-push_parts.ensures n here)
