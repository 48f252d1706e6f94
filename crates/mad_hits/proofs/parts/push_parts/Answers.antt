use Rattle.std.proofs.Common.{ℕ, ap, ◌++◌, map, ◌∙◌}
use Rattle.mad_hits.specs.Hits.{marked_of}
use Rattle.mad_hits.specs.Parts.{marked_bytes, part_of}
use Rattle.mad_hits.proofs.LineLemmas.{put_more}
use Rattle.mad_hits.proofs.parts.push_parts.Goals as goal

pub loop-hit-preserved : goal.loop-hit-preserved
loop-hit-preserved c = λ n at.
    let text = c.args.text.now in
    let bytes = c.args.bytes.now in
    let own = c.args.own in
    put_more (λ (hit : ℕ × ℕ). marked_bytes n text bytes (part_of own hit)) c.args.found.now c.loop-hit.hit-index (0, 0) _ _ _ c.loop-hit-test.true (c.loop-hit.invariant n at)
    (c.in_ok-push_part.ensures n at
    ∙ ap (λ (part : ℕ × ℕ). map marked_of c.loop-hit.hits.items ++ marked_bytes n text bytes part) c.part_of.ensures)
