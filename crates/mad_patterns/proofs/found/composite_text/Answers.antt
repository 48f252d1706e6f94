use Rattle.std.proofs.Common.{ℕ, List, ◌++◌, ap, ◌∙◌}
use Rattle.std.specs.List.{flat_map}
use Rattle.mad_md.specs.declared.compound.Compound.{Compound}
use Rattle.mad_patterns.proofs.SearchLemmas.{piece_put}
use Rattle.mad_patterns.proofs.found.composite_text.Goals as goal

pub loop-compound-init : goal.loop-compound-init
loop-compound-init c =
    ap (λ (text : List ℕ). text ++ flat_map (λ (k : Compound). k.src.now) c.deref-compound-items.result.now) c.new-text.ensures.bytes ∙ ap (λ (xs : List Compound). flat_map (λ (k : Compound). k.src.now) xs) c.deref-compound-items.ensures.value

pub loop-compound-preserved : goal.loop-compound-preserved
loop-compound-preserved c = piece_put (λ (k : Compound). k.src.now) c.deref-compound-items.result.now c.loop-compound.compound-index _ _ _ _ c.loop-compound-test.true c.loop-compound.invariant c.in_ok-push_str.ensures.bytes
