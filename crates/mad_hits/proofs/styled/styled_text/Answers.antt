use Rattle.std.proofs.Common.{◌++◌, List, ap, ◌∙◌}
use Rattle.std.specs.List.{flat_map}
use Rattle.mad_style.specs.declared.styled_chars.StyledChar.{StyledChar}
use Rattle.mad_hits.specs.Styled.{styled_compound}
use Rattle.mad_hits.proofs.LineLemmas.{styled_put}
use Rattle.mad_hits.proofs.styled.styled_text.Goals as goal

pub loop-compound-init : goal.loop-compound-init
loop-compound-init c =
    ap (λ (t : List StyledChar). t ++ flat_map (styled_compound c.args.skin.now c.args.composite.now) c.deref-compound-items.result.now) c.new-text.ensures.items
    ∙ ap (flat_map (styled_compound c.args.skin.now c.args.composite.now)) c.deref-compound-items.ensures.value

pub loop-compound-preserved : goal.loop-compound-preserved
loop-compound-preserved c =
    styled_put c.args.skin.now c.args.composite.now c.deref-compound-items.result.now c.loop-compound.compound-index _ _ _ _ c.compound_style.result c.loop-compound-test.true
    (rw c.line_style-style.ensures at c.compound_style.ensures) c.loop-compound.invariant c.in_ok-push_styled.ensures
