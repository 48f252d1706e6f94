use Rattle.std.proofs.Common.{rules, ◌≡◌, ◌++◌, ◌∙◌, ℕ, List, Option, Some, map, [], arith, ap, subst, sym}
use Rattle.std.specs.List.{AllByRecursion}
use Rattle.std.specs.Vec.Iter.{into_iter_items}
use Rattle.std.proofs.lemmas.Grind.{common_steps}
use Rattle.mad_blocks.specs.LayoutParts.{block_width, placed_code, justified, code_room, IsLineAt, AreLinesAt}
use Rattle.mad_measure.specs.declared.spacing.Spacing.{Spacing}
use Rattle.mad_format.specs.CompositeWraps.{IsCompositeWrap}
use Rattle.mad_format.specs.Wraps.{IsMeasured}
use Rattle.mad_format.specs.declared.line.FmtLine.{FmtLine}
use Rattle.mad_format.specs.declared.line.FmtLine.TheVariants.{Normal}
use Rattle.mad_blocks.proofs.LayoutLemmas.{ClosedSoFar, closed_start, closed_more, closed_laid}
use Rattle.mad_blocks.proofs.laying.push_block.Goals as goal

pub loop-composite-init : goal.loop-composite-init
loop-composite-init g c =
    let skin = g.S.LineSkin.rules c.args.skin.now in
    let lines = c.args.lines.now.items in
    let rest : into_iter_items c.into_iter-composite-iterator.result ≡ c.args.block.items = c.into_iter-composite-iterator.ensures.into_iter_gives.0 in
    subst (λ ls. ClosedSoFar skin c.wrap_width-wrap.result c.block_width-columns.result c.args.block.items ls lines lines) (sym rest)
    (closed_start skin c.wrap_width-wrap.result c.block_width-columns.result c.args.block.items lines c.requires)

pub push_at-requires : goal.push_at-requires
push_at-requires g c =
    let measured = subst (AllByRecursion (IsMeasured (g.S.LineSkin.rules c.args.skin.now))) c.in-Some.ensures.steps.0 c.loop-composite.invariant.measured in
    rw c.in_place-placed.ensures measured.0

pub loop-composite-preserved : goal.loop-composite-preserved
loop-composite-preserved g c =
    let own = c.in_ok-push_at.ensures in
    let placed : c.in_place-placed.result ≡ placed_code c.block_width-columns.result c.in-Some.composite = c.in_place-placed.ensures ∙ ap (λ (p : Spacing). record c.in-Some.composite { spacing = Some p }) c.code_place.ensures in
    closed_more (g.S.LineSkin.rules c.args.skin.now) c.wrap_width-wrap.result c.block_width-columns.result c.args.block.items (into_iter_items c.loop-composite.composite-iterator) (into_iter_items c.next.new.self) c.args.lines.now.items
    c.loop-composite.lines.items own.0 c.push_at.new.lines.items c.in-Some.composite c.loop-composite.invariant c.in-Some.ensures.steps.0
    (subst (λ l. IsLineAt IsCompositeWrap (g.S.LineSkin.rules c.args.skin.now) c.wrap_width-wrap.result (Normal l) own.0) placed own.2) own.1

pub returns : goal.returns
returns g c =
    let none : into_iter_items c.loop-composite.composite-iterator ≡ [] = grind (arith, common_steps) in
    let columns : c.block_width-columns.result ≡ block_width (code_room (g.S.LineSkin.rules c.args.skin.now) c.wrap_width-wrap.result) c.args.block.items = search rules in
    subst (λ (w : Option ℕ). (own : List FmtLine) × (c.loop-composite.lines.items ≡ c.args.lines.now.items ++ own) × AreLinesAt IsCompositeWrap (g.S.LineSkin.rules c.args.skin.now) w (map Normal (justified (code_room (g.S.LineSkin.rules c.args.skin.now) w) c.args.block.items)) own)
    c.wrap_width-wrap.ensures
    (closed_laid (g.S.LineSkin.rules c.args.skin.now) c.wrap_width-wrap.result c.block_width-columns.result c.args.block.items (into_iter_items c.loop-composite.composite-iterator) c.args.lines.now.items c.loop-composite.lines.items none
    columns c.loop-composite.invariant)
