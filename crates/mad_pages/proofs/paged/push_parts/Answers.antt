use Rattle.std.proofs.Common.{ℕ, List, ◌∷◌, [], ◌++◌, ap, subst, sym, ◌∙◌}
use Rattle.mad_md.specs.Lines.{LineContent, contents}
use Rattle.mad_blocks.specs.PartCursors.{lines_left}
use Rattle.mad_format.specs.declared.line.FmtLine.{FmtLine}
use Rattle.mad_pages.specs.PagedPages.{ArePartsAdded}
use Rattle.mad_pages.proofs.BesideLemmas.{PartsSoFar, no_part, part_more, parts_whole}
use Rattle.mad_pages.proofs.paged.push_parts.Goals as goal

pub parts-init : goal.parts-init
parts-init g c =
    subst (λ (left : List LineContent). PartsSoFar (g.S.LineSkin.rules c.args.skin.now) c.args.width (contents c.args.text) left c.args.lines.now.items c.args.starts.now.items c.args.lines.now.items c.args.starts.now.items) (sym c.of_text-parts.ensures)
    (no_part (g.S.LineSkin.rules c.args.skin.now) c.args.width (contents c.args.text) c.args.lines.now.items c.args.starts.now.items)

pub parts-preserved : goal.parts-preserved
parts-preserved g c =
    part_more (g.S.LineSkin.rules c.args.skin.now) c.args.width (contents c.args.text) (lines_left c.parts.parts) (lines_left c.lay_next.new.self) c.args.lines.now.items c.args.starts.now.items c.parts.lines.items c.lay_next.new.lines.items c.parts.starts.items c.push.new.self.items
    c.parts.invariant (rw c.if-branch.true at c.in_ok-lay_next.ensures) (c.in_ok-push.ensures.items ∙ ap (λ (n : ℕ). c.parts.starts.items ++ n ∷ []) c.count_of.ensures)

pub returns : goal.returns
returns g c =
    let done = rw c.if-branch.false at c.in_ok-lay_next.ensures in
    subst (λ (lines : List FmtLine). ArePartsAdded (g.S.LineSkin.rules c.args.skin.now) c.args.width (contents c.args.text) c.args.lines.now.items c.args.starts.now.items lines c.parts.starts.items) (sym done.2)
    (parts_whole (g.S.LineSkin.rules c.args.skin.now) c.args.width (contents c.args.text) (lines_left c.parts.parts) c.args.lines.now.items c.args.starts.now.items c.parts.lines.items c.parts.starts.items c.parts.invariant done.0)
