use Rattle.std.proofs.Common.{◌∷◌, [], List, map, ap, sym, ◌∙◌, subst}
use Rattle.std.proofs.lemmas.List.{map-append}
use Rattle.mad_md.specs.Flagged.{run_of}
use Rattle.mad_md.specs.Lines.{LineContent, normal, styled_runs}
use Rattle.mad_blocks.specs.PartCursors.{lines_left, LaidPart}
use Rattle.mad_blocks.specs.TextParts.{is_code}
use Rattle.mad_format.specs.declared.line.FmtLine.TheVariants.{Normal}
use Rattle.mad_format.proofs.WrapLemmas.{then_ok}
use Rattle.mad_blocks.proofs.PartCursorLemmas.{run_more, block_measured, block_part}
use Rattle.mad_blocks.proofs.part_cursor.PartCursor.lay_block.Goals as goal

pub loop-block-preserved : goal.loop-block-preserved
loop-block-preserved g c =
    let made = c.from-in-Some.ensures in
    let next = rw c.in-Some.is at c.in_ok-composite.ensures in
    run_more is_code (g.S.LineSkin.rules c.args.skin.now) (normal (styled_runs c.args.first)) (lines_left c.args.self.now) (lines_left c.loop-block.self) (lines_left c.next_code.new.self) (normal (styled_runs c.in-Some.composite)) (Normal c.from-in-Some.result)
    (map Normal c.loop-block.block.items) (map Normal c.push-in-Some.new.self.items) c.loop-block.invariant next.0 next.1
    (record { kind = made.kind; text = ap (map run_of) made.text; measured = made.measured; spacing = made.spacing; margins = made.margins; known = made.typed })
    (ap (map Normal) c.in_ok-push-2.ensures.items ∙ map-append Normal c.loop-block.block.items (c.from-in-Some.result ∷ []))

pub push_block-requires : goal.push_block-requires
push_block-requires g c = block_measured (g.S.LineSkin.rules c.args.skin.now) (normal (styled_runs c.args.first) ∷ c.loop-block.invariant.others) c.loop-block.block.items c.loop-block.invariant.reads

pub returns : goal.returns
returns g c =
    let skin = g.S.LineSkin.rules c.args.skin.now in
    let first = normal (styled_runs c.args.first) in
    let next = rw c.in_default.is at c.in_ok-composite.ensures in
    then_ok _ _ c.push_block.result
    (λ made. subst (λ (cs : List LineContent). LaidPart skin c.args.width (first ∷ lines_left c.args.self.now) c.args.lines.now.items cs c.push_block.new.lines.items) (sym next.0)
    (block_part skin c.args.width first (lines_left c.args.self.now) (lines_left c.loop-block.self) c.loop-block.block.items c.args.lines.now.items c.push_block.new.lines.items made.0 c.requires c.loop-block.invariant next.1 made.1 made.2)) c.push_block.ensures
