use Rattle.mad_outline.specs.Sources.{source_page}
use Rattle.mad_pager.proofs.StepLemmas.{laid_at}
use Rattle.mad_pager.proofs.sizes.lay.Goals as goal

pub returns : goal.returns
returns c =
    laid_at c.args.skin.now (source_page c.args.source) c.args.columns c.layout_width.result c.paged_skin-rows.result c.has_ascii_boxes.result c.in_ok-laid.laid c.paged_skin-rows.ensures c.has_ascii_boxes.ensures c.layout_width.ensures c.in_ok-laid.ensures
