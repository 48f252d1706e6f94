use Rattle.mad_pages.specs.Fronts.{front_content}
use Rattle.mad_link_places.proofs.NumberLemmas.{column_is}
use Rattle.mad_link_places.proofs.drawing.line_column.Goals as goal

pub returns : goal.returns
returns c =
    column_is c.args.skin.now c.line_skin.result c.args.room (front_content c.args.front) c.args.composite.now c.columns_left-rest.result c.columns_before-before.result c.column_in_row.result c.saturating_add.result c.line_skin.ensures
    (rw (c.from.ensures, c.columns.ensures) at c.columns_left-rest.ensures) c.columns_before-before.ensures c.column_in_row.ensures c.saturating_add.ensures
