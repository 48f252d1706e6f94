use Rattle.markdown_page_laws.proofs.OutputLemmas.{writing_shows, drawing_shows, areas_show}
use Rattle.markdown_page_laws.proofs.output_is_kept.Goals as goal

pub returns : goal.returns
returns c = record { written = writing_shows; drawn = drawing_shows; shown = areas_show }
