use Rattle.std.proofs.Common.{ap, ◌∙◌}
use Rattle.std.specs.Prelude.{is_some}
use Rattle.mad_pages.specs.Fronts.{front_content}
use Rattle.mad_pages.specs.declared.fronts.Front.{Front}
use Rattle.mad_page_rows.specs.Faces.{alert_titled}
use Rattle.markdown_layout.proofs.page_writing.is_title.Goals as goal

pub returns : goal.returns
returns c = c.is_some.ensures ∙ ap is_some (c.alert_titled.ensures ∙ ap (λ (front : Front). alert_titled (front_content front)) c.front_of.ensures)
