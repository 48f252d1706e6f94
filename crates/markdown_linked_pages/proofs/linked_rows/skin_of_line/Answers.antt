use Rattle.std.proofs.Common.{ap, ◌∙◌}
use Rattle.mad_pages.specs.Fronts.{front_content}
use Rattle.mad_pages.specs.declared.fronts.Front.{Front}
use Rattle.mad_page_rows.specs.Faces.{line_skin}
use Rattle.markdown_linked_pages.proofs.linked_rows.skin_of_line.Goals as goal

pub returns : goal.returns
returns c = c.line_skin.ensures ∙ ap (λ (front : Front). line_skin c.args.skin.now (front_content front)) c.front_of.ensures
