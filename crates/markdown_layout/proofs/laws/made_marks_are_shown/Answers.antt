use Rattle.markdown_layout.proofs.MarkLemmas.{dark_page_shown, light_page_shown, plain_page_shown, sixteen_page_shown}
use Rattle.markdown_layout.proofs.laws.made_marks_are_shown.Goals as goal

pub returns : goal.returns
returns c = record { dark = dark_page_shown; light = light_page_shown; sixteen = sixteen_page_shown; plain = plain_page_shown }
