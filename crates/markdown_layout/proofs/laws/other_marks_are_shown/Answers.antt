use Rattle.markdown_layout.proofs.MarkLemmas.{ascii_shown, dark_shown, default_shown, light_shown, no_style_shown}
use Rattle.markdown_layout.proofs.laws.other_marks_are_shown.Goals as goal

pub returns : goal.returns
returns c = record { by_default = default_shown; dark = dark_shown; light = light_shown; without_style = no_style_shown; ascii = ascii_shown }
