use Rattle.markdown_live_laws.proofs.made_skins_are_shown.Goals as goal

pub returns : goal.returns
returns c = record {
  dark = record { marks = c.page_marks_are_shown.ensures.dark.rows; sign = c.page_marks_are_shown.ensures.dark.picture; known = c.page_colors_are_bytes.ensures.dark };
  light = record { marks = c.page_marks_are_shown.ensures.light.rows; sign = c.page_marks_are_shown.ensures.light.picture; known = c.page_colors_are_bytes.ensures.light };
  sixteen = record { marks = c.page_marks_are_shown.ensures.sixteen.rows; sign = c.page_marks_are_shown.ensures.sixteen.picture; known = c.page_colors_are_bytes.ensures.sixteen };
  plain = record { marks = c.page_marks_are_shown.ensures.plain.rows; sign = c.page_marks_are_shown.ensures.plain.picture; known = c.page_colors_are_bytes.ensures.plain };
}
