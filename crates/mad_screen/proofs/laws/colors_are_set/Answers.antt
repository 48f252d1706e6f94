use Rattle.std.proofs.Common.{lit<}
use Rattle.mad_term.specs.Styles.{color_numbers}
use Rattle.mad_screen.specs.Painting.{shown_color}
use Rattle.mad_screen.proofs.StyleLemmas.{color_small, foreground_restyles, background_restyles}
use Rattle.mad_screen.proofs.CommandsRead.{sgr_read}
use Rattle.mad_screen.proofs.laws.colors_are_set.Goals as goal

pub returns : goal.returns
returns c = record {
  foreground = λ g color h. sgr_read g (color_numbers 38 color) (record g.pen { fg = shown_color color }) (color_small 38 color (lit< tt) h) (foreground_restyles color g.pen h);
  background = λ g color h. sgr_read g (color_numbers 48 color) (record g.pen { bg = shown_color color }) (color_small 48 color (lit< tt) h) (background_restyles color g.pen h);
}
