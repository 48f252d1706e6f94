use Rattle.mad_draw.proofs.BorderLemmas.{space_column, u259b_column, u2580_column, u259c_column, u2590_column, u259f_column, u2584_column, u2599_column, u258c_column, u250c_column, u2500_column, u2510_column, u2502_column, u2518_column, u2514_column, u256d_column, u256e_column, u256f_column, u2570_column}
use Rattle.mad_draw.proofs.laws.border_styles_are_shown.Goals as goal

pub returns : goal.returns
returns c = record {
  half_width_outside = record { top_left = u259b_column; top = u2580_column; top_right = u259c_column; right = u2590_column; bottom_right = u259f_column; bottom = u2584_column; bottom_left = u2599_column; left = u258c_column };
  middle_square_line = record { top_left = u250c_column; top = u2500_column; top_right = u2510_column; right = u2502_column; bottom_right = u2518_column; bottom = u2500_column; bottom_left = u2514_column; left = u2502_column };
  middle_round_line = record { top_left = u256d_column; top = u2500_column; top_right = u256e_column; right = u2502_column; bottom_right = u256f_column; bottom = u2500_column; bottom_left = u2570_column; left = u2502_column };
  bland = record { top_left = space_column; top = space_column; top_right = space_column; right = space_column; bottom_right = space_column; bottom = space_column; bottom_left = space_column; left = space_column };
}
