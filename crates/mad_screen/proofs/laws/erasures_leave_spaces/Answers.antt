use Rattle.std.proofs.Common.{◌+◌, [], ◌∷◌, min, refl, lit<}
use Rattle.mad_screen.specs.Terminal.{erased, row_start, row_end, screen_end}
use Rattle.mad_screen.proofs.Reading.{letter_screen, letter_row}
use Rattle.mad_screen.proofs.CommandsRead.{command_read}
use Rattle.mad_screen.proofs.laws.erasures_leave_spaces.Goals as goal

pub returns : goal.returns
returns c = record {
  all = λ g. command_read g (erased 0 (screen_end g) g) (2 ∷ []) 74 (lit< tt, tt) letter_screen (lit< tt) refl;
  from_cursor_down = λ g. command_read g (erased (row_start g + g.x) (screen_end g) g) [] 74 tt letter_screen (lit< tt) refl;
  from_cursor_up = λ g. command_read g (erased 0 (row_start g + min (g.x + 1) g.width) g) (1 ∷ []) 74 (lit< tt, tt) letter_screen (lit< tt) refl;
  current_line = λ g. command_read g (erased (row_start g) (row_end g) g) (2 ∷ []) 75 (lit< tt, tt) letter_row (lit< tt) refl;
  until_new_line = λ g. command_read g (erased (row_start g + g.x) (row_end g) g) [] 75 tt letter_row (lit< tt) refl;
}
