-- The bytes of commands, read by the plain terminal.
use Rattle.std.proofs.Common.{◌∙◌, ◌+◌, ◌≡◌, ℕ, ◌^◌, ◌<◌, List, [], ◌∷◌, Some, refl, ap, sym, subst, arith, lit<, length, ◌*◌, ◌-◌, ◌≤◌, ◌⊎◌, ⊎_elim, inl, inr, leb, ltb, true, false, cond, get_or, replicate, min}
use Rattle.std.specs.Prelude.{◌&&◌}
use Rattle.std.proofs.lemmas.Nat.{row_fits}
use Rattle.std.proofs.lemmas.Bool.{cases_lt}
use Rattle.std.proofs.lemmas.Bool.Decides.{nat_tests}
use Rattle.std.proofs.lemmas.List.{get_or-replicate, length-replicate}
use Rattle.mad_screen.proofs.PutList.{put_list-other, put_list-same, put_same-cut}
use Rattle.std.specs.Prelude.{IsAscii, option_map}
use Rattle.std.proofs.lemmas.Str.{chars-IsAscii, IsUtf8-from_ascii}
use Rattle.mad_term.specs.Commands.{command_bytes, move_to_bytes}
use Rattle.mad_screen.specs.Glyph.{Glyph, Look}
use Rattle.mad_screen.specs.Grid.{Grid, IsGrid, painted, put_list, blank, cell_at}
use Rattle.mad_screen.specs.Terminal.{Leads, resting, perform, restyled, erased, space_of, after_bytes}
use Rattle.mad_screen.specs.Painting.{HasColumns}
use Rattle.mad_screen.specs.TerminalLaws.{PaintsPositions}
use Rattle.mad_screen.proofs.AsciiCommands.{AreSmall, ascii_command, ascii_move_to}
use Rattle.mad_screen.proofs.Reading.{AreReadable, IsLetter, command_leads, move_leads, letter_sgr}
use Rattle.mad_screen.proofs.Paints.{read_leads}
use Rattle.mad_screen.proofs.DrawingLemmas.{painted_rows_show}

small_from_readable : (ns : List ℕ) → AreReadable ns → AreSmall ns
small_from_readable [] h = tt
small_from_readable (n ∷ ns) h = (omega (arith, h.0), small_from_readable ns h.1)

ascii_read : (g new : Grid) (bytes : List ℕ) → IsAscii bytes → Leads (resting g) bytes (resting new) → after_bytes g bytes ≡ Some new
ascii_read g new bytes ascii h =
    read_leads g new bytes (IsUtf8-from_ascii bytes ascii) (subst (λ (cs : List ℕ). Leads (resting g) cs (resting new)) (sym (chars-IsAscii bytes ascii)) h)

-- a command by its letter and its numbers
pub command_read : (g new : Grid) (ns : List ℕ) (letter : ℕ) → AreReadable ns → IsLetter letter → letter < 128 → perform letter ns g ≡ Some new → after_bytes g (command_bytes ns letter) ≡ Some new
command_read g new ns letter small is low done =
    ascii_read g new (command_bytes ns letter) (ascii_command ns letter (small_from_readable ns small) low) (command_leads g new ns letter small is done)

-- after the move to a position on the screen the cursor is there
pub move_read : (g : Grid) (x y : ℕ) → x < g.width → y < g.height → x < 2 ^ 16 → y < 2 ^ 16 → after_bytes g (move_to_bytes x y) ≡ Some (record g { x = x; y = y })
move_read g x y in_width in_height small_x small_y =
    ascii_read g (record g { x = x; y = y }) (move_to_bytes x y) (ascii_move_to x y (omega arith) (omega arith)) (move_leads g x y in_width in_height (omega arith) (omega arith))

-- a command that changes the pen
pub sgr_read : (g : Grid) (ns : List ℕ) (p : Look) → AreReadable ns → restyled ns g.pen ≡ Some p → after_bytes g (command_bytes ns 109) ≡ Some (record g { pen = p })
sgr_read g ns p small e = command_read g (record g { pen = p }) ns 109 small letter_sgr (lit< tt) (ap (option_map (λ q. record g { pen = q })) e)

-- painted cells at their positions
pub paints_positions : (g : Grid) (cells : List Glyph) → HasColumns g (length cells) → PaintsPositions g cells
unfolding painted
paints_positions g cells h = record {
  positions = painted_rows_show (cells ∷ []) g g.x g.y (length cells) (refl, tt) h.grid h.columns (omega (arith, h.row));
  column = refl;
  row = refl;
  pen = refl;
}

-- a position after erasing
pub erased_position : (g : Grid) (from to x y : ℕ) → IsGrid g → x < g.width → y < g.height → cell_at (erased from to g) x y ≡ cond (leb from (y * g.width + x) && ltb (y * g.width + x) to) (space_of g.pen) (cell_at g x y)
unfolding erased
erased_position g from to x y h in_width in_height =
    let i = y * g.width + x in
    let below : i < length g.cells = omega (arith, h.full, row_fits y g.width g.height g.width in_height (omega arith)) in
    ⊎_elim
    (λ (before : i < from). missed i (grind (arith, nat_tests)) (inl before))
    (λ (reached : from ≤ i). ⊎_elim
    (λ (inside : i < to). covered i below reached inside (grind (arith, nat_tests)))
    (λ (past : to ≤ i). missed i (grind (arith, nat_tests)) (inr (omega arith)))
    (cases_lt i to))
    (cases_lt i from)
  where
    missed : (i : ℕ) → (leb from i && ltb i to) ≡ false → (i < from) ⊎ (from + (to - from) ≤ i) → get_or (put_list g.cells from (replicate (to - from) (space_of g.pen))) i blank ≡ cond (leb from i && ltb i to) (space_of g.pen) (get_or g.cells i blank)
    missed i test out =
        let count : length (replicate (to - from) (space_of g.pen)) ≡ to - from = length-replicate (to - from) (space_of g.pen) in
        put_list-other g.cells from (replicate (to - from) (space_of g.pen)) i blank (⊎_elim (λ a. inl a) (λ a. inr (omega arith)) out)
        ∙ sym (ap (λ b. cond b (space_of g.pen) (get_or g.cells i blank)) test)

    covered : (i : ℕ) → i < length g.cells → from ≤ i → i < to → (leb from i && ltb i to) ≡ true → get_or (put_list g.cells from (replicate (to - from) (space_of g.pen))) i blank ≡ cond (leb from i && ltb i to) (space_of g.pen) (get_or g.cells i blank)
    covered i below reached inside test =
        let space : Glyph = space_of g.pen in
        let n = min to (length g.cells) - from in
        let count : length (replicate n space) ≡ n = length-replicate n space in
        let place : i ≡ from + (i - from) = omega arith in
        ap (λ l. get_or l i blank) (sym (put_same-cut g.cells from to space))
        ∙ ap (λ j. get_or (put_list g.cells from (replicate n space)) j blank) place
        ∙ put_list-same g.cells from (replicate n space) (i - from) blank (omega arith) (omega arith)
        ∙ get_or-replicate n (i - from) space blank (omega arith)
        ∙ sym (ap (λ b. cond b space (get_or g.cells i blank)) test)
