-- The columns that the text has on a screen.
use Rattle.std.specs.Prelude.{ℕ, ◌+◌, ◌-◌, ◌*◌, ◌==◌, nat_lt, max, min, if◌then◌else◌}
use Rattle.mad_page_skin.specs.declared.text_room.TextRoom.{TextRoom}
use Rattle.mad_hits.specs.declared.rooms.RowRoom.{RowRoom}

-- the free columns on each side of the text on a screen of so many: none where fewer than 55 are left for it and the bar has its own
abbrev pub margin_at : TextRoom → ℕ → ℕ
margin_at room columns = if nat_lt (55 + 2 * room.margin) columns then room.margin else 0

-- no more columns than the most, which are at least 20, if there is a bound
abbrev pub bounded : ℕ → ℕ → ℕ
bounded most columns = if most == 0 then columns else min columns (max most 20)

-- the columns of the text, among so many that the bar leaves of a screen
abbrev pub room_width : TextRoom → ℕ → ℕ → ℕ
room_width room columns left = bounded room.columns (left - 2 * margin_at room columns)

-- where they are
abbrev pub room_on : TextRoom → ℕ → ℕ → RowRoom
room_on room columns left = record { left = margin_at room columns; end = margin_at room columns + room_width room columns left }
