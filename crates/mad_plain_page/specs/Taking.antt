-- Rows that are taken from many.
use Rattle.std.specs.Prelude.{List, ◌++◌, drop, map, take}
use Rattle.mad_style.specs.declared.styled_chars.StyledChar.{StyledChar}
use Rattle.mad_plain_page.specs.StyledRows.{row_chars}
use Rattle.mad_plain_page.specs.declared.taking.Taken.{Taken}

-- those that were taken, and those that are taken yet where these rows come next and no others
abbrev pub taking : Taken → List (List StyledChar) → List (List StyledChar)
taking t more = map row_chars t.rows.items ++ take t.room (drop t.skip more)
