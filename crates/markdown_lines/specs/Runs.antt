-- Runs of text in a row, in one text that is owned.
use Rattle.std.specs.Prelude.{ℕ, Bool, not, ◌&&◌, nat_le, nat_lt, List, map, length, slice_index, slice_range}
use Rattle.std.specs.List.{list_all}
use Rattle.mad_md.specs.Flagged.{Flags, Run}
use Rattle.markdown_lines.specs.declared.places.RunFlags.{RunFlags}
use Rattle.markdown_lines.specs.declared.places.RunPlace.{RunPlace}

-- the flags that a run has
abbrev pub flags_said : RunFlags → Flags
flags_said flags = record { bold = flags.bold; italic = flags.italic; code = flags.code; strikeout = flags.strikeout; link = flags.link; picture = flags.picture; picture_sign = flags.picture_sign }

-- the run at its place in a text
abbrev pub run_said : List ℕ → RunPlace → Run
run_said text place = record { flags = flags_said place.flags; text = slice_range text place.start place.end }

-- the runs at their places
unfoldable pub runs_said : List ℕ → List RunPlace → List Run
runs_said text places = map (run_said text) places

-- a character begins at a place of a text, or the text ends there
abbrev pub is_border : List ℕ → ℕ → Bool
is_border text at = nat_le at (length text) && not (nat_le 128 (slice_index text at) && nat_lt (slice_index text at) 192)

-- a run begins and ends between two characters
abbrev pub is_bordered : List ℕ → RunPlace → Bool
is_bordered text place = nat_le place.start place.end && is_border text place.start && is_border text place.end

-- so does each of them
unfoldable pub are_bordered : List ℕ → List RunPlace → Bool
are_bordered text places = list_all (is_bordered text) places
