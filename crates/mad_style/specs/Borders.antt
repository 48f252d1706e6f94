-- Sets of border characters.
use Rattle.std.specs.Prelude.{ℕ, List, Option, Some, None, codes, if◌then◌else◌}
use Rattle.std.specs.Str.{bytes_eq}
use Rattle.mad_style.specs.declared.borders.TableBorderChars.{TableBorderChars}

-- lines: ─ │ ┌ ┐ ┘ └ ┬ ┤ ┴ ├ ┼
abbrev pub standard_borders : TableBorderChars
standard_borders =
    record {
      horizontal = 0x2500;
      vertical = 0x2502;
      top_left_corner = 0x250C;
      top_right_corner = 0x2510;
      bottom_right_corner = 0x2518;
      bottom_left_corner = 0x2514;
      top_junction = 0x252C;
      right_junction = 0x2524;
      bottom_junction = 0x2534;
      left_junction = 0x251C;
      cross = 0x253C;
    }

-- hyphens, bars and, where they meet, plus signs
abbrev pub ascii_borders : TableBorderChars
ascii_borders =
    record {
      horizontal = 45;
      vertical = 124;
      top_left_corner = 43;
      top_right_corner = 43;
      bottom_right_corner = 43;
      bottom_left_corner = 43;
      top_junction = 43;
      right_junction = 43;
      bottom_junction = 43;
      left_junction = 43;
      cross = 43;
    }

-- lines with round corners: ╭ ╮ ╯ ╰
abbrev pub rounded_borders : TableBorderChars
rounded_borders =
    record standard_borders {
      top_left_corner = 0x256D;
      top_right_corner = 0x256E;
      bottom_right_corner = 0x256F;
      bottom_left_corner = 0x2570;
    }

-- the set of a name
abbrev pub borders_named : List ℕ → Option TableBorderChars
borders_named name =
    if bytes_eq name (codes "standard") then Some standard_borders
    else if bytes_eq name (codes "ascii") then Some ascii_borders
    else if bytes_eq name (codes "rounded") then Some rounded_borders
    else None
