use Rattle.std.proofs.Common.{◌≡◌, ◌++◌, map, take, drop}
use Rattle.mad_style.specs.LineStyles.{line_in}
use Rattle.mad_layout.proofs.skin.MadSkin.set_headers_fg.Given as goal

-- the headers before this one have the color, the others are as they were
abbrev pub invariant-loop-header : goal.invariant-loop-header
invariant-loop-header l = l.header-items ≡ map (line_in l.fg) (take l.header-index l.fn.self.headers) ++ drop l.header-index l.fn.self.headers
