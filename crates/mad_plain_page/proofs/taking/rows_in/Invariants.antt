use Rattle.std.proofs.Common.{◌≡◌, drop, map, take}
use Rattle.mad_plain.specs.Shown.{shown_of}
use Rattle.mad_plain_page.specs.PlainTexts.{painted_rows}
use Rattle.mad_plain_page.specs.Taking.{taking}
use Rattle.mad_plain_page.proofs.taking.rows_in.Given as goal

-- what is taken where the lines that are left come next is what is asked for
abbrev pub invariant-loop-line : goal.invariant-loop-line
invariant-loop-line l =
    taking l.taken (painted_rows l.fn.is_styled l.fn.width (map shown_of (drop l.line-index l.fn.lines)))
    ≡ take l.fn.count (drop l.fn.top (painted_rows l.fn.is_styled l.fn.width (map shown_of l.fn.lines)))
