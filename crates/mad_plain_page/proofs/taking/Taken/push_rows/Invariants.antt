use Rattle.std.proofs.Common.{◌≡◌, ◌++◌, List, map}
use Rattle.std.specs.Vec.Iter.{into_iter_items}
use Rattle.mad_style.specs.declared.styled_chars.StyledChar.{StyledChar}
use Rattle.mad_plain.specs.Rows.{rows_by}
use Rattle.mad_plain.specs.Shown.{rest_of, shown_of}
use Rattle.mad_plain_page.specs.PlainTexts.{painted_row}
use Rattle.mad_plain_page.specs.Taking.{taking}
use Rattle.mad_plain_page.proofs.taking.Taken.push_rows.Given as goal

-- what is taken where the rows that are left come next is what was taken where all of them came next
abbrev pub invariant-loop-end : goal.invariant-loop-end
invariant-loop-end l =
    (more : List (List StyledChar)) → taking l.self (map (painted_row l.fn.is_styled) (rows_by l.at (into_iter_items l.end-iterator) (rest_of l.rest)) ++ more)
    ≡ taking l.fn.self (map (painted_row l.fn.is_styled) (rows_by 0 l.fn.ends.items (shown_of l.fn.line)) ++ more)
