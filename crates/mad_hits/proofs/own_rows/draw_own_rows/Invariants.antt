use Rattle.std.proofs.Common.{◌≡◌, map, option_map, take}
use Rattle.regex.specs.Strings.{regex_pattern}
use Rattle.mad_term.specs.Trace.{TookWith}
use Rattle.mad_plain_page.specs.StyledRows.{row_chars}
use Rattle.mad_hits.specs.OwnRows.{AreRowsDrawn}
use Rattle.mad_hits.proofs.own_rows.draw_own_rows.Given as goal

-- the rows so far were drawn, one in each row of the screen
abbrev pub invariant-loop-row : goal.invariant-loop-row
invariant-loop-row g l = record {
  at : l.y ≡ l.row-index;
  drawn : TookWith (g.O.Out.seen l.fn.out) (g.O.Out.seen l.out) (AreRowsDrawn l.style l.room (option_map (λ r. regex_pattern r.now) l.sought) 0 (map row_chars (take l.row-index l.rows)));
}
