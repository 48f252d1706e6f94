use Rattle.std.proofs.Common.{◌≡◌, List, ℕ, [], length, false}
use Rattle.mad_input.specs.Hearing.{quiet_input}
use Rattle.mad_pager.specs.Pagers.{IsOrderlyView, view_of}
use Rattle.termimad_page_run.specs.Runs.{AreTurns, moment}
use Rattle.termimad_page_run.proofs.program.turn_pages.Given as goal

-- the turns that were made so far
abbrev pub invariant-loop-turn : goal.invariant-loop-turn
invariant-loop-turn g l = record {
  blocks : List (List ℕ);
  count : length blocks ≡ l._turn;
  turns : AreTurns blocks (moment l.fn.pager quiet_input false (g.I.Source.seen l.fn.input) (g.O.Out.seen l.fn.out)) (moment l.pager l.terminal l.asks (g.I.Source.seen l.input) (g.O.Out.seen l.out));
  orderly : IsOrderlyView (view_of l.pager);
}
