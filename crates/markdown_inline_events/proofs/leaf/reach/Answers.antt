use Rattle.std.proofs.Common.{◌<◌, ◌≤◌, ℕ, List, length, map, get_or, sym, ap, arith}
use Rattle.std.proofs.lemmas.List.{length-map}
use Rattle.markdown_marks.specs.declared.rest.Rest.{Rest}
use Rattle.markdown_marks.specs.Remaining.{remaining}
use Rattle.markdown_inline_events.proofs.LeafLemmas.{line_bytes, next_reached, no_rest, reached_here, reached_past}
use Rattle.markdown_inline_events.proofs.leaf.reach.Goals as goal

pub returns-then-place-reached-clause-place : goal.returns-then-place-reached-clause-place
returns-then-place-reached-clause-place c =
    let lines : List Rest = c.args.lines.now in
    let line : ℕ = c.loop-reached.reached.line in
    let here : line < length lines = c.loop-reached-test.true in
    let bytes = ap length (line_bytes lines line no_rest here) in
    reached_here (map remaining lines) line c.loop-reached.reached.before c.args.place (remaining no_rest) (omega (arith, length-map lines remaining, here)) c.loop-reached.invariant.reached c.loop-reached.invariant.behind (omega (arith, bytes, c.if-place-reached.true))

pub loop-reached-preserved : goal.loop-reached-preserved
loop-reached-preserved c =
    let lines : List Rest = c.args.lines.now in
    let line : ℕ = c.loop-reached.reached.line in
    let here : line < length lines = c.loop-reached-test.true in
    let len : ℕ = length (get_or lines line no_rest).bytes.now in
    record {
      reached = next_reached (map remaining lines) line c.loop-reached.reached.before len (remaining no_rest) (omega (arith, length-map lines remaining, here)) (sym (ap length (line_bytes lines line no_rest here))) c.loop-reached.invariant.reached;
      behind = omega (arith, c.if-place-reached.false, c.loop-reached.invariant.behind);
    }

pub returns-clause-place : goal.returns-clause-place
returns-clause-place c =
    let lines : List Rest = c.args.lines.now in
    let past : length (map remaining lines) ≤ c.loop-reached.reached.line = omega (arith, length-map lines remaining, c.loop-reached-test.false) in
    reached_past (map remaining lines) c.loop-reached.reached.line c.loop-reached.reached.before c.args.place past c.loop-reached.invariant.reached c.loop-reached.invariant.behind
