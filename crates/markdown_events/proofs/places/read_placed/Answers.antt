use Rattle.std.proofs.Common.{◌≡◌, ℕ, List, [], length, ap, sym, ◌∙◌, arith}
use Rattle.std.proofs.lemmas.Bool.Decides.{nat_tests}
use Rattle.markdown_blocks.specs.Lines.{text_lines}
use Rattle.markdown_blocks.specs.Steps.{State, Step, line_of, state_of}
use Rattle.markdown_blocks.specs.declared.containers.Container.{Container}
use Rattle.markdown_events.specs.Places.{Placing, line_placed, placed_from, placing_of}
use Rattle.markdown_events.proofs.PlaceLemmas.{line_more, none_left, text_placed}
use Rattle.markdown_events.proofs.places.read_placed.Goals as goal

pub loop-rest-preserved : goal.loop-rest-preserved
loop-rest-preserved c =
    let number : ℕ = c.loop-rest.number in
    let state : State = state_of c.loop-rest.reader in
    let p : Placing = placing_of c.loop-rest.placer in
    let before : ℕ = length c.containers-before.result.now in
    let done : Step = record { state = state_of c.read_line.new.self; line = line_of c.in_ok-read.read } in
    record {
      few = omega (arith, c.loop-rest.invariant.few, c.cut_line.ensures.shorter);
      same = line_more number before state p (placing_of c.read.new.self) done c.cut_line.result.0.now (text_lines c.loop-rest.rest.now) (text_lines c.cut_line.result.1.now)
          c.cut_line.ensures.lines c.in_ok-read.ensures.ok (ap (λ (cs : List Container). length cs) c.containers-before.ensures)
          (c.in_ok-read-2.ensures ∙ ap (λ (cs : List Container). line_placed number before done.line cs p) c.containers.ensures)
          ∙ c.loop-rest.invariant.same;
    }

pub returns-clause-parts : goal.returns-clause-parts
unfolding text_lines
returns-clause-parts c =
    let state : State = state_of c.loop-rest.reader in
    let p : Placing = placing_of c.loop-rest.placer in
    let none : c.loop-rest.rest.now ≡ [] = none_left c.loop-rest.rest.now (grind (arith, nat_tests, c.is_empty.ensures, c.loop-rest-test.false)) in
    let same = sym (ap (λ (bytes : List ℕ). placed_from c.loop-rest.number state p (text_lines bytes)) none) ∙ c.loop-rest.invariant.same in
    c.into_parts.ensures
    ∙ (text_placed c.args.text.now c.loop-rest.number (length c.containers-2.result.now) state p (placing_of c.end.new.self) same (ap (λ (cs : List Container). length cs) c.containers-2.ensures) c.in_ok-end.ensures).0

pub returns-clause-lines : goal.returns-clause-lines
unfolding text_lines
returns-clause-lines c =
    let state : State = state_of c.loop-rest.reader in
    let p : Placing = placing_of c.loop-rest.placer in
    let none : c.loop-rest.rest.now ≡ [] = none_left c.loop-rest.rest.now (grind (arith, nat_tests, c.is_empty.ensures, c.loop-rest-test.false)) in
    let same = sym (ap (λ (bytes : List ℕ). placed_from c.loop-rest.number state p (text_lines bytes)) none) ∙ c.loop-rest.invariant.same in
    (text_placed c.args.text.now c.loop-rest.number (length c.containers-2.result.now) state p (placing_of c.end.new.self) same (ap (λ (cs : List Container). length cs) c.containers-2.ensures) c.in_ok-end.ensures).1
