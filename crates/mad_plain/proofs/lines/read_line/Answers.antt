use Rattle.std.proofs.Common.{◌≡◌, ◌∙◌, ap, sym, rules, eqb, false, arith}
use Rattle.std.proofs.lemmas.Bool.Decides.{nat_tests}
use Rattle.mad_plain.specs.Lines.{strikes_after}
use Rattle.mad_plain.specs.Shown.{shown_so_far}
use Rattle.mad_plain.proofs.LineLemmas.{on_skip, on_command, on_struck, on_char, line_whole}
use Rattle.mad_plain.proofs.lines.read_line.Goals as goal

pub loop-c-preserved-then-skip-gt0 : goal.loop-c-preserved-then-skip-gt0
loop-c-preserved-then-skip-gt0 c = record {
  text = search rules;
  so_far = on_skip _ _ c.loop-c.place c.loop-c.skip c.in-Some.c _ _ c.if-skip-gt0.true c.in-Some.ensures.cases c.loop-c.invariant.so_far;
}

pub loop-c-preserved-then-command-ne0 : goal.loop-c-preserved-then-command-ne0
loop-c-preserved-then-command-ne0 c =
    let none : c.loop-c.skip ≡ 0 = omega (arith, c.if-skip-gt0.false) in
    let some : eqb c.command_at-command.result 0 ≡ false = grind (arith, nat_tests, c.if-command-ne0.true) in
    record {
      text = search rules;
      so_far = on_command _ _ c.loop-c.place c.loop-c.skip c.in-Some.c c.command_at-command.result c.in_ok-pen.pen _ _ none c.in-Some.ensures.cases c.command_at-command.ensures some c.in_ok-pen.ensures c.loop-c.invariant.so_far;
    }

pub loop-c-preserved-then-is_struck : goal.loop-c-preserved-then-is_struck
loop-c-preserved-then-is_struck c =
    let none : c.loop-c.skip ≡ 0 = omega (arith, c.if-skip-gt0.false) in
    record {
      text = search rules;
      so_far = on_struck _ _ c.loop-c.place c.loop-c.skip c.in-Some.c c.command_at-command.result c.strikes_after-now.result _ _ none c.in-Some.ensures.cases c.command_at-command.ensures c.if-command-ne0.false
          (sym c.if-is_struck.ensures) (c.strikes_after-now.ensures ∙ ap (strikes_after c.loop-c.place.now c.loop-c.place.before c.in-Some.c) c.second.ensures) c.loop-c.invariant.so_far;
    }

pub loop-c-preserved : goal.loop-c-preserved
loop-c-preserved c =
    let none : c.loop-c.skip ≡ 0 = omega (arith, c.if-skip-gt0.false) in
    record {
      text = search rules;
      so_far = on_char _ _ _ c.loop-c.place c.passed-place.result c.loop-c.skip c.in-Some.c c.command_at-command.result _ _ none c.in-Some.ensures.cases c.command_at-command.ensures c.if-command-ne0.false
          (sym c.if-is_struck.ensures) c.in_ok-push_shown.ensures c.passed-place.ensures c.loop-c.invariant.so_far;
    }

pub returns-clause-shown : goal.returns-clause-shown
returns-clause-shown c = c.in_ok-line.ensures.shown ∙ line_whole (shown_so_far c.loop-c.shown) _ c.loop-c.place c.loop-c.skip _ c.in_default.ensures.cases c.loop-c.invariant.so_far
