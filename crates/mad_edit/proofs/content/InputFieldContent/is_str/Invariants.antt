use Rattle.std.proofs.Common.{◌≡◌, ◌++◌}
use Rattle.mad_edit.proofs.content.InputFieldContent.is_str.Given as goal

abbrev pub invariant-loop-c : goal.invariant-loop-c
invariant-loop-c l = l.self.text ≡ l.yielded ++ l.own
