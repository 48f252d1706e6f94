use Rattle.std.proofs.Common.{length, string_bytes}
use Rattle.markdown_inlines.specs.Plain.{IsShownUpTo}
use Rattle.markdown_inlines.proofs.plain.push_shown.Given as goal

abbrev pub invariant-loop-c : goal.invariant-loop-c
invariant-loop-c l = IsShownUpTo (string_bytes l.fn.shown) (string_bytes l.shown) l.text l.rest

abbrev pub decreases-loop-c : goal.decreases-loop-c
decreases-loop-c l = length l.rest
