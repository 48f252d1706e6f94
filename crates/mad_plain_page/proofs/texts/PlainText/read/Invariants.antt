use Rattle.std.proofs.Common.{◌≡◌, ◌++◌, List, ℕ, Bor, map}
use Rattle.std.specs.Vec.Iter.{into_iter_items}
use Rattle.mad_plain.specs.Shown.{shown_of}
use Rattle.mad_plain_page.specs.PlainTexts.{lines_shown, shown_each}
use Rattle.mad_plain_page.proofs.texts.PlainText.read.Given as goal

-- what is shown of the lines so far, and of those that are left, is what the lines of the text show
abbrev pub invariant-loop-part : goal.invariant-loop-part
invariant-loop-part l = map shown_of l.lines.items ++ shown_each (map (λ (part : Bor (List ℕ)). part.now) (into_iter_items l.part-iterator)) ≡ lines_shown l.text
