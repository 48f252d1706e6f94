-- One line: nothing of it is lost.
use Rattle.std.proofs.Common.{◌≡◌, ℕ, ◌-◌, Bool, false, eqb, ◌&&◌, List, length}
use Rattle.markdown_marks.specs.Remaining.{Remaining, take_columns, whole}
use Rattle.markdown_blocks.specs.Containers.{Matched, Opens, matched, opened}
use Rattle.markdown_blocks.specs.Leaves.{is_bare, is_paragraph, going_on, leaf_start, margin}
use Rattle.markdown_blocks.specs.Steps.{State, Step, begun_line, joining_after, line_after, line_step, matched_line, step}
use Rattle.markdown_blocks.specs.declared.leaves.Going.{Going}
use Rattle.markdown_blocks.specs.declared.leaves.Going.TheVariants.{No, On, Last, Ends}
use Rattle.markdown_blocks.specs.KeptLines.{IsEndOf, KeepsLine, NothingIsLost}
use Rattle.markdown_blocks.proofs.FrontLemmas.{by_cond, end_then, matched_end, opened_end, take_end}
use Rattle.markdown_blocks.proofs.StartLemmas.{MayEnd, deed_alone, going_may, leaf_begun}

after_kept : (bytes : List ℕ) (state : State) (count : ℕ) (opens : Opens) → IsEndOf bytes opens.rest.bytes → KeepsLine bytes (line_after state count opens).line
after_kept bytes state count opens h =
    let joining = joining_after state count opens in
    let begun = leaf_begun joining opens.rest in
    let b = leaf_start joining opens.rest in
    record { text = end_then bytes opens.rest.bytes b.text.bytes h begun.text; alone = deed_alone joining state.cells b.text b.start begun.start }

begun_kept : (bytes : List ℕ) (state : State) (found : Matched) → IsEndOf bytes found.rest.bytes → KeepsLine bytes (begun_line state found).line
unfolding begun_line
begun_kept bytes state found h =
    let room = 64 - found.count in
    let here = is_paragraph state.leaf && eqb found.count (length state.containers) in
    after_kept bytes state found.count (opened room here found.rest) (end_then bytes found.rest.bytes (opened room here found.rest).rest.bytes h (opened_end room here found.rest))

matched_kept : (bytes : List ℕ) (going : Going) (state : State) (found : Matched) → IsEndOf bytes found.rest.bytes → MayEnd found.rest going → KeepsLine bytes (matched_line going state found).line
matched_kept bytes No state found h may = begun_kept bytes state found h
matched_kept bytes On state found h may = record { text = end_then bytes found.rest.bytes (take_columns (margin state.leaf) found.rest).bytes h (take_end (margin state.leaf) found.rest); alone = tt }
matched_kept bytes Last state found h may = record { text = end_then bytes found.rest.bytes (take_columns (margin state.leaf) found.rest).bytes h (take_end (margin state.leaf) found.rest); alone = tt }
matched_kept bytes Ends state found h may = record { text = h; alone = may }

line_kept : (bytes : List ℕ) (state : State) (found : Matched) → IsEndOf bytes found.rest.bytes → KeepsLine bytes (line_step state found).line
unfolding line_step
line_kept bytes state found h =
    by_cond (λ (s : Step). KeepsLine bytes s.line) (eqb found.count (length state.containers)) (matched_line (going_on state.leaf found.rest) state found) (begun_line state found)
    (λ k. matched_kept bytes (going_on state.leaf found.rest) state found h (going_may state.leaf found.rest)) (λ k. begun_kept bytes state found h)

-- no step loses anything of its line but blanks and signs
pub nothing_lost : NothingIsLost
unfolding step
nothing_lost state bytes =
    let found = matched (is_bare state.leaf) state.containers (whole bytes) in
    line_kept bytes state found (matched_end (is_bare state.leaf) state.containers (whole bytes))
