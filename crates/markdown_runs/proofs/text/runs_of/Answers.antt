use Rattle.std.proofs.Common.{[], ◌∷◌, ◌++◌, Vec, Global, ap, sym, ◌∙◌}
use Rattle.markdown_runs.specs.declared.text.Marks.{Marks}
use Rattle.markdown_runs.specs.Texts.{marks_at}
use Rattle.markdown_runs.proofs.TextLemmas.{found_more, none_more, marks_at-within}
use Rattle.markdown_runs.proofs.text.runs_of.Goals as goal
use Rattle.markdown_runs.proofs.text.runs_of.Goals.{in-Some+in_ok-push, in_default}

pub loop-start-preserved : goal.loop-start-preserved
loop-start-preserved c =
    let at = marks_at-within c.args.chars.now c.loop-start.start c.loop-start-test.true in
    elim c.match-marks_at.branch [
      | in-Some+in_ok-push w ↦
          ap (λ (v : Vec Marks Global). v.items) w.runs-is ∙ w.in_ok-push.ensures.items ∙ ap (λ l. l ++ w.in-Some.marks ∷ []) c.loop-start.invariant
          ∙ sym (found_more (marks_at c.args.chars.now) c.loop-start.start w.in-Some.marks (at ∙ sym w.in-Some.ensures))
      | in_default w ↦
          ap (λ (v : Vec Marks Global). v.items) w.runs-is ∙ c.loop-start.invariant
          ∙ sym (none_more (marks_at c.args.chars.now) c.loop-start.start (at ∙ sym c.marks_at.ensures ∙ w.in_default.is))
    ]
