use Rattle.std.proofs.Common.{◌<◌, ◌∙◌, ◌++◌, ◌∷◌, [], sym, ap, arith, length}
use Rattle.std.specs.Prelude.{string_bytes}
use Rattle.std.proofs.lemmas.Option.{slice_get_within}
use Rattle.mad_md.specs.Flagged.{run_of, Flags}
use Rattle.markdown_lines.specs.Said.{said}
use Rattle.markdown_lines.specs.Steady.{steady_run}
use Rattle.markdown_lines.proofs.RunLemmas.{count_said}
use Rattle.markdown_lines.proofs.SteadyLemmas.{run_more, run_none}
use Rattle.markdown_lines.proofs.runs.Runs.steady.Goals as goal

pub overflow_add-index : goal.overflow_add-index
overflow_add-index c =
    let within : c.loop-run.index < length (said c.args.self.now) = slice_get_within (said c.args.self.now) c.loop-run.index (run_of c.in-Some.run') (sym c.in-Some.ensures) in
    omega (arith, within, count_said (string_bytes c.args.self.now.text) c.args.self.now.places.items, c.args.self.now.places.ok, c.args.self.now.places.small)

pub loop-run-smaller : goal.loop-run-smaller
loop-run-smaller c =
    let within : c.loop-run.index < length (said c.args.self.now) = slice_get_within (said c.args.self.now) c.loop-run.index (run_of c.in-Some.run') (sym c.in-Some.ensures) in
    omega (arith, within)

pub loop-run-preserved : goal.loop-run-preserved
loop-run-preserved c =
    run_more (said c.args.self.now) (said c.loop-run.made) (said c.push_steady.new.self) c.loop-run.index (run_of c.in-Some.run') (sym c.in-Some.ensures)
    (c.in_ok-push_steady.ensures ∙ ap (λ (f : Flags). said c.loop-run.made ++ steady_run (record { flags = f; text = c.in-Some.run'.src.now }) ∷ []) c.flags_of.ensures)
    ∙ c.loop-run.invariant

pub returns : goal.returns
returns c = sym (run_none (said c.args.self.now) (said c.loop-run.made) c.loop-run.index (sym c.in_default.ensures)) ∙ c.loop-run.invariant
