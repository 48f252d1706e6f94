use Rattle.std.specs.Borrow.{Bor}
use Rattle.clap.specs.Words.{Text}
use Rattle.std.proofs.lemmas.Result.{err_from_is_err_and}
use Rattle.termimad_command.proofs.ShowLemmas.{next_shown, next_unshown}
use Rattle.termimad_command.proofs.showing.show_texts.Goals as goal

pub returns-in_err-show_text : goal.returns-in_err-show_text
returns-in_err-show_text g c =
    let p = err_from_is_err_and c.from_residual.result c.from_residual.ensures.1 in
    rw (p.1, p.2) (next_unshown (λ (name : Bor Text). name.now) _ _ _ _ _ c.args.names.now c.loop-name.name-index _ _ _ _ c.loop-name-test.true
    c.in_err-show_text.ensures c.loop-name.invariant)

pub loop-name-preserved : goal.loop-name-preserved
loop-name-preserved g c =
    next_shown (λ (name : Bor Text). name.now) _ _ _ _ _ c.args.names.now c.loop-name.name-index _ _ _ c.loop-name-test.true
    c.in_ok-show_text.ensures c.loop-name.invariant
