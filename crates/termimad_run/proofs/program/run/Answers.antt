use Rattle.std.proofs.Common.{sym, ◌∙◌, subst, ◌⊎◌, ◌≡◌}
use Rattle.termimad_run.proofs.SkinWords.{done_call, skin_exit, refused_exit}
use Rattle.termimad_run.proofs.program.run.Goals as goal

pub returns-in-Ok-clause-refused : goal.returns-in-Ok-clause-refused
returns-in-Ok-clause-refused g c = λ asks. absurd (done_call _ _ _ c.in-Ok.ensures asks)

pub returns-in-Err-clause-skin : goal.returns-in-Err-clause-skin
returns-in-Err-clause-skin g c = λ e. skin_exit _ c.in-Err.failure _ _ c.in-Err.ensures (sym c.refuse.ensures.status ∙ e)

pub returns-in-Err-clause-refused : goal.returns-in-Err-clause-refused
returns-in-Err-clause-refused g c = λ asks. subst (λ n. (n ≡ 4) ⊎ (n ≡ 5)) (sym c.refuse.ensures.status) (refused_exit _ c.in-Err.failure _ _ c.in-Err.ensures asks)
