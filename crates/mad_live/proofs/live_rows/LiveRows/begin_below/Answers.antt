use Rattle.std.proofs.Common.{refl}
use Rattle.mad_term.proofs.Exits.{refused_exit}
use Rattle.mad_live.proofs.CodeLemmas.{not_ok, on_err}
use Rattle.mad_live.proofs.StepLemmas.{stands_below}
use Rattle.mad_live.proofs.live_rows.LiveRows.begin_below.Goals as goal

pub returns-in_err-put_all-clause-begins : goal.returns-in_err-put_all-clause-begins
returns-in_err-put_all-clause-begins g c = record {
  wrote = refused_exit _ _ _ _ _ c.from_residual.ensures.1 c.in_err-put_all.ensures;
  leads = stands_below;
  fresh = not_ok _ _ _ c.from_residual.ensures.1;
  kept = on_err c.from_residual.result _ refl;
}

pub returns-clause-begins : goal.returns-clause-begins
returns-clause-begins g c = record { wrote = c.in_ok-put_all.ensures; leads = stands_below; fresh = (c.clear.ensures.items, refl); kept = tt }
