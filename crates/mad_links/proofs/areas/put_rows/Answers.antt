use Rattle.std.proofs.Common.{ℕ, List, subst}
use Rattle.mad_term.specs.Draws.{Draws}
use Rattle.mad_links.proofs.AreaLemmas.{parts_are}
use Rattle.mad_links.proofs.areas.put_rows.Goals as goal

pub returns : goal.returns
returns g c =
    subst (λ (t : List ℕ). Draws (g.O.Out.seen c.args.out.now) t c.put_parts.result (g.O.Out.seen c.put_parts.new.out))
    (parts_are (g.R.LinkedRows.pieces c.args.rows.now) (g.R.LinkedRows.addresses c.args.rows.now) c.args.area.now c.args.area.now.height) c.put_parts.ensures
