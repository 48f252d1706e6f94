use Rattle.std.proofs.Common.{◌≡◌, ℕ, ◌-◌, min, ap, arith, ◌∙◌}
use Rattle.mad_page.specs.declared.page.Page.{Page}
use Rattle.mad_pager.proofs.following.put_on_top.Goals as goal

pub returns : goal.returns
returns c =
    let page = c.args.page.now in
    let same : min (c.min-number.result - 1) (page.height - 1) ≡ min c.args.row (page.height - 1) = omega (arith, c.min-number.ensures, c.saturating_add.ensures) in
    c.begin_at.ensures ∙ ap (λ (n : ℕ). let p : Page = record page { top = n } in p) same
