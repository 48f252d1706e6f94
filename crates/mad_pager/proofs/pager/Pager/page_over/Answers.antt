use Rattle.std.proofs.Common.{subst, sym}
use Rattle.mad_pager.specs.Pagers.{help_text, leaf_of, IsOverStart}
use Rattle.mad_pager.proofs.pager.Pager.page_over.Goals as goal

pub returns-in_ok-over-in-Help : goal.returns-in_ok-over-in-Help
unfolding help_text
returns-in_ok-over-in-Help c =
    subst (λ overlay. IsOverStart overlay (leaf_of c.args.self.now.text) (leaf_of c.in_ok-over-in-Help.over)) (sym c.in-Help.is) c.in_ok-over-in-Help.ensures

pub returns-in_ok-over-in-Links : goal.returns-in_ok-over-in-Links
returns-in_ok-over-in-Links c =
    subst (λ overlay. IsOverStart overlay (leaf_of c.args.self.now.text) (leaf_of c.in_ok-over-in-Links.over)) (sym c.in-Links.is) c.in_ok-over-in-Links.ensures
