use Rattle.std.proofs.Common.{Option, Some, ap, option_map, subst, sym}
use Rattle.mad_pager.specs.Pagers.{Leaf, IsOverSettled, leaf_of}
use Rattle.mad_pager.specs.declared.session.Session.{Session}
use Rattle.mad_pager.proofs.PagerOrder.{leaf_with, settled_leaf}
use Rattle.mad_pager.proofs.pager.Pager.settle_over.Goals as goal

pub returns-in_ok-settle-in-Some-clause-over : goal.returns-in_ok-settle-in-Some-clause-over
returns-in_ok-settle-in-Some-clause-over c =
    let mid = c.settle.new.self in
    let new = c.show_choice.new.self in
    subst (λ (h : Option Session). IsOverSettled (option_map leaf_of h) (Some (leaf_of new))) (sym c.in-Some.is)
    (leaf_of mid, settled_leaf _ mid c.in_ok-settle-in-Some.ensures.text c.in_ok-settle-in-Some.ensures.settled, ap (λ (l : Leaf). Some l) (leaf_with mid new _ c.show_choice.ensures.text c.show_choice.ensures.shown))
