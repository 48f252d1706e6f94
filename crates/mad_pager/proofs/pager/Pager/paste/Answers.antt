use Rattle.mad_pager.specs.Pagers.{leaf_of}
use Rattle.mad_pager.proofs.PagerOrder.{pasted_below, pasted_over}
use Rattle.mad_pager.proofs.pager.Pager.paste.Goals as goal

pub returns-in_ok-paste-in-Some : goal.returns-in_ok-paste-in-Some
returns-in_ok-paste-in-Some c =
    pasted_over c.args.event _ _ c.paste.new.self (leaf_of c.args.self.now.text) c.in-Some.is c.in_ok-paste-in-Some.ensures.text c.in_ok-paste-in-Some.ensures.done

pub returns-in_ok-paste-in-None : goal.returns-in_ok-paste-in-None
returns-in_ok-paste-in-None c =
    pasted_below c.args.event c.args.self.now.over c.args.self.now.text c.paste-in-None.new.self c.in-None.is c.in_ok-paste-in-None.ensures.text c.in_ok-paste-in-None.ensures.done
