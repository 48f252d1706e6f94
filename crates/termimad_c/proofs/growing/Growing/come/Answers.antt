use Rattle.std.proofs.Common.{◌≡◌, ◌++◌, ◌∙◌, ap, drop, length, not, rules, subst}
use Rattle.termimad_c.specs.Inputs.{IsTextSoFar}
use Rattle.termimad_c.proofs.PieceLemmas.{there}
use Rattle.termimad_c.proofs.GrowthLemmas.{came}
use Rattle.termimad_c.proofs.growing.Growing.come.Goals as goal

pub returns : goal.returns
returns c =
    let here = there c.args.self.now.live (c.is_none.ensures ∙ ap not c.if-is_none.false) in
    let shown = c.in_ok-show.ensures.shows here.0 here.1 in
    let all : c.in_ok-bytes.bytes.items ≡ c.args.self.now.begun.items ++ c.args.piece.now = search rules in
    let whole : c.deref-2.result.now ≡ c.in_ok-bytes.bytes.items = search rules in
    let behind : c.deref-3.result.now ≡ c.in_ok-bytes.bytes.items = search rules in
    came c.args.is_last c.args.self.now _ c.args.piece.now c.in_ok-bytes.bytes.items c.in_ok-text.text.now shown.0 here.0 here.1 all
    (subst (λ l. IsTextSoFar c.args.is_last l c.in_ok-text.text.now) whole c.in_ok-text.ensures)
    (c.in_ok-begun.ensures ∙ ap (λ l. drop (length c.in_ok-text.text.now) l) behind) shown.1 shown.2
