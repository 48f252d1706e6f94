use Rattle.std.proofs.Common.{◌≡◌, eqb, length, get_or, sym, ap, ◌∙◌, arith, false}
use Rattle.std.proofs.lemmas.List.{get_or_default}
use Rattle.std.proofs.lemmas.List.Sums.{prefix_len_is}
use Rattle.std.proofs.lemmas.Bool.{ne_eqb}
use Rattle.markdown_runs.proofs.text.count_front.Goals as goal

pub returns-then-d-c-clause-is : goal.returns-then-d-c-clause-is
returns-then-d-c-clause-is c =
    let xs = c.args.chars.now in
    let read : c.index-chars-index.result ≡ get_or xs c.loop-index.index 0 = c.index-chars-index.is ∙ get_or_default xs c.loop-index.index c.index-chars-index.result 0 c.loop-index-test.true in
    let stops : eqb (get_or xs c.loop-index.index 0) c.args.c ≡ false = ap (λ d. eqb d c.args.c) (sym read) ∙ ne_eqb _ _ c.if-d-c.true in
    sym (prefix_len_is (λ d. eqb d c.args.c) xs c.loop-index.index 0 (omega arith) c.loop-index.invariant (λ h. stops))

pub returns-clause-is : goal.returns-clause-is
returns-clause-is c =
    sym (prefix_len_is (λ d. eqb d c.args.c) c.args.chars.now (length c.args.chars.now) 0 (omega arith) (λ k h. c.loop-index.invariant k (omega arith)) (λ h. absurd (omega arith)))
