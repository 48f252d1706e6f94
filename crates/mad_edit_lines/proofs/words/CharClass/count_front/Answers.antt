use Rattle.std.proofs.Common.{◌≡◌, ◌<◌, length, get_or, sym, ap, ◌∙◌, arith, rules, false}
use Rattle.std.proofs.lemmas.List.{get_or_default}
use Rattle.std.proofs.lemmas.List.Sums.{prefix_len_is}
use Rattle.mad_edit_lines.specs.CharClasses.{is_of}
use Rattle.mad_edit_lines.proofs.words.CharClass.count_front.Goals as goal

pub returns-then-not-has-clause-is : goal.returns-then-not-has-clause-is
returns-then-not-has-clause-is c =
    let xs = c.args.chars.now in
    let within : c.loop-index.index < length xs = omega arith in
    let read : c.index-chars-index.result ≡ get_or xs c.loop-index.index 0 = c.index-chars-index.is ∙ get_or_default xs c.loop-index.index c.index-chars-index.result 0 within in
    let stops : is_of c.args.self (get_or xs c.loop-index.index 0) ≡ false = ap (is_of c.args.self) (sym read) ∙ sym c.has.ensures ∙ search rules in
    sym (prefix_len_is (is_of c.args.self) xs c.loop-index.index 0 (omega arith) c.loop-index.invariant (λ h. stops))

pub returns-clause-is : goal.returns-clause-is
returns-clause-is c = sym (prefix_len_is (is_of c.args.self) c.args.chars.now (length c.args.chars.now) 0 (omega arith) (λ k h. c.loop-index.invariant k (omega arith)) (λ h. absurd (omega arith)))
