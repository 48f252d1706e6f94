use Rattle.std.proofs.Common.{◌≡◌, ◌<◌, ◌-◌, length, get_or, sym, ap, ◌∙◌, arith, false}
use Rattle.std.proofs.lemmas.List.{get_or_default}
use Rattle.std.proofs.lemmas.List.Sums.{suffix_len_is}
use Rattle.mad_edit_lines.specs.CharClasses.{is_of}
use Rattle.mad_edit_lines.proofs.words.CharClass.count_end.Goals as goal
use Rattle.mad_edit_lines.proofs.words.CharClass.count_end.Goals.{then-loop-rest-test+else-has, else-loop-rest-test}

pub returns-clause-is : goal.returns-clause-is
returns-clause-is c =
    let xs = c.args.chars.now in
    let stops : 0 < c.loop-rest.rest → is_of c.args.self (get_or xs (c.loop-rest.rest - 1) 0) ≡ false = λ some.
    elim c.loop-rest-test.branch [
      | then-loop-rest-test+else-has w ↦
          let within : c.loop-rest.rest - 1 < length xs = omega (arith, c.loop-rest.invariant.within) in
          let read : w.index-chars-rest.result ≡ get_or xs (c.loop-rest.rest - 1) 0 = w.index-chars-rest.is ∙ get_or_default xs (c.loop-rest.rest - 1) w.index-chars-rest.result 0 within in
          ap (is_of c.args.self) (sym read) ∙ sym w.has.ensures ∙ w.if-has.false
      | else-loop-rest-test w ↦ absurd (omega arith)
    ] in
    sym (suffix_len_is (is_of c.args.self) xs c.loop-rest.rest 0 c.loop-rest.invariant.within c.loop-rest.invariant.passes stops)
