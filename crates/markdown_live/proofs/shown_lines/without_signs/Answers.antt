use Rattle.std.proofs.Common.{◌≡◌, ℕ, ◌-◌, ◌∙◌, length, take, sym, ap, arith}
use Rattle.std.specs.List.{suffix_len}
use Rattle.markdown_live.specs.ShownLines.{is_sign}
use Rattle.markdown_live.proofs.SignLemmas.{leaves_stop, leaves_none}
use Rattle.markdown_live.proofs.shown_lines.without_signs.Goals as goal
use Rattle.markdown_live.proofs.shown_lines.without_signs.Goals.{then-loop-len-test+else-is_sign, else-loop-len-test}

pub returns : goal.returns
returns c =
    let bytes = c.args.line.now in
    let stops : c.loop-len.len ≡ length bytes - suffix_len is_sign bytes = elim c.loop-len-test.branch [
      | then-loop-len-test+else-is_sign w ↦ leaves_stop is_sign bytes c.loop-len.len (omega arith) c.loop-len.invariant.within (sym w.is_sign.ensures ∙ w.if-is_sign.false) c.loop-len.invariant.same
      | else-loop-len-test w ↦ leaves_none is_sign bytes c.loop-len.len (omega arith) c.loop-len.invariant.same
    ] in
    ap (λ (n : ℕ). take n bytes) stops
