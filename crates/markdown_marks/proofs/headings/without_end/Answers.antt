use Rattle.std.proofs.Common.{◌≡◌, ℕ, ◌-◌, ◌∙◌, length, take, sym, ap, arith}
use Rattle.std.specs.List.{suffix_len}
use Rattle.markdown_marks.specs.Headings.{is_either, without_end}
use Rattle.markdown_marks.proofs.EndLemmas.{leaves_stop, leaves_none}
use Rattle.markdown_marks.proofs.headings.without_end.Goals as goal
use Rattle.markdown_marks.proofs.headings.without_end.Goals.{then-loop-len-test+else-is_either, else-loop-len-test}

pub returns : goal.returns
unfolding without_end
returns c =
    let p = is_either c.args.first c.args.second in
    let bytes = c.args.bytes.now in
    let stops : c.loop-len.len ≡ length bytes - suffix_len p bytes = elim c.loop-len-test.branch [
      | then-loop-len-test+else-is_either w ↦ leaves_stop p bytes c.loop-len.len (omega arith) c.loop-len.invariant.within (sym w.is_either.ensures ∙ w.if-is_either.false) c.loop-len.invariant.same
      | else-loop-len-test w ↦ leaves_none p bytes c.loop-len.len (omega arith) c.loop-len.invariant.same
    ] in
    ap (λ (n : ℕ). take n bytes) stops
