use Rattle.std.proofs.Common.{◌≡◌, ℕ, ◌-◌, ◌∙◌, length, take, sym, ap, arith}
use Rattle.std.specs.List.{suffix_len}
use Rattle.mad_sections.specs.declared.gutters.Gutter.TheVariants.{Bar}
use Rattle.markdown_gutters.specs.Lists.{is_item}
use Rattle.markdown_gutters.proofs.GutterLemmas.{items_stop, items_none}
use Rattle.markdown_gutters.proofs.lists.up_to_bar.Goals as goal
use Rattle.markdown_gutters.proofs.lists.up_to_bar.Goals.{then-loop-len-test+else-is_item, else-loop-len-test}

pub returns : goal.returns
returns c =
    let gutters = c.args.gutters.now in
    let stops : length gutters - suffix_len is_item gutters ≡ c.loop-len.len = elim c.loop-len-test.branch [
      | then-loop-len-test+else-is_item w ↦ items_stop gutters c.loop-len.len Bar c.loop-len.invariant (omega arith) (sym w.is_item.ensures ∙ w.if-is_item.false)
      | else-loop-len-test w ↦ items_none gutters c.loop-len.len c.loop-len.invariant (omega arith)
    ] in
    ap (λ (n : ℕ). take n gutters) (sym stops)
