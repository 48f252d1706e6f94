use Rattle.std.proofs.Common.{◌≡◌, ◌+◌, ◌-◌, ◌∙◌, ℕ, List, Option, length, get_or, arith, sym, ap}
use Rattle.std.specs.Prelude.{min, option_map}
use Rattle.std.specs.Global.{Vec}
use Rattle.std.specs.Option.{option_or}
use Rattle.mad_list_rows.specs.declared.list_rows.ListRow.{ListRow}
use Rattle.mad_list_rows.specs.Chunks.{all_of}
use Rattle.mad_list_rows.specs.Selecting.{last_before}
use Rattle.mad_list_rows.proofs.ChunkLemmas.{part_within}
use Rattle.mad_list_rows.proofs.LastLemmas.{front_length, last_in_chunk}
use Rattle.mad_list_rows.proofs.finding.last_before.Goals as goal

pub returns-in-Some-clause-value : goal.returns-in-Some-clause-value
returns-in-Some-clause-value g c =
    let cs = c.args.chunks.now in
    let rows = c.as_slice-chunk.result.now in
    let i = c.loop-left.invariant in
    let count : c.min.result ≡ min (c.args.to - (c.loop-left.start - length rows)) (length rows) = c.min.ensures ∙ ap (λ (n : ℕ). min n (length rows)) c.saturating_sub.ensures in
    sym (sym i.1 ∙ last_in_chunk cs c.loop-left.left c.loop-left.start c.args.to c.min.result c.index-chunks-left.result rows c.loop-left-test.true i.2 c.index-chunks-left.is c.as_slice-chunk.ensures.value i.0 count
    ∙ ap (λ (o : Option ℕ). option_or (option_map (λ j. (c.loop-left.start - length rows) + j) o) (last_before (all_of cs) (min c.args.to (c.loop-left.start - length rows)))) (sym c.in-Some.ensures.value))

pub returns-in-Some-clause-within : goal.returns-in-Some-clause-within
returns-in-Some-clause-within g c =
    let cs = c.args.chunks.now in
    let rows = c.as_slice-chunk.result.now in
    let front = front_length cs c.loop-left.left c.loop-left.start c.index-chunks-left.result rows c.loop-left-test.true c.loop-left.invariant.2 c.index-chunks-left.is c.as_slice-chunk.ensures.value c.loop-left.invariant.0 in
    let part = part_within cs (c.loop-left.left - 1) c.index-chunks-left.result (omega (arith, c.loop-left-test.true, c.loop-left.invariant.2)) in
    let here : length rows ≡ length (get_or cs (c.loop-left.left - 1) c.index-chunks-left.result).items = ap (λ (ys : List (ListRow g.row.T.Denot)). length ys) c.as_slice-chunk.ensures.value ∙ ap (λ (v : Vec (ListRow g.row.T.Denot)). length v.items) c.index-chunks-left.is in
    omega (arith, front, part, here, c.in-Some.ensures.within)

pub loop-left-preserved : goal.loop-left-preserved
loop-left-preserved g c =
    let cs = c.args.chunks.now in
    let rows = c.as_slice-chunk.result.now in
    let i = c.loop-left.invariant in
    let front = front_length cs c.loop-left.left c.loop-left.start c.index-chunks-left.result rows c.loop-left-test.true i.2 c.index-chunks-left.is c.as_slice-chunk.ensures.value i.0 in
    let count : c.min.result ≡ min (c.args.to - (c.loop-left.start - length rows)) (length rows) = c.min.ensures ∙ ap (λ (n : ℕ). min n (length rows)) c.saturating_sub.ensures in
    let before : ℕ = c.loop-left.start - length rows in (
      omega (arith, front),
      ap (λ (o : Option ℕ). option_or (option_map (λ j. before + j) o) (last_before (all_of cs) (min c.args.to before))) c.in_default.ensures.value
          ∙ sym (last_in_chunk cs c.loop-left.left c.loop-left.start c.args.to c.min.result c.index-chunks-left.result rows c.loop-left-test.true i.2 c.index-chunks-left.is c.as_slice-chunk.ensures.value i.0 count)
          ∙ i.1,
      omega (arith, i.2),
    )
