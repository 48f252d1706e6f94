use Rattle.std.proofs.Common.{◌≡◌, ◌<◌, ◌≤◌, ◌++◌, ◌∷◌, ◌+◌, ◌∙◌, [], Bool, List, All, true, false, length, get_or, take, drop, arith, subst, sym, ap}
use Rattle.std.specs.Global.{Vec}
use Rattle.std.specs.List.{insert}
use Rattle.std.specs.List.Sorted.{IsPermutation, IsSortedBy}
use Rattle.std.proofs.lemmas.List.Sorted.{IsPermutation-insert, IsPermutation-to_front, IsPermutation-trans}
use Rattle.mad_list_rows.specs.declared.list_rows.ListRow.{ListRow}
use Rattle.mad_list_rows.specs.Answers.{IsStablySorted, Orders, by_content}
use Rattle.mad_list_rows.specs.Chunks.{all_of}
use Rattle.mad_list_rows.specs.Places.{IsPlaceOf}
use Rattle.mad_list_rows.proofs.ChunkLemmas.{part_within}
use Rattle.mad_list_rows.proofs.OrderLemmas.{on_ok, stably_inserted, weak_by_content}
use Rattle.mad_list_rows.proofs.PlaceLemmas.{chunk_sorted, place_in_all}
use Rattle.mad_list_rows.proofs.ordering.insert_in_order.Given.{Over}
use Rattle.mad_list_rows.proofs.ordering.insert_in_order.Goals as goal

-- the rows, with the row in its place
with_row : (g : Over) (c : goal.After-put_element g) → List (ListRow g.row.T.Denot)
with_row g c = insert (all_of c.args.chunks.now.items) (length (all_of (take c.chunk_of-chunk.result c.args.chunks.now.items)) + c.place_of-at.result) c.args.row

-- the row goes to its place
inserted : (g : Over) (c : goal.After-put_element g) (lt : g.row.T.Denot → g.row.T.Denot → Bool) → Orders g.O.RowOrder.compares c.args.order.now lt → IsStablySorted (by_content lt) (all_of c.args.chunks.now.items ++ c.args.row ∷ []) (with_row g c)
unfolding with_row
inserted g c lt o =
    let cs = c.args.chunks.now.items in
    let k = c.chunk_of-chunk.result in
    let at = c.place_of-at.result in
    let content = c.args.row.content in
    let d = c.index.result.now in
    let up = c.requires.in_order lt o in
    let same = c.as_slice.ensures.value in
    let there : k < length cs = subst (λ (ys : List (Vec (ListRow g.row.T.Denot))). k < length ys) same c.chunk_of-chunk.ensures.within in
    let parts = subst (λ (ys : List (Vec (ListRow g.row.T.Denot))). All (λ row. lt content row.content ≡ false) (all_of (take k ys)) × All (λ row. lt content row.content ≡ true) (all_of (drop (k + 1) ys))) same (c.chunk_of-chunk.ensures.placed lt o (subst (λ (ys : List (Vec (ListRow g.row.T.Denot))). IsSortedBy (by_content lt) (all_of ys)) (sym same) up)) in
    let here : c.as_slice-2.result.now ≡ (get_or cs k d).items = c.as_slice-2.ensures.value ∙ ap (λ (v : Vec (ListRow g.row.T.Denot)). v.items) c.index.ensures in
    let within : at ≤ length (get_or cs k d).items = subst (λ (ys : List (ListRow g.row.T.Denot)). at ≤ length ys) here c.place_of-at.ensures.within in
    let place = subst (λ (ys : List (ListRow g.row.T.Denot)). IsPlaceOf lt ys content at) here (c.place_of-at.ensures.placed lt o (subst (λ (ys : List (ListRow g.row.T.Denot)). IsSortedBy (by_content lt) ys) (sym here) (chunk_sorted lt cs k d there up))) in
    let room = part_within cs k d there in
    stably_inserted (by_content lt) (weak_by_content lt o.weak) (all_of cs) (length (all_of (take k cs)) + at) c.args.row (omega (arith, room, within)) up (place_in_all lt cs k at d content there within parts.0 place parts.1)

pub returns-clause-put : goal.returns-clause-put
unfolding with_row
returns-clause-put g c =
    let old = all_of c.args.chunks.now.items in
    let row = c.args.row in
    let P : List (ListRow g.row.T.Denot) → Type 0 = λ new. IsPermutation (old ++ row ∷ []) new × ((lt : g.row.T.Denot → g.row.T.Denot → Bool) → Orders g.O.RowOrder.compares c.args.order.now lt → IsStablySorted (by_content lt) (old ++ row ∷ []) new) in
    let at = length (all_of (take c.chunk_of-chunk.result c.args.chunks.now.items)) + c.place_of-at.result in
    on_ok c.put_element.result _ _ (λ is. subst P (sym is) (IsPermutation-trans (old ++ row ∷ []) (row ∷ old) (insert old at row) (IsPermutation-to_front old row) (IsPermutation-insert old at row), inserted g c)) c.put_element.ensures.put

pub returns-clause-in_order : goal.returns-clause-in_order
unfolding with_row
returns-clause-in_order g c =
    let P : List (ListRow g.row.T.Denot) → Type 0 = λ new. (lt : g.row.T.Denot → g.row.T.Denot → Bool) → Orders g.O.RowOrder.compares c.args.order.now lt → IsSortedBy (by_content lt) new in
    on_ok c.put_element.result _ _ (λ is. subst P (sym is) (λ lt o. (inserted g c lt o).order)) c.put_element.ensures.put
