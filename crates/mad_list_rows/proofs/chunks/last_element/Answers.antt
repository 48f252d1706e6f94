use Rattle.std.proofs.Common.{◌≡◌, ◌∙◌, ◌<◌, ◌+◌, ◌-◌, ℕ, List, Some, length, take, arith, sym, subst, ap}
use Rattle.std.specs.Global.{Vec}
use Rattle.mad_list_rows.specs.Chunks.{all_of, last_of}
use Rattle.mad_list_rows.proofs.ChunkLemmas.{last_here}
use Rattle.mad_list_rows.proofs.chunks.last_element.Goals as goal

pub returns-in-Some : goal.returns-in-Some
returns-in-Some g c =
    let cs = c.args.chunks.now in
    let here = c.index-chunks-left.result in
    let k : ℕ = c.loop-left.left - 1 in
    let next : k + 1 ≡ c.loop-left.left = omega (arith, c.loop-left-test.true) in
    let there : k < length cs = omega (arith, c.loop-left.invariant.1, c.loop-left-test.true) in
    let is : last_of here.items ≡ Some c.in-Some.element.now = ap (λ (ys : List g.row.X.Denot). last_of ys) (sym c.deref.ensures.value) ∙ sym c.in-Some.ensures.value in
    let is_there = subst (λ (v : Vec g.row.X.Denot). last_of v.items ≡ Some c.in-Some.element.now) c.index-chunks-left.is is in
    sym (sym c.loop-left.invariant.0 ∙ ap (λ (n : ℕ). last_of (all_of (take n cs))) (sym next) ∙ last_here cs k here c.in-Some.element.now there is_there)
