use Rattle.std.proofs.Common.{◌≡◌, ◌∷◌, ◌+◌, ◌++◌, suc, take, drop, ap, sym, ◌∙◌, arith, append_assoc, append-nil, [], refl}
use Rattle.std.proofs.lemmas.Grind.{common_steps}
use Rattle.std.specs.Vec.Iter.{into_iter_items}
use Rattle.mad_blocks.proofs.TableLemmas.{moved_all, taken_more}
use Rattle.mad_blocks.proofs.table_layout.move_lines.Goals as goal

pub loop-done-preserved : goal.loop-done-preserved
loop-done-preserved c =
    let xs = into_iter_items c.args.rest.now in
    let n = c.loop-done._done in
    let e : n + 1 ≡ suc n = omega arith in
    let next : drop n xs ≡ c.in-Some.line ∷ into_iter_items c.next.new.self = sym c.loop-done.invariant.left ∙ c.in-Some.ensures.cases.0 in
    let more = taken_more xs n _ _ next in
    record {
      moved =
          c.in_ok-put_line.ensures ∙ ap (λ ls. ls ++ c.in-Some.line ∷ _) c.loop-done.invariant.moved ∙ append_assoc c.args.lines.now.items (take n xs) _
          ∙ ap (λ ls. c.args.lines.now.items ++ ls) (sym more.0) ∙ ap (λ k. c.args.lines.now.items ++ take k xs) (sym e);
      left = sym more.1 ∙ ap (λ k. drop k xs) (sym e);
    }

pub loop-done-init : goal.loop-done-init
loop-done-init c = record { moved = sym (append-nil c.args.lines.now.items); left = refl }

pub returns-in_default : goal.returns-in_default
returns-in_default c =
    let xs = into_iter_items c.args.rest.now in
    let over : into_iter_items c.loop-done.rest ≡ [] = grind (arith, common_steps) in
    let all = moved_all xs c.loop-done._done c.args.count (sym c.loop-done.invariant.left ∙ over) (omega arith) in
    record {
      moved = c.loop-done.invariant.moved ∙ ap (λ ls. c.args.lines.now.items ++ ls) all.0;
      left = sym c.in_default.ensures.items ∙ over ∙ sym all.1;
    }

pub returns : goal.returns
returns c =
    let xs = into_iter_items c.args.rest.now in
    let e : c.loop-done._done ≡ c.args.count = omega arith in
    record {
      moved = c.loop-done.invariant.moved ∙ ap (λ n. c.args.lines.now.items ++ take n xs) e;
      left = c.loop-done.invariant.left ∙ ap (λ n. drop n xs) e;
    }
