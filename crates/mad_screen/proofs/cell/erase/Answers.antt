use Rattle.std.proofs.Common.{◌≡◌, ℕ, ◌+◌, ◌-◌, ◌≤◌, ◌<◌, ⊎_elim, [], ◌∷◌, List, slice_set, replicate, ap, ◌∙◌, arith, length, min, length-set}
use Rattle.std.proofs.lemmas.Bool.{cases_lt}
use Rattle.mad_screen.specs.Glyph.{Glyph, Look, look_of}
use Rattle.mad_screen.specs.Grid.{put_list}
use Rattle.mad_screen.specs.Terminal.{space_of}
use Rattle.mad_screen.proofs.Finding.{same_more}
use Rattle.mad_screen.proofs.PutList.{put_same-cut}
use Rattle.mad_screen.proofs.cell.erase.Goals as goal

pub loop-at-preserved : goal.loop-at-preserved
loop-at-preserved c =
    let space : Glyph = space_of (look_of c.args.pen) in
    let written : c.set.new.self ≡ space = c.in_ok-set.ensures ∙ ap (λ (l : Look). let g : Glyph = record { chars = 32 ∷ []; pen = l } in g) c.loop-at.invariant.space in
    let n = c.loop-at.at - c.args.from in
    let here : c.loop-at.at ≡ c.args.from + n = omega arith in
    let more : n + 1 ≡ c.loop-at.at + 1 - c.args.from = omega arith in
    record {
      len = length-set c.loop-at.cells.items c.loop-at.at c.set.new.self ∙ c.loop-at.invariant.len;
      end = c.loop-at.invariant.end;
      erased = ap (λ (l : List Glyph). slice_set l c.loop-at.at c.set.new.self) c.loop-at.invariant.erased
          ∙ ap (λ (g : Glyph). slice_set (put_list c.args.cells.now.items c.args.from (replicate n space)) c.loop-at.at g) written
          ∙ ap (λ (i : ℕ). slice_set (put_list c.args.cells.now.items c.args.from (replicate n space)) i space) here
          ∙ same_more c.args.cells.now.items c.args.from n space
          ∙ ap (λ (i : ℕ). put_list c.args.cells.now.items c.args.from (replicate i space)) more;
      at_end = λ h. absurd (omega arith);
      space = c.loop-at.invariant.space;
    }

pub returns-clause-erased : goal.returns-clause-erased
returns-clause-erased c =
    let space : Glyph = space_of (look_of c.args.pen) in
    let end = c.min-end.result in
    let end_is : end ≡ min c.args.to (length c.args.cells.now.items) = c.loop-at.invariant.end in
    let count : c.loop-at.at - c.args.from ≡ min c.args.to (length c.args.cells.now.items) - c.args.from = ⊎_elim (λ (none : end < c.args.from). let at_is : c.loop-at.at ≡ c.args.from = c.loop-at.invariant.at_end none in omega arith) (λ (some : c.args.from ≤ end). let at_is : c.loop-at.at ≤ end = c.loop-at.auto.at-end some in omega arith) (cases_lt end c.args.from) in
    c.loop-at.invariant.erased ∙ ap (λ (i : ℕ). put_list c.args.cells.now.items c.args.from (replicate i space)) count ∙ put_same-cut c.args.cells.now.items c.args.from c.args.to space
