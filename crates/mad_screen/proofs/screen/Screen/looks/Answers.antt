use Rattle.std.proofs.Common.{◌≡◌, [], map, ap, sym, ◌∙◌, arith, vec_len}
use Rattle.std.proofs.lemmas.List.{length-map, map-append, take_all}
use Rattle.mad_screen.specs.Glyph.{Glyph, look_of}
use Rattle.mad_screen.specs.Pictures.{gets_letter, with_letter, lettered}
use Rattle.mad_screen.proofs.LooksLemmas.{lettered_more, letter_given, letter_refused, gets_if_left}
use Rattle.mad_screen.proofs.screen.Screen.looks.Goals.{then-gets_letter+in_ok-push, else-gets_letter}
use Rattle.mad_screen.proofs.screen.Screen.looks.Goals as goal

pub loop-cell-preserved : goal.loop-cell-preserved
loop-cell-preserved c =
    let known = map look_of c.loop-cell.pens.items in
    let pen = look_of c.cell.inside.pen in
    let seen : c.cell-item.result.pen ≡ pen = ap (λ (g : Glyph). g.pen) (sym c.cell.view_is) in
    let more = lettered_more c.cells-cell-items.result.now c.loop-cell.cell-index _ c.loop-cell-test.true c.cell-item.is ∙ ap (λ pens. with_letter pens c.cell-item.result.pen) (sym c.loop-cell.invariant.1) ∙ ap (with_letter known) seen in
    let asked = c.gets_letter.ensures ∙ ap (λ pens. gets_letter (map look_of pens) pen) c.deref.ensures.value in
    elim c.if-gets_letter.branch [
      | then-gets_letter+in_ok-push w ↦
          let given = sym asked ∙ w.if-gets_letter.true in
          let pushed = w.in_ok-push.ensures in (
            omega (arith, gets_if_left known pen given, length-map c.loop-cell.pens.items look_of, pushed.len, ap (λ pens. vec_len pens) w.pens-is),
            ap (λ pens. map look_of pens.items) w.pens-is ∙ ap (map look_of) pushed.items ∙ map-append look_of c.loop-cell.pens.items _ ∙ sym (more ∙ letter_given known pen given),
          )
      | else-gets_letter w ↦ (
        omega (arith, c.loop-cell.invariant.0, ap (λ pens. vec_len pens) w.pens-is),
        ap (λ pens. map look_of pens.items) w.pens-is ∙ sym (more ∙ letter_refused known pen (sym asked ∙ w.if-gets_letter.false)),
      )
    ]

pub returns-clause-pens : goal.returns-clause-pens
returns-clause-pens c =
    c.loop-cell.invariant.1 ∙ ap (lettered []) (take_all c.loop-cell.cell-index c.cells-cell-items.result.now c.loop-cell-test.false ∙ c.cells-cell-items.ensures)
