use Rattle.std.proofs.Common.{◌≡◌, ◌-◌, ◌+◌, length, List, get_or, take, drop, refl, sym, ◌∙◌, rules, arith}
use Rattle.std.proofs.lemmas.List.{get_or_read, take_rest}
use Rattle.mad_screen.specs.Glyph.{Glyph}
use Rattle.mad_screen.specs.Grid.{blank}
use Rattle.mad_frames.specs.Mending.{mended_row, space_in}
use Rattle.mad_frames.specs.Whole.{tails_of}
use Rattle.mad_frames.proofs.MendSteps.{mended_tail, mended_character, mended_half, mended_now}
use Rattle.mad_frames.proofs.mending.mended_row.Goals.{then-tails-gt0+in_ok-copied+in_ok-push, else-tails-gt0+then-begins_whole+in_ok-copied-2+in_ok-push-2, else-tails-gt0+else-begins_whole+in_ok-space_in+in_ok-push-3}
use Rattle.mad_frames.proofs.mending.mended_row.Goals as goal

pub loop-i-preserved : goal.loop-i-preserved
loop-i-preserved c =
    let row = c.args.row.now in
    let i = c.loop-i.i in
    let n = c.loop-i.tails in
    let done : List Glyph = c.loop-i.cells.items in
    let g = c.index-row-i.result in
    let all = mended_row row in
    let after : List Glyph = take (length row - (i + 1)) (drop (i + 1) row) in
    let cell : g ≡ get_or row i blank = get_or_read row i g (omega arith) c.index-row-i.is blank in
    elim c.if-tails-gt0.branch [
      | then-tails-gt0+in_ok-copied+in_ok-push w ↦
          mended_now row done all c.if-tails-gt0.cells.items i (n - 1) c.if-tails-gt0.tails g (search rules) (search rules)
          (mended_tail row done all i n g c.loop-i-test.true cell (search rules) c.loop-i.invariant)
      | else-tails-gt0+then-begins_whole+in_ok-copied-2+in_ok-push-2 w ↦
          mended_now row done all c.if-tails-gt0.cells.items i (tails_of g.chars) c.if-tails-gt0.tails g (search rules) (search rules)
          (mended_character row done all after i n (tails_of g.chars) g c.loop-i-test.true cell (take_rest row (i + 1)) (omega arith) refl (sym w.begins_whole.ensures ∙ w.if-begins_whole.true) c.loop-i.invariant)
      | else-tails-gt0+else-begins_whole+in_ok-space_in+in_ok-push-3 w ↦
          mended_now row done all c.if-tails-gt0.cells.items i n c.if-tails-gt0.tails (space_in g.pen) (search rules) (search rules)
          (mended_half row done all after i n g (space_in g.pen) c.loop-i-test.true cell (take_rest row (i + 1)) (omega arith) refl (sym w.begins_whole.ensures ∙ w.if-begins_whole.false) c.loop-i.invariant)
    ]
