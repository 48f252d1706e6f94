use Rattle.std.proofs.Common.{◌≡◌, get_or, ap, sym, ◌∙◌, arith}
use Rattle.std.proofs.lemmas.List.{get_or_read}
use Rattle.mad_screen.specs.Glyph.{Glyph, look_of}
use Rattle.mad_screen.specs.Grid.{blank, is_tail}
use Rattle.std.specs.Prelude.{◌&&◌}
use Rattle.mad_screen.specs.Pictures.{same_look}
use Rattle.mad_frames.proofs.MendSteps.{tails_step, tails_refused, tails_missing}
use Rattle.mad_frames.proofs.mending.begin_tails.Goals as goal

pub returns-then-i-cells : goal.returns-then-i-cells
returns-then-i-cells c = sym (tails_missing c.args.tails c.loop-i.i (look_of c.args.pen) c.args.cells.now c.loop-i-test.true c.if-i-cells.true) ∙ c.loop-i.invariant

pub returns-then-not-is_tail_in : goal.returns-then-not-is_tail_in
returns-then-not-is_tail_in c =
    let cell : c.index-cells-i.result ≡ get_or c.args.cells.now c.loop-i.i blank = get_or_read c.args.cells.now c.loop-i.i c.index-cells-i.result (omega arith) c.index-cells-i.is blank in
    sym (tails_refused c.args.tails c.loop-i.i (look_of c.args.pen) c.args.cells.now c.loop-i-test.true (omega arith)
    (ap (λ (g : Glyph). is_tail g && same_look g.pen (look_of c.args.pen)) (sym cell) ∙ sym c.is_tail_in.ensures ∙ c.if-not-is_tail_in.true)) ∙ c.loop-i.invariant

pub loop-i-preserved : goal.loop-i-preserved
loop-i-preserved c =
    let cell : c.index-cells-i.result ≡ get_or c.args.cells.now c.loop-i.i blank = get_or_read c.args.cells.now c.loop-i.i c.index-cells-i.result (omega arith) c.index-cells-i.is blank in
    tails_step c.args.tails c.loop-i.i (look_of c.args.pen) c.args.cells.now c.loop-i-test.true (omega arith)
    (ap (λ (g : Glyph). is_tail g && same_look g.pen (look_of c.args.pen)) (sym cell) ∙ sym c.is_tail_in.ensures ∙ c.if-not-is_tail_in.false) ∙ c.loop-i.invariant
