use Rattle.std.proofs.Common.{◌≡◌, ℕ, ◌+◌, ◌-◌, ◌≤◌, Option, length, get_or, ap, sym, ◌∙◌, subst, arith}
use Rattle.std.specs.Prelude.{IfSome}
use Rattle.std.proofs.lemmas.Bool.{leb-true}
use Rattle.std.proofs.lemmas.List.{get_or_read}
use Rattle.mad_screen.specs.Glyph.{Glyph, Look}
use Rattle.mad_screen.specs.Grid.{blank}
use Rattle.mad_screen.specs.Pictures.{cell_text}
use Rattle.mad_frames.specs.Bound.{longest_move}
use Rattle.mad_frames.specs.RunBytes.{EndsGap, pen_bytes, pen_before, pieces_to}
use Rattle.mad_frames.proofs.BoundLemmas.{some_of, before_at, free_cell}
use Rattle.mad_frames.proofs.runs.next_in_run.Goals as goal

pub returns : goal.returns
returns c =
    let old = c.args.old.now in
    let new = c.args.new.now in
    let next = c.change_start-next in
    let all : c.loop-i.i ≡ next.result = omega arith in
    let ends : c.loop-i.spent ≤ c.move_bytes.result → EndsGap old new c.args.end next.result = λ fits. record {
      after = next.ensures.after;
      within = omega arith;
      head = next.ensures.head (omega arith);
      begins = next.ensures.changed (omega arith);
      gap = subst (λ (n : ℕ). pieces_to new n ≤ pieces_to new c.args.end + longest_move) all (omega (arith, c.loop-i.invariant (omega (arith, c.move_bytes.ensures)), c.move_bytes.ensures));
    } in
    subst (λ (o : Option ℕ). IfSome o (EndsGap old new c.args.end)) (sym c.then_some.ensures) (some_of _ next.result (EndsGap old new c.args.end) (λ t. ends (leb-true _ _ t)))

pub loop-i-preserved : goal.loop-i-preserved
loop-i-preserved c = λ small.
    let new = c.args.new.now in
    let i = c.loop-i.i in
    let before : c.index-new-i.result ≡ get_or new (i - 1) blank = get_or_read new (i - 1) c.index-new-i.result (omega arith) c.index-new-i.is blank in
    let cell : c.index-new-i-in-loop-i.result ≡ get_or new i blank = get_or_read new i c.index-new-i-in-loop-i.result (omega arith) c.index-new-i-in-loop-i.is blank in
    let same : c.index-new-i-in-loop-i-2.result ≡ get_or new i blank = get_or_read new i c.index-new-i-in-loop-i-2.result (omega arith) c.index-new-i-in-loop-i-2.is blank in
    let free : pen_bytes (pen_before new i) (get_or new i blank).pen ≡ 0 =
    ap (λ (g : Glyph). pen_bytes (pen_before new i) g.pen) (sym cell) ∙ ap (λ (p : Look). pen_bytes p c.index-new-i-in-loop-i.result.pen) (before_at new i (omega arith) ∙ ap (λ (g : Glyph). g.pen) (sym before))
    ∙ c.is_free.ensures c.if-not-is_free.false in
    let text : length (cell_text c.index-new-i-in-loop-i-2.result) ≡ length (cell_text (get_or new i blank)) = ap (λ (g : Glyph). length (cell_text g)) same in
    omega (arith, small, c.loop-i.invariant (omega (arith, small)), free_cell new i free, text, c.text_bytes.ensures (omega (arith, small)))
