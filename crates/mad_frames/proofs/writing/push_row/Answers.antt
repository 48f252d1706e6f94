use Rattle.std.proofs.Common.{◌≡◌, ℕ, ◌+◌, ◌≤◌, length, string_bytes, ap, ◌∙◌, subst, arith}
use Rattle.mad_term.specs.Commands.{move_to_bytes}
use Rattle.mad_screen.specs.Grid.{plain_pen}
use Rattle.mad_frames.specs.RunBytes.{most_to}
use Rattle.mad_frames.proofs.HalfwayLemmas.{cells_same, cells_written}
use Rattle.mad_frames.proofs.RowBytes.{run_bound, same_bound, all_most}
use Rattle.mad_frames.proofs.StyleBytes.{move_most}
use Rattle.mad_frames.proofs.WholeLemmas.{whole_between}
use Rattle.mad_frames.proofs.writing.push_row.Goals as goal

pub push_cells-requires : goal.push_cells-requires
push_cells-requires c =
    whole_between c.args.new.now c.change_start-start.result c.change_end-x.result plain_pen c.change_end-x.ensures.after c.change_end-x.ensures.within
    (c.change_start-start.ensures.head (omega (arith, c.if-start-new.true))) c.change_end-x.ensures.head c.requires.whole

pub loop-x-preserved-in-Continue-branch-2 : goal.loop-x-preserved-in-Continue-branch-2
loop-x-preserved-in-Continue-branch-2 c =
    let a = c.args.old.now in
    let b = c.args.new.now in
    let y = c.args.y in
    let s = c.change_start-start.result in
    let before = string_bytes c.args.out.now in
    let bytes = string_bytes c.loop-x.out in
    record {
      within = c.change_end-x.ensures.within;
      head = c.change_end-x.ensures.head;
      leads = cells_written a b y s c.change_end-x.result before bytes (string_bytes c.push_move.new.row) (string_bytes c.push_cells.new.out)
          c.change_end-x.ensures.after c.change_end-x.ensures.within (omega arith) (omega arith) c.in_ok-push_move.ensures c.in_ok-push_cells.ensures.paints
          (cells_same a b y c.loop-x.x s before bytes c.change_start-start.ensures.after c.change_start-start.ensures.within c.change_start-start.ensures.same c.loop-x.invariant.leads);
      bound = λ h. run_bound a b c.loop-x.x s c.change_end-x.result (length before) bytes (string_bytes c.push_move.new.row) (string_bytes c.push_cells.new.out) (move_to_bytes s y)
          c.change_end-x.ensures.after c.change_end-x.ensures.within c.change_start-start.ensures.after (c.change_end-x.ensures.paid h c.requires.whole) c.in_ok-push_move.ensures (move_most s y (omega arith) (omega arith)) c.in_ok-push_cells.ensures.bound (c.loop-x.invariant.bound h);
      same = λ e. absurd (omega (arith, c.if-start-new.true, c.change_start-start.ensures.none e));
    }

pub loop-x-preserved : goal.loop-x-preserved
loop-x-preserved c =
    record {
      within = c.change_start-start.ensures.within;
      head = c.change_start-start.ensures.head;
      leads = cells_same c.args.old.now c.args.new.now c.args.y c.loop-x.x c.change_start-start.result (string_bytes c.args.out.now) (string_bytes c.loop-x.out)
          c.change_start-start.ensures.after c.change_start-start.ensures.within c.change_start-start.ensures.same c.loop-x.invariant.leads;
      bound = λ h. same_bound c.args.old.now c.args.new.now c.loop-x.x c.change_start-start.result (length (string_bytes c.args.out.now)) (string_bytes c.loop-x.out) c.change_start-start.ensures.after (c.loop-x.invariant.bound h);
      same = c.loop-x.invariant.same;
    }

pub returns-clause-bound : goal.returns-clause-bound
returns-clause-bound c = λ h.
    let a = c.args.old.now in
    let b = c.args.new.now in
    let all : c.loop-x.x ≡ length b = omega (arith, c.loop-x.invariant.within) in
    subst (λ (m : ℕ). length (string_bytes c.loop-x.out) ≤ length (string_bytes c.args.out.now) + m) (ap (most_to a b) all ∙ all_most a b c.requires.same_length) (c.loop-x.invariant.bound h)
