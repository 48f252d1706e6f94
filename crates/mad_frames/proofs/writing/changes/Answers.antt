use Rattle.std.proofs.Common.{◌≡◌, ◌*◌, ◌<◌, [], length, string_bytes, refl, ap, sym, ◌∙◌, rules, arith}
use Rattle.mad_frames.specs.Changes.{SameSize, RowsOf}
use Rattle.mad_frames.specs.Whole.{are_whole}
use Rattle.mad_frames.proofs.HalfwayLemmas.{none_leads, row_done, same_rows, all_leads}
use Rattle.mad_frames.proofs.RowBytes.{row_bound, all_bound}
use Rattle.mad_frames.proofs.writing.changes.Goals as goal

pub loop-y-init : goal.loop-y-init
loop-y-init c =
    let empty : string_bytes c.new-out.result ≡ [] = search rules in
    let first : 0 * c.args.new.now.width ≡ 0 = omega arith in
    record { leads = none_leads c.args.old.now c.args.new.now (0 * c.args.new.now.width) (string_bytes c.new-out.result) first empty; bound = λ _. omega (arith, ap length empty); same = λ _. empty }

pub loop-y-preserved : goal.loop-y-preserved
loop-y-preserved c =
    let old = c.args.old.now in
    let new = c.args.new.now in
    let y = c.loop-y.y in
    let size : SameSize old new = search rules in
    let cells : length old.cells ≡ length new.cells = search rules in
    let row : y < new.height = search rules in
    let rows : RowsOf old new y c.row.result.now c.row-in-loop-y.result.now = record { size = size; same = cells; full = c.width-2.ensures.full; row = row; old_row = c.row.ensures; new_row = c.row-in-loop-y.ensures } in
    record {
      leads = row_done old new y (length c.row-in-loop-y.result.now) c.row.result.now c.row-in-loop-y.result.now (string_bytes c.loop-y.out) (string_bytes c.push_row.new.out) rows refl c.in_ok-push_row.ensures.leads c.loop-y.invariant.leads;
      bound = λ h. row_bound old new y c.row.result.now c.row-in-loop-y.result.now (string_bytes c.loop-y.out) (string_bytes c.push_row.new.out) rows
          (c.in_ok-push_row.ensures.bound (ap are_whole c.row.ensures ∙ h y (omega (arith, size.height)))) (c.loop-y.invariant.bound h);
      same = λ e. c.in_ok-push_row.ensures.same (c.row.ensures ∙ same_rows old new y size e ∙ sym c.row-in-loop-y.ensures) ∙ c.loop-y.invariant.same e;
    }

pub returns-clause-leads : goal.returns-clause-leads
returns-clause-leads c =
    let old = c.args.old.now in
    let new = c.args.new.now in
    let size : SameSize old new = search rules in
    let cells : length old.cells ≡ length new.cells = search rules in
    let end : c.loop-y.y ≡ new.height = search rules in
    let all : length new.cells ≡ c.loop-y.y * new.width = c.width-2.ensures.full ∙ ap (λ n. n * new.width) (sym end) in
    all_leads old new (c.loop-y.y * new.width) (string_bytes c.loop-y.out) size cells (omega (arith, all)) c.loop-y.invariant.leads

pub returns-clause-bound : goal.returns-clause-bound
returns-clause-bound c = λ h.
    let old = c.args.old.now in
    let new = c.args.new.now in
    let cells : length old.cells ≡ length new.cells = search rules in
    let end : c.loop-y.y ≡ new.height = search rules in
    let all : c.loop-y.y * new.width ≡ length new.cells = sym (c.width-2.ensures.full ∙ ap (λ n. n * new.width) (sym end)) in
    all_bound old new (c.loop-y.y * new.width) (string_bytes c.loop-y.out) cells all (c.loop-y.invariant.bound h)
