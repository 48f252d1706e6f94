use Rattle.std.proofs.Common.{◌≡◌, ◌*◌, ◌<◌, [], length, string_bytes, ap, sym, ◌∙◌, rules, arith}
use Rattle.mad_frames.specs.Changes.{SameSize, RowsOf}
use Rattle.mad_frames.specs.Mending.{mended, mended_row}
use Rattle.mad_frames.proofs.HalfwayLemmas.{none_leads, row_done, same_rows, all_leads}
use Rattle.mad_frames.proofs.MendLemmas.{mended_full, mended_length, mended_rows_of}
use Rattle.mad_frames.proofs.RowBytes.{row_bound, all_bound}
use Rattle.mad_frames.proofs.writing.mended_changes.Goals as goal

pub loop-y-init : goal.loop-y-init
loop-y-init c =
    let empty : string_bytes c.new-out.result ≡ [] = search rules in
    let first : 0 * c.args.new.now.width ≡ 0 = omega arith in
    record { leads = none_leads (mended c.args.old.now) (mended c.args.new.now) (0 * c.args.new.now.width) (string_bytes c.new-out.result) first empty; bound = omega (arith, ap length empty); same = λ _. empty }

pub loop-y-preserved : goal.loop-y-preserved
loop-y-preserved c =
    let old = c.args.old.now in
    let new = c.args.new.now in
    let y = c.loop-y.y in
    let a = c.row.result.now in
    let b = c.row-in-loop-y.result.now in
    let row : y < new.height = search rules in
    let rows : RowsOf (mended old) (mended new) y (mended_row a) (mended_row b) = mended_rows_of old new y a b c.requires.size c.width.ensures.full c.width-2.ensures.full row c.row.ensures c.row-in-loop-y.ensures in
    record {
      leads = row_done (mended old) (mended new) y (length b) (mended_row a) (mended_row b) (string_bytes c.loop-y.out) (string_bytes c.push_mended_row.new.out) rows (sym (mended_length 0 b)) c.in_ok-push_mended_row.ensures.leads c.loop-y.invariant.leads;
      bound = row_bound (mended old) (mended new) y (mended_row a) (mended_row b) (string_bytes c.loop-y.out) (string_bytes c.push_mended_row.new.out) rows c.in_ok-push_mended_row.ensures.bound c.loop-y.invariant.bound;
      same = λ e. c.in_ok-push_mended_row.ensures.same (rows.old_row ∙ same_rows (mended old) (mended new) y rows.size e ∙ sym rows.new_row) ∙ c.loop-y.invariant.same e;
    }

pub returns-clause-leads : goal.returns-clause-leads
returns-clause-leads c =
    let old = c.args.old.now in
    let new = c.args.new.now in
    let size : SameSize old new = c.requires.size in
    let end : c.loop-y.y ≡ new.height = search rules in
    let place : old.height * old.width ≡ new.height * new.width = ap (λ h. h * old.width) size.height ∙ ap (λ w. new.height * w) size.width in
    let cells : length (mended old).cells ≡ length (mended new).cells = mended_full old c.width.ensures.full ∙ place ∙ sym (mended_full new c.width-2.ensures.full) in
    let all : length (mended new).cells ≡ c.loop-y.y * new.width = mended_full new c.width-2.ensures.full ∙ ap (λ n. n * new.width) (sym end) in
    all_leads (mended old) (mended new) (c.loop-y.y * new.width) (string_bytes c.loop-y.out) (record { width = size.width; height = size.height }) cells (omega (arith, all)) c.loop-y.invariant.leads

pub returns-clause-bound : goal.returns-clause-bound
returns-clause-bound c =
    let old = c.args.old.now in
    let new = c.args.new.now in
    let size : SameSize old new = c.requires.size in
    let end : c.loop-y.y ≡ new.height = search rules in
    let place : old.height * old.width ≡ new.height * new.width = ap (λ h. h * old.width) size.height ∙ ap (λ w. new.height * w) size.width in
    let cells : length (mended old).cells ≡ length (mended new).cells = mended_full old c.width.ensures.full ∙ place ∙ sym (mended_full new c.width-2.ensures.full) in
    let all : c.loop-y.y * new.width ≡ length (mended new).cells = sym (mended_full new c.width-2.ensures.full ∙ ap (λ n. n * new.width) (sym end)) in
    all_bound (mended old) (mended new) (c.loop-y.y * new.width) (string_bytes c.loop-y.out) cells all c.loop-y.invariant.bound
