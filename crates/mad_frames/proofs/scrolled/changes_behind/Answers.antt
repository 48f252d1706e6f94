use Rattle.std.proofs.Common.{◌≡◌, ◌*◌, ◌<◌, [], length, string_bytes, ap, sym, ◌∙◌, rules, arith}
use Rattle.mad_screen.specs.Grid.{Grid}
use Rattle.mad_frames.specs.Changes.{SameSize, RowsOf}
use Rattle.mad_frames.specs.Mending.{mended, mended_row}
use Rattle.mad_frames.specs.Scrolling.{gone, row_from, row_or_blank}
use Rattle.mad_frames.proofs.HalfwayLemmas.{none_leads, row_done, all_leads, row_length}
use Rattle.mad_frames.proofs.MendLemmas.{mended_full, mended_length}
use Rattle.mad_frames.proofs.ScrollLemmas.{from_length, from_within, gone_full, gone_rows_of}
use Rattle.mad_frames.proofs.scrolled.changes_behind.Goals as goal

pub loop-y-init : goal.loop-y-init
loop-y-init c =
    let empty : string_bytes c.new-out.result ≡ [] = search rules in
    let first : 0 * c.args.new.now.width ≡ 0 = omega arith in
    none_leads (gone c.args.scroll c.args.rows (mended c.args.old.now)) (mended c.args.new.now) (0 * c.args.new.now.width) (string_bytes c.new-out.result) first empty

pub push_mended_row-requires-clause-same_length : goal.push_mended_row-requires-clause-same_length
push_mended_row-requires-clause-same_length c =
    let old = c.args.old.now in
    let new = c.args.new.now in
    let below : c.loop-y.y < new.height = search rules in
    let a : c.row_or_blank-row.result.now ≡ row_or_blank old (row_from c.args.scroll c.args.rows c.loop-y.y) = c.row_or_blank-row.ensures ∙ ap (row_or_blank old) c.row_from.ensures in
    ap length a
    ∙ from_length old (row_from c.args.scroll c.args.rows c.loop-y.y) c.width.ensures.full (from_within c.args.scroll c.args.rows old.height c.loop-y.y c.requires.rows (omega (arith, below, c.requires.size.height)))
    ∙ c.requires.size.width ∙ sym (ap length c.row.ensures ∙ row_length new.cells c.loop-y.y new.width new.height below c.width-2.ensures.full)

pub loop-y-preserved : goal.loop-y-preserved
loop-y-preserved c =
    let old = c.args.old.now in
    let new = c.args.new.now in
    let y = c.loop-y.y in
    let a = c.row_or_blank-row.result.now in
    let b = c.row.result.now in
    let there : Grid = gone c.args.scroll c.args.rows (mended old) in
    let below : y < new.height = search rules in
    let rows : RowsOf there (mended new) y (mended_row a) (mended_row b) =
    gone_rows_of c.args.scroll c.args.rows old new y a b c.requires.size c.width.ensures.full c.width-2.ensures.full c.requires.rows below (c.row_or_blank-row.ensures ∙ ap (row_or_blank old) c.row_from.ensures) c.row.ensures in
    row_done there (mended new) y (length b) (mended_row a) (mended_row b) (string_bytes c.loop-y.out) (string_bytes c.push_mended_row.new.out) rows (sym (mended_length 0 b)) c.in_ok-push_mended_row.ensures.leads c.loop-y.invariant

pub returns : goal.returns
returns c =
    let old = c.args.old.now in
    let new = c.args.new.now in
    let there : Grid = gone c.args.scroll c.args.rows (mended old) in
    let size : SameSize old new = c.requires.size in
    let end : c.loop-y.y ≡ new.height = search rules in
    let place : old.height * old.width ≡ new.height * new.width = ap (λ h. h * old.width) size.height ∙ ap (λ w. new.height * w) size.width in
    let cells : length there.cells ≡ length (mended new).cells =
    gone_full c.args.scroll c.args.rows (mended old) (mended_full old c.width.ensures.full) c.requires.rows ∙ place ∙ sym (mended_full new c.width-2.ensures.full) in
    let all : length (mended new).cells ≡ c.loop-y.y * new.width = mended_full new c.width-2.ensures.full ∙ ap (λ n. n * new.width) (sym end) in
    all_leads there (mended new) (c.loop-y.y * new.width) (string_bytes c.loop-y.out) (record { width = size.width; height = size.height }) cells (omega (arith, all)) c.loop-y.invariant
