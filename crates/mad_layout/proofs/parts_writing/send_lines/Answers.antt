use Rattle.std.proofs.Common.{[], string_bytes, refl}
use Rattle.std.proofs.lemmas.List.{append-nil}
use Rattle.mad_term.proofs.Traces.{stopped_before}
use Rattle.mad_term.specs.declared.errors.Error.TheVariants.{Memory}
use Rattle.mad_term.proofs.Traces.{took_none}
use Rattle.mad_layout.proofs.WrittenLemmas.{row_handed, row_refused}
use Rattle.mad_layout.proofs.parts_writing.send_lines.Goals as goal

pub loop-line-init : goal.loop-line-init
loop-line-init g c = ([], append-nil (string_bytes c.args.rows.now), took_none _)

pub loop-line-preserved : goal.loop-line-preserved
loop-line-preserved g c =
    row_handed c.args.skin.now c.args.width c.args.lines.now c.loop-line.line-index c.line-item.result (string_bytes c.args.rows.now) (string_bytes c.loop-line.rows) (string_bytes c.append_line.new.rows) (string_bytes c.send.new.rows) _ _ _
    c.loop-line-test.true c.line-item.is c.loop-line.invariant c.in_ok-append_line.ensures c.in_ok-send.ensures

pub returns-in_err-append_line : goal.returns-in_err-append_line
returns-in_err-append_line g c =
    row_refused c.args.skin.now c.args.width c.args.lines.now c.loop-line.line-index c.line-item.result (string_bytes c.args.rows.now) (string_bytes c.loop-line.rows) _ _ _ Memory _ _ _ c.loop-line-test.true c.line-item.is c.loop-line.invariant refl
    c.from_residual.ensures.1 (stopped_before _ _)

pub returns-in_err-send : goal.returns-in_err-send
returns-in_err-send g c =
    row_refused c.args.skin.now c.args.width c.args.lines.now c.loop-line.line-index c.line-item.result (string_bytes c.args.rows.now) (string_bytes c.loop-line.rows) (string_bytes c.append_line.new.rows) _ _ _ _ _ _ c.loop-line-test.true c.line-item.is c.loop-line.invariant c.in_ok-append_line.ensures
    c.from_residual-in_err-send.ensures.1 c.in_err-send.ensures
