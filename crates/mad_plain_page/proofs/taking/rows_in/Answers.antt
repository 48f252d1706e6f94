use Rattle.std.proofs.Common.{◌+◌, ◌∷◌, ◌∙◌, ap, drop, map, sym}
use Rattle.std.proofs.lemmas.List.{drop_all, drop_more}
use Rattle.mad_plain.specs.Shown.{shown_of}
use Rattle.mad_plain.specs.declared.shown.PlainLine.{PlainLine}
use Rattle.mad_plain_page.proofs.TakeLemmas.{all_taken, line_taken}
use Rattle.mad_plain_page.proofs.taking.rows_in.Goals as goal

pub loop-line-preserved : goal.loop-line-preserved
loop-line-preserved c =
    let lines = c.args.lines.now in
    let i = c.loop-line.line-index in
    let line = c.line-item.result in
    line_taken c.args.is_styled c.args.width c.loop-line.taken c.push_line.new.self (shown_of line) (map shown_of (drop i lines)) (map shown_of (drop (i + 1) lines)) _
    (ap (map shown_of) (drop_more lines i line c.loop-line-test.true) ∙ ap (λ (l : PlainLine). shown_of l ∷ map shown_of (drop (i + 1) lines)) (sym c.line-item.is))
    c.in_ok-push_line.ensures c.loop-line.invariant

pub returns : goal.returns
returns c =
    let lines = c.args.lines.now in
    let i = c.loop-line.line-index in
    all_taken c.args.is_styled c.args.width c.loop-line.taken (map shown_of (drop i lines)) _ (ap (map shown_of) (drop_all i lines c.loop-line-test.false)) c.loop-line.invariant
