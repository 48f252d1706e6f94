use Rattle.std.proofs.Common.{◌+◌, ◌*◌, ◌≤◌, Bool, rules, subst, sym}
use Rattle.mad_blocks.specs.Tables.{lengths_in, words_in, rows_among, AreKeptWidths}
use Rattle.mad_blocks.proofs.TableWidths.{kept_fitted, kept_whole}
use Rattle.mad_blocks.proofs.table_columns.fitted_widths.Goals as goal

pub returns-then-whole_words : goal.returns-then-whole_words
returns-then-whole_words c =
    let n = c.args.nbcols in
    let table = c.args.table.now in
    let wide : 4 * n + 1 ≤ c.args.width = c.requires in
    subst (λ (b : Bool). AreKeptWidths b n c.args.width table c.in_ok-fit_words.field-0.col_widths.items) (sym c.if-whole_words.true)
    (kept_whole n c.args.width table c.in_ok-fit_words.field-0 wide (search rules)
    (c.in_ok-fit_words.ensures c.args.width c.args.width (lengths_in n (rows_among table)) (words_in n (rows_among table)) c.in_ok-cells.ensures c.in_ok-words.ensures))

pub returns : goal.returns
returns c =
    let n = c.args.nbcols in
    let table = c.args.table.now in
    let wide : 4 * n + 1 ≤ c.args.width = c.requires in
    subst (λ (b : Bool). AreKeptWidths b n c.args.width table c.in_ok-fit.field-0.col_widths.items) (sym c.if-whole_words.false)
    (kept_fitted n c.args.width table c.in_ok-fit.field-0 wide (search rules) (c.in_ok-fit.ensures c.args.width (lengths_in n (rows_among table)) c.in_ok-cells.ensures))
