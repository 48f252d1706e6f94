use Rattle.std.proofs.Common.{◌+◌, ◌*◌, ◌≤◌, ◌<◌, ◌^◌, ◌∙◌, Bool, length, rules, subst, sym}
use Rattle.mad_blocks.specs.Tables.{lengths_in, words_in, rows_among, AreKeptWidths}
use Rattle.mad_blocks.proofs.ReadTables.{read_few}
use Rattle.mad_blocks.proofs.TableWidths.{kept_fitted, kept_whole}
use Rattle.mad_blocks.proofs.table_columns.fitted_lines.Goals as goal

pub returns-then-whole_words : goal.returns-then-whole_words
returns-then-whole_words g c =
    let n = c.args.nbcols in
    let wide : 4 * n + 1 ≤ c.args.width = c.requires in
    let few : length c.args.table.now < 2 ^ 64 = search rules in
    λ read h.
    subst (λ (b : Bool). AreKeptWidths b n c.args.width read c.in_ok-fit_words.field-0.col_widths.items) (sym c.if-whole_words.true ∙ c.whole_words.ensures)
    (kept_whole n c.args.width read c.in_ok-fit_words.field-0 wide (read_few (g.S.LineSkin.rules c.args.skin.now) c.args.table.now read h few)
    (c.in_ok-fit_words.ensures c.args.width c.args.width (lengths_in n (rows_among read)) (words_in n (rows_among read)) (c.in_ok-cells.ensures read h) (c.in_ok-words.ensures read h)))

pub returns : goal.returns
returns g c =
    let n = c.args.nbcols in
    let wide : 4 * n + 1 ≤ c.args.width = c.requires in
    let few : length c.args.table.now < 2 ^ 64 = search rules in
    λ read h.
    subst (λ (b : Bool). AreKeptWidths b n c.args.width read c.in_ok-fit.field-0.col_widths.items) (sym c.if-whole_words.false ∙ c.whole_words.ensures)
    (kept_fitted n c.args.width read c.in_ok-fit.field-0 wide (read_few (g.S.LineSkin.rules c.args.skin.now) c.args.table.now read h few) (c.in_ok-fit.ensures c.args.width (lengths_in n (rows_among read)) (c.in_ok-cells.ensures read h)))
