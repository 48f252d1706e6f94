use Rattle.std.proofs.Common.{◌≡◌, ℕ, List, ap, arith, map, refl, subst, ◌∙◌}
use Rattle.std.proofs.lemmas.Option.{slice_get_read}
use Rattle.regex.specs.Strings.{regex_pattern}
use Rattle.mad_format.specs.declared.composite.FmtComposite.{FmtComposite}
use Rattle.mad_wrap.specs.WrapLines.{capped}
use Rattle.mad_hits.specs.Hits.{marked_of, placed_row}
use Rattle.mad_hits.specs.Parts.{texts_hits}
use Rattle.mad_hits.proofs.PartLemmas.{all_put, one_line, row_hit}
use Rattle.mad_hits.proofs.hits.row_hits.Goals as goal

pub returns-in_ok-push_line_hits-in-Normal : goal.returns-in_ok-push_line_hits-in-Normal
returns-in_ok-push_line_hits-in-Normal c = λ inside.
    let sought = regex_pattern c.args.sought.now in
    row_hit c.args.skin.now c.args.width sought c.args.lines.now c.args.starts.now c.args.row c.in-Some.line.now _ _ (slice_get_read c.args.lines.now _ c.args.row c.in-Some.line.now refl c.in-Some.ensures.lookup.3.0 c.in-Some.ensures.lookup.1) c.in-Normal.is
    (one_line c.args.skin.now c.args.width sought c.args.lines.now c.args.starts.now c.args.row c.in-Normal.composite _ (all_put _ _ _ (ap (map marked_of) c.new-hits.ensures.items) c.in_ok-push_line_hits-in-Normal.ensures))

pub returns-in_ok-push_cells_hits-in-TableRow : goal.returns-in_ok-push_cells_hits-in-TableRow
returns-in_ok-push_cells_hits-in-TableRow c = λ inside.
    let skin = c.args.skin.now in
    let sought = regex_pattern c.args.sought.now in
    let left = c.table_column-left.result in
    let within : left ≡ capped left = omega (arith, c.table_column-left.type_inv) in
    let at = c.table_column-left.ensures in
    row_hit skin c.args.width sought c.args.lines.now c.args.starts.now c.args.row c.in-Some.line.now _ _ (slice_get_read c.args.lines.now _ c.args.row c.in-Some.line.now refl c.in-Some.ensures.lookup.3.0 c.in-Some.ensures.lookup.1) c.in-TableRow.is
    (all_put _ _ _ (ap (map marked_of) c.new-hits.ensures.items) (c.in_ok-push_cells_hits-in-TableRow.ensures _ (subst (λ (n : ℕ). left ≡ capped n) at within))
    ∙ ap (λ (cells : List FmtComposite). texts_hits skin (placed_row skin sought c.args.width cells)) c.as_slice-cells.ensures.value)
