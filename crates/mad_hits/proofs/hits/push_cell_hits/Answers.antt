use Rattle.std.proofs.Common.{ℕ, List, ◌+◌, ◌++◌, arith, ap, length, map, None, ◌∙◌}
use Rattle.regex.specs.Strings.{regex_pattern}
use Rattle.mad_patterns.specs.Searches.{composite_text, hits}
use Rattle.mad_rows.specs.Rows.{cell_margins}
use Rattle.mad_hits.specs.Hits.{PlacedText, marked_of, text_column}
use Rattle.mad_hits.specs.Parts.{text_hits}
use Rattle.mad_hits.proofs.hits.push_cell_hits.Goals as goal

pub returns : goal.returns
returns c = λ column here.
    let skin = c.args.skin.now in
    let cell = c.args.cell.now in
    let sought = regex_pattern c.args.sought.now in
    let n : ℕ = column + 1 + text_column skin None (cell_margins skin) cell in
    let spelt = c.as_str.ensures.value ∙ c.in_ok-text.ensures in
    let of : ℕ → List (ℕ × ℕ) → PlacedText = λ end found. record { column = n; text = cell; own = (0, end); hits = found } in
    c.in_ok-push_hits.ensures n (omega (arith, here, c.saturating_add.ensures, c.saturating_add-column.ensures, c.column_in_cell.ensures))
    ∙ (ap (λ (found : List (ℕ × ℕ)). map marked_of c.args.hits.now.items ++ text_hits skin (of c.len.result found)) (c.as_slice.ensures.value ∙ (c.in_ok-found.ensures ∙ ap (hits sought) spelt))
    ∙ ap (λ (end : ℕ). map marked_of c.args.hits.now.items ++ text_hits skin (of end (hits sought (composite_text cell)))) (c.len.ensures ∙ (c.in_ok-text.text.bytes.ok.0 ∙ ap length c.in_ok-text.ensures)))
