use Rattle.std.proofs.Common.{ℕ, List, ◌-◌, ◌++◌, ap, map, ◌∙◌}
use Rattle.std.specs.Prelude.{slice_index_or, slice_range, Some}
use Rattle.regex.specs.Strings.{regex_pattern}
use Rattle.mad_rows.specs.Rows.{margins_of}
use Rattle.mad_patterns.specs.Breaks.{line_start}
use Rattle.mad_patterns.specs.Searches.{hits_in_rows, place_in_rows}
use Rattle.mad_hits.specs.Hits.{PlacedText, marked_of, text_column}
use Rattle.mad_hits.specs.Parts.{text_hits}
use Rattle.mad_hits.proofs.hits.push_line_hits.Goals as goal

pub returns : goal.returns
returns c =
    let skin = c.args.skin.now in
    let l = c.args.composite.now in
    let sought = regex_pattern c.args.sought.now in
    let lines = c.args.lines.now in
    let starts = c.args.starts.now in
    let row = c.args.row in
    let found = c.in_ok-found.found in
    let n : ℕ = text_column skin (Some c.args.width) (margins_of skin (Some c.args.width) l) l in
    let old = map marked_of c.args.hits.now.items in
    let of : ℕ × ℕ → List (ℕ × ℕ) → PlacedText = λ own hits. record { column = n; text = l; own = own; hits = hits } in
    let at : ℕ → ℕ → ℕ → PlacedText = λ from to first. of (place_in_rows (slice_range lines from to) (row - first)) (hits_in_rows sought (slice_range lines from to)) in
    c.in_ok-push_hits.ensures n c.column_in_row-column.ensures
    ∙ (ap (λ (hs : List (ℕ × ℕ)). old ++ text_hits skin (of c.place-own.result hs)) (c.as_slice.ensures.value ∙ c.in_ok-found.ensures.found.hits)
    ∙ (ap (λ (p : ℕ × ℕ). old ++ text_hits skin (of p (hits_in_rows sought (slice_range lines found.start found.end)))) (c.place-own.ensures ∙ ap (λ (ps : List (ℕ × ℕ)). slice_index_or ps (row - found.start) (0, 0)) c.in_ok-found.ensures.found.places)
    ∙ (ap (λ (k : ℕ). old ++ text_hits skin (at k found.end k)) c.in_ok-found.ensures.start ∙ ap (λ (k : ℕ). old ++ text_hits skin (at (line_start lines starts row) k (line_start lines starts row))) c.in_ok-found.ensures.end)))
