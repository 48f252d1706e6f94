use Rattle.std.proofs.Common.{◌-◌, ℕ, List, ap, ◌∙◌}
use Rattle.std.specs.Prelude.{slice_index_or, slice_range}
use Rattle.std.specs.List.{list_any}
use Rattle.regex.specs.Strings.{regex_pattern}
use Rattle.mad_patterns.specs.Breaks.{line_end, line_start}
use Rattle.mad_patterns.specs.Searches.{begins_in, places, row_has_hit, row_texts}
use Rattle.mad_patterns.proofs.search.row_has_hit.Goals as goal

pub returns-clause-has : goal.returns-clause-has
returns-clause-has c =
    let s = regex_pattern c.args.sought.now in
    let lines = c.args.lines.now in
    let row = c.args.row in
    let known = c.know_line.new.known in
    let found = c.in_ok-know_line.ensures.found in
    let at : ℕ → ℕ → _ = λ from to. slice_range lines from to in
    c.has_hit_in.ensures
    ∙ (ap (λ (ps : List (ℕ × ℕ)). list_any (begins_in (slice_index_or ps (row - c.line_of-start.result.0) (0, 0))) known.hits.items) found.places
    ∙ (ap (λ (hs : List (ℕ × ℕ)). list_any (begins_in (slice_index_or (places 0 (row_texts (at known.start known.end))) (row - c.line_of-start.result.0) (0, 0))) hs) found.hits
    ∙ (ap (λ (n : ℕ). row_has_hit s (at n known.end) (row - c.line_of-start.result.0)) (c.in_ok-know_line.ensures.start ∙ c.line_of-start.ensures.start)
    ∙ (ap (λ (n : ℕ). row_has_hit s (at (line_start lines c.args.starts.rows.now row) n) (row - c.line_of-start.result.0)) (c.in_ok-know_line.ensures.end ∙ c.line_of-start.ensures.end)
    ∙ ap (λ (n : ℕ). row_has_hit s (at (line_start lines c.args.starts.rows.now row) (line_end lines c.args.starts.rows.now row)) (row - n)) c.line_of-start.ensures.start))))

pub returns-clause-known : goal.returns-clause-known
returns-clause-known c = λ some. c.in_ok-know_line.ensures.found

pub returns-clause-same : goal.returns-clause-same
returns-clause-same c = c.in_ok-know_line.ensures.same ∙ c.requires.same
