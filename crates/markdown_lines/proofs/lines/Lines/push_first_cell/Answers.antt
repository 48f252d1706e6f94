use Rattle.std.proofs.Common.{◌≡◌, ℕ, Bool, ◌+◌, ◌++◌, ◌∙◌, List, [], false, ap, length, map, string_bytes}
use Rattle.std.specs.Str.Lossy.{utf8_lossy}
use Rattle.mad_md.specs.Flagged.{Run}
use Rattle.markdown_cells.specs.Cells.{cell_of, cell_text, unbarred}
use Rattle.markdown_lines.specs.Leaf.{cell_runs}
use Rattle.markdown_lines.specs.LinkNumbers.{after_links, cell_numbers}
use Rattle.markdown_lines.specs.Links.{leaf_addresses}
use Rattle.markdown_lines.specs.LinksOf.{defined_of}
use Rattle.markdown_lines.specs.Said.{said}
use Rattle.markdown_lines.specs.declared.places.RunRange.{RunRange}
use Rattle.markdown_lines.proofs.lines.Lines.push_first_cell.Goals as goal

pub returns-in_ok-found-in-Some-clause-runs : goal.returns-in_ok-found-in-Some-clause-runs
returns-in_ok-found-in-Some-clause-runs c =
    let same : c.in-Some.plain.now ≡ cell_text c.args.row.now = c.in-Some.ensures ∙ ap (λ (t : List ℕ). utf8_lossy (unbarred [] false t)) c.cell_of-cell.ensures in
    c.in_ok-found-in-Some.ensures.runs ∙ ap (λ (t : List ℕ). said c.args.self.now.runs ++ cell_runs (defined_of c.args.definitions.now).labels c.args.bold t) same

pub returns-in_ok-found-in-Some-clause-range : goal.returns-in_ok-found-in-Some-clause-range
returns-in_ok-found-in-Some-clause-range c =
    let same : c.in-Some.plain.now ≡ cell_text c.args.row.now = c.in-Some.ensures ∙ ap (λ (t : List ℕ). utf8_lossy (unbarred [] false t)) c.cell_of-cell.ensures in
    c.in_ok-found-in-Some.ensures.range ∙ ap (λ (t : List ℕ). let r : RunRange = record { start = length (said c.args.self.now.runs); count = length (cell_runs (defined_of c.args.definitions.now).labels c.args.bold t) } in r) same

pub returns-in_ok-found-in-Some-clause-addresses : goal.returns-in_ok-found-in-Some-clause-addresses
returns-in_ok-found-in-Some-clause-addresses c =
    let same : c.in-Some.plain.now ≡ cell_text c.args.row.now = c.in-Some.ensures ∙ ap (λ (t : List ℕ). utf8_lossy (unbarred [] false t)) c.cell_of-cell.ensures in
    c.in_ok-found-in-Some.ensures.addresses ∙ ap (λ (t : List ℕ). map string_bytes c.args.addresses.now.items ++ leaf_addresses (defined_of c.args.definitions.now) t) same

pub returns-in_ok-found-in-Some-clause-numbers : goal.returns-in_ok-found-in-Some-clause-numbers
returns-in_ok-found-in-Some-clause-numbers c =
    let same : c.in-Some.plain.now ≡ cell_text c.args.row.now = c.in-Some.ensures ∙ ap (λ (t : List ℕ). utf8_lossy (unbarred [] false t)) c.cell_of-cell.ensures in
    c.in_ok-found-in-Some.ensures.numbers ∙ ap (λ (t : List ℕ). c.args.numbers.now.items ++ after_links (length c.args.addresses.now.items + c.args.before) (cell_numbers (defined_of c.args.definitions.now).labels c.args.bold t)) same

pub returns-in_ok-range-in-None-clause-runs : goal.returns-in_ok-range-in-None-clause-runs
returns-in_ok-range-in-None-clause-runs c =
    let bytes : c.as_slice.result.now ≡ unbarred [] false (cell_of c.args.row.now) = c.as_slice.ensures.value ∙ c.in_ok-bytes-in-None.ensures ∙ ap (λ (t : List ℕ). unbarred [] false t) c.cell_of-cell.ensures in
    let same : c.as_str.result.now ≡ cell_text c.args.row.now = c.as_str.ensures.value ∙ c.in_ok-text-in-None.ensures.lossy ∙ ap utf8_lossy bytes in
    c.in_ok-range-in-None.ensures.runs ∙ ap (λ (t : List ℕ). said c.args.self.now.runs ++ cell_runs (defined_of c.args.definitions.now).labels c.args.bold t) same

pub returns-in_ok-range-in-None-clause-range : goal.returns-in_ok-range-in-None-clause-range
returns-in_ok-range-in-None-clause-range c =
    let bytes : c.as_slice.result.now ≡ unbarred [] false (cell_of c.args.row.now) = c.as_slice.ensures.value ∙ c.in_ok-bytes-in-None.ensures ∙ ap (λ (t : List ℕ). unbarred [] false t) c.cell_of-cell.ensures in
    let same : c.as_str.result.now ≡ cell_text c.args.row.now = c.as_str.ensures.value ∙ c.in_ok-text-in-None.ensures.lossy ∙ ap utf8_lossy bytes in
    c.in_ok-range-in-None.ensures.range ∙ ap (λ (t : List ℕ). let r : RunRange = record { start = length (said c.args.self.now.runs); count = length (cell_runs (defined_of c.args.definitions.now).labels c.args.bold t) } in r) same

pub returns-in_ok-range-in-None-clause-addresses : goal.returns-in_ok-range-in-None-clause-addresses
returns-in_ok-range-in-None-clause-addresses c =
    let bytes : c.as_slice.result.now ≡ unbarred [] false (cell_of c.args.row.now) = c.as_slice.ensures.value ∙ c.in_ok-bytes-in-None.ensures ∙ ap (λ (t : List ℕ). unbarred [] false t) c.cell_of-cell.ensures in
    let same : c.as_str.result.now ≡ cell_text c.args.row.now = c.as_str.ensures.value ∙ c.in_ok-text-in-None.ensures.lossy ∙ ap utf8_lossy bytes in
    c.in_ok-range-in-None.ensures.addresses ∙ ap (λ (t : List ℕ). map string_bytes c.args.addresses.now.items ++ leaf_addresses (defined_of c.args.definitions.now) t) same

pub returns-in_ok-range-in-None-clause-numbers : goal.returns-in_ok-range-in-None-clause-numbers
returns-in_ok-range-in-None-clause-numbers c =
    let bytes : c.as_slice.result.now ≡ unbarred [] false (cell_of c.args.row.now) = c.as_slice.ensures.value ∙ c.in_ok-bytes-in-None.ensures ∙ ap (λ (t : List ℕ). unbarred [] false t) c.cell_of-cell.ensures in
    let same : c.as_str.result.now ≡ cell_text c.args.row.now = c.as_str.ensures.value ∙ c.in_ok-text-in-None.ensures.lossy ∙ ap utf8_lossy bytes in
    c.in_ok-range-in-None.ensures.numbers ∙ ap (λ (t : List ℕ). c.args.numbers.now.items ++ after_links (length c.args.addresses.now.items + c.args.before) (cell_numbers (defined_of c.args.definitions.now).labels c.args.bold t)) same
