use Rattle.std.proofs.Common.{ℕ, Bool, ◌++◌, ◌∙◌, List, map, sym, ap}
use Rattle.mad_md.specs.Flagged.{Run}
use Rattle.markdown_inlines.specs.Styled.{Shown, spelled_of}
use Rattle.markdown_lines.specs.Glyphs.{glyph_of, runs_of}
use Rattle.markdown_lines.specs.LinkNumbers.{after_links, numbers_of}
use Rattle.markdown_lines.specs.Said.{said}
use Rattle.markdown_lines.specs.declared.glyphs.Glyph.{Glyph}
use Rattle.markdown_lines.proofs.whole_cells.push_cell.Goals as goal

pub returns-then-not-bold-clause-runs : goal.returns-then-not-bold-clause-runs
returns-then-not-bold-clause-runs c =
    let shown : List Shown = spelled_of c.args.styled.now in
    let old : List Run = said c.args.runs.now in
    c.in_ok-push_each.ensures.runs ∙ ap (λ (b : Bool). old ++ runs_of (map (glyph_of b) shown)) (sym c.if-not-bold.true)
    ∙ ap (λ (gs : List Glyph). old ++ runs_of gs) (sym (c.is_whole.ensures.row c.if-not-is_whole.false c.args.bold))

pub returns-then-not-bold-clause-numbers : goal.returns-then-not-bold-clause-numbers
returns-then-not-bold-clause-numbers c =
    let shown : List Shown = spelled_of c.args.styled.now in
    let old : List ℕ = c.args.numbers.now.items in
    c.in_ok-push_each.ensures.numbers ∙ ap (λ (b : Bool). old ++ after_links c.args.before (numbers_of (map (glyph_of b) shown))) (sym c.if-not-bold.true)
    ∙ ap (λ (gs : List Glyph). old ++ after_links c.args.before (numbers_of gs)) (sym (c.is_whole.ensures.row c.if-not-is_whole.false c.args.bold))

pub returns-clause-runs : goal.returns-clause-runs
returns-clause-runs c =
    let old : List Run = said c.args.runs.now in
    c.in_ok-push_only.ensures.runs ∙ ap (λ (gs : List Glyph). old ++ runs_of gs) (sym (c.is_whole.ensures.row c.if-not-is_whole.false c.args.bold))

pub returns-clause-numbers : goal.returns-clause-numbers
returns-clause-numbers c =
    let old : List ℕ = c.args.numbers.now.items in
    c.in_ok-push_only.ensures.numbers ∙ ap (λ (gs : List Glyph). old ++ after_links c.args.before (numbers_of gs)) (sym (c.is_whole.ensures.row c.if-not-is_whole.false c.args.bold))
