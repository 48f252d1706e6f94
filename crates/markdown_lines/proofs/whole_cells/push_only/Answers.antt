use Rattle.std.proofs.Common.{ℕ, ◌++◌, ◌∷◌, [], ◌∙◌, List, sym, ap}
use Rattle.std.specs.Prelude.{string_bytes}
use Rattle.std.proofs.lemmas.Str.{IsUtf8-string_bytes}
use Rattle.mad_md.specs.Flagged.{Run}
use Rattle.markdown_inlines.specs.declared.styled.TextRun.{TextRun}
use Rattle.markdown_lines.specs.Glyphs.{run_with}
use Rattle.markdown_lines.specs.LinkNumbers.{one_number, after_links}
use Rattle.markdown_lines.specs.Said.{said}
use Rattle.markdown_lines.specs.declared.glyphs.Glyph.{Glyph}
use Rattle.markdown_lines.proofs.WholeCellLemmas.{only_runs, only_numbers}
use Rattle.markdown_lines.proofs.whole_cells.push_only.Goals as goal

pub returns-clause-runs : goal.returns-clause-runs
returns-clause-runs c =
    let runs : List TextRun = c.args.styled.now.runs.items in
    let text : List ℕ = string_bytes c.args.styled.now.text in
    let old : List Run = said c.args.runs.now in
    let r : TextRun = c.index.result.now in
    c.in_ok-push_run.ensures.runs ∙ ap (λ (t : List ℕ). old ++ run_with c.glyph_of-glyph.result.flags t ∷ []) c.as_str.ensures.value
    ∙ ap (λ (g : Glyph). old ++ run_with g.flags text ∷ []) c.glyph_of-glyph.ensures
    ∙ ap (λ (rs : List Run). old ++ rs) (sym (only_runs c.args.bold runs r text (IsUtf8-string_bytes c.args.styled.now.text) c.requires.one c.index.ensures c.requires.styled c.requires.unpictured))

pub returns-clause-numbers : goal.returns-clause-numbers
returns-clause-numbers c =
    let runs : List TextRun = c.args.styled.now.runs.items in
    let text : List ℕ = string_bytes c.args.styled.now.text in
    let old : List ℕ = c.args.numbers.now.items in
    let r : TextRun = c.index.result.now in
    c.in_ok-push_run.ensures.numbers ∙ ap (λ (g : Glyph). old ++ after_links c.args.before (one_number g.link)) c.glyph_of-glyph.ensures
    ∙ ap (λ (ns : List ℕ). old ++ after_links c.args.before ns) (sym (only_numbers c.args.bold runs r text (IsUtf8-string_bytes c.args.styled.now.text) c.requires.one c.index.ensures c.requires.styled c.requires.unpictured))
