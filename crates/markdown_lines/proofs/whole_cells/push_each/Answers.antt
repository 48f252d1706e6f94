use Rattle.std.proofs.Common.{◌≡◌, ℕ, ◌+◌, ◌<◌, ◌≤◌, ◌++◌, ◌∷◌, ◌∙◌, List, map, drop, sym, ap, subst, arith, length, append-nil, false}
use Rattle.std.specs.Prelude.{string_bytes, slice_range}
use Rattle.std.specs.Str.{IsCharBoundary, IsUtf8}
use Rattle.std.proofs.lemmas.Str.{IsUtf8-string_bytes}
use Rattle.markdown_inlines.specs.Styled.{Shown}
use Rattle.markdown_inlines.specs.declared.styled.TextRun.{TextRun}
use Rattle.markdown_lines.specs.CutRows.{is_pictured, AreAhead}
use Rattle.markdown_lines.specs.Glyphs.{glyph_of, runs_of}
use Rattle.markdown_lines.specs.LinkNumbers.{after_links, numbers_of}
use Rattle.markdown_lines.specs.Said.{said}
use Rattle.markdown_lines.specs.declared.glyphs.Glyph.{Glyph}
use Rattle.markdown_lines.proofs.OrderLemmas.{at_ahead, unpictured_at, run_step, spelled_ahead, none_ahead, end_border}
use Rattle.markdown_lines.proofs.WholeCellLemmas.{runs_more, numbers_more, piece_some, piece_utf8}
use Rattle.markdown_lines.proofs.whole_cells.push_each.Goals as goal

pub loop-index-init : goal.loop-index-init
loop-index-init c =
    let runs : List TextRun = c.args.styled.now.runs.items in
    let text : List ℕ = string_bytes c.args.styled.now.text in
    let same = spelled_ahead runs text (IsUtf8-string_bytes c.args.styled.now.text) c.requires.styled in
    record {
      within = omega arith;
      grows = omega arith;
      runs = ap (λ (ss : List Shown). said c.args.runs.now ++ runs_of (map (glyph_of false) ss)) (sym same);
      numbers = ap (λ (ss : List Shown). c.args.numbers.now.items ++ after_links c.args.before (numbers_of (map (glyph_of false) ss))) (sym same);
    }

pub range-text-requires-clause-start_le_end : goal.range-text-requires-clause-start_le_end
range-text-requires-clause-start_le_end c =
    let runs : List TextRun = c.args.styled.now.runs.items in
    let index : ℕ = c.loop-index.index in
    let r : TextRun = c.index.result.now in
    let text : List ℕ = string_bytes c.args.styled.now.text in
    let within : index < length runs = omega (arith, c.loop-index-test.true, ap length c.as_slice.ensures.value) in
    let are : AreAhead (r ∷ drop (index + 1) runs) text = at_ahead runs index r text within c.index.ensures (IsUtf8-string_bytes c.args.styled.now.text) c.requires.styled in
    omega (arith, are.0, c.end_of-end.ensures)

pub range-text-requires-clause-start_boundary : goal.range-text-requires-clause-start_boundary
range-text-requires-clause-start_boundary c =
    let runs : List TextRun = c.args.styled.now.runs.items in
    let index : ℕ = c.loop-index.index in
    let r : TextRun = c.index.result.now in
    let text : List ℕ = string_bytes c.args.styled.now.text in
    let within : index < length runs = omega (arith, c.loop-index-test.true, ap length c.as_slice.ensures.value) in
    let are : AreAhead (r ∷ drop (index + 1) runs) text = at_ahead runs index r text within c.index.ensures (IsUtf8-string_bytes c.args.styled.now.text) c.requires.styled in
    let border : IsCharBoundary c.as_str.result.now r.start = subst (λ (t : List ℕ). IsCharBoundary t r.start) (sym c.as_str.ensures.value) are.1 in
    λ _. border

pub range-text-requires-clause-end_boundary : goal.range-text-requires-clause-end_boundary
range-text-requires-clause-end_boundary c =
    let runs : List TextRun = c.args.styled.now.runs.items in
    let index : ℕ = c.loop-index.index in
    let r : TextRun = c.index.result.now in
    let text : List ℕ = string_bytes c.args.styled.now.text in
    let within : index < length runs = omega (arith, c.loop-index-test.true, ap length c.as_slice.ensures.value) in
    let are : AreAhead (r ∷ drop (index + 1) runs) text = at_ahead runs index r text within c.index.ensures (IsUtf8-string_bytes c.args.styled.now.text) c.requires.styled in
    let border : IsCharBoundary text c.end_of-end.result = subst (IsCharBoundary text) (sym c.end_of-end.ensures) (end_border (drop (index + 1) runs) text are.4) in
    subst (λ (t : List ℕ). IsCharBoundary t c.end_of-end.result) (sym c.as_str.ensures.value) border

pub loop-index-preserved : goal.loop-index-preserved
loop-index-preserved c =
    let runs : List TextRun = c.args.styled.now.runs.items in
    let index : ℕ = c.loop-index.index in
    let r : TextRun = c.index.result.now in
    let text : List ℕ = string_bytes c.args.styled.now.text in
    let within : index < length runs = omega (arith, c.loop-index-test.true, ap length c.as_slice.ensures.value) in
    let behind : List TextRun = drop (index + 1) runs in
    let are : AreAhead (r ∷ behind) text = at_ahead runs index r text within c.index.ensures (IsUtf8-string_bytes c.args.styled.now.text) c.requires.styled in
    let own : List ℕ = c.range-text.result.now in
    let piece = c.range-text.ensures.value ∙ ap (λ (t : List ℕ). slice_range t r.start c.end_of-end.result) c.as_str.ensures.value ∙ ap (slice_range text r.start) c.end_of-end.ensures in
    let glyph : Glyph = c.glyph_of-glyph.result in
    let plain : is_pictured r ≡ false = unpictured_at runs index r within c.index.ensures c.requires.unpictured in
    let utf8 : IsUtf8 own = piece_utf8 r behind text own are piece in
    let some : 0 < length own = piece_some r behind text own are piece in
    let put = c.in_ok-push_run.ensures in
    record {
      within = omega (arith, within);
      grows = omega (arith, put.grows, c.loop-index.invariant.grows);
      runs = run_step (λ (gs : List Glyph). said c.push_run.new.runs ++ runs_of gs) (λ (gs : List Glyph). said c.loop-index.runs ++ runs_of gs) _ runs index r glyph text own within c.index.ensures plain are
          c.glyph_of-glyph.ensures piece (λ rest first. runs_more (said c.loop-index.runs) (said c.push_run.new.runs) glyph own rest utf8 some first put.runs) c.loop-index.invariant.runs;
      numbers = run_step (λ (gs : List Glyph). c.push_run.new.numbers.items ++ after_links c.args.before (numbers_of gs)) (λ (gs : List Glyph). c.loop-index.numbers.items ++ after_links c.args.before (numbers_of gs)) _ runs index r glyph text
          own within c.index.ensures plain are c.glyph_of-glyph.ensures piece
          (λ rest first. numbers_more c.args.before c.loop-index.numbers.items c.push_run.new.numbers.items glyph own rest utf8 some first put.numbers) c.loop-index.invariant.numbers;
    }

pub returns-clause-runs : goal.returns-clause-runs
returns-clause-runs c =
    let past : length c.args.styled.now.runs.items ≤ c.loop-index.index = omega (arith, c.loop-index-test.false, ap length c.as_slice.ensures.value) in
    sym (append-nil (said c.loop-index.runs))
    ∙ ap (λ (gs : List Glyph). said c.loop-index.runs ++ runs_of gs) (sym (none_ahead c.args.styled.now.runs.items c.loop-index.index (string_bytes c.args.styled.now.text) past)) ∙ c.loop-index.invariant.runs

pub returns-clause-numbers : goal.returns-clause-numbers
returns-clause-numbers c =
    let past : length c.args.styled.now.runs.items ≤ c.loop-index.index = omega (arith, c.loop-index-test.false, ap length c.as_slice.ensures.value) in
    sym (append-nil c.loop-index.numbers.items)
    ∙ ap (λ (gs : List Glyph). c.loop-index.numbers.items ++ after_links c.args.before (numbers_of gs)) (sym (none_ahead c.args.styled.now.runs.items c.loop-index.index (string_bytes c.args.styled.now.text) past))
    ∙ c.loop-index.invariant.numbers
