use Rattle.std.proofs.Common.{◌≡◌, ℕ, ◌+◌, ◌<◌, ◌++◌, ◌∷◌, ◌∙◌, List, drop, sym, ap, subst, arith, length, false}
use Rattle.std.specs.Prelude.{string_bytes, slice_range}
use Rattle.std.specs.Str.{IsCharBoundary}
use Rattle.std.proofs.lemmas.Str.{IsUtf8-string_bytes}
use Rattle.markdown_inlines.specs.declared.styled.TextRun.{TextRun}
use Rattle.markdown_lines.specs.CutRows.{is_pictured, cut_rows, begun_rows, cut_numbers, AreAhead}
use Rattle.markdown_lines.specs.Said.{said}
use Rattle.markdown_lines.specs.Shown.{shown}
use Rattle.markdown_lines.specs.declared.glyphs.Glyph.{Glyph}
use Rattle.markdown_lines.proofs.OrderLemmas.{at_ahead, unpictured_at, run_step, rows_end, numbers_end, rows_begin, numbers_begin, end_border}
use Rattle.markdown_lines.proofs.lines.Lines.push_styled.Goals as goal

pub loop-index-init : goal.loop-index-init
loop-index-init c =
    let runs : List TextRun = c.args.styled.now.runs.items in
    let text : List ℕ = string_bytes c.args.styled.now.text in
    let utf8 = IsUtf8-string_bytes c.args.styled.now.text in
    record {
      from = omega (arith, c.count-start.ensures);
      within = omega arith;
      rows = rows_begin (shown c.args.self.now) (said c.args.self.now.runs) c.count-start.result runs text (omega (arith, c.count-start.ensures)) utf8 c.requires.styled;
      numbers = numbers_begin c.args.numbers.now.items runs text utf8 c.requires.styled;
    }

pub range-text-requires-clause-start_le_end : goal.range-text-requires-clause-start_le_end
range-text-requires-clause-start_le_end c =
    let runs : List TextRun = c.args.styled.now.runs.items in
    let index : ℕ = c.loop-index.index in
    let r : TextRun = c.index.result.now in
    let text : List ℕ = string_bytes c.args.styled.now.text in
    let within : index < length runs = omega (arith, c.loop-index-test.true, ap length c.as_slice.ensures.value) in
    let are : AreAhead (r ∷ drop (index + 1) runs) text = at_ahead runs index r text within c.index.ensures (IsUtf8-string_bytes c.args.styled.now.text) c.requires.styled in
    omega (arith, are.0, c.end_of-end.ensures)

pub range-text-requires-clause-start_boundary : goal.range-text-requires-clause-start_boundary
range-text-requires-clause-start_boundary c =
    let runs : List TextRun = c.args.styled.now.runs.items in
    let index : ℕ = c.loop-index.index in
    let r : TextRun = c.index.result.now in
    let text : List ℕ = string_bytes c.args.styled.now.text in
    let within : index < length runs = omega (arith, c.loop-index-test.true, ap length c.as_slice.ensures.value) in
    let are : AreAhead (r ∷ drop (index + 1) runs) text = at_ahead runs index r text within c.index.ensures (IsUtf8-string_bytes c.args.styled.now.text) c.requires.styled in
    let border : IsCharBoundary c.as_str.result.now r.start = subst (λ (t : List ℕ). IsCharBoundary t r.start) (sym c.as_str.ensures.value) are.1 in
    λ _. border

pub range-text-requires-clause-end_boundary : goal.range-text-requires-clause-end_boundary
range-text-requires-clause-end_boundary c =
    let runs : List TextRun = c.args.styled.now.runs.items in
    let index : ℕ = c.loop-index.index in
    let r : TextRun = c.index.result.now in
    let text : List ℕ = string_bytes c.args.styled.now.text in
    let within : index < length runs = omega (arith, c.loop-index-test.true, ap length c.as_slice.ensures.value) in
    let are : AreAhead (r ∷ drop (index + 1) runs) text = at_ahead runs index r text within c.index.ensures (IsUtf8-string_bytes c.args.styled.now.text) c.requires.styled in
    let border : IsCharBoundary text c.end_of-end.result = subst (IsCharBoundary text) (sym c.end_of-end.ensures) (end_border (drop (index + 1) runs) text are.4) in
    subst (λ (t : List ℕ). IsCharBoundary t c.end_of-end.result) (sym c.as_str.ensures.value) border

pub loop-index-preserved : goal.loop-index-preserved
loop-index-preserved c =
    let runs : List TextRun = c.args.styled.now.runs.items in
    let index : ℕ = c.loop-index.index in
    let r : TextRun = c.index.result.now in
    let text : List ℕ = string_bytes c.args.styled.now.text in
    let within : index < length runs = omega (arith, c.loop-index-test.true, ap length c.as_slice.ensures.value) in
    let are : AreAhead (r ∷ drop (index + 1) runs) text = at_ahead runs index r text within c.index.ensures (IsUtf8-string_bytes c.args.styled.now.text) c.requires.styled in
    let piece = c.range-text.ensures.value ∙ ap (λ (t : List ℕ). slice_range t r.start c.end_of-end.result) c.as_str.ensures.value ∙ ap (slice_range text r.start) c.end_of-end.ensures in
    let glyph : Glyph = c.glyph_of-glyph.result in
    let plain : is_pictured r ≡ false = unpictured_at runs index r within c.index.ensures c.requires.unpictured in
    record {
      from = c.in_ok-start.ensures.next;
      within = omega (arith, within);
      rows = run_step (λ (gs : List Glyph). shown c.push_stretch.new.self ++ begun_rows (drop c.in_ok-start.start (said c.push_stretch.new.self.runs)) (cut_rows gs))
          (λ (gs : List Glyph). shown c.loop-index.self ++ begun_rows (drop c.loop-index.start (said c.loop-index.self.runs)) (cut_rows gs)) _ runs index r glyph text c.range-text.result.now within c.index.ensures plain are
          c.glyph_of-glyph.ensures piece c.in_ok-start.ensures.rows c.loop-index.invariant.rows;
      numbers = run_step (λ (gs : List Glyph). c.push_stretch.new.numbers.items ++ cut_numbers (cut_rows gs)) (λ (gs : List Glyph). c.loop-index.numbers.items ++ cut_numbers (cut_rows gs)) _ runs index r glyph text
          c.range-text.result.now within c.index.ensures plain are c.glyph_of-glyph.ensures piece c.in_ok-start.ensures.numbers c.loop-index.invariant.numbers;
    }

pub returns-clause-rows : goal.returns-clause-rows
returns-clause-rows c =
    rows_end (shown c.loop-index.self) (shown c.end_row.new.self) _ (drop c.loop-index.start (said c.loop-index.self.runs)) c.args.styled.now.runs.items c.loop-index.index (string_bytes c.args.styled.now.text)
    (omega (arith, c.loop-index-test.false, ap length c.as_slice.ensures.value)) c.in_ok-end_row.ensures.row c.loop-index.invariant.rows

pub returns-clause-numbers : goal.returns-clause-numbers
returns-clause-numbers c =
    numbers_end c.loop-index.numbers.items _ c.args.styled.now.runs.items c.loop-index.index (string_bytes c.args.styled.now.text) (omega (arith, c.loop-index-test.false, ap length c.as_slice.ensures.value)) c.loop-index.invariant.numbers
