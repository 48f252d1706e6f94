use Rattle.std.proofs.Common.{◌≡◌, ℕ, ◌-◌, ◌∙◌, List, take, ap, arith, length}
use Rattle.std.proofs.lemmas.Bool.{eqb-true}
use Rattle.std.proofs.lemmas.Str.{IsCharBoundary-after_ascii}
use Rattle.markdown_lines.specs.Said.{said}
use Rattle.markdown_lines.specs.Shown.{shown}
use Rattle.markdown_lines.proofs.CutLemmas.{FirstBreak, first_break, found_none, rows_step, numbers_step, rows_last, numbers_last}
use Rattle.markdown_lines.proofs.lines.Lines.push_stretch.Goals as goal

pub range_from-rest-requires : goal.range_from-rest-requires
range_from-rest-requires c =
    let text : List ℕ = c.loop-at.rest.now in
    let found : FirstBreak text c.in-Some.at = first_break c.as_bytes.result.now text c.in-Some.at c.as_bytes.ensures.value c.in-Some.ensures in
    let is = eqb-true _ _ found.is in
    λ _. IsCharBoundary-after_ascii text c.in-Some.at c.loop-at.invariant.0 found.within (omega (arith, is))

pub loop-at-preserved : goal.loop-at-preserved
loop-at-preserved c =
    let held = c.loop-at.invariant in
    let text : List ℕ = c.loop-at.rest.now in
    let at : ℕ = c.in-Some.at in
    let found : FirstBreak text at = first_break c.as_bytes.result.now text at c.as_bytes.ensures.value c.in-Some.ensures in
    let front : c.range.result.now ≡ take at text = c.range.ensures.value ∙ (let none : at - 0 ≡ at = omega arith in ap (λ (k : ℕ). take k text) none) in
    let piece = c.in_ok-push_piece.ensures in
    let row = c.in_ok-from.ensures in (
      c.range_from-rest.utf8,
      omega (arith, row.next, ap length row.runs),
      λ more first.
          rows_step _ (shown c.loop-at.self) (shown c.push_piece.new.self) (shown c.end_row.new.self) (said c.loop-at.self.runs) (said c.push_piece.new.self.runs) (said c.end_row.new.self.runs) c.loop-at.from c.in_ok-from.from c.args.glyph text
          c.range.result.now c.range_from-rest.result.now at more held.0 found.within found.is found.none front c.range_from-rest.ensures.value held.1 piece.lines piece.runs row.row row.runs row.next (held.2 more first),
      λ more first.
          numbers_step _ c.loop-at.numbers.items c.push_piece.new.numbers.items c.args.glyph text c.range.result.now c.range_from-rest.result.now at more held.0 found.within found.is found.none front c.range_from-rest.ensures.value piece.numbers
          (held.3 more first),
    )

pub returns-clause-rows : goal.returns-clause-rows
returns-clause-rows c = λ rest first.
    let held = c.loop-at.invariant in
    let piece = c.in_ok-push_piece-2.ensures in
    rows_last _ (shown c.loop-at.self) (shown c.push_piece-2.new.self) (said c.loop-at.self.runs) (said c.push_piece-2.new.self.runs) c.loop-at.from c.args.glyph c.loop-at.rest.now rest held.0
    (found_none c.as_bytes.result.now c.loop-at.rest.now c.as_bytes.ensures.value c.in_default.ensures) first held.1 piece.lines piece.runs (held.2 rest first)

pub returns-clause-numbers : goal.returns-clause-numbers
returns-clause-numbers c = λ rest first.
    let held = c.loop-at.invariant in
    numbers_last _ c.loop-at.numbers.items c.push_piece-2.new.numbers.items c.args.glyph c.loop-at.rest.now rest held.0 (found_none c.as_bytes.result.now c.loop-at.rest.now c.as_bytes.ensures.value c.in_default.ensures) first
    c.in_ok-push_piece-2.ensures.numbers (held.3 rest first)
