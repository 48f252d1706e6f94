use Rattle.std.proofs.Common.{◌≡◌, ℕ, ◌-◌, ◌<◌, ◌++◌, ◌∷◌, List, map, reverse, take, drop, sym, ap, subst, ◌∙◌, arith, chars}
use Rattle.std.specs.Str.{IsCharBoundary}
use Rattle.markdown_inlines.specs.Styled.{spelled, spelled_of, AreRuns}
use Rattle.markdown_inlines.specs.declared.styled.TextRun.{TextRun}
use Rattle.markdown_lines.specs.Glyphs.{glyph_of}
use Rattle.markdown_lines.specs.declared.glyphs.Glyph.{Glyph}
use Rattle.markdown_lines.proofs.GlyphLemmas.{glyphs_with, is_last, cut_last, border_of, back_step, back_end}
use Rattle.markdown_lines.proofs.glyphs.glyphs_of.Goals as goal

pub range_from-requires : goal.range_from-requires
range_from-requires c =
    let runs : List TextRun = c.args.styled.now.runs.items in
    let n : ℕ = c.loop-count.count in
    let r : TextRun = c.index.result.now in
    let some : 0 < n = c.loop-count-test.true in
    let border : IsCharBoundary c.loop-count.text.now r.start = border_of (reverse (take (n - 1) runs)) r c.loop-count.text.now (cut_last runs n r c.loop-count.text.now some c.loop-count.invariant.1 c.index.ensures c.loop-count.invariant.2) in
    λ _. border

pub range-text-requires-clause-end_boundary : goal.range-text-requires-clause-end_boundary
range-text-requires-clause-end_boundary c =
    let runs : List TextRun = c.args.styled.now.runs.items in
    let n : ℕ = c.loop-count.count in
    let r : TextRun = c.index.result.now in
    let some : 0 < n = c.loop-count-test.true in
    border_of (reverse (take (n - 1) runs)) r c.loop-count.text.now (cut_last runs n r c.loop-count.text.now some c.loop-count.invariant.1 c.index.ensures c.loop-count.invariant.2)

pub loop-count-preserved : goal.loop-count-preserved
loop-count-preserved c =
    let runs : List TextRun = c.args.styled.now.runs.items in
    let bold = c.args.bold in
    let n : ℕ = c.loop-count.count in
    let r : TextRun = c.index.result.now in
    let text : List ℕ = c.loop-count.text.now in
    let held = c.loop-count.invariant in
    let some : 0 < n = c.loop-count-test.true in
    let rs : List TextRun = reverse (take (n - 1) runs) in
    let old : List Glyph = c.loop-count.glyphs.items in
    let now : List Glyph = c.push_back.new.glyphs.items in
    let facts : AreRuns (r ∷ rs) text = cut_last runs n r text some held.1 c.index.ensures held.2 in
    let before : c.range-text.result.now ≡ take r.start text = c.range-text.ensures.value ∙ (let none : r.start - 0 ≡ r.start = omega arith in ap (λ (k : ℕ). take k text) none) in
    let behind : c.range_from.result.now ≡ drop r.start text = c.range_from.ensures.value in
    let pushed : reverse now ≡ glyphs_with bold r.look (chars (drop r.start text)) ++ reverse old =
    c.in_ok-push_back.ensures ∙ ap (λ (t : List ℕ). glyphs_with bold r.look (chars t) ++ reverse old) behind in
    let last : reverse (take n runs) ≡ r ∷ rs = is_last runs n r some held.1 c.index.ensures in (
      c.range-text.utf8,
      omega (arith, held.1),
      subst (λ (t : List ℕ). AreRuns rs t) (sym before) facts.3,
      ap (λ (t : List ℕ). map (glyph_of bold) (spelled rs t) ++ reverse now) before
          ∙ back_step bold rs r text old now (map (glyph_of bold) (spelled_of c.args.styled.now)) pushed (ap (λ (l : List TextRun). map (glyph_of bold) (spelled l text) ++ reverse old) (sym last) ∙ held.3),
    )

pub returns : goal.returns
returns c = c.reverse.ensures.items ∙ back_end c.args.bold c.args.styled.now.runs.items c.loop-count.count c.loop-count.text.now c.loop-count.glyphs.items _ (omega arith) c.loop-count.invariant.3
