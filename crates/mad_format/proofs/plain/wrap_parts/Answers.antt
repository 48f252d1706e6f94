use Rattle.std.proofs.Common.{List, ℕ, Bor, map, sym, ap, subst, ◌∙◌}
use Rattle.mad_md.specs.Lines.{content_of}
use Rattle.mad_format.specs.PlainWraps.{IsPlainWrap}
use Rattle.mad_format.proofs.PlainLemmas.{ArePartsLeft, parts_none, part_more, part_none}
use Rattle.mad_format.proofs.plain.wrap_parts.Goals as goal

pub loop-part-init : goal.loop-part-init
loop-part-init c =
    let width = c.args.width in
    let text = c.args.text.now in
    let none = subst (λ (lines : List (Bor (List ℕ))). ArePartsLeft width text c.in_ok-parts.parts.lines.items (map (λ x. x.now) lines)) (sym c.new-lines.ensures.items) (parts_none width text c.in_ok-parts.parts c.in_ok-parts.ensures) in
    subst (λ parts. ArePartsLeft width text parts (map (λ (x : Bor (List ℕ)). x.now) c.new-lines.result.items)) (sym c.deref-part-items.ensures.value) none

pub loop-part-preserved : goal.loop-part-preserved
loop-part-preserved c =
    let pushed = c.in_ok-push_wrap.ensures in
    part_more c.args.width c.args.text.now c.deref-part-items.result.now c.loop-part.part-index c.part-item.result _ _ pushed.0 c.loop-part-test.true c.loop-part.invariant
    (λ line says. subst (λ l. IsPlainWrap c.args.width l pushed.0) (c.raw_text.ensures line (ap content_of c.part-item.is ∙ says)) pushed.2) pushed.1

pub returns : goal.returns
returns c = part_none _ _ _ _ _ c.loop-part-test.false c.loop-part.invariant
