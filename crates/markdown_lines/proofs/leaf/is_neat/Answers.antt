use Rattle.std.proofs.Common.{◌≡◌, ℕ, ◌-◌, ◌∙◌, List, take, drop, length, sym, ap, subst, arith}
use Rattle.std.proofs.lemmas.List.{length-drop, take_all}
use Rattle.memchr.specs.Find.{Nowhere, Passes, is_byte}
use Rattle.markdown_lines.proofs.NeatLemmas.{beside_more, neat_is}
use Rattle.markdown_lines.proofs.leaf.is_neat.Goals as goal

pub loop-skip-preserved : goal.loop-skip-preserved
loop-skip-preserved c =
    let text : List ℕ = c.args.text.now in
    let from : ℕ = c.loop-skip.from in
    let found = c.in-Some.ensures in
    let hay : take (length text - from) (drop from text) ≡ drop from text = take_all (length text - from) (drop from text) (omega (arith, length-drop from text)) in
    record {
      within = omega (arith, found.0.high, ap length hay, length-drop from text, c.loop-skip.invariant.within);
      beside = beside_more text from c.in-Some.skip (subst (λ (t : List ℕ). Nowhere (Passes (is_byte 10) t) 0 c.in-Some.skip) hay found.0.before) (c.is_alone.ensures c.if-not-is_alone.false) c.loop-skip.invariant.beside;
    }

pub returns : goal.returns
returns c = λ h.
    let text : List ℕ = c.args.text.now in
    let from : ℕ = c.loop-skip.from in
    let hay : take (length text - from) (drop from text) ≡ drop from text = take_all (length text - from) (drop from text) (omega (arith, length-drop from text)) in
    neat_is text from c.is_empty.result c.is_empty.ensures c.if-is_empty.false (sym c.is_blank.ensures ∙ c.if-is_blank.false) (sym c.is_blank-2.ensures ∙ c.if-is_blank-2.false)
    (subst (λ (t : List ℕ). Nowhere (Passes (is_byte 10) t) 0 (length t)) hay c.in_default.ensures) c.loop-skip.invariant.beside
