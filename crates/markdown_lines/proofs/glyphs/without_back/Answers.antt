use Rattle.std.proofs.Common.{◌≡◌, ℕ, ◌-◌, ◌∙◌, length, take, sym, ap, arith}
use Rattle.std.specs.List.{suffix_len}
use Rattle.markdown_lines.specs.Glyphs.{is_edge, without_back}
use Rattle.markdown_lines.proofs.GlyphLemmas.{no_glyph, leaves_stop, leaves_none}
use Rattle.markdown_lines.proofs.glyphs.without_back.Goals as goal
use Rattle.markdown_lines.proofs.glyphs.without_back.Goals.{then-loop-len-test+else-is_edge, else-loop-len-test}

pub returns : goal.returns
unfolding without_back
returns c =
    let glyphs = c.args.glyphs.now in
    let stops : c.loop-len.len ≡ length glyphs - suffix_len is_edge glyphs = elim c.loop-len-test.branch [
      | then-loop-len-test+else-is_edge w ↦ leaves_stop glyphs c.loop-len.len no_glyph (omega arith) c.loop-len.invariant.within (sym w.is_edge.ensures ∙ w.if-is_edge.false) c.loop-len.invariant.same
      | else-loop-len-test w ↦ leaves_none glyphs c.loop-len.len (omega arith) c.loop-len.invariant.same
    ] in
    ap (λ (n : ℕ). take n glyphs) stops
