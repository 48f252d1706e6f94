use Rattle.std.proofs.Common.{◌≡◌, false, drop}
use Rattle.mad_md.specs.declared.alignment.Alignment.TheVariants.{Unspecified}
use Rattle.mad_style.specs.LineStyles.{unmargined}
use Rattle.mad_parse.specs.TokenStyles.{style_of}
use Rattle.mad_parse.proofs.StyleLemmas.{placed_after}
use Rattle.mad_parse.proofs.reading.line_style_from.Given as goal

abbrev pub invariant-loop-token : goal.invariant-loop-token
invariant-loop-token l = placed_after l.second l.style (drop l.token-index l.tokens) ≡ placed_after false (unmargined (style_of l.tokens) Unspecified) l.tokens
