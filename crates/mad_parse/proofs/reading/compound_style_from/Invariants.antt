use Rattle.std.proofs.Common.{◌≡◌, false, drop}
use Rattle.mad_style.specs.CompoundStyles.{unstyled}
use Rattle.mad_parse.proofs.StyleLemmas.{style_after}
use Rattle.mad_parse.proofs.reading.compound_style_from.Given as goal

abbrev pub invariant-loop-token : goal.invariant-loop-token
invariant-loop-token l = style_after l.settled l.style (drop l.token-index l.tokens) ≡ style_after false unstyled l.tokens
