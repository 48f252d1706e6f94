use Rattle.std.proofs.Common.{◌≡◌, false, length, chars}
use denote.Text.{Utf8}
use denote.Shadow.{shadow}
use Rattle.mad_parse.specs.Reading.{tokens_of}
use Rattle.mad_parse.proofs.CutLemmas.{all_after, begins_white}
use Rattle.mad_parse.proofs.parse.parse_style_tokens.Given as goal

abbrev pub invariant-loop-rest : goal.invariant-loop-rest
invariant-loop-rest l = record {
  utf8 : shadow (Utf8 l.rest);
  black : begins_white (chars l.rest) ≡ false;
  so_far : tokens_of l.text ≡ all_after l.tokens.items (tokens_of l.rest);
}

abbrev pub decreases-loop-rest : goal.decreases-loop-rest
decreases-loop-rest l = length l.rest
