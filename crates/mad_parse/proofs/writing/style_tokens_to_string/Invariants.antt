use Rattle.std.proofs.Common.{◌≡◌, ◌++◌, true, drop, string_bytes}
use Rattle.mad_parse.proofs.WriteLemmas.{more_text}
use Rattle.mad_parse.proofs.writing.style_tokens_to_string.Given as goal

abbrev pub invariant-loop-token : goal.invariant-loop-token
invariant-loop-token l = string_bytes l.text ++ more_text l.first (drop l.token-index l.tokens) ≡ more_text true l.tokens
