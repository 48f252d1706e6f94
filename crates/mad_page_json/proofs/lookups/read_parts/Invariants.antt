use Rattle.std.proofs.Common.{◌≡◌, [], drop, map}
use Rattle.serde_json.specs.View.{view}
use Rattle.mad_page_json.specs.Lookups.{parts_under}
use Rattle.mad_page_json.specs.Named.{named_said}
use Rattle.mad_page_json.proofs.lookups.read_parts.Given as goal

-- what is left, after what was read, says the whole
abbrev pub invariant-loop-named : goal.invariant-loop-named
invariant-loop-named g l = parts_under g.S.FromTokens.of_tokens (view l.value) (map named_said (drop l.named-index l.parts)) l.read.items ≡ parts_under g.S.FromTokens.of_tokens (view l.value) (map named_said l.parts) []
