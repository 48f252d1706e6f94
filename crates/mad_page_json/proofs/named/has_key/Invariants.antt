use Rattle.std.proofs.Common.{◌≡◌, drop, map}
use Rattle.mad_page_json.specs.Named.{has_key, named_said}
use Rattle.mad_page_json.proofs.named.has_key.Given as goal

abbrev pub invariant-loop-named : goal.invariant-loop-named
invariant-loop-named g l = has_key l.key (map named_said (drop l.named-index l.parts)) ≡ has_key l.key (map named_said l.parts)
