use Rattle.std.proofs.Common.{◌≡◌, ◌++◌, drop, map, string_bytes}
use Rattle.markdown_anchors.specs.Anchors.{heading_names, names_after}
use Rattle.markdown_anchors.proofs.names.heading_names.Given as goal

abbrev pub invariant-loop-text : goal.invariant-loop-text
invariant-loop-text l = map string_bytes l.names.items ++ names_after (map string_bytes l.before.items) (map (λ text. text.now) (drop l.text-index l.texts)) ≡ heading_names (map (λ text. text.now) l.texts)
