use Rattle.std.proofs.Common.{◌≡◌, [], drop}
use Rattle.serde_json.specs.View.{items_view}
use Rattle.mad_json.specs.Lists.{items_said}
use Rattle.mad_json.proofs.lists.read_styles.Given as goal

-- what is left, after what was read, says the whole
abbrev pub invariant-loop-item : goal.invariant-loop-item
invariant-loop-item g l = items_said g.S.FromTokens.of_tokens (items_view (drop l.item-index l.item-items)) l.styles.items ≡ items_said g.S.FromTokens.of_tokens (items_view l.item-items) []
