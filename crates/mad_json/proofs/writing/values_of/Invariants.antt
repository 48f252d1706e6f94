use Rattle.std.proofs.Common.{◌≡◌, map, take}
use Rattle.std.specs.List.{All}
use Rattle.serde_json.specs.View.{view}
use Rattle.mad_parse.specs.Written.{tokens_text}
use Rattle.mad_json.specs.Written.{text_data}
use Rattle.mad_json.proofs.writing.values_of.Given as goal

-- those before this one are written, and read back
abbrev pub invariant-loop-part : goal.invariant-loop-part
invariant-loop-part g l = (map view l.values.items ≡ map (λ x. text_data (g.P.PushStyleTokens.tokens_of_value x)) (take l.part-index l.parts)) × All (λ x. g.P.PushStyleTokens.reads_back x (tokens_text (g.P.PushStyleTokens.tokens_of_value x))) (take l.part-index l.parts)
