use Rattle.std.proofs.Common.{◌≡◌, drop, map, take}
use Rattle.std.specs.List.{All}
use Rattle.serde_json.specs.View.{members_view}
use Rattle.mad_parse.specs.Written.{tokens_text}
use Rattle.mad_json.specs.Written.{text_data}
use Rattle.mad_page_json.specs.Named.{named_said}
use Rattle.mad_page_json.specs.PageWriting.{with_parts}
use Rattle.mad_page_json.proofs.writing.put_parts.Given as goal

-- what is left, put after what is there, is the whole; those before this one read back
abbrev pub invariant-loop-named : goal.invariant-loop-named
invariant-loop-named g l = record {
  so_far : with_parts (λ part. text_data (g.P.PushStyleTokens.tokens_of_value part)) (map named_said (drop l.named-index l.parts)) (members_view l.members.entries)
      ≡ with_parts (λ part. text_data (g.P.PushStyleTokens.tokens_of_value part)) (map named_said l.parts) (members_view l.fn.members.entries);
  back : All (λ named. g.P.PushStyleTokens.reads_back named.part (tokens_text (g.P.PushStyleTokens.tokens_of_value named.part))) (take l.named-index l.parts);
}
