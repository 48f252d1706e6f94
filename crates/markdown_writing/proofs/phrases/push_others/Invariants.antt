use Rattle.std.proofs.Common.{◌≡◌, ◌++◌, map, length}
use Rattle.std.specs.List.{flat_map}
use Rattle.markdown_writing.specs.Phrases.{phrase_of, phrase_text}
use Rattle.markdown_writing.proofs.phrases.push_others.Given as goal

abbrev pub invariant-loop-rest : goal.invariant-loop-rest
invariant-loop-rest l = l.out.items ++ flat_map phrase_text (map phrase_of l.rest) ≡ l.fn.out.items ++ flat_map phrase_text (map phrase_of l.phrases)

abbrev pub decreases-loop-rest : goal.decreases-loop-rest
decreases-loop-rest l = length l.rest
