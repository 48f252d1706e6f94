use Rattle.std.proofs.Common.{◌≡◌, ◌++◌, map}
use Rattle.std.specs.Prelude.{string_bytes}
use Rattle.serde_json.specs.View.{members_view}
use Rattle.mad_page_json.specs.PageReading.{unknown_in}
use Rattle.mad_page_json.proofs.reading.push_unknown.Given as goal

abbrev pub invariant-loop-key : goal.invariant-loop-key
invariant-loop-key l = map string_bytes l.unknown.items ++ unknown_in l.skin (members_view l.key-iterator) ≡ map string_bytes l.fn.unknown.items ++ unknown_in l.skin (members_view l.members.entries)
