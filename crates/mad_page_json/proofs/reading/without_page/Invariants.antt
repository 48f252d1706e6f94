use Rattle.std.proofs.Common.{◌≡◌, ◌++◌, map}
use Rattle.std.specs.Prelude.{string_bytes}
use Rattle.std.specs.Vec.Iter.{into_iter_items}
use Rattle.mad_page_json.specs.PageReading.{others}
use Rattle.mad_page_json.proofs.reading.without_page.Given as goal

abbrev pub invariant-loop-key : goal.invariant-loop-key
invariant-loop-key l = map string_bytes l.left.items ++ others (map string_bytes (into_iter_items l.key-iterator)) ≡ others (map string_bytes l.fn.keys.items)
