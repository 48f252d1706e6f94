use Rattle.std.proofs.Common.{◌≡◌, ◌++◌, map, drop, string_bytes}
use Rattle.markdown_stream.proofs.provisional.copied.Given as goal

abbrev pub invariant-loop-address : goal.invariant-loop-address
invariant-loop-address l = map string_bytes l.addresses.items ++ map string_bytes (drop l.address-index l.definitions.addresses.items) ≡ map string_bytes l.definitions.addresses.items
