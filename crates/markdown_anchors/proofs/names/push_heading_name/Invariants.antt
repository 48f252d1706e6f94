use Rattle.std.proofs.Common.{◌≡◌, ◌++◌, drop, length, string_bytes}
use Rattle.std.specs.Str.{chars, encode_utf8_all}
use Rattle.markdown_anchors.specs.Anchors.{heading_name, name_bytes}
use Rattle.markdown_anchors.proofs.names.push_heading_name.Given as goal

abbrev pub invariant-loop-c : goal.invariant-loop-c
invariant-loop-c l = string_bytes l.name ++ encode_utf8_all (heading_name (drop (length l.yielded) (chars l.text))) ≡ string_bytes l.fn.name ++ name_bytes l.text
