use Rattle.std.proofs.Common.{◌≡◌}
use Rattle.serde_json.specs.Find.{as_object}
use Rattle.serde_json.specs.View.{view, members_view}
use Rattle.mad_json.specs.Readers.{found_of}
use Rattle.mad_json.specs.Reading.{members_read, object_read}
use Rattle.mad_json.proofs.reading.skin_from_value.Given as goal

-- what is left, after what was read, says the whole
abbrev pub invariant-loop-key : goal.invariant-loop-key
invariant-loop-key l = members_read (members_view l.key-iterator) (found_of l.reader) ≡ object_read (as_object (view l.value))
