-- What a reader of an object has read.
use Rattle.std.specs.Prelude.{map, string_bytes}
use Rattle.mad_json.specs.Reading.{Found}
use Rattle.mad_json.specs.declared.reading.Reader.{Reader}

-- a reader as what it has read
abbrev pub found_of : Reader → Found
found_of reader = record { skin = reader.skin; seen = reader.seen; unknown = map string_bytes reader.unknown.items }
