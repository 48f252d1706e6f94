-- What a showing has shown, and its definitions.
use Rattle.markdown_lines.specs.LinksOf.{defined_of}
use Rattle.markdown_reader.specs.MappingOf.{mapping_of}
use Rattle.markdown_stream.specs.Streamed.{Streamed}
use Rattle.markdown_stream.specs.declared.showing.Showing.{Showing}

-- what a showing has shown so far, and what is defined
abbrev pub streamed_of : Showing → Streamed
streamed_of s = record { defined = defined_of s.definitions; mapping = mapping_of s.mapper }
