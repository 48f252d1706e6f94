-- What a mapper has shown.
use Rattle.std.specs.Prelude.{map}
use Rattle.markdown_reader.specs.Mapping.{Mapping}
use Rattle.markdown_reader.specs.SectionsSaid.{link_said, section_said}
use Rattle.markdown_reader.specs.declared.mapper.Mapper.{Mapper}

-- what a mapper has shown so far
abbrev pub mapping_of : Mapper → Mapping
mapping_of m = record { sections = map section_said m.sections.items; links = map link_said m.links.items; gutters = m.gutters.items; seen = m.seen; lists = m.lists.items; item_apart = m.item_apart; since = m.since; apart = m.apart; some = m.some; big = m.big; marks = m.marks.items }
