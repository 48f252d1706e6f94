use Rattle.std.proofs.Common.{map, string_bytes}
use Rattle.markdown_headings.specs.HeadingsSaid.{title_said}
use Rattle.markdown_headings.proofs.CountLemmas.{NamedSoFar}
use Rattle.markdown_headings.proofs.names.names_of.Given as goal

abbrev pub invariant-loop-title : goal.invariant-loop-title
invariant-loop-title l = NamedSoFar (map title_said l.titles) l.title-index (map string_bytes l.names.items) l.counts
