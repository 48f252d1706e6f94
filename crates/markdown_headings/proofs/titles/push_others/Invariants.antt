use Rattle.std.proofs.Common.{◌≡◌, ◌++◌, drop, map, string_bytes}
use Rattle.mad_md.specs.Lines.{content_of}
use Rattle.markdown_headings.specs.Headings.{others_text}
use Rattle.markdown_headings.proofs.titles.push_others.Given as goal

-- what was put, and what is left, are the whole
abbrev pub invariant-loop-line : goal.invariant-loop-line
invariant-loop-line l = string_bytes l.text ++ others_text l.pictures (map content_of (drop l.line-index l.lines)) ≡ string_bytes l.fn.text ++ others_text l.pictures (map content_of l.lines)
