-- What lines show, whatever the places of their runs.
use Rattle.std.specs.Prelude.{List}
use Rattle.mad_md.specs.Lines.{LineContent}
use Rattle.markdown_lines.specs.Lines.{lines_said}
use Rattle.markdown_lines.specs.Said.{said}
use Rattle.markdown_lines.specs.declared.lines.Lines.{Lines}

-- what each line says, of the runs that are kept beside them
abbrev pub shown : Lines → List LineContent
shown lines = lines_said (said lines.runs) lines.lines.items
