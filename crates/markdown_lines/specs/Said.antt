-- What runs say, whatever their places.
use Rattle.std.specs.Prelude.{List, take, drop, string_bytes}
use Rattle.mad_md.specs.Flagged.{Run}
use Rattle.markdown_lines.specs.Runs.{runs_said}
use Rattle.markdown_lines.specs.declared.places.RunRange.{RunRange}
use Rattle.markdown_lines.specs.declared.runs.Runs.{Runs}

-- what all runs of a text say, in order
abbrev pub said : Runs → List Run
said runs = runs_said (string_bytes runs.text) runs.places.items

-- some of the runs
abbrev pub range_said : List Run → RunRange → List Run
range_said runs range = take range.count (drop range.start runs)
