use Rattle.std.proofs.Common.{◌≡◌, ◌++◌, drop, map, string_bytes}
use Rattle.mad_md.specs.Flagged.{run_of}
use Rattle.markdown_headings.specs.Headings.{runs_text}
use Rattle.markdown_headings.proofs.titles.push_runs.Given as goal

-- what was put, and what is left, are the whole
abbrev pub invariant-loop-compound : goal.invariant-loop-compound
invariant-loop-compound l = string_bytes l.text ++ runs_text l.pictures (map run_of (drop l.compound-index l.compounds)) ≡ string_bytes l.fn.text ++ runs_text l.pictures (map run_of l.compounds)
