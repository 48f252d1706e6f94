use Rattle.std.proofs.Common.{◌≡◌, map, take}
use Rattle.mad_md.specs.Flagged.{run_of}
use Rattle.mad_outline.specs.Sources.{bold_run}
use Rattle.mad_outline.proofs.contents.bold_each.Given as goal

-- those so far are bold
abbrev pub invariant-loop-compound : goal.invariant-loop-compound
invariant-loop-compound l = map run_of l.bold.items ≡ map bold_run (map run_of (take l.compound-index l.compounds))
