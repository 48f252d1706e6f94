use Rattle.std.proofs.Common.{◌≡◌, drop}
use Rattle.mad_page_rows.specs.Faces.{ends_in_code}
use Rattle.mad_page_rows.proofs.BoxLemmas.{ends_from}
use Rattle.mad_page_rows.proofs.faces.ends_in_code.Given as goal

abbrev pub invariant-loop-gutter : goal.invariant-loop-gutter
invariant-loop-gutter l = ends_from l.last (drop l.gutter-index l.gutters) ≡ ends_in_code l.gutters
