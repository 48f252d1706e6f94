use Rattle.std.proofs.Common.{◌≡◌, ◌<◌, ℕ, length, get_or, arith}
use Rattle.std.proofs.lemmas.List.{ext_get_or}
use Rattle.mad_screen.specs.Grid.{blank}
use Rattle.mad_frames.proofs.runs.same_rows.Goals as goal

pub returns : goal.returns
returns c = λ h.
    let old = c.args.old.now in
    let new = c.args.new.now in
    let each : (i : ℕ) → i < length old → get_or old i blank ≡ get_or new i blank = λ i below. c.same_cells.ensures.0 h i (omega arith) (omega (arith, below, c.requires)) in
    ext_get_or blank old new c.requires each
