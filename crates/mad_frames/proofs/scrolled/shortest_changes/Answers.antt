use Rattle.std.proofs.Common.{List, ℕ, refl, sym, subst}
use Rattle.mad_frames.specs.Mending.{mended}
use Rattle.mad_frames.specs.Scrolling.{BringTo}
use Rattle.mad_frames.proofs.SizeLemmas.{read_size}
use Rattle.mad_frames.proofs.scrolled.shortest_changes.Goals as goal

pub shorter_changes-requires : goal.shorter_changes-requires
shorter_changes-requires c = record { size = read_size c.args.old.now c.args.new.now c.args.text.now c.requires }

pub returns-then-leads_anyhow : goal.returns-then-leads_anyhow
returns-then-leads_anyhow c = subst (λ (l : List ℕ). BringTo (mended c.args.old.now) (mended c.args.new.now) l) (sym c.in_ok-bytes.ensures.items) (c.if-leads_anyhow.ensures refl c.requires)
