use Rattle.std.proofs.Common.{◌≡◌, ◌≤◌, false, [], ◌∷◌, ◌++◌, length, string_bytes, rules}
use Rattle.mad_term.specs.declared.commands.ClearType.TheVariants.{All}
use Rattle.mad_term.specs.Commands.{clear_bytes, sgr_bytes}
use Rattle.mad_screen.specs.Grid.{empty_grid}
use Rattle.mad_frames.specs.Bound.{most_bytes}
use Rattle.mad_frames.specs.Changes.{LeadTo}
use Rattle.mad_frames.specs.Mending.{mended}
use Rattle.mad_frames.proofs.FrameLemmas.{cleared_leads, cleared_bounded}
use Rattle.mad_frames.proofs.frame.Frame.changes_to.Goals as goal

pub returns-clause-leads : goal.returns-clause-leads
returns-clause-leads c =
    let f = c.args.self.now in
    let leads : LeadTo (mended (empty_grid f.base.width f.base.height)) (mended c.args.screen.now) (string_bytes c.in_ok-drawn.drawn) = search rules in
    let bytes : string_bytes c.push_str.new.self ≡ (sgr_bytes (0 ∷ []) ++ clear_bytes All) ++ string_bytes c.in_ok-drawn.drawn = search rules in
    cleared_leads f c.args.screen.now (string_bytes c.in_ok-drawn.drawn) (string_bytes c.push_str.new.self) leads bytes

pub returns-clause-bound : goal.returns-clause-bound
returns-clause-bound c =
    let f = c.args.self.now in
    let bytes : string_bytes c.push_str.new.self ≡ (sgr_bytes (0 ∷ []) ++ clear_bytes All) ++ string_bytes c.in_ok-drawn.drawn = search rules in
    let known : f.known ≡ false = search rules in
    let drawn : length (string_bytes c.in_ok-drawn.drawn) ≤ most_bytes (mended (empty_grid f.base.width f.base.height)).cells (mended c.args.screen.now).cells = search rules in
    cleared_bounded f c.args.screen.now (string_bytes c.in_ok-drawn.drawn) (string_bytes c.push_str.new.self) known drawn bytes
