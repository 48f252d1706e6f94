use Rattle.std.proofs.Common.{◌∷◌, ap}
use Rattle.mad_sections.specs.Sections.{section_content}
use Rattle.mad_dressing.specs.Dressed.{maybe_section, sections_dressed}
use Rattle.std.specs.Prelude.{option_map}
use Rattle.mad_pages.proofs.BesideLemmas.{two_added}
use Rattle.mad_pages.proofs.paged.PagedPage.push_dressed.Goals as goal

pub returns-in_ok-push_section-in-Some-clause-added : goal.returns-in_ok-push_section-in-Some-clause-added
returns-in_ok-push_section-in-Some-clause-added g c =
    two_added (g.S.LineSkin.rules c.args.skin.now) c.args.ascii c.args.width (section_content c.args.dressed.section) (section_content c.in-Some.rule) (sections_dressed c.args.dressed) c.args.self.now c.push_section.new.self c.push_section-in-Some.new.self
    (ap (λ r. section_content c.args.dressed.section ∷ maybe_section (option_map section_content r)) c.in-Some.is) c.in_ok-push_section.ensures.added (rw c.in-Some.is at c.in_ok-push_section-in-Some.ensures.added)
