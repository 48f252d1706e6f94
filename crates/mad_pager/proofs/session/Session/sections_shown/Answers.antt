use Rattle.mad_pager.specs.Sessions.{state_of}
use Rattle.mad_pager.proofs.PagerSteps.{shown_sections}
use Rattle.mad_pager.proofs.session.Session.sections_shown.Goals as goal

pub returns : goal.returns
returns c =
    shown_sections (state_of c.args.self.now) c.as_slice-starts.result.now c.last_row.result c.section_at-first.result c.section_at-last.result c.saturating_add.result c.as_slice-starts.ensures.value c.section_at-first.ensures c.last_row.ensures
    c.section_at-last.ensures c.saturating_add.ensures
