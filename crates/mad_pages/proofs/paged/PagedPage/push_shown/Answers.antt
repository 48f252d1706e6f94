use Rattle.std.proofs.Common.{ℕ, true, List, ◌≡◌, ◌++◌, Option, map, subst}
use Rattle.mad_md.specs.Lines.{contents}
use Rattle.mad_sections.specs.Sections.{section_content}
use Rattle.mad_sections.specs.declared.gutters.Gutter.{Gutter}
use Rattle.mad_pages.specs.Fronts.{front_content, front_of}
use Rattle.mad_pages.specs.PagedPages.{ArePartsAdded}
use Rattle.mad_pages.specs.PageRows.{behind}
use Rattle.mad_pages.proofs.BesideLemmas.{section_added}
use Rattle.mad_pages.proofs.paged.PagedPage.push_shown.Goals as goal

pub returns-clause-added : goal.returns-clause-added
returns-clause-added g c =
    let old = c.args.self.now in
    section_added (g.S.LineSkin.rules c.args.skin.now) c.args.ascii c.args.width (section_content c.args.section) old
    (record { lines = c.push_parts.new.lines; fronts = c.push_fronts.new.fronts; starts = old.starts; parts = c.push_parts.new.starts }) c.count_of-above.result c.lines_below.result.now
    (subst (λ (room : Option ℕ). ArePartsAdded (g.S.LineSkin.rules c.args.skin.now) room (contents c.args.section.text) old.lines.items old.parts.items c.push_parts.new.lines.items c.push_parts.new.starts.items) c.room_behind-room.ensures.columns c.in_ok-push_parts.ensures)
    c.count_of-above.ensures c.lines_below.ensures
    (subst (λ (gs : List Gutter). map front_content c.push_fronts.new.fronts.items ≡ map front_content old.fronts.items ++ map front_of (behind gs c.args.section.fresh c.args.section.marks.now 0 true c.lines_below.result.now)) c.room_behind-room.ensures.shown c.in_ok-push_fronts.ensures)
