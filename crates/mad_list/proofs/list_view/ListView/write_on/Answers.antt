use Rattle.std.proofs.Common.{ℕ, List, subst}
use Rattle.mad_list_columns.specs.Shown.{IsKnownLook}
use Rattle.mad_list.specs.Lists.{ShowsListOf}
use Rattle.mad_list.proofs.WritingLemmas.{done_where_drawn, is_text, text_drawn, text_shows}
use Rattle.mad_list.proofs.list_view.ListView.write_on.Goals as goal

pub returns-clause-writes : goal.returns-clause-writes
returns-clause-writes g c =
    let extracts = g.E.CellExtract.extracts in
    text_drawn extracts c.args.self.now c.deref.result.now c.put_text.result (g.W.Out.seen c.args.out.now) (g.W.Out.seen c.put_text.new.out)
    (is_text extracts c.args.self.now c.style-style.result c.as_slice.result.now _ _ c.deref.result.now c.style-style.ensures c.as_slice.ensures.value c.new-bytes.ensures.bytes c.deref.ensures c.in_ok-push_list.ensures)
    c.put_text.ensures.writes

pub returns-clause-shown : goal.returns-clause-shown
returns-clause-shown g c =
    let list = c.args.self.now in
    let extracts = g.E.CellExtract.extracts in
    let text : List ℕ = c.deref.result.now in
    done_where_drawn c.put_text.result (g.W.Out.seen c.args.out.now) (g.W.Out.seen c.put_text.new.out) text (ShowsListOf extracts list) c.put_text.ensures.writes
    (text_shows extracts list text c.requires (subst IsKnownLook c.style-style.ensures c.know_look.ensures)
    (is_text extracts list c.style-style.result c.as_slice.result.now _ _ text c.style-style.ensures c.as_slice.ensures.value c.new-bytes.ensures.bytes c.deref.ensures c.in_ok-push_list.ensures))
