use Rattle.std.proofs.Common.{◌≡◌, sym, ◌∙◌}
use Rattle.std.specs.Str.{chars}
use Rattle.std.proofs.lemmas.Iterator.{YieldsList-from_chars}
use Rattle.std.proofs.lemmas.Iterator.Consumers.{YieldsList-end}
use Rattle.std.proofs.lemmas.List.{map-id}
use Rattle.termimad_page_run.proofs.RunLemmas.{name_more, name_whole, shown_by}
use Rattle.termimad_page_run.proofs.program.name_row.Goals as goal

pub loop-c-preserved : goal.loop-c-preserved
loop-c-preserved c = name_more _ _ c.loop-c.yielded c.in-Some.c c.row_char.result c.loop-c.invariant c.row_char.ensures c.in_ok-push.ensures.bytes

pub returns : goal.returns
returns c =
    let all : c.loop-c.yielded ≡ chars c.deref-2.result.now =
    sym (map-id c.loop-c.yielded) ∙ (YieldsList-end (YieldsList-from_chars c.deref-2.result.now c.deref-2.utf8 cc) c.loop-c.yielded _ c.loop-c.yielded_by _ _ c.in-None.is c.next.ensures.steps).0 in
    name_whole _ c.loop-c.yielded c.deref-2.result.now c.args.name.now c.loop-c.invariant all (shown_by _ _ _ (c.deref.ensures.value ∙ c.in_ok-printed.ensures.text) (c.deref-2.ensures.value ∙ c.in_ok-name.ensures.text))
