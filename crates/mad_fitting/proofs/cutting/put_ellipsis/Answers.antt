use Rattle.std.proofs.Common.{◌≡◌, ◌∙◌, ap, subst, take, drop, get_or}
use Rattle.std.specs.Str.{IsUtf8}
use Rattle.mad_md.specs.Flagged.{flags_of}
use Rattle.mad_md.specs.declared.compound.Compound.{Compound}
use Rattle.mad_fitting.proofs.CutLemmas.{put_items, own_at, cut_from}
use Rattle.mad_fitting.proofs.cutting.put_ellipsis.Goals as goal

pub returns-clause-cut : goal.returns-clause-cut
returns-clause-cut c =
    let h = c.requires in
    let p = c.index.result.now in
    let same : p ≡ h.own = c.index.ensures ∙ ap (λ l. get_or l c.args.number p) c.in_ok-reserve.ensures.items ∙ own_at c.args.compounds.now.items h.front h.back h.own p c.args.number h.parts h.number_is in
    let own = c.around.ensures in
    let parts = put_items c.reserve.new.self.items c.insert.new.self.items c.insert-2.new.self.items h.front h.back h.own c.around.result.0 c.ellipsis.result c.around.result.1 c.args.number (c.in_ok-reserve.ensures.items ∙ h.parts) h.number_is
    c.in_ok-insert.ensures.items c.in_ok-insert-2.ensures.items in
    cut_from c.args.number c.args.start c.args.end c.args.compounds.now.items _ h c.around.result.0 c.ellipsis.result c.around.result.1 (subst (λ (q : Compound). IsUtf8 q.src.now) same own.utf8) parts c.ellipsis.ensures
    (own.head_text ∙ ap (λ (q : Compound). take c.args.start q.src.now) same) (own.head_flags ∙ ap flags_of same) (own.tail_text ∙ ap (λ (q : Compound). drop c.args.end q.src.now) same) (own.tail_flags ∙ ap flags_of same)
