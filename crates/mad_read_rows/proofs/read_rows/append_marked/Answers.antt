use Rattle.std.proofs.Common.{ℕ, List, ◌++◌, ap, ◌∙◌}
use Rattle.mad_style.specs.declared.compound_styles.CompoundStyle.{CompoundStyle}
use Rattle.mad_term.specs.Styles.{opening_bytes, closing_bytes}
use Rattle.mad_read_rows.proofs.ReadLemmas.{between}
use Rattle.mad_read_rows.proofs.read_rows.append_marked.Goals as goal

pub append_between-requires : goal.append_between-requires
append_between-requires c = λ part same.
    let own : CompoundStyle = c.compound_style.result in
    between c.args.skin.now c.args.style.now c.args.compound part c.deref.result.now c.closing_text-closing.result.now c.requires same
    (c.deref.ensures ∙ c.in_ok-write.ensures.bytes ∙ ap (λ (b : List ℕ). b ++ opening_bytes own.object_style) c.new-opening.ensures.bytes ∙ ap (λ (s : CompoundStyle). opening_bytes s.object_style) c.compound_style.ensures)
    (c.closing_text-closing.ensures ∙ ap (λ (s : CompoundStyle). closing_bytes s.object_style) c.compound_style.ensures)
