use Rattle.std.proofs.Common.{◌++◌, ◌∙◌, List, ℕ, sym, ap}
use Rattle.std.specs.Prelude.{string_bytes}
use Rattle.mad_rows.proofs.StyleLemmas.{same_style_true}
use Rattle.mad_term.specs.Styles.{opening_bytes}
use Rattle.mad_term.specs.declared.styles.ContentStyle.{ContentStyle}
use Rattle.mad_marked_rows.specs.Paints.{paint_by}
use Rattle.mad_marked_rows.proofs.paints.Paint.append_opening.Goals as goal

pub returns-then-eq : goal.returns-then-eq
returns-then-eq c =
    let paint = c.args.self.now in
    let same = same_style_true c.args.style paint.base (sym c.eq.ensures ∙ c.if-eq.true) in
    c.in_ok-push_str.ensures.bytes
    ∙ ap (λ (l : List ℕ). string_bytes c.args.rows.now ++ l) (c.as_str.ensures.value ∙ paint.known c.args.value c.index-self-value.result c.if-value-self.true
    ∙ ap (λ (s : ContentStyle). opening_bytes (paint_by paint.styles.now c.args.value s)) (sym same))
