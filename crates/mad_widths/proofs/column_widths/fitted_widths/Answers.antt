use Rattle.std.proofs.Common.{◌≡◌, true, false, length, map, sum, arith, refl, sym, ap, ◌∙◌, subst}
use Rattle.std.proofs.lemmas.List.{length-map, with_items_is}
use Rattle.std.specs.Vec.{with_items}
use Rattle.mad_widths.specs.ColumnWidths.{natural_widths, AreReduced}
use Rattle.mad_widths.specs.SeenCells.{needs_in}
use Rattle.mad_widths.proofs.WidthLemmas.{fit_whole, fit_single, fit_shared}
use Rattle.mad_widths.proofs.column_widths.fitted_widths.Goals as goal

pub returns-then-total-available : goal.returns-then-total-available
returns-then-total-available c =
    let ns = map needs_in c.args.columns.now in
    let e : c.in_ok-widths.widths.items ≡ natural_widths ns = c.in_ok-widths.ensures in
    let total : c.total_width-total.result ≡ sum (natural_widths ns) = c.total_width-total.ensures ∙ ap sum (c.deref.ensures.value ∙ e) in
    fit_whole c.args.available ns (record { reduced = false; col_widths = c.in_ok-widths.widths }) (omega (arith, total, c.if-total-available.true)) e refl

pub reduce-requires-clause-naturals : goal.reduce-requires-clause-naturals
reduce-requires-clause-naturals c = c.deref_mut.ensures.value ∙ c.in_ok-widths.ensures

pub returns-then-columns-eq1 : goal.returns-then-columns-eq1
returns-then-columns-eq1 c =
    let ns = map needs_in c.args.columns.now in
    let e : c.in_ok-widths.widths.items ≡ natural_widths ns = c.in_ok-widths.ensures in
    let total : c.total_width-total.result ≡ sum (natural_widths ns) = c.total_width-total.ensures ∙ ap sum (c.deref.ensures.value ∙ e) in
    fit_single c.args.available ns (record { reduced = false; col_widths = c.in_ok-vec.field-0 }) (omega (arith, total, c.if-total-available.false)) (length-map c.args.columns.now needs_in ∙ c.if-columns-eq1.true) c.in_ok-vec.ensures.items refl

pub returns : goal.returns
returns c =
    let ns = map needs_in c.args.columns.now in
    let e : c.in_ok-widths.widths.items ≡ natural_widths ns = c.in_ok-widths.ensures in
    let total : c.total_width-total.result ≡ sum (natural_widths ns) = c.total_width-total.ensures ∙ ap sum (c.deref.ensures.value ∙ e) in
    let long : length c.reduce.new.widths ≡ c.in_ok-widths.widths.len = c.reduce.auto.widths ∙ c.deref_mut.ensures.len in
    let same : (with_items c.in_ok-widths.widths c.reduce.new.widths).items ≡ c.reduce.new.widths = with_items_is c.in_ok-widths.widths c.reduce.new.widths long in
    fit_shared c.args.available ns (record { reduced = true; col_widths = with_items c.in_ok-widths.widths c.reduce.new.widths }) (omega (arith, total, c.if-total-available.false))
    (λ one. c.if-columns-eq1.false (sym (length-map c.args.columns.now needs_in) ∙ one)) (subst (AreReduced c.args.available ns) (sym same) c.in_ok-reduce.ensures) refl
