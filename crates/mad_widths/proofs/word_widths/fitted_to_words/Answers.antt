use Rattle.std.proofs.Common.{◌≡◌, ◌∙◌, ap, ap₂, sym, map, arith, length, sum, refl, subst}
use Rattle.std.specs.Vec.{with_items}
use Rattle.std.proofs.lemmas.List.{length-map, with_items_is}
use Rattle.mad_widths.specs.ColumnWidths.{natural_widths}
use Rattle.mad_widths.specs.WordWidths.{least_widths, raised, AreGivenUp}
use Rattle.mad_widths.specs.SeenCells.{needs_in}
use Rattle.mad_widths.proofs.ShareLemmas.{length-naturals}
use Rattle.mad_widths.proofs.WordLemmas.{shared_count, seen_least, seen_raised, word_unfit, word_fits}
use Rattle.mad_widths.proofs.word_widths.fitted_to_words.Goals as goal

pub returns-then-total_width-available : goal.returns-then-total_width-available
returns-then-total_width-available c =
    let least = least_widths (natural_widths (map needs_in c.args.columns.now)) (natural_widths (map needs_in c.args.words.now)) in
    let total : c.total_width.result ≡ sum least = c.total_width.ensures ∙ ap sum (c.deref.ensures.value ∙ c.in_ok-least.ensures) in
    word_unfit c.args.available (map needs_in c.args.columns.now) least c.in_ok-reduced.field-0 (omega (arith, total, c.if-total_width-available.true)) c.in_ok-reduced.ensures

pub raise-requires : goal.raise-requires
raise-requires c =
    let naturals = natural_widths (map needs_in c.args.columns.now) in
    let fitted = c.in_ok-reduced.field-0 in
    ap length (c.deref-2.ensures.value ∙ c.in_ok-least.ensures) ∙ (seen_least c.args.columns.now c.args.words.now).count
    ∙ sym (shared_count c.args.available naturals fitted.col_widths.items fitted.reduced c.in_ok-reduced.ensures.shared) ∙ sym (ap length c.deref_mut.ensures.value)

pub give_up_excess-requires-clause-count : goal.give_up_excess-requires-clause-count
give_up_excess-requires-clause-count c =
    let naturals = natural_widths (map needs_in c.args.columns.now) in
    let fitted = c.in_ok-reduced.field-0 in
    let long : length c.raise.new.widths ≡ fitted.col_widths.len = omega (arith, c.raise.auto.widths, c.deref_mut.ensures.len) in
    ap length (c.deref_mut-2.ensures.value ∙ with_items_is fitted.col_widths c.raise.new.widths long) ∙ c.raise.auto.widths ∙ ap length c.deref_mut.ensures.value
    ∙ shared_count c.args.available naturals fitted.col_widths.items fitted.reduced c.in_ok-reduced.ensures.shared ∙ length-naturals (map needs_in c.args.columns.now) ∙ length-map c.args.columns.now needs_in

pub give_up_excess-requires-clause-raised : goal.give_up_excess-requires-clause-raised
give_up_excess-requires-clause-raised c =
    let least = least_widths (natural_widths (map needs_in c.args.columns.now)) (natural_widths (map needs_in c.args.words.now)) in
    let fitted = c.in_ok-reduced.field-0 in
    let long : length c.raise.new.widths ≡ fitted.col_widths.len = omega (arith, c.raise.auto.widths, c.deref_mut.ensures.len) in
    let ws : c.deref_mut-2.result.now ≡ raised fitted.col_widths.items least =
    c.deref_mut-2.ensures.value ∙ with_items_is fitted.col_widths c.raise.new.widths long ∙ c.raise.ensures ∙ ap₂ raised c.deref_mut.ensures.value (c.deref-2.ensures.value ∙ c.in_ok-least.ensures) in
    rw (ws, c.deref-3.ensures.value, c.in_ok-least.ensures) (seen_raised c.args.columns.now c.args.words.now c.args.available fitted c.in_ok-reduced.ensures)

pub returns : goal.returns
returns c =
    let naturals = natural_widths (map needs_in c.args.columns.now) in
    let least = least_widths naturals (natural_widths (map needs_in c.args.words.now)) in
    let fitted = c.in_ok-reduced.field-0 in
    let total : c.total_width.result ≡ sum least = c.total_width.ensures ∙ ap sum (c.deref.ensures.value ∙ c.in_ok-least.ensures) in
    let long : length c.raise.new.widths ≡ fitted.col_widths.len = omega (arith, c.raise.auto.widths, c.deref_mut.ensures.len) in
    let ws : c.deref_mut-2.result.now ≡ raised fitted.col_widths.items least =
    c.deref_mut-2.ensures.value ∙ with_items_is fitted.col_widths c.raise.new.widths long ∙ c.raise.ensures ∙ ap₂ raised c.deref_mut.ensures.value (c.deref-2.ensures.value ∙ c.in_ok-least.ensures) in
    let given : AreGivenUp c.args.available naturals (raised fitted.col_widths.items least) least c.give_up_excess.new.widths =
    subst (λ vs. AreGivenUp c.args.available naturals vs least c.give_up_excess.new.widths) ws
    (subst (λ l. AreGivenUp c.args.available naturals c.deref_mut-2.result.now l c.give_up_excess.new.widths) (c.deref-3.ensures.value ∙ c.in_ok-least.ensures) c.in_ok-give_up_excess.ensures) in
    word_fits c.args.available (map needs_in c.args.columns.now) least c.give_up_excess.new.widths fitted _ (seen_least c.args.columns.now c.args.words.now) (omega (arith, total, c.if-total_width-available.false)) c.in_ok-reduced.ensures given refl
    (with_items_is (with_items fitted.col_widths c.raise.new.widths) c.give_up_excess.new.widths (omega (arith, c.give_up_excess.auto.widths, c.deref_mut-2.ensures.len)))
