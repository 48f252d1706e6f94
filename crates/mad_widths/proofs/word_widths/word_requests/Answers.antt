use Rattle.std.proofs.Common.{◌≡◌, ◌∙◌, ap, arith, rules}
use Rattle.std.proofs.lemmas.List.{with_items_is}
use Rattle.std.proofs.lemmas.Result.{IfOk-weaker}
use Rattle.mad_widths.specs.ColumnWidths.{second_requests}
use Rattle.mad_widths.specs.WordWidths.{counted_from}
use Rattle.mad_widths.proofs.WordLemmas.{word_asks}
use Rattle.mad_widths.proofs.word_widths.word_requests.Goals as goal

pub second_requests-requires : goal.second_requests-requires
second_requests-requires c =
    let now : c.deref.result.now ≡ counted_from c.args.widths.now c.args.least.now =
    c.deref.ensures.value ∙ with_items_is c.in_ok-counted.counted c.count_from.new.widths (omega (arith, c.count_from.auto.widths, c.deref_mut.ensures.len)) ∙ c.count_from.ensures
    ∙ ap (λ ws. counted_from ws c.args.least.now) (c.deref_mut.ensures.value ∙ c.in_ok-counted.ensures.items_if_clones_equal (search rules)) in
    (word_asks c.args.widths.now c.args.least.now c.deref.result.now c.args.available c.total_width.result c.requires.raised c.requires.fits c.requires.excess c.total_width.ensures now).0

pub returns : goal.returns
returns c =
    let now : c.deref.result.now ≡ counted_from c.args.widths.now c.args.least.now =
    c.deref.ensures.value ∙ with_items_is c.in_ok-counted.counted c.count_from.new.widths (omega (arith, c.count_from.auto.widths, c.deref_mut.ensures.len)) ∙ c.count_from.ensures
    ∙ ap (λ ws. counted_from ws c.args.least.now) (c.deref_mut.ensures.value ∙ c.in_ok-counted.ensures.items_if_clones_equal (search rules)) in
    let asks = word_asks c.args.widths.now c.args.least.now c.deref.result.now c.args.available c.total_width.result c.requires.raised c.requires.fits c.requires.excess c.total_width.ensures now in
    IfOk-weaker c.second_requests.result _ _ (λ requests is. is ∙ ap (λ l. second_requests l c.deref.result.now) asks.1 ∙ ap (second_requests _) now) c.second_requests.ensures
