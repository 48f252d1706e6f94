use Rattle.std.proofs.Common.{◌≡◌, ◌<◌, ◌^◌, ◌∙◌, ◌++◌, ◌∷◌, [], ℕ, List, ap, sym, subst, arith, length, map, rules, string_bytes}
use Rattle.std.proofs.lemmas.List.{get_or-map, length-map}
use Rattle.markdown_anchors.specs.Anchors.{name_bytes, numbered}
use Rattle.markdown_headings.specs.Counts.{IsCountedOnce, counted}
use Rattle.markdown_headings.specs.HeadingsSaid.{title_said}
use Rattle.markdown_headings.proofs.CountLemmas.{all_named, none_named, one_named}
use Rattle.markdown_headings.proofs.names.names_of.Goals as goal

pub loop-title-init : goal.loop-title-init
loop-title-init c = none_named (map title_said c.args.titles.now) _ _ (ap (map string_bytes) c.new-names.ensures.items) c.new-counts.ensures.empty

pub loop-title-preserved : goal.loop-title-preserved
loop-title-preserved c =
    let titles = c.args.titles.now in
    let i = c.loop-title.title-index in
    let title = c.title-item.result in
    let few : length titles < 2 ^ 64 = search rules in
    let same : length (map title_said titles) ≡ length titles = length-map titles title_said in
    one_named (map title_said titles) i (title_said title) _ _ c.loop-title.counts c.push_name.new.counts (omega (arith, c.loop-title-test.true, same)) (omega (arith, few, same)) (get_or-map title_said titles i title (title_said title) c.loop-title-test.true ∙ ap title_said (sym c.title-item.is))
    (c.in_ok-push_name.ensures.names ∙ ap (λ (t : List ℕ). map string_bytes c.loop-title.names.items ++ numbered (name_bytes t) (counted c.loop-title.counts (name_bytes t)) ∷ []) c.as_str.ensures.value)
    (subst (λ (t : List ℕ). IsCountedOnce c.loop-title.counts c.push_name.new.counts (name_bytes t)) c.as_str.ensures.value c.in_ok-push_name.ensures.counts) c.loop-title.invariant

pub returns : goal.returns
returns c = all_named (map title_said c.args.titles.now) c.loop-title.title-index _ _ (omega (arith, c.loop-title-test.false, length-map c.args.titles.now title_said)) c.loop-title.invariant
