use Rattle.std.proofs.Common.{◌+◌, [], List, get_or, refl, take}
use Rattle.mad_hits.proofs.TookLemmas.{took_in_turn, took_nothing}
use Rattle.mad_link_places.specs.Numbers.{AreNumbersShown, IsNumberShown}
use Rattle.mad_link_places.specs.declared.places.LinkPlace.{LinkPlace}
use Rattle.mad_link_places.proofs.NumberLemmas.{number_more}
use Rattle.mad_link_places.proofs.drawing.draw_numbers.Goals as goal

pub loop-place-init : goal.loop-place-init
loop-place-init g c = took_nothing (g.O.Out.seen c.args.out.now) (AreNumbersShown c.args.skin.now c.args.style c.args.room c.args.lines.now c.args.fronts.now c.args.top []) refl

pub loop-place-preserved : goal.loop-place-preserved
loop-place-preserved g c =
    let shown : List LinkPlace → List _ → Type 0 = AreNumbersShown c.args.skin.now c.args.style c.args.room c.args.lines.now c.args.fronts.now c.args.top in
    let places = c.args.places.now in
    let i = c.loop-place.place-index in
    took_in_turn (g.O.Out.seen c.args.out.now) (g.O.Out.seen c.loop-place.out) (g.O.Out.seen c.draw_number.new.out) (shown (take i places))
    (IsNumberShown c.args.skin.now c.args.style c.args.room c.args.lines.now c.args.fronts.now c.args.top (get_or places i _)) (shown (take (i + 1) places))
    (λ a b so here. number_more c.args.skin.now c.args.style c.args.room c.args.lines.now c.args.fronts.now c.args.top places i _ a b c.loop-place-test.true so here) c.loop-place.invariant c.in_ok-draw_number.ensures
