use Rattle.std.proofs.Common.{◌≡◌, ◌≤◌, ◌<◌, ℕ, ◌+◌, ◌-◌, List, [], ◌∷◌, length, drop, reverse, get_or, sym, ap, ◌∙◌, arith}
use Rattle.std.proofs.lemmas.List.{reverse-append}
use Rattle.markdown_pieces.specs.declared.pieces.Piece.{Piece}
use Rattle.markdown_inlines.specs.declared.links.Over.{Over}
use Rattle.markdown_inlines.specs.declared.links.Ahead.{Ahead}
use Rattle.markdown_inlines.specs.Links.{links_in, link_count, over_of, overs_from}
use Rattle.markdown_inlines.proofs.LinkLemmas.{no_piece, count_cons, count_nil, count_drop, overs_nil, back_step}
use Rattle.markdown_inlines.proofs.links.overs_of.Goals as goal

pub loop-index-init : goal.loop-index-init
loop-index-init c =
    let pieces : List Piece = c.args.pieces.now in
    let nothing : record { overs = reverse c.in_ok-overs.overs.items; ahead = reverse c.new-ahead.result.items } ≡ overs_from (length pieces) c.link_count-number.result (drop (length pieces) pieces) =
    ap (λ (l : List Over). record { overs = reverse l; ahead = reverse c.new-ahead.result.items }) c.in_ok-overs.ensures.items
    ∙ ap (λ (l : List Ahead). record { overs = []; ahead = reverse l }) c.new-ahead.ensures.items ∙ sym (overs_nil pieces (length pieces) c.link_count-number.result) in
    record { within = omega arith; number = omega (arith, c.link_count-number.ensures, count_nil pieces); so_far = nothing }

pub overflow_sub-number : goal.overflow_sub-number
overflow_sub-number c =
    let pieces : List Piece = c.args.pieces.now in
    let i : ℕ = c.loop-index.index - 1 in
    let within : i < length pieces = omega (arith, c.loop-index.invariant.within, c.loop-index-test.true) in
    let next : link_count (drop (i + 1) pieces) ≡ link_count (drop c.loop-index.index pieces) = (let same : i + 1 ≡ c.loop-index.index = omega (arith, c.loop-index-test.true) in ap (λ k. link_count (drop k pieces)) same) in
    omega (arith, c.links_in-number.ensures.value, count_cons pieces i no_piece within, count_drop pieces i, next, c.loop-index.invariant.number)

pub loop-index-preserved : goal.loop-index-preserved
loop-index-preserved c =
    let pieces : List Piece = c.args.pieces.now in
    let index : ℕ = c.loop-index.index in
    let i : ℕ = index - 1 in
    let less : ℕ = c.loop-index.number - c.links_in-number.result in
    let p : Piece = get_or pieces i no_piece in
    let within : i < length pieces = omega (arith, c.loop-index.invariant.within, c.loop-index-test.true) in
    let same : i + 1 ≡ index = omega (arith, c.loop-index-test.true) in
    let next : link_count (drop (i + 1) pieces) ≡ link_count (drop index pieces) = ap (λ k. link_count (drop k pieces)) same in
    let cons : link_count (drop i pieces) ≡ links_in p.kind + link_count (drop (i + 1) pieces) = count_cons pieces i no_piece within in
    let enough : links_in p.kind ≤ c.loop-index.number = omega (arith, cons, count_drop pieces i, next, c.loop-index.invariant.number) in
    let one : c.links_in-number.result ≡ links_in p.kind = c.links_in-number.ensures.value in
    let over : c.over_of.result ≡ over_of i less p.kind (reverse c.loop-index.ahead.items) = c.over_of.ensures ∙ ap (λ (l : List Ahead). over_of i less p.kind (reverse l)) c.deref.ensures.value in
    let pushed : reverse c.push.new.self.items ≡ over_of i less p.kind (reverse c.loop-index.ahead.items) ∷ reverse c.loop-index.overs.items =
    ap reverse c.in_ok-push.ensures.items ∙ reverse-append c.loop-index.overs.items (c.over_of.result ∷ []) ∙ ap (λ x. x ∷ reverse c.loop-index.overs.items) over in
    record {
      within = omega (arith, within);
      number = omega (arith, cons, next, c.loop-index.invariant.number, one, enough);
      so_far = back_step pieces i index c.loop-index.number less no_piece (reverse c.loop-index.overs.items) (reverse c.push.new.self.items) (reverse c.loop-index.ahead.items) (reverse c.step_back.new.ahead.items)
          (sym same) within (omega (arith, one, enough)) c.loop-index.invariant.so_far pushed c.in_ok-step_back.ensures;
    }
