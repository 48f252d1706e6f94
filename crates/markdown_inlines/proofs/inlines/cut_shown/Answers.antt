use Rattle.std.proofs.Common.{◌≡◌, ℕ, List, length, refl, ap, ◌∙◌}
use Rattle.std.proofs.lemmas.List.FromFn.{length-map-range_with_len}
use Rattle.markdown_emphasis.specs.declared.runs.Pair.{Pair}
use Rattle.markdown_emphasis.specs.Flags.{flags_at, flags_of}
use Rattle.markdown_pieces.specs.declared.pieces.Piece.{Piece}
use Rattle.markdown_pieces.specs.Cut.{CutText}
use Rattle.markdown_inlines.specs.Inlines.{all_over, are_shown, left_of}
use Rattle.markdown_inlines.proofs.PrintableLemmas.{from_shown}
use Rattle.markdown_inlines.proofs.ShownLemmas.{shown_all, left_is}
use Rattle.markdown_inlines.proofs.inlines.cut_shown.Goals as goal

pub shown_pieces-requires-clause-flags : goal.shown_pieces-requires-clause-flags
shown_pieces-requires-clause-flags c =
    ap length (c.deref.ensures.value ∙ c.in_ok-flags.ensures) ∙ length-map-range_with_len (flags_at c.args.pairs.now) 0 (length c.args.pieces.now)

pub returns-clause-shown : goal.returns-clause-shown
returns-clause-shown c =
    let text : List ℕ = c.args.text.now in
    let pieces : List Piece = c.args.pieces.now in
    let pairs : List Pair = c.args.pairs.now in
    let cut : CutText = record { pieces = pieces; pairs = pairs } in
    let flags : c.deref.result.now ≡ flags_of (length pieces) pairs = c.deref.ensures.value ∙ c.in_ok-flags.ensures in
    let left : c.deref-2.result.now ≡ left_of pairs pieces = c.deref-2.ensures.value ∙ left_is pairs pieces c.in_ok-left.left.items c.in_ok-left.ensures.size c.in_ok-left.ensures.left in
    let overs : c.deref-3.result.now ≡ all_over pieces = c.deref-3.ensures.value ∙ c.in_ok-overs.ensures.over in
    c.in_ok-leaf.ensures.shown ∙ shown_all text cut pieces c.deref.result.now c.deref-2.result.now c.deref-3.result.now refl flags left overs

pub returns-clause-printable : goal.returns-clause-printable
returns-clause-printable c = ap are_shown c.in_ok-leaf.ensures.shown ∙ from_shown c.args.text.now 0 c.args.pieces.now c.deref.result.now c.deref-2.result.now c.deref-3.result.now
