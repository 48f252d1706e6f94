use Rattle.std.proofs.Common.{rules, ◌∙◌, ◌≡◌, ℕ, false, arith}
use Rattle.std.specs.List.{filter}
use Rattle.markdown_emphasis.specs.declared.flags.Flags.{Flags}
use Rattle.markdown_emphasis.specs.Flags.{is_bold, is_italic, is_strikeout, is_covered, flags_at}
use Rattle.markdown_emphasis.proofs.FlagLemmas.{read_at, push_flags, flags_none}
use Rattle.markdown_emphasis.proofs.flags.flag_pieces.Goals as goal

pub loop-piece-preserved : goal.loop-piece-preserved
loop-piece-preserved c =
    let k : ℕ = c.loop-piece.piece in
    let bold : c.index.result.now ≡ is_covered (filter is_bold c.args.pairs.now) k =
    read_at c.in_ok-bold.bold.items k false c.index.result.now _ (omega (arith, c.in_ok-bold.ensures.size)) c.index.ensures (c.in_ok-bold.ensures.covered k c.loop-piece-test.true) in
    let italic : c.index-in-loop-piece.result.now ≡ is_covered (filter is_italic c.args.pairs.now) k =
    read_at c.in_ok-italic.italic.items k false c.index-in-loop-piece.result.now _ (omega (arith, c.in_ok-italic.ensures.size)) c.index-in-loop-piece.ensures (c.in_ok-italic.ensures.covered k c.loop-piece-test.true) in
    let strikeout : c.index-in-loop-piece-2.result.now ≡ is_covered (filter is_strikeout c.args.pairs.now) k =
    read_at c.in_ok-strikeout.strikeout.items k false c.index-in-loop-piece-2.result.now _ (omega (arith, c.in_ok-strikeout.ensures.size)) c.index-in-loop-piece-2.ensures (c.in_ok-strikeout.ensures.covered k c.loop-piece-test.true) in
    let flags : Flags = record { bold = c.index.result.now; italic = c.index-in-loop-piece.result.now; strikeout = c.index-in-loop-piece-2.result.now } in
    let same : flags ≡ flags_at c.args.pairs.now k = cc in
    push_flags c.args.pairs.now c.loop-piece.flags.items c.push.new.self.items k flags c.loop-piece.invariant c.in_ok-push.ensures.items same

pub returns-then-is_empty : goal.returns-then-is_empty
returns-then-is_empty c = c.in_ok-flags.ensures.items_if_clones_equal (search rules) ∙ flags_none c.args.pairs.now c.args.pieces (grind (arith, c.is_empty.ensures, c.if-is_empty.true))
