use Rattle.std.proofs.Common.{◌≡◌, ℕ, ◌+◌, ◌-◌, Bool, false, ltb, List, length, get_or, ap, sym, subst, ◌∙◌, arith}
use Rattle.std.proofs.lemmas.List.{length_push}
use Rattle.markdown_emphasis.specs.Flags.{is_covered, openers, closers}
use Rattle.markdown_emphasis.proofs.FlagLemmas.{at, read_at, push_piece, depth_ends, depth_covers, depth_next, before_small}
use Rattle.markdown_emphasis.proofs.flags.covered.Goals as goal

pub overflow_sub-depth : goal.overflow_sub-depth
overflow_sub-depth c =
    let k : ℕ = c.loop-piece.piece in
    let ended : c.index.result.now ≡ at k (closers c.args.pairs.now) =
    read_at c.in_ok-ended.ended.items k 0 c.index.result.now _ (omega (arith, c.in_ok-ended.ensures.size)) c.index.ensures (c.in_ok-ended.ensures.counts k c.loop-piece-test.true) in
    omega (arith, ended, depth_ends k c.args.pieces c.loop-piece.depth c.args.pairs.now c.requires c.loop-piece.invariant.depth)

pub overflow_add-depth : goal.overflow_add-depth
overflow_add-depth c =
    let k : ℕ = c.loop-piece.piece in
    let ended : c.index.result.now ≡ at k (closers c.args.pairs.now) =
    read_at c.in_ok-ended.ended.items k 0 c.index.result.now _ (omega (arith, c.in_ok-ended.ensures.size)) c.index.ensures (c.in_ok-ended.ensures.counts k c.loop-piece-test.true) in
    let begun : c.index-in-loop-piece.result.now ≡ at k (openers c.args.pairs.now) =
    read_at c.in_ok-begun.begun.items k 0 c.index-in-loop-piece.result.now _ (omega (arith, c.in_ok-begun.ensures.size)) c.index-in-loop-piece.ensures (c.in_ok-begun.ensures.counts k c.loop-piece-test.true) in
    omega (arith, ended, begun, depth_next k c.args.pieces c.loop-piece.depth c.args.pairs.now c.requires c.loop-piece.invariant.depth, before_small (k + 1) c.args.pairs.now)

pub loop-piece-preserved : goal.loop-piece-preserved
loop-piece-preserved c =
    let k : ℕ = c.loop-piece.piece in
    let pairs = c.args.pairs.now in
    let now : ℕ = c.loop-piece.depth - c.index.result.now in
    let ended : c.index.result.now ≡ at k (closers pairs) =
    read_at c.in_ok-ended.ended.items k 0 c.index.result.now _ (omega (arith, c.in_ok-ended.ensures.size)) c.index.ensures (c.in_ok-ended.ensures.counts k c.loop-piece-test.true) in
    let begun : c.index-in-loop-piece.result.now ≡ at k (openers pairs) =
    read_at c.in_ok-begun.begun.items k 0 c.index-in-loop-piece.result.now _ (omega (arith, c.in_ok-begun.ensures.size)) c.index-in-loop-piece.ensures (c.in_ok-begun.ensures.counts k c.loop-piece-test.true) in
    let covers : ltb 0 now ≡ is_covered pairs k = ap (λ e. ltb 0 (c.loop-piece.depth - e)) ended ∙ depth_covers k c.args.pieces c.loop-piece.depth pairs c.requires c.loop-piece.invariant.depth in
    record {
      size = ap length c.in_ok-push.ensures.items ∙ length_push c.loop-piece.covered.items (ltb 0 now) ∙ ap (λ n. n + 1) c.loop-piece.invariant.size;
      covered = λ i h. subst (λ (ys : List Bool). get_or ys i false ≡ is_covered pairs i) (sym c.in_ok-push.ensures.items)
          (push_piece c.loop-piece.covered.items (ltb 0 now) (is_covered pairs) k c.loop-piece.invariant.size c.loop-piece.invariant.covered covers i h);
      depth = omega (arith, ended, begun, depth_next k c.args.pieces c.loop-piece.depth pairs c.requires c.loop-piece.invariant.depth);
    }
