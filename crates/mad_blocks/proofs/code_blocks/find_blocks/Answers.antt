use Rattle.std.proofs.Common.{[], ◌∷◌, ◌++◌, ◌+◌, ap, sym, ◌∙◌, arith, drop, append_assoc, append-nil}
use Rattle.mad_blocks.specs.CodeBlocks.{blocks_among}
use Rattle.mad_blocks.specs.LayoutParts.{parts_of}
use Rattle.mad_blocks.proofs.CodeBlockLemmas.{found_none, found_next, within_next, fewer_left}
use Rattle.mad_blocks.proofs.code_blocks.find_blocks.Goals as goal

pub loop-block-init : goal.loop-block-init
loop-block-init c = record {
  inside = omega arith;
  so_far = ap (λ bs. bs ++ blocks_among 0 (parts_of c.args.lines.now)) c.new-blocks.ensures.items;
}

pub next_block-requires : goal.next_block-requires
next_block-requires c = c.loop-block.invariant.inside

pub loop-block-smaller : goal.loop-block-smaller
loop-block-smaller c = fewer_left c.args.lines.now c.loop-block.start c.in-Some.block c.in-Some.ensures

pub loop-block-preserved : goal.loop-block-preserved
loop-block-preserved c =
    let b = c.in-Some.block in
    let blocks = c.loop-block.blocks.items in
    let rest = blocks_among (b.start + b.height) (parts_of (drop (b.start + b.height) c.args.lines.now)) in
    record {
      inside = within_next c.args.lines.now c.loop-block.start b c.in-Some.ensures;
      so_far = ap (λ bs. bs ++ rest) c.in_ok-push.ensures.items ∙ append_assoc blocks (b ∷ []) rest
          ∙ ap (λ bs. blocks ++ bs) (sym (found_next c.args.lines.now c.loop-block.start b c.in-Some.ensures)) ∙ c.loop-block.invariant.so_far;
    }

pub returns : goal.returns
returns c =
    let blocks = c.loop-block.blocks.items in
    sym (append-nil blocks) ∙ ap (λ bs. blocks ++ bs) (sym (found_none c.args.lines.now c.loop-block.start c.in_default.ensures)) ∙ c.loop-block.invariant.so_far
