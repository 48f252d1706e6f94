use Rattle.std.proofs.Common.{◌≡◌, [], false, inl, inr, length, take, refl, ap, rules, arith}
use Rattle.std.proofs.lemmas.List.{length-append, length-take-le}
use Rattle.mad_stream.proofs.SourceLemmas.{block_come, none_waits, some_came, some_wait}
use Rattle.markdown_stream.proofs.SourceLemmas.{block_stopped, read_out, source_ended, source_failed, source_more, source_start, text_ended}
use Rattle.markdown_stream.proofs.sources.write_markdown_source_on.Goals as goal

pub loop-block-init : goal.loop-block-init
loop-block-init g c = record {
  few = omega arith;
  size = refl;
  so_far = source_start _ _ _ _ c.new-stream.result [] refl c.new-stream.ensures.start c.new-stream.ensures.prompt c.new-stream.ensures.skin c.new-stream.ensures.width;
}

pub returns-in-Err : goal.returns-in-Err
returns-in-Err g c = record { streams = source_failed (Unit {0}) c.in-Err.error _ _ _ _ c.loop-block.stream _ _ _ _ _ c.loop-block.invariant.so_far c.in-Err.ensures }

pub returns-then-count-eq0 : goal.returns-then-count-eq0
returns-then-count-eq0 g c =
    let filled = c.in-Ok.ensures in
    let few = c.loop-block.invariant.few in
    let size = c.loop-block.invariant.size in
    let h =
    source_ended c.args.skin.now c.args.width (g.I.Source.seen c.args.input.now) (g.O.Out.seen c.args.out.now) c.loop-block.stream (take c.loop-block.waiting c.loop-block.block) c.loop-block._block (g.I.Source.seen c.loop-block.input) (g.I.Source.seen c.fill.new.self) (g.O.Out.seen c.loop-block.out) c.fill.new.buffer c.in-Ok.count c.loop-block.invariant.so_far filled.handed_out c.if-count-eq0.true in
    record { streams = read_out _ _ _ _ _ _ c.loop-block.stream _ _ _ _ _ h (inl (filled.ended c.if-count-eq0.true (search rules))) (none_waits c.loop-block.waiting c.loop-block.block) (some_wait c.loop-block.waiting c.loop-block.block (omega arith)) c.end_source.ensures }

pub returns-in_err-used : goal.returns-in_err-used
returns-in_err-used g c =
    let filled = c.in-Ok.ensures in
    let few = c.loop-block.invariant.few in
    let size = c.loop-block.invariant.size in
    record {
      streams = block_stopped c.from_residual.result _ _ _ _ _ c.loop-block.stream (take c.loop-block.waiting c.loop-block.block) (take c.in-Ok.count c.fill.new.buffer) _ c.loop-block._block _ _ _ _ c.loop-block.invariant.so_far filled.handed_out
          (block_come c.loop-block.block c.fill.new.buffer _ c.loop-block.waiting c.in-Ok.count (omega arith) filled.within) c.in_err-used.ensures c.from_residual.ensures.1;
    }

pub returns-then-is_wrong : goal.returns-then-is_wrong
returns-then-is_wrong g c =
    let filled = c.in-Ok.ensures in
    let few = c.loop-block.invariant.few in
    let size = c.loop-block.invariant.size in
    let k =
    source_more c.args.skin.now c.args.width (g.I.Source.seen c.args.input.now) (g.O.Out.seen c.args.out.now) c.loop-block.stream c.feed_block.new.stream (take c.loop-block.waiting c.loop-block.block) (take c.in-Ok.count c.fill.new.buffer) _ _ c.in_ok-used.used c.loop-block._block c.in_ok-used.is_wrong
    (g.I.Source.seen c.loop-block.input) (g.I.Source.seen c.fill.new.self) (g.O.Out.seen c.loop-block.out) (g.O.Out.seen c.feed_block.new.out) c.loop-block.invariant.so_far filled.handed_out (some_came c.fill.new.buffer c.in-Ok.count filled.within c.if-count-eq0.false)
    (block_come c.loop-block.block c.fill.new.buffer _ c.loop-block.waiting c.in-Ok.count (omega arith) filled.within) c.in_ok-used.ensures refl in
    record { streams = text_ended c.end_source-then-is_wrong.result false _ _ _ _ c.feed_block.new.stream _ _ _ _ _ k.0 (λ is. absurd (cc)) (λ _. inr (k.1 c.if-is_wrong.true)) c.end_source-then-is_wrong.ensures }

pub loop-block-preserved : goal.loop-block-preserved
loop-block-preserved g c =
    let filled = c.in-Ok.ensures in
    let few = c.loop-block.invariant.few in
    let size = c.loop-block.invariant.size in
    let fed = c.in_ok-used.ensures in
    let come = block_come c.loop-block.block c.fill.new.buffer _ c.loop-block.waiting c.in-Ok.count (omega arith) filled.within in
    let k =
    source_more c.args.skin.now c.args.width (g.I.Source.seen c.args.input.now) (g.O.Out.seen c.args.out.now) c.loop-block.stream c.feed_block.new.stream (take c.loop-block.waiting c.loop-block.block) (take c.in-Ok.count c.fill.new.buffer) _ _ c.in_ok-used.used c.loop-block._block c.in_ok-used.is_wrong
    (g.I.Source.seen c.loop-block.input) (g.I.Source.seen c.fill.new.self) (g.O.Out.seen c.loop-block.out) (g.O.Out.seen c.feed_block.new.out) c.loop-block.invariant.so_far filled.handed_out (some_came c.fill.new.buffer c.in-Ok.count filled.within c.if-count-eq0.false)
    come fed c.keep_from.ensures.kept in
    let unfed = fed.short c.if-is_wrong.false in
    let all = ap length come in
    record {
      few = omega (arith, unfed, all, length-append (take c.loop-block.waiting c.loop-block.block) (take c.in-Ok.count c.fill.new.buffer), length-take-le c.loop-block.waiting c.loop-block.block (omega arith), length-take-le c.in-Ok.count c.fill.new.buffer filled.within);
      size = search rules;
      so_far = k.0;
    }

pub returns : goal.returns
returns g c =
    let few = c.loop-block.invariant.few in
    let size = c.loop-block.invariant.size in
    let all : c.loop-block._block ≡ 18446744073709551615 = omega arith in
    record { streams = read_out _ _ _ _ _ _ c.loop-block.stream _ _ _ _ _ c.loop-block.invariant.so_far (inr (omega (arith, c.loop-block.invariant.so_far.counted, all))) (none_waits c.loop-block.waiting c.loop-block.block) (some_wait c.loop-block.waiting c.loop-block.block (omega arith)) c.end_source-2.ensures }
