use Rattle.std.proofs.Common.{◌≡◌, [], inl, inr, length, take, Err, refl, ap, rules, arith}
use Rattle.std.proofs.lemmas.List.{length-append, length-take-le}
use Rattle.mad_stream.specs.declared.source_error.SourceError.TheVariants.{NotUtf8}
use Rattle.mad_stream.proofs.LiveSourceLemmas.{read_out_end}
use Rattle.mad_stream.proofs.SourceLemmas.{block_come, some_came}
use Rattle.markdown_live.proofs.SourceLemmas.{block_exit, fault_exit, live_ended, live_more, live_start, none_started, text_exit}
use Rattle.markdown_live.proofs.sources.show_markdown_source_on.Goals as goal

pub returns-in_default : goal.returns-in_default
returns-in_default g c = record { shows = none_started c.args.skin.now c.args.width c.args.height _ _ }

pub loop-block-init : goal.loop-block-init
loop-block-init g c = record {
  few = omega arith;
  size = refl;
  so_far = live_start _ _ _ _ _ c.in-Ok.live [] refl c.in-Ok.ensures.start c.in-Ok.ensures.skin c.in-Ok.ensures.width c.in-Ok.ensures.height;
}

pub returns-in-Err : goal.returns-in-Err
returns-in-Err g c = record { shows = fault_exit c.end_live.result c.in-Err.error _ _ _ _ _ c.loop-block.live _ _ _ _ _ _ c.loop-block.invariant.so_far c.in-Err.ensures c.end_live.ensures }

pub returns-then-count-eq0 : goal.returns-then-count-eq0
returns-then-count-eq0 g c =
    let filled = c.in-Ok-fill.ensures in
    let few = c.loop-block.invariant.few in
    let size = c.loop-block.invariant.size in
    let h = live_ended _ _ _ _ _ c.loop-block.live (take c.loop-block.waiting c.loop-block.block) c.loop-block._block _ _ _ c.fill.new.buffer c.in-Ok-fill.count c.loop-block.invariant.so_far filled.handed_out c.if-count-eq0.true in
    record {
      shows = text_exit c.end_live-then-count-eq0.result c.whole_text.result _ _ _ _ _ c.loop-block.live _ _ _ _ _ h
          (read_out_end c.whole_text.result _ _ _ (g.I.Source.seen c.fill.new.self) c.loop-block.waiting h.streamed.front h.rest (length-take-le c.loop-block.waiting c.loop-block.block (omega arith)) (inl (filled.ended c.if-count-eq0.true (search rules))) c.whole_text.ensures) c.end_live-then-count-eq0.ensures;
    }

pub returns-in_err-used : goal.returns-in_err-used
returns-in_err-used g c =
    let filled = c.in-Ok-fill.ensures in
    let few = c.loop-block.invariant.few in
    let size = c.loop-block.invariant.size in
    record {
      shows = block_exit c.from_residual.result _ _ _ _ _ _ c.loop-block.live (take c.loop-block.waiting c.loop-block.block) (take c.in-Ok-fill.count c.fill.new.buffer) _ c.loop-block._block _ _ _ _ c.loop-block.invariant.so_far filled.handed_out
          (block_come c.loop-block.block c.fill.new.buffer _ c.loop-block.waiting c.in-Ok-fill.count (omega arith) filled.within) c.in_err-used.ensures c.from_residual.ensures.1;
    }

pub returns-then-is_wrong : goal.returns-then-is_wrong
returns-then-is_wrong g c =
    let filled = c.in-Ok-fill.ensures in
    let few = c.loop-block.invariant.few in
    let size = c.loop-block.invariant.size in
    let k =
    live_more c.args.skin.now c.args.width c.args.height (g.I.Source.seen c.args.input.now) (g.O.Out.seen c.args.out.now) c.loop-block.live c.show_block.new.live (take c.loop-block.waiting c.loop-block.block) (take c.in-Ok-fill.count c.fill.new.buffer) _ _ c.in_ok-used.used c.in_ok-used.is_wrong
    c.loop-block._block (g.I.Source.seen c.loop-block.input) (g.I.Source.seen c.fill.new.self) (g.O.Out.seen c.loop-block.out) (g.O.Out.seen c.show_block.new.out) c.loop-block.invariant.so_far filled.handed_out (some_came c.fill.new.buffer c.in-Ok-fill.count filled.within c.if-count-eq0.false)
    (block_come c.loop-block.block c.fill.new.buffer _ c.loop-block.waiting c.in-Ok-fill.count (omega arith) filled.within) c.in_ok-used.ensures refl in
    record { shows = text_exit c.end_live-then-is_wrong.result (Err NotUtf8) _ _ _ _ _ c.show_block.new.live _ _ _ _ _ k.0 (refl, inr (k.1 c.if-is_wrong.true)) c.end_live-then-is_wrong.ensures }

pub loop-block-preserved : goal.loop-block-preserved
loop-block-preserved g c =
    let filled = c.in-Ok-fill.ensures in
    let few = c.loop-block.invariant.few in
    let size = c.loop-block.invariant.size in
    let fed = c.in_ok-used.ensures in
    let come = block_come c.loop-block.block c.fill.new.buffer _ c.loop-block.waiting c.in-Ok-fill.count (omega arith) filled.within in
    let k =
    live_more c.args.skin.now c.args.width c.args.height (g.I.Source.seen c.args.input.now) (g.O.Out.seen c.args.out.now) c.loop-block.live c.show_block.new.live (take c.loop-block.waiting c.loop-block.block) (take c.in-Ok-fill.count c.fill.new.buffer) _ _ c.in_ok-used.used c.in_ok-used.is_wrong
    c.loop-block._block (g.I.Source.seen c.loop-block.input) (g.I.Source.seen c.fill.new.self) (g.O.Out.seen c.loop-block.out) (g.O.Out.seen c.show_block.new.out) c.loop-block.invariant.so_far filled.handed_out (some_came c.fill.new.buffer c.in-Ok-fill.count filled.within c.if-count-eq0.false)
    come fed c.keep_from.ensures.kept in
    let unfed = fed.short c.if-is_wrong.false in
    let all = ap length come in
    record {
      few = omega (arith, unfed, all, length-append (take c.loop-block.waiting c.loop-block.block) (take c.in-Ok-fill.count c.fill.new.buffer), length-take-le c.loop-block.waiting c.loop-block.block (omega arith), length-take-le c.in-Ok-fill.count c.fill.new.buffer filled.within);
      size = search rules;
      so_far = k.0;
    }

pub returns : goal.returns
returns g c =
    let few = c.loop-block.invariant.few in
    let size = c.loop-block.invariant.size in
    let all : c.loop-block._block ≡ 18446744073709551615 = omega arith in
    let h = c.loop-block.invariant.so_far in
    record {
      shows = text_exit c.end_live-2.result c.whole_text-2.result _ _ _ _ _ c.loop-block.live _ _ _ _ _ h
          (read_out_end c.whole_text-2.result _ _ _ (g.I.Source.seen c.loop-block.input) c.loop-block.waiting h.streamed.front h.rest (length-take-le c.loop-block.waiting c.loop-block.block (omega arith)) (inr (omega (arith, h.counted, all))) c.whole_text-2.ensures) c.end_live-2.ensures;
    }
