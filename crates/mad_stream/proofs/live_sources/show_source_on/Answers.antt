use Rattle.std.proofs.Common.{◌≡◌, [], inl, inr, length, take, Err, refl, sym, subst, ap, rules, arith}
use Rattle.std.proofs.lemmas.List.{length-append, length-take-le}
use Rattle.mad_layout.specs.RowSkins.{row_skin}
use Rattle.mad_stream.specs.declared.source_error.SourceError.TheVariants.{NotUtf8}
use Rattle.mad_stream.proofs.SourceLemmas.{block_come, some_came}
use Rattle.mad_stream.specs.declared.steadied.Spot.{Spot}
use Rattle.mad_stream.proofs.LiveSourceLemmas.{LiveSoFar, block_exit, fault_exit, live_ended, live_more, live_start, read_out_end, text_exit}
use Rattle.mad_stream.proofs.live_sources.show_source_on.Goals as goal

pub loop-block-init : goal.loop-block-init
loop-block-init g c = record {
  few = omega arith;
  size = refl;
  so_far = subst (λ (s : Spot). LiveSoFar (row_skin c.args.skin.now) c.args.width c.args.height (g.I.Source.seen c.args.input.now) (g.O.Out.seen c.args.out.now) c.new-live.result s [] 0 (g.I.Source.seen c.args.input.now) (g.O.Out.seen c.args.out.now)) (sym c.start-spot.ensures) (live_start _ _ _ _ _ c.new-live.result [] refl c.new-live.ensures.start c.new-live.ensures.skin c.new-live.ensures.width c.new-live.ensures.height);
}

pub returns-in-Err : goal.returns-in-Err
returns-in-Err g c = record { shows = fault_exit c.end_live.result c.in-Err.error _ _ _ _ _ c.loop-block.live c.loop-block.spot _ _ _ _ _ _ c.loop-block.invariant.so_far c.in-Err.ensures c.end_live.ensures }

pub returns-then-count-eq0 : goal.returns-then-count-eq0
returns-then-count-eq0 g c =
    let filled = c.in-Ok.ensures in
    let few = c.loop-block.invariant.few in
    let size = c.loop-block.invariant.size in
    let h = live_ended _ _ _ _ _ c.loop-block.live c.loop-block.spot (take c.loop-block.waiting c.loop-block.block) c.loop-block._block _ _ _ c.fill.new.buffer c.in-Ok.count c.loop-block.invariant.so_far filled.handed_out c.if-count-eq0.true in
    record {
      shows = text_exit c.end_live-then-count-eq0.result c.whole_text.result _ _ _ _ _ c.loop-block.live c.loop-block.spot _ _ _ _ _ h
          (read_out_end c.whole_text.result _ _ _ (g.I.Source.seen c.fill.new.self) c.loop-block.waiting h.streamed.front h.rest (length-take-le c.loop-block.waiting c.loop-block.block (omega arith)) (inl (filled.ended c.if-count-eq0.true (search rules))) c.whole_text.ensures) c.end_live-then-count-eq0.ensures;
    }

pub returns-in_err-shown : goal.returns-in_err-shown
returns-in_err-shown g c =
    let filled = c.in-Ok.ensures in
    let few = c.loop-block.invariant.few in
    let size = c.loop-block.invariant.size in
    record {
      shows = block_exit c.from_residual.result _ _ _ _ _ _ c.loop-block.live c.loop-block.spot (take c.loop-block.waiting c.loop-block.block) (take c.in-Ok.count c.fill.new.buffer) _ c.loop-block._block _ _ _ _ c.loop-block.invariant.so_far filled.handed_out
          (block_come c.loop-block.block c.fill.new.buffer _ c.loop-block.waiting c.in-Ok.count (omega arith) filled.within) c.in_err-shown.ensures c.from_residual.ensures.1;
    }

pub returns-then-shown : goal.returns-then-shown
returns-then-shown g c =
    let filled = c.in-Ok.ensures in
    let few = c.loop-block.invariant.few in
    let size = c.loop-block.invariant.size in
    let k =
    live_more (row_skin c.args.skin.now) c.args.width c.args.height (g.I.Source.seen c.args.input.now) (g.O.Out.seen c.args.out.now) c.loop-block.live c.show_block.new.live c.loop-block.spot (take c.loop-block.waiting c.loop-block.block) (take c.in-Ok.count c.fill.new.buffer) _ _ c.in_ok-shown.shown
    c.loop-block._block (g.I.Source.seen c.loop-block.input) (g.I.Source.seen c.fill.new.self) (g.O.Out.seen c.loop-block.out) (g.O.Out.seen c.show_block.new.out) c.loop-block.invariant.so_far filled.handed_out (some_came c.fill.new.buffer c.in-Ok.count filled.within c.if-count-eq0.false)
    (block_come c.loop-block.block c.fill.new.buffer _ c.loop-block.waiting c.in-Ok.count (omega arith) filled.within) c.in_ok-shown.ensures refl in
    record { shows = text_exit c.end_live-then-shown.result (Err NotUtf8) _ _ _ _ _ c.show_block.new.live _ _ _ _ _ _ k.0 (refl, inr (k.1 c.if-shown.true)) c.end_live-then-shown.ensures }

pub loop-block-preserved : goal.loop-block-preserved
loop-block-preserved g c =
    let filled = c.in-Ok.ensures in
    let few = c.loop-block.invariant.few in
    let size = c.loop-block.invariant.size in
    let fed = c.in_ok-shown.ensures in
    let come = block_come c.loop-block.block c.fill.new.buffer _ c.loop-block.waiting c.in-Ok.count (omega arith) filled.within in
    let k =
    live_more (row_skin c.args.skin.now) c.args.width c.args.height (g.I.Source.seen c.args.input.now) (g.O.Out.seen c.args.out.now) c.loop-block.live c.show_block.new.live c.loop-block.spot (take c.loop-block.waiting c.loop-block.block) (take c.in-Ok.count c.fill.new.buffer) _ _ c.in_ok-shown.shown
    c.loop-block._block (g.I.Source.seen c.loop-block.input) (g.I.Source.seen c.fill.new.self) (g.O.Out.seen c.loop-block.out) (g.O.Out.seen c.show_block.new.out) c.loop-block.invariant.so_far filled.handed_out (some_came c.fill.new.buffer c.in-Ok.count filled.within c.if-count-eq0.false)
    come fed c.keep_from.ensures.kept in
    let unfed = fed.short c.if-shown.false in
    let all = ap length come in
    record {
      few = omega (arith, unfed, all, length-append (take c.loop-block.waiting c.loop-block.block) (take c.in-Ok.count c.fill.new.buffer), length-take-le c.loop-block.waiting c.loop-block.block (omega arith), length-take-le c.in-Ok.count c.fill.new.buffer filled.within);
      size = search rules;
      so_far = k.0;
    }

pub returns : goal.returns
returns g c =
    let few = c.loop-block.invariant.few in
    let size = c.loop-block.invariant.size in
    let all : c.loop-block._block ≡ 18446744073709551615 = omega arith in
    let h = c.loop-block.invariant.so_far in
    record {
      shows = text_exit c.end_live-2.result c.whole_text-2.result _ _ _ _ _ c.loop-block.live c.loop-block.spot _ _ _ _ _ h
          (read_out_end c.whole_text-2.result _ _ _ (g.I.Source.seen c.loop-block.input) c.loop-block.waiting h.streamed.front h.rest (length-take-le c.loop-block.waiting c.loop-block.block (omega arith)) (inr (omega (arith, h.counted, all))) c.whole_text-2.ensures) c.end_live-2.ensures;
    }
