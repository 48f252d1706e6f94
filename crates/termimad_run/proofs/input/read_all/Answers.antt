use Rattle.std.proofs.Common.{◌≡◌, sym, subst, rules}
use Rattle.mad_term.specs.Trace.{ahead_all}
use Rattle.termimad_run.proofs.Sources.{ahead_none, ahead_more, ahead_same, memory_exit}
use Rattle.termimad_run.proofs.input.read_all.Goals as goal

pub loop-bytes-init : goal.loop-bytes-init
loop-bytes-init g c =
    subst (λ bytes. g.I.Source.seen c.args.input.now ≡ ahead_all bytes (g.I.Source.seen c.args.input.now)) (sym c.new-bytes.ensures.items) (ahead_none _)

pub returns-then-count-eq0 : goal.returns-then-count-eq0
returns-then-count-eq0 g c =
    let filled = c.in_ok-count.ensures in
    record {
      handed_out = ahead_same _ _ _ _ _ _ c.loop-bytes.invariant filled.handed_out c.if-count-eq0.true;
      ended = filled.ended c.if-count-eq0.true (search rules);
    }

pub loop-bytes-preserved : goal.loop-bytes-preserved
loop-bytes-preserved g c =
    let filled = c.in_ok-count.ensures in
    subst (λ bytes. g.I.Source.seen c.args.input.now ≡ ahead_all bytes (g.I.Source.seen c.fill.new.self)) (sym (search rules)) (ahead_more _ _ _ _ _ c.loop-bytes.invariant filled.handed_out)

pub returns-in_err-extend_from_slice : goal.returns-in_err-extend_from_slice
returns-in_err-extend_from_slice g c =
    memory_exit _ _ _ _ _ (c.from_residual-in_err-extend_from_slice.ensures.1) (ahead_more _ _ _ _ _ c.loop-bytes.invariant c.in_ok-count.ensures.handed_out)
