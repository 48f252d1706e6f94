use Rattle.std.proofs.Common.{refl, subst, sym, List, ℕ, IsUtf8, inl, inr}
use Rattle.termimad_run.proofs.RunSteps.{allowed, call_exit, comes_as, started, has_read, has_written, read_exit, write_exit, flush_exit, still_shown}
use Rattle.termimad_run.proofs.program.execute.Goals as goal

pub returns-in_err-call : goal.returns-in_err-call
returns-in_err-call g c = call_exit _ _ _ _ _ c.from_residual.ensures.1 c.in_err-call.ensures refl refl

pub returns-in-Ok : goal.returns-in-Ok
returns-in-Ok g c = inr (record { call = started _ _ _ _ _ _ c.in_ok-call.ensures; comes = comes_as c.in_ok-call.call.skin _ _ _ _ _ _ _ c.in-Some.ensures c.in-Ok.ensures })

pub returns-in-Err : goal.returns-in-Err
returns-in-Err g c =
    inr (c.in-Err.e, sym c.streamed_failure.ensures, record { call = started _ _ _ _ _ _ c.in_ok-call.ensures; comes = comes_as c.in_ok-call.call.skin _ _ _ _ _ _ _ c.in-Some.ensures c.in-Err.ensures })

pub returns-in_err-bytes : goal.returns-in_err-bytes
returns-in_err-bytes g c =
    read_exit _ _ _ _ _ c.from_residual-in_err-bytes.ensures.1 (started _ _ _ _ _ _ c.in_ok-call.ensures) c.in_default.ensures c.in_err-bytes.ensures refl

pub returns-in_default-from_utf8_baseline : goal.returns-in_default-from_utf8_baseline
returns-in_default-from_utf8_baseline g c = inl (record {
  call = started _ _ _ _ _ _ c.in_ok-call.ensures;
  is_whole = c.in_default.ensures;
  bytes = c.in_ok-bytes.bytes.items;
  read = c.in_ok-bytes.ensures;
  undecoded = subst (λ (bytes : List ℕ). ¬ (IsUtf8 bytes)) c.as_slice.ensures.value c.in_default-from_utf8_baseline.ensures.cases.0;
  unwritten = refl;
})

pub returns-in_err-write_call : goal.returns-in_err-write_call
returns-in_err-write_call g c =
    write_exit _ _ _ _ _ c.from_residual-in_err-write_call.ensures.1
    (has_written _ _ _ _ _ _ (started _ _ _ _ _ _ c.in_ok-call.ensures) c.in_default.ensures (has_read _ _ _ _ _ c.in_ok-bytes.ensures c.as_slice.ensures.value c.in-Ok-from_utf8_baseline.ensures.cases.0 c.in-Ok-from_utf8_baseline.ensures.cases.1) c.in_err-write_call.ensures.writes)

pub returns-in_err-flush : goal.returns-in_err-flush
returns-in_err-flush g c =
    flush_exit _ _ _ _ _ c.from_residual-in_err-flush.ensures.1
    (has_written _ _ _ _ _ _ (started _ _ _ _ _ _ c.in_ok-call.ensures) c.in_default.ensures (has_read _ _ _ _ _ c.in_ok-bytes.ensures c.as_slice.ensures.value c.in-Ok-from_utf8_baseline.ensures.cases.0 c.in-Ok-from_utf8_baseline.ensures.cases.1) c.in_ok-write_call.ensures.writes)
    c.in_err-flush.ensures

pub returns : goal.returns
returns g c = inl (record {
  written = _;
  wrote = has_written _ _ _ _ _ _ (started _ _ _ _ _ _ c.in_ok-call.ensures) c.in_default.ensures (has_read _ _ _ _ _ c.in_ok-bytes.ensures c.as_slice.ensures.value c.in-Ok-from_utf8_baseline.ensures.cases.0 c.in-Ok-from_utf8_baseline.ensures.cases.1) c.in_ok-write_call.ensures.writes;
  flushed = c.in_ok-flush.ensures;
  shown = still_shown c.in_ok-call.call.skin _ _ _ _ _ c.in_ok-write_call.ensures.shown c.in_ok-flush.ensures;
})

pub write_call-requires : goal.write_call-requires
write_call-requires g c = allowed _ _ _ c.in_ok-call.ensures.asked.asks
