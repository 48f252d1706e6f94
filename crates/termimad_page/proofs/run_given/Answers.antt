use Rattle.std.proofs.Common.{◌≡◌, ℕ, List, Result, map, ap, sym, subst, string_bytes, ◌∙◌}
use Rattle.std.specs.declared.io.Error.{Error as IoError}
use Rattle.mad_frames.specs.Sparing.{spared_trace}
use Rattle.mad_term.specs.Stream.{stream_trace, untold}
use Rattle.mad_term.specs.Trace.{Trace}
use Rattle.termimad_given.specs.Given.{Args, GivesWords, files}
use Rattle.termimad_page.specs.Runs.{Devices, HasRun, devices}
use Rattle.termimad_page.specs.Streams.{HasRunGiven, nothing_put}
use Rattle.termimad_page.proofs.run_given.Goals as goal

-- a run on devices that had done nothing yet
run_so : (given : Result Args IoError) (words own : List (List ℕ)) (keys screen out old_err new_err : Trace) (status : ℕ) (ended : Devices) → keys ≡ untold → screen ≡ nothing_put → out ≡ untold → own ≡ words → GivesWords given words → HasRun files own (devices keys screen out) old_err status ended new_err → HasRunGiven given old_err status new_err
run_so given words own keys screen out old_err new_err status ended k s o same gives ran = record {
  words = words;
  gives = gives;
  ended = ended;
  ran =
      subst (λ (w : List (List ℕ)). HasRun files w (devices untold nothing_put untold) old_err status ended new_err) same
      (subst (λ (t : Trace). HasRun files own (devices t nothing_put untold) old_err status ended new_err) k
      (subst (λ (t : Trace). HasRun files own (devices keys t untold) old_err status ended new_err) s
      (subst (λ (t : Trace). HasRun files own (devices keys screen t) old_err status ended new_err) o ran)));
}

pub returns : goal.returns
returns g c =
    run_so c.args.given (map string_bytes c.in-Ok.words.items) _ _ _ _ _ _ _ _
    (ap stream_trace c.new-keys.ensures.input ∙ c.new-2.ensures.trace)
    (ap spared_trace c.in-Ok-new-2.ensures)
    c.new-out.ensures.trace
    (ap (map string_bytes) c.as_slice.ensures.value)
    c.in-Ok.ensures
    c.run_sparing.ensures.run
