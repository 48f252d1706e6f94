-- How a run ends at each of its steps.
use Rattle.std.proofs.Common.{◌≡◌, ℕ, List, [], ◌∷◌, Result, Ok, Err, IsUtf8, Option, None, refl, ap, sym, ◌∙◌, subst, inl, inr}
use Rattle.std.specs.Result.{IsErrAnd}
use Rattle.std.proofs.lemmas.Result.{err_from_is_err_and}
use Rattle.mad_term.specs.Trace.{Trace, failed, flushed}
use Rattle.mad_term.specs.declared.errors.Error.{Error}
use Rattle.mad_term.specs.declared.errors.Error.TheVariants.{IO, InsufficientWidth, Memory as NoMemory}
use Rattle.mad_page_skin.specs.declared.page_skin.PageSkin.{PageSkin}
use Rattle.mad_stream.specs.declared.SourceError.{SourceError}
use Rattle.termimad_run.specs.declared.call.Command.{Command}
use Rattle.termimad_run.specs.declared.call.Command.TheVariants.{InArea, AtWidth, AsMarkdown, AsCode, AsItComes, MarkdownAsItComes, Live, LiveMarkdown, Inline}
use Rattle.mad_term.proofs.Traces.{took_flushed}
use Rattle.mad_layout.specs.Headline.{AreShownAcross}
use Rattle.mad_layout.specs.RowSkins.{row_skin}
use Rattle.mad_layout.specs.Shown.{AreShownIn}
use Rattle.termimad_words.specs.declared.failure.Failure.{Failure}
use Rattle.termimad_words.specs.declared.failure.Failure.TheVariants.{Io, Usage, Skin, Memory}
use Rattle.termimad_run.specs.Calls.{Asks, IsAllowed, IsWhole, RefusesWords}
use Rattle.termimad_words.specs.Failures.{failure_of}
use Rattle.termimad_run.specs.Reading.{ReadsWhole, ReadingFails}
use Rattle.termimad_run.specs.ProgramRuns.{ComesAs, Devices, Starts, Started, FailsToStart, HasRead, HasWritten, WritesCall, ShowsCall, RunsWhole, RunsTo}

-- the area of a command that words ask for is wide enough, and within the limits of a screen
pub allowed : (words : List (List ℕ)) (command : Command) (word : Option (List ℕ)) → Asks words command word → IsAllowed command
allowed [] command word h = absurd h
allowed (name ∷ l ∷ t ∷ w ∷ e ∷ rest) (InArea area) word h = (h.1.0.wide, h.1.0.within)
allowed (name ∷ words) (AtWidth width) word h = tt
allowed (name ∷ words) (AsMarkdown width) word h = tt
allowed (name ∷ words) (AsCode language width) word h = tt
allowed (name ∷ words) (AsItComes width) word h = tt
allowed (name ∷ words) (MarkdownAsItComes width) word h = tt
allowed (name ∷ words) (Live width height) word h = tt
allowed (name ∷ words) (LiveMarkdown width height) word h = tt
allowed (name ∷ words) Inline word h = tt
allowed _ _ word h = absurd h.1

-- the call that was parsed
abbrev pub started : (words : List (List ℕ)) (old new : Trace) (command : Command) (skin : PageSkin) (unknown : List (List ℕ)) → Starts words old command skin unknown new → Started words old new
started words old new command skin unknown asked = record { command = command; skin = skin; unknown = unknown; asked = asked }

same_devices : (old new : Devices) → new.input ≡ old.input → new.out ≡ old.out → new.err ≡ old.err → new ≡ old
same_devices old new input out err =
    ap (λ (i : Trace). let d : Devices = record { input = i; out = new.out; err = new.err } in d) input
    ∙ ap (λ (o : Trace). let d : Devices = record { input = old.input; out = o; err = new.err } in d) out
    ∙ ap (λ (e : Trace). let d : Devices = record { input = old.input; out = old.out; err = e } in d) err

-- a run that ended in a failure
ends_in : {T : Type 0} (words : List (List ℕ)) (r : Result T Failure) (failure : Failure) (old new : Devices) → IsErrAnd r (λ e. e ≡ failure) → RunsWhole {T = T} words old (Err failure) new → RunsTo words old r new
ends_in {T} words r failure old new is ran =
    let p = err_from_is_err_and r is in
    subst (λ (s : Result T Failure). RunsTo words old s new) (sym (p.1 ∙ ap Err p.2)) (inl ran)

refused_words : (T : Type 0) (words : List (List ℕ)) (failure : Failure) (old new : Devices) → RefusesWords words failure → new ≡ old → RunsWhole {T = T} words old (Err failure) new
refused_words T words Usage old new h same = (h, same)
refused_words T words Skin old new h same = (h, same)
refused_words T words Memory old new h same = inl (h, same)
refused_words _ words _ old new h same = absurd h

-- the exit at the words
pub call_exit : {T : Type 0} (words : List (List ℕ)) (r : Result T Failure) (failure : Failure) (old new : Devices) → IsErrAnd r (λ e. e ≡ failure) → FailsToStart words old.err failure new.err → new.input ≡ old.input → new.out ≡ old.out → RunsTo words old r new
call_exit {T} words r failure old new is h input out = ends_in words r failure old new is (refused_words T words failure old new h.0 (same_devices old new input out h.1))

failed_to_read : (T : Type 0) (words : List (List ℕ)) (failure : Failure) (old new : Devices) (call : Started words old.err new.err) → IsWhole call.command → ReadingFails old.input failure new.input → new.out ≡ old.out
    → RunsWhole {T = T} words old (Err failure) new
failed_to_read T words Io old new call is_whole h out = inl (record { call = call; is_whole = is_whole; stopped = h; unwritten = out })
failed_to_read T words Memory old new call is_whole h out = inr (inl (record { call = call; is_whole = is_whole; stopped = h; unwritten = out }))
failed_to_read _ words _ old new call is_whole h out = absurd h

-- what was read is a text
pub has_read : (old new : Trace) (bytes slice text : List ℕ) → ReadsWhole old bytes new → slice ≡ bytes → text ≡ slice → IsUtf8 slice → HasRead old text new
has_read old new bytes slice text read p q decoded = record {
  whole = subst (λ (b : List ℕ). ReadsWhole old b new) (sym (q ∙ p)) read;
  decoded = subst IsUtf8 (sym q) decoded;
}

-- the exit at a reading
pub read_exit : {T : Type 0} (words : List (List ℕ)) (r : Result T Failure) (failure : Failure) (old new : Devices) → IsErrAnd r (λ e. e ≡ failure) → (call : Started words old.err new.err) → IsWhole call.command → ReadingFails old.input failure new.input → new.out ≡ old.out → RunsTo words old r new
read_exit {T} words r failure old new is call is_whole h out = ends_in words r failure old new is (failed_to_read T words failure old new call is_whole h out)

-- what was written of the text that was read
abbrev pub has_written : (words : List (List ℕ)) (text : List ℕ) (old new : Devices) (r : Result (Unit {0}) Error) (written : Trace) (call : Started words old.err new.err) → IsWhole call.command → HasRead old.input text new.input → WritesCall call.skin call.command text old.out r written → HasWritten words old new r written
has_written words text old new r written call is_whole read writes = record { call = call; is_whole = is_whole; text = text; read = read; writes = writes }

failed_to_write : (T : Type 0) (words : List (List ℕ)) (e : Error) (old new : Devices) → HasWritten words old new (Err e) new.out → RunsWhole {T = T} words old (Err (failure_of e)) new
failed_to_write T words (IO x) old new h = inr (inl (record { error = IO x; so = refl; wrote = h }))
failed_to_write T words (InsufficientWidth x) old new h = inr (inl (record { error = InsufficientWidth x; so = refl; wrote = h }))
failed_to_write T words NoMemory old new h = inr (inr (record { error = NoMemory; so = refl; wrote = h }))

-- the exit at a writing
pub write_exit : {T : Type 0} (words : List (List ℕ)) (r : Result T Failure) (e : Error) (old new : Devices) → IsErrAnd r (λ f. f ≡ failure_of e) → HasWritten words old new (Err e) new.out → RunsTo words old r new
write_exit {T} words r e old new is h = ends_in words r (failure_of e) old new is (failed_to_write T words e old new h)

-- the exit at a flush
pub flush_exit : {T : Type 0} (words : List (List ℕ)) (r : Result T Failure) (old new : Devices) (written : Trace) → IsErrAnd r (λ f. f ≡ Io) → HasWritten words old new (Ok (tt {0})) written → new.out ≡ failed written → RunsTo words old r new
flush_exit {T} words r old new written is h out = ends_in words r Io old new is (inr (inr (record { written = written; wrote = h; unflushed = out })))

-- a flush takes nothing from what is shown
pub still_shown : (skin : PageSkin) (command : Command) (text : List ℕ) (old written new : Trace) → ShowsCall skin command text old written → new ≡ flushed written → ShowsCall skin command text old new
still_shown skin (InArea area) text old written new (headline, h) is = (
  record {
    lines = headline.lines;
    read = headline.read;
    rows = record {
      shown = λ premises. let rows = headline.rows.shown premises in (rows.0, rows.1, took_flushed old written new (AreShownAcross None rows.0 area) rows.2 is);
    };
  },
  record {
    lines = h.lines;
    laid_out = h.laid_out;
    shown = λ premises. took_flushed old written new (AreShownIn (row_skin skin.text) None h.lines area 0) (h.shown premises) is;
  },
)
still_shown skin (AtWidth width) text old written new h is = tt
still_shown skin (AsMarkdown width) text old written new h is = tt
still_shown skin (AsCode language width) text old written new h is = tt
still_shown skin (AsItComes width) text old written new h is = tt
still_shown skin (MarkdownAsItComes width) text old written new h is = tt
still_shown skin (Live width height) text old written new h is = tt
still_shown skin (LiveMarkdown width height) text old written new h is = tt
still_shown skin Inline text old written new h is = tt

-- a command that is that one
pub comes_as : {T : Type 0} (skin : PageSkin) (command same : Command) (input out : Trace) (r : Result T SourceError) (input_now out_now : Trace) → command ≡ same → ComesAs skin same input out r input_now out_now → ComesAs skin command input out r input_now out_now
comes_as {T} skin command same input out r input_now out_now is h = subst (λ (k : Command). ComesAs skin k input out r input_now out_now) (sym is) h
