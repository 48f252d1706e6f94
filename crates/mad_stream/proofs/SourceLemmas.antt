-- How the steps of a source join that is written as it comes.
use Rattle.std.proofs.Common.{◌≡◌, ◌≢◌, inl, inr, ℕ, zero, suc, ◌+◌, ◌-◌, ◌<◌, ◌≤◌, ◌==◌, Bool, true, false, List, [], ◌∷◌, ◌++◌, length, take, drop, Option, Some, None, option_map, Result, Ok, Err, refl, sym, ap, ◌∙◌, subst, arith, append_assoc, string_bytes}
use Rattle.std.specs.Prelude.{IsUtf8, MatchResult}
use Rattle.std.specs.List.{copy_within}
use Rattle.std.specs.Result.{IsErrAnd}
use Rattle.std.specs.declared.io.Error.{Error as IoError}
use Rattle.std.proofs.lemmas.List.Edits.{take-paste}
use Rattle.std.proofs.lemmas.List.{append-nil, drop-take, length-append, length-drop, length-take-le, take-append-drop, take-append-le, take_all}
use Rattle.std.proofs.lemmas.Result.{err_from_is_err_and}
use Rattle.std.proofs.lemmas.Str.{IsUtf8-append, IsUtf8-nil}
use Rattle.std.proofs.lemmas.Bool.{true≢false}
use Rattle.mad_md.specs.Lines.{LineContent}
use Rattle.mad_md.specs.Reading.{resumed_text, unread_text}
use Rattle.mad_md.specs.Scan.{lines_of}
use Rattle.mad_md.specs.declared.line_kinds.LineKind.{LineKind}
use Rattle.mad_md.specs.declared.line_kinds.LineKind.TheVariants.{Fence, Code, Table, Alone}
use Rattle.mad_md.proofs.PartsLemmas.{test_true, true_test}
use Rattle.mad_term.specs.Trace.{Trace, after, failed, flushed, ahead_all}
use Rattle.mad_term.specs.declared.errors.Error.{Error}
use Rattle.mad_term.specs.declared.errors.Error.TheVariants as writing
use Rattle.mad_term.proofs.Traces.{after-append, after-nil}
use Rattle.mad_blocks.specs.Layouts.{IsLayoutAt}
use Rattle.mad_blocks.specs.TextParts.{text_parts}
use Rattle.mad_blocks.proofs.LayoutJoins.{apart_parts}
use Rattle.mad_rows.specs.RowStyles.{line_rules}
use Rattle.mad_rows.specs.declared.row_skin.RowSkin.{RowSkin}
use Rattle.mad_stream.specs.LiveTexts.{IsLaidOut}
use Rattle.mad_stream.specs.SourceErrors.{refusal_of}
use Rattle.mad_stream.specs.Sources.{AreCompleteRows, BeginsRows, IsNoText, IsReadOut, MayGoOn, Streamed, StreamsSource, flushed_times}
use Rattle.mad_stream.specs.SourceSteps.{EndsFlushed, EndsText, EndsWhole, FeedsBlock, FlushesOut, StopsInBlock}
use Rattle.mad_stream.specs.Streams.{AreHeld, Finishes, IsInStep, IsPrompt, Steps, lines_ahead}
use Rattle.mad_stream.specs.TextFronts.{BeginNoText, IsTextFront}
use Rattle.mad_stream.specs.declared.source_error.SourceError.{SourceError}
use Rattle.mad_stream.specs.declared.source_error.SourceError.TheVariants.{Source, Device, NotUtf8, Memory}
use Rattle.mad_stream.specs.declared.text_stream.TextStream.{TextStream}
use Rattle.mad_stream.proofs.StreamLemmas.{ended, ended_apart}
use Rattle.mad_stream.proofs.TextFrontLemmas.{rest_of}

-- ---- traces

after_flushed : (t : Trace) (bytes : List ℕ) → after (flushed t) bytes ≡ flushed (after t bytes)
unfolding after flushed
after_flushed t bytes = refl

after_flushes : (n : ℕ) (t : Trace) (bytes : List ℕ) → after (flushed_times n t) bytes ≡ flushed_times n (after t bytes)
after_flushes zero t bytes = refl
after_flushes (suc n) t bytes = after_flushed (flushed_times n t) bytes ∙ ap flushed (after_flushes n t bytes)

-- more went out
pub more_went : (n : ℕ) (out mid now : Trace) (sent bytes : List ℕ) → mid ≡ flushed_times n (after out sent) → now ≡ after mid bytes → now ≡ flushed_times n (after out (sent ++ bytes))
more_went n out mid now sent bytes p q = q ∙ ap (λ t. after t bytes) p ∙ after_flushes n (after out sent) bytes ∙ ap (flushed_times n) (after-append out sent bytes)

none_ahead : (o : Option (List ℕ)) → option_map (λ rest. [] ++ rest) o ≡ o
none_ahead None = refl
none_ahead (Some rest) = refl

both_ahead : (front back : List ℕ) (o : Option (List ℕ)) → option_map (λ rest. front ++ rest) (option_map (λ rest. back ++ rest) o) ≡ option_map (λ rest. (front ++ back) ++ rest) o
both_ahead front back None = refl
both_ahead front back (Some rest) = ap Some (sym (append_assoc front back rest))

-- nothing was read
pub ahead_none : (t : Trace) → t ≡ ahead_all [] t
unfolding ahead_all
ahead_none t = ap (λ (o : Option (List ℕ)). let r : Trace = record { bytes = o; faults = t.faults; flushes = t.flushes } in r) (sym (none_ahead t.bytes))

-- more was read
pub ahead_more : (old mid new : Trace) (front back : List ℕ) → old ≡ ahead_all front mid → mid ≡ ahead_all back new → old ≡ ahead_all (front ++ back) new
unfolding ahead_all
ahead_more old mid new front back p q =
    p ∙ ap (ahead_all front) q ∙ ap (λ (o : Option (List ℕ)). let r : Trace = record { bytes = o; faults = new.faults; flushes = new.flushes } in r) (both_ahead front back new.bytes)

-- ---- the text that was read

-- an empty list of bytes is text
pub front_none : IsTextFront [] []
front_none = record { rest = []; joins = refl; utf8 = IsUtf8-nil; longest = λ n past within. absurd (omega arith) }

take_past : (a b : List ℕ) (n : ℕ) → length a ≤ n → take n (a ++ b) ≡ a ++ take (n - length a) b
take_past [] b n h = let same : n ≡ n - length {A = ℕ} [] = omega arith in ap (λ k. take k b) same
take_past (x ∷ a) b zero h = absurd (omega arith)
take_past (x ∷ a) b (suc n) h =
    let less : n - length a ≡ suc n - length (x ∷ a) = omega arith in
    ap (λ l. x ∷ l) (take_past a b n (omega arith) ∙ ap (λ k. a ++ take k b) less)

-- what was read, and a block of what waits of it and what came
whole_is : (read got text block : List ℕ) → (h : IsTextFront read text) → block ≡ h.rest ++ got → read ++ got ≡ text ++ block
whole_is read got text block h is = ap (λ (l : List ℕ). l ++ got) h.joins ∙ append_assoc text h.rest got ∙ ap (λ (l : List ℕ). text ++ l) (sym is)

-- the text of a block goes on with the text of what was read before
pub fronts_joined : (read got text more block : List ℕ) → (h : IsTextFront read text) → block ≡ h.rest ++ got → (k : IsTextFront block more) → (f : IsTextFront (read ++ got) (text ++ more)) × (f.rest ≡ k.rest)
fronts_joined read got text more block h is k =
    let whole : read ++ got ≡ text ++ block = whole_is read got text block h is in (
      record {
        rest = k.rest;
        joins = whole ∙ ap (λ (l : List ℕ). text ++ l) k.joins ∙ sym (append_assoc text more k.rest);
        utf8 = IsUtf8-append text more h.utf8 k.utf8;
        longest = λ n past within u.
            let split : take n (read ++ got) ≡ text ++ take (n - length text) block = ap (take n) whole ∙ take_past text block n (omega (arith, length-append text more)) in
            k.longest (n - length text) (omega (arith, length-append text more)) (omega (arith, ap length whole, length-append text block)) (rest_of text (take (n - length text) block) h.utf8 (subst IsUtf8 split u));
      },
      refl,
    )

-- where no text begins with a block, none begins with all that was read
pub no_text_joined : (read got text block : List ℕ) → (h : IsTextFront read text) → block ≡ h.rest ++ got → BeginNoText block → BeginNoText (read ++ got)
no_text_joined read got text block h is never more u =
    never more (rest_of text (block ++ more) h.utf8 (subst IsUtf8 (ap (λ (l : List ℕ). l ++ more) (whole_is read got text block h is) ∙ append_assoc text block more) u))

-- all of it is text where nothing waits
pub front_whole : (read text : List ℕ) → (h : IsTextFront read text) → h.rest ≡ [] → text ≡ read
front_whole read text h none = sym (h.joins ∙ ap (λ (l : List ℕ). text ++ l) none ∙ append-nil text)

-- where some of it waits, it isn't text
pub front_partly : (read text : List ℕ) → (h : IsTextFront read text) → 0 < length h.rest → ¬ (IsUtf8 read)
front_partly read text h some u =
    h.longest (length read) (omega (arith, ap length h.joins, length-append text h.rest)) (omega arith) (subst IsUtf8 (sym (take_all (length read) read (omega arith))) u)

-- ---- rows of a text that isn't whole

begins_in_step : (read later whole sent : List ℕ) (s : TextStream) → whole ≡ read ++ later → IsInStep read s sent → BeginsRows s.skin s.width whole sent
begins_in_step read later whole sent s is h =
    let left : List LineContent = lines_ahead s (string_bytes s.line ++ later) in
    let both : lines_of (unread_text false whole) ≡ h.way.front ++ left = ap (λ (t : List ℕ). lines_of (unread_text false t)) is ∙ h.way.joins later in
    record {
      front = h.way.front;
      rest = left;
      joins = both;
      parts = ap text_parts both ∙ apart_parts h.way.front left (h.way.whole later);
      lines = h.way.lines;
      layout = h.way.layout;
      left = s.rows.bytes.items;
      rows = h.way.rows;
    }

held_may_go_on : (kind : LineKind) (own : List LineContent) → AreHeld kind own → kind ≢ Alone → MayGoOn own
held_may_go_on Fence own none other = subst MayGoOn (sym none) (inl tt)
held_may_go_on Code own held other = inr held.1
held_may_go_on Table own held other = inl held.1
held_may_go_on Alone own held other = absurd (other refl)

complete_rows : (read sent : List ℕ) (s : TextStream) → IsInStep read s sent → IsPrompt s → AreCompleteRows s.skin s.width read sent
complete_rows read sent s h p =
    let line : List ℕ = string_bytes s.line in
    let held : lines_ahead s line ≡ h.holds.own ++ lines_of (resumed_text s.fenced_after line) = h.holds.reads line in
    let both : lines_of (unread_text false read) ≡ h.way.front ++ lines_ahead s line = ended read sent s h in
    record {
      front = h.way.front;
      held = h.holds.own;
      fenced = s.fenced_after;
      begun = line;
      joins = both ∙ ap (λ ls. h.way.front ++ ls) held;
      parts = ap text_parts both ∙ apart_parts h.way.front (lines_ahead s line) (ended_apart read sent s h) ∙ ap (λ ls. text_parts h.way.front ++ text_parts ls) held;
      one = held_may_go_on s.last h.holds.own h.holds.kind p.complete;
      line = h.holds.line;
      ends = h.begun;
      lines = h.way.lines;
      layout = h.way.layout;
      rows = sym (h.way.rows ∙ ap (λ (b : List ℕ). sent ++ b) p.sent ∙ append-nil sent);
    }

-- in the same skin, at the same width
begins_same : (skin other : RowSkin) (width else : Option ℕ) (text bytes : List ℕ) → skin ≡ other → width ≡ else → BeginsRows skin width text bytes → BeginsRows other else text bytes
begins_same skin other width else text bytes p q h = subst (λ (k : RowSkin). BeginsRows k else text bytes) p (subst (λ (w : Option ℕ). BeginsRows skin w text bytes) q h)

-- ---- the end of a text

end_whole : {T : Type 0} (x : T) (s : TextStream) (before written : Trace) → ((read sent : List ℕ) → IsInStep read s sent → Finishes {T = T} s.skin s.width read sent before (Ok x) written) → EndsWhole s before written
end_whole {T} x s before written finishes = λ read sent h.
    let f = finishes read sent h in
    let all : lines_of (unread_text false read) ≡ f.front = f.joins ∙ ap (λ ls. f.front ++ ls) f.all ∙ append-nil f.front in
    (f.bytes, record { lines = f.lines; layout = subst (λ ls. IsLayoutAt (line_rules s.skin) s.width ls f.lines) (sym all) f.layout; bytes = sym f.rows }, f.drawn)

-- refused after these bytes
end_cut : (s : TextStream) (read sent front rest bytes : List ℕ) {T : Type 0} (r : Result T Error) (before now : Trace) (f : Finishes {T = T} s.skin s.width read sent before r now) → front ++ rest ≡ f.bytes → BeginsRows s.skin s.width read (sent ++ front)
end_cut s read sent front rest bytes {T} r before now f whole = record {
  front = f.front;
  rest = f.rest;
  joins = f.joins;
  parts = f.parts;
  lines = f.lines;
  layout = f.layout;
  left = rest;
  rows = f.rows ∙ ap (λ (b : List ℕ). sent ++ b) (sym whole) ∙ sym (append_assoc sent front rest);
}

-- the rows at a text's end were refused
pub end_refused : (T U : Type 0) (e : Error) (s : TextStream) (is_whole : Bool) (before now : Trace) → ((read sent : List ℕ) → IsInStep read s sent → Finishes {T = T} s.skin s.width read sent before (Err e) now) → EndsText {T = U} s is_whole before (Err (refusal_of e)) now
end_refused T U (writing.IO e) s is_whole before now finishes = λ read sent h.
    let f = finishes read sent h in
    (f.drawn.front, end_cut s read sent f.drawn.front f.drawn.rest [] (Err (writing.IO e)) before now f f.drawn.whole, f.drawn.went)
end_refused T U (writing.InsufficientWidth e) s is_whole before now finishes = λ read sent h. absurd (finishes read sent h).drawn
end_refused T U writing.Memory s is_whole before now finishes = λ read sent h.
    let f = finishes read sent h in
    (f.drawn.front, end_cut s read sent f.drawn.front f.drawn.rest [] (Err writing.Memory) before now f f.drawn.whole, f.drawn.went)

-- the flush was refused
pub end_unflushed : (T U V : Type 0) (x : T) (e : SourceError) (r : Result V SourceError) (s : TextStream) (is_whole : Bool) (before written now : Trace)
    → ((read sent : List ℕ) → IsInStep read s sent → Finishes {T = T} s.skin s.width read sent before (Ok x) written) → FlushesOut {T = U} written (Err e) now → IsErrAnd r (λ d. d ≡ e) → EndsText s is_whole before r now
end_unflushed T U V x (Source e) r s is_whole before written now finishes h is = absurd h
end_unflushed T U V x (Device e) r s is_whole before written now finishes h is =
    let p = err_from_is_err_and r is in
    subst (λ (q : Result V SourceError). EndsText s is_whole before q now) (sym (p.1 ∙ ap Err p.2)) (λ read sent step.
    let f = finishes read sent step in
    (f.bytes, end_cut s read sent f.bytes [] [] (Ok x) before written f (append-nil f.bytes), h ∙ ap failed f.drawn))
end_unflushed T U V x NotUtf8 r s is_whole before written now finishes h is = absurd h
end_unflushed T U V x Memory r s is_whole before written now finishes h is = absurd h

-- the end of a text went out, and was flushed
pub ends_whole : {T : Type 0} (x : T) (s : TextStream) (before written now : Trace) → ((read sent : List ℕ) → IsInStep read s sent → Finishes {T = T} s.skin s.width read sent before (Ok x) written) → now ≡ flushed written
    → EndsFlushed s before now
ends_whole {T} x s before written now finishes flush = record { written = written; whole = end_whole x s before written finishes; went = flush }

-- ---- a block

-- the rows of a block were refused
pub stops_at_rows : {T : Type 0} (old : TextStream) (block text : List ℕ) (n : ℕ) (new : TextStream) (before : Trace) (cause : Error) (e : SourceError) (now : Trace) → IsTextFront block text → e ≡ refusal_of cause → Steps {T = T} old (take n text) new before (Err cause) now
    → new.skin ≡ old.skin → new.width ≡ old.width → StopsInBlock old block new before e now
stops_at_rows {T} old block text n new before cause e now front told fed skin width = record {
  text = text;
  front = front;
  taken = take n text;
  later = drop n text;
  joins = sym (take-append-drop n text);
  cause = cause;
  told = told;
  fed = steps_refused old (take n text) new before cause now fed;
  skin = skin;
  width = width;
}
  where
    steps_refused : {T : Type 0} (old : TextStream) (taken : List ℕ) (new : TextStream) (before : Trace) (cause : Error) (now : Trace) → Steps {T = T} old taken new before (Err cause) now → Steps {T = Unit {0}} old taken new before (Err cause) now
    steps_refused {T} old taken new before (writing.IO e) now s = record { bytes = s.bytes; went = s.went; keeps = s.keeps }
    steps_refused {T} old taken new before (writing.InsufficientWidth e) now s = absurd s.went
    steps_refused {T} old taken new before writing.Memory now s = record { bytes = s.bytes; went = s.went; keeps = s.keeps }

-- the flush after a block was refused
pub stops_at_flush : (T U : Type 0) (x : T) (old : TextStream) (block text taken : List ℕ) (new : TextStream) (before between : Trace) (e : SourceError) (now : Trace) → IsTextFront block text → taken ≡ text → Steps {T = T} old taken new before (Ok x) between
    → FlushesOut {T = U} between (Err e) now → new.skin ≡ old.skin → new.width ≡ old.width → StopsInBlock old block new before e now
stops_at_flush T U x old block text taken new before between (Source e) now front all fed h skin width = absurd h
stops_at_flush T U x old block text taken new before between (Device e) now front all fed h skin width = record {
  text = text;
  front = front;
  taken = taken;
  later = [];
  joins = sym (append-nil taken ∙ all);
  cause = writing.IO e;
  told = refl;
  fed = record { bytes = fed.bytes; went = h ∙ ap failed fed.went; keeps = fed.keeps };
  skin = skin;
  width = width;
}
stops_at_flush T U x old block text taken new before between NotUtf8 now front all fed h skin width = absurd h
stops_at_flush T U x old block text taken new before between Memory now front all fed h skin width = absurd h

-- ---- block by block

-- what was read so far, of which this waits, and what went out
pub record SourceSoFar (skin : RowSkin) (width : Option ℕ) (source out : Trace) (s : TextStream) (waiting : List ℕ) (blocks : ℕ) (source_now out_now : Trace) : Type 0 where
  pub streamed : Streamed source out source_now out_now
  pub rest : streamed.front.rest ≡ waiting
  pub counted : blocks ≤ length streamed.read
  pub step : IsInStep streamed.text s streamed.bytes
  pub prompt : IsPrompt s
  pub some : 0 < length streamed.read → 0 < streamed.flushes
  pub skin_is : s.skin ≡ skin
  pub width_is : s.width ≡ width

-- nothing was read yet
pub source_start : (skin : RowSkin) (width : Option ℕ) (source out : Trace) (s : TextStream) (waiting : List ℕ) → waiting ≡ [] → IsInStep [] s [] → IsPrompt s → s.skin ≡ skin → s.width ≡ width → SourceSoFar skin width source out s waiting 0 source out
source_start skin width source out s waiting none step prompt skin_is width_is = record {
  streamed = record { read = []; handed_out = ahead_none source; text = []; front = record { rest = []; joins = refl; utf8 = IsUtf8-nil; longest = front_none.longest }; bytes = []; flushes = 0; went = sym (after-nil out) };
  rest = sym none;
  counted = omega arith;
  step = step;
  prompt = prompt;
  some = λ h. absurd (omega arith);
  skin_is = skin_is;
  width_is = width_is;
}

-- a block without bytes
pub source_ended : (skin : RowSkin) (width : Option ℕ) (source out : Trace) (s : TextStream) (waiting : List ℕ) (blocks : ℕ) (source_now source_next out_now : Trace) (buffer : List ℕ) (count : ℕ) → SourceSoFar skin width source out s waiting blocks source_now out_now
    → source_now ≡ ahead_all (take count buffer) source_next → count ≡ 0 → SourceSoFar skin width source out s waiting blocks source_next out_now
source_ended skin width source out s waiting blocks source_now source_next out_now buffer count h handed none =
    let same : source_now ≡ source_next = handed ∙ ap (λ n. ahead_all (take n buffer) source_next) none ∙ sym (ahead_none source_next) in
    subst (λ (t : Trace). SourceSoFar skin width source out s waiting blocks t out_now) same h

-- a block more
pub source_more : (skin : RowSkin) (width : Option ℕ) (source out : Trace) (old new : TextStream) (waiting got block left : List ℕ) (used blocks : ℕ) (is_wrong : Bool) (source_now source_next out_now out_next : Trace) → SourceSoFar skin width source out old waiting blocks source_now out_now
    → source_now ≡ ahead_all got source_next → 0 < length got → block ≡ waiting ++ got → FeedsBlock old block used is_wrong new out_now out_next → left ≡ drop used block
    → (k : SourceSoFar skin width source out new left (blocks + 1) source_next out_next) × (is_wrong ≡ true → BeginNoText k.streamed.read)
source_more skin width source out old new waiting got block left used blocks is_wrong source_now source_next out_now out_next h handed came is f left_is =
    let s : Streamed source out source_now out_now = h.streamed in
    let unfed : block ≡ s.front.rest ++ got = is ∙ ap (λ (l : List ℕ). l ++ got) (sym h.rest) in
    let front : IsTextFront block (take used block) = record { rest = drop used block; joins = sym (take-append-drop used block); utf8 = f.front.utf8; longest = f.front.longest } in
    let both = fronts_joined s.read got s.text (take used block) block s.front unfed front in (
      record {
        streamed = record {
          read = s.read ++ got;
          handed_out = ahead_more source source_now source_next s.read got s.handed_out handed;
          text = s.text ++ take used block;
          front = both.0;
          bytes = s.bytes ++ f.fed.bytes;
          flushes = suc s.flushes;
          went = f.went ∙ ap flushed (more_went s.flushes out out_now f.between s.bytes f.fed.bytes s.went f.fed.went);
        };
        rest = both.1 ∙ sym left_is;
        counted = omega (arith, h.counted, length-append s.read got);
        step = f.fed.keeps s.text s.bytes h.step;
        prompt = f.prompt;
        some = λ _. omega arith;
        skin_is = f.skin ∙ h.skin_is;
        width_is = f.width ∙ h.width_is;
      },
      λ wrong. no_text_joined s.read got s.text block s.front unfed (f.wrong wrong),
    )

-- ---- exits

-- the source failed
pub source_failed : (T : Type 0) (e : IoError) (skin : RowSkin) (width : Option ℕ) (source out : Trace) (s : TextStream) (waiting : List ℕ) (blocks : ℕ) (source_now source_next out_now : Trace) → SourceSoFar skin width source out s waiting blocks source_now out_now
    → source_next ≡ failed source_now → StreamsSource {T = T} skin width source out (Err (Source e)) source_next out_now
source_failed T e skin width source out s waiting blocks source_now source_next out_now h fault = record {
  last = source_now;
  fault = fault;
  streamed = h.streamed;
  rows = subst (λ (k : RowSkin). AreCompleteRows k width h.streamed.text h.streamed.bytes) h.skin_is (subst (λ (w : Option ℕ). AreCompleteRows s.skin w h.streamed.text h.streamed.bytes) h.width_is (complete_rows h.streamed.text h.streamed.bytes s h.step h.prompt));
  some = h.some;
}

-- in the middle of a block
block_rows : (skin : RowSkin) (width : Option ℕ) (text bytes more taken later : List ℕ) (old new : TextStream) → old.skin ≡ skin → old.width ≡ width → new.skin ≡ old.skin → new.width ≡ old.width → more ≡ taken ++ later → IsInStep (text ++ taken) new bytes
    → BeginsRows skin width (text ++ more) bytes
block_rows skin width text bytes more taken later old new skin_is width_is skin_same width_same joins step =
    begins_same new.skin skin new.width width (text ++ more) bytes (skin_same ∙ skin_is) (width_same ∙ width_is)
    (begins_in_step (text ++ taken) later (text ++ more) bytes new (ap (λ (l : List ℕ). text ++ l) joins ∙ sym (append_assoc text taken later)) step)

stopped_streamed : (skin : RowSkin) (width : Option ℕ) (source out : Trace) (old : TextStream) (waiting got block text bytes : List ℕ) (blocks : ℕ) (source_now source_next out_now : Trace) → (h : SourceSoFar skin width source out old waiting blocks source_now out_now)
    → source_now ≡ ahead_all got source_next → block ≡ waiting ++ got → IsTextFront block text → (k : Streamed source out source_next (after out_now bytes)) × (k.text ≡ h.streamed.text ++ text) × (k.bytes ≡ h.streamed.bytes ++ bytes)
stopped_streamed skin width source out old waiting got block text bytes blocks source_now source_next out_now h handed is front =
    let s : Streamed source out source_now out_now = h.streamed in
    let unfed : block ≡ s.front.rest ++ got = is ∙ ap (λ (l : List ℕ). l ++ got) (sym h.rest) in (
      record {
        read = s.read ++ got;
        handed_out = ahead_more source source_now source_next s.read got s.handed_out handed;
        text = s.text ++ text;
        front = (fronts_joined s.read got s.text text block s.front unfed front).0;
        bytes = s.bytes ++ bytes;
        flushes = s.flushes;
        went = more_went s.flushes out out_now (after out_now bytes) s.bytes bytes s.went refl;
      },
      refl,
      refl,
    )

stopped_rows : (skin : RowSkin) (width : Option ℕ) (text bytes other_text other_bytes : List ℕ) → other_text ≡ text → other_bytes ≡ bytes → BeginsRows skin width text bytes → BeginsRows skin width other_text other_bytes
stopped_rows skin width text bytes other_text other_bytes p q h = subst (λ (t : List ℕ). BeginsRows skin width t other_bytes) (sym p) (subst (λ (b : List ℕ). BeginsRows skin width text b) (sym q) h)

stopped_by : (T : Type 0) (cause : Error) (skin : RowSkin) (width : Option ℕ) (source out : Trace) (old new : TextStream) (waiting got block text taken later : List ℕ) (blocks : ℕ) (source_now source_next out_now out_next : Trace) → SourceSoFar skin width source out old waiting blocks source_now out_now
    → source_now ≡ ahead_all got source_next → block ≡ waiting ++ got → IsTextFront block text → text ≡ taken ++ later → Steps {T = Unit {0}} old taken new out_now (Err cause) out_next → new.skin ≡ old.skin → new.width ≡ old.width
    → StreamsSource {T = T} skin width source out (Err (refusal_of cause)) source_next out_next
stopped_by T (writing.IO e) skin width source out old new waiting got block text taken later blocks source_now source_next out_now out_next h handed is front joins fed skin_same width_same =
    let s = stopped_streamed skin width source out old waiting got block text fed.bytes blocks source_now source_next out_now h handed is front in
    record {
      last = after out_now fed.bytes;
      fault = fed.went;
      streamed = s.0;
      rows = stopped_rows skin width (h.streamed.text ++ text) (h.streamed.bytes ++ fed.bytes) s.0.text s.0.bytes s.1 s.2
          (block_rows skin width h.streamed.text (h.streamed.bytes ++ fed.bytes) text taken later old new h.skin_is h.width_is skin_same width_same joins (fed.keeps h.streamed.text h.streamed.bytes h.step));
    }
stopped_by T (writing.InsufficientWidth e) skin width source out old new waiting got block text taken later blocks source_now source_next out_now out_next h handed is front joins fed skin_same width_same = absurd fed.went
stopped_by T writing.Memory skin width source out old new waiting got block text taken later blocks source_now source_next out_now out_next h handed is front joins fed skin_same width_same =
    let s = stopped_streamed skin width source out old waiting got block text fed.bytes blocks source_now source_next out_now h handed is front in
    subst (λ (t : Trace). StreamsSource {T = T} skin width source out (Err Memory) source_next t) (sym fed.went) (record {
      streamed = s.0;
      rows = stopped_rows skin width (h.streamed.text ++ text) (h.streamed.bytes ++ fed.bytes) s.0.text s.0.bytes s.1 s.2
          (block_rows skin width h.streamed.text (h.streamed.bytes ++ fed.bytes) text taken later old new h.skin_is h.width_is skin_same width_same joins (fed.keeps h.streamed.text h.streamed.bytes h.step));
    })

-- a block was refused
pub block_stopped : {T : Type 0} (r : Result T SourceError) (e : SourceError) (skin : RowSkin) (width : Option ℕ) (source out : Trace) (old new : TextStream) (waiting got block : List ℕ) (blocks : ℕ) (source_now source_next out_now out_next : Trace)
    → SourceSoFar skin width source out old waiting blocks source_now out_now → source_now ≡ ahead_all got source_next → block ≡ waiting ++ got → StopsInBlock old block new out_now e out_next → IsErrAnd r (λ d. d ≡ e) → StreamsSource skin width source out r source_next out_next
block_stopped {T} r e skin width source out old new waiting got block blocks source_now source_next out_now out_next h handed is stop refused =
    let p = err_from_is_err_and r refused in
    subst (λ (q : Result T SourceError). StreamsSource skin width source out q source_next out_next) (sym (p.1 ∙ ap Err (p.2 ∙ stop.told)))
    (stopped_by T stop.cause skin width source out old new waiting got block stop.text stop.taken stop.later blocks source_now source_next out_now out_next h handed is stop.front stop.joins stop.fed stop.skin stop.width)

-- at the end
all_streamed : (source out source_now out_now written out_next : Trace) (bytes : List ℕ) → (s : Streamed source out source_now out_now) → written ≡ after out_now bytes → out_next ≡ flushed written → (k : Streamed source out source_now out_next) × (k.read ≡ s.read) × (k.text ≡ s.text) × (k.bytes ≡ s.bytes ++ bytes) × (0 < k.flushes)
all_streamed source out source_now out_now written out_next bytes s went flush = (
  record {
    read = s.read;
    handed_out = s.handed_out;
    text = s.text;
    front = s.front;
    bytes = s.bytes ++ bytes;
    flushes = suc s.flushes;
    went = flush ∙ ap flushed (more_went s.flushes out out_now written s.bytes bytes s.went went);
  },
  refl,
  refl,
  refl,
  omega arith,
)

laid_same : (skin other : RowSkin) (width else : Option ℕ) (text same bytes rows : List ℕ) → skin ≡ other → width ≡ else → same ≡ text → rows ≡ bytes → IsLaidOut skin width text bytes → IsLaidOut other else same rows
laid_same skin other width else text same bytes rows p q r t h =
    subst (λ (k : RowSkin). IsLaidOut k else same rows) p (subst (λ (w : Option ℕ). IsLaidOut skin w same rows) q (subst (λ (l : List ℕ). IsLaidOut skin width l rows) (sym r) (subst (λ (l : List ℕ). IsLaidOut skin width text l) (sym t) h)))

-- whatever the end answers
pub text_ended : {T : Type 0} (r : Result T SourceError) (is_whole : Bool) (skin : RowSkin) (width : Option ℕ) (source out : Trace) (s : TextStream) (waiting : List ℕ) (blocks : ℕ) (source_now out_now out_next : Trace) → (h : SourceSoFar skin width source out s waiting blocks source_now out_now)
    → (is_whole ≡ true → (h.streamed.text ≡ h.streamed.read) × IsReadOut h.streamed.read source_now) → (is_whole ≡ false → IsNoText h.streamed.read source_now) → EndsText s is_whole out_now r out_next → StreamsSource skin width source out r source_now out_next
text_ended {T} (Ok x) is_whole skin width source out s waiting blocks source_now out_now out_next h good bad e =
    let w = e.1.whole h.streamed.text h.streamed.bytes h.step in
    let k = all_streamed source out source_now out_now e.1.written out_next w.0 h.streamed w.2 e.1.went in
    let g = good e.0 in
    record {
      streamed = k.0;
      whole = k.2 ∙ g.0 ∙ sym k.1;
      over = subst (λ (l : List ℕ). IsReadOut l source_now) (sym k.1) g.1;
      writes = record { rows = laid_same s.skin skin s.width width h.streamed.text k.0.text (h.streamed.bytes ++ w.0) k.0.bytes h.skin_is h.width_is k.2 k.3 w.1; some = k.4 };
    }
text_ended {T} (Err (Source f)) is_whole skin width source out s waiting blocks source_now out_now out_next h good bad e = absurd e
text_ended {T} (Err (Device f)) is_whole skin width source out s waiting blocks source_now out_now out_next h good bad e =
    let w = e h.streamed.text h.streamed.bytes h.step in
    record {
      last = after out_now w.0;
      fault = w.2;
      streamed = record { read = h.streamed.read; handed_out = h.streamed.handed_out; text = h.streamed.text; front = h.streamed.front; bytes = h.streamed.bytes ++ w.0; flushes = h.streamed.flushes; went = more_went h.streamed.flushes out out_now (after out_now w.0) h.streamed.bytes w.0 h.streamed.went refl };
      rows = begins_same s.skin skin s.width width h.streamed.text (h.streamed.bytes ++ w.0) h.skin_is h.width_is w.1;
    }
text_ended {T} (Err NotUtf8) is_whole skin width source out s waiting blocks source_now out_now out_next h good bad e =
    let w = e.1.whole h.streamed.text h.streamed.bytes h.step in
    let k = all_streamed source out source_now out_now e.1.written out_next w.0 h.streamed w.2 e.1.went in
    record {
      streamed = k.0;
      wrong = subst (λ (l : List ℕ). IsNoText l source_now) (sym k.1) (bad e.0);
      writes = record { rows = laid_same s.skin skin s.width width h.streamed.text k.0.text (h.streamed.bytes ++ w.0) k.0.bytes h.skin_is h.width_is k.2 k.3 w.1; some = k.4 };
    }
text_ended {T} (Err Memory) is_whole skin width source out s waiting blocks source_now out_now out_next h good bad e =
    let w = e h.streamed.text h.streamed.bytes h.step in
    record {
      streamed = record { read = h.streamed.read; handed_out = h.streamed.handed_out; text = h.streamed.text; front = h.streamed.front; bytes = h.streamed.bytes ++ w.0; flushes = h.streamed.flushes; went = more_went h.streamed.flushes out out_now out_next h.streamed.bytes w.0 h.streamed.went w.2 };
      rows = begins_same s.skin skin s.width width h.streamed.text (h.streamed.bytes ++ w.0) h.skin_is h.width_is w.1;
    }

-- nothing more is read
pub read_out : {T : Type 0} (r : Result T SourceError) (is_whole : Bool) (skin : RowSkin) (width : Option ℕ) (source out : Trace) (s : TextStream) (waiting : List ℕ) (blocks : ℕ) (source_now out_now out_next : Trace) → (h : SourceSoFar skin width source out s waiting blocks source_now out_now) → IsReadOut h.streamed.read source_now
    → (is_whole ≡ true → length waiting ≡ 0) → (is_whole ≡ false → 0 < length waiting) → EndsText s is_whole out_now r out_next → StreamsSource skin width source out r source_now out_next
read_out {T} r is_whole skin width source out s waiting blocks source_now out_now out_next h over good bad e =
    text_ended r is_whole skin width source out s waiting blocks source_now out_now out_next h
    (λ is. (front_whole h.streamed.read h.streamed.text h.streamed.front (h.rest ∙ empty waiting (good is)), over))
    (λ is. inl (over, front_partly h.streamed.read h.streamed.text h.streamed.front (omega (arith, bad is, ap length h.rest)))) e
  where
    empty : (l : List ℕ) → length l ≡ 0 → l ≡ []
    empty [] none = refl
    empty (x ∷ l) none = absurd (omega arith)

-- refused by this error
pub refused_exit : {T : Type 0} (r : Result T SourceError) (P : T → Type 0) (Q : SourceError → Type 0) (e : SourceError) → IsErrAnd r (λ d. d ≡ e) → Q e → MatchResult r P Q
refused_exit {T} r P Q e is h =
    let p = err_from_is_err_and r is in
    subst (λ (q : Result T SourceError). MatchResult q P Q) (sym (p.1 ∙ ap Err p.2)) h

-- bytes of a block that were copied to its front
pub kept_front : (old new : List ℕ) (from to : ℕ) → from ≤ to → to ≤ length old → new ≡ copy_within old from to 0 → take (to - from) new ≡ drop from (take to old)
kept_front old new from to order inside is =
    let n : ℕ = to - from in
    let none : 0 + n ≡ n = omega arith in
    let there : take n (copy_within old from to 0) ≡ take n (drop from old) = subst (λ m. take m (copy_within old from to 0) ≡ take n (drop from old)) none (take-paste old 0 (drop from old) n (omega arith) (omega (arith, length-drop from old))) in
    let whole : from + n ≡ to = omega arith in
    ap (take n) is ∙ there ∙ sym (drop-take from n old) ∙ ap (λ m. drop from (take m old)) whole

-- a block after bytes were put behind those that wait
pub block_come : (block buffer others : List ℕ) (waiting count : ℕ) → waiting ≤ length block → count ≤ length buffer → take (waiting + count) (take waiting block ++ (buffer ++ others)) ≡ take waiting block ++ take count buffer
block_come block buffer others waiting count inside within =
    let size : length (take waiting block) ≡ waiting = length-take-le waiting block inside in
    let more : (waiting + count) - length (take waiting block) ≡ count = omega arith in
    take_past (take waiting block) (buffer ++ others) (waiting + count) (omega arith) ∙ ap (λ n. take waiting block ++ take n (buffer ++ others)) more ∙ ap (λ (l : List ℕ). take waiting block ++ l) (take-append-le count buffer others within)

-- where the count of what waits is 0, nothing waits
pub none_waits : (waiting : ℕ) (block : List ℕ) → (waiting == 0) ≡ true → length (take waiting block) ≡ 0
none_waits waiting block is = ap (λ n. length (take n block)) (true_test waiting 0 is)

-- where it isn't 0, something waits
pub some_wait : (waiting : ℕ) (block : List ℕ) → waiting ≤ length block → (waiting == 0) ≡ false → 0 < length (take waiting block)
some_wait zero block inside is = let same : (0 == 0) ≡ true = test_true 0 0 refl in absurd (true≢false (sym same ∙ is))
some_wait (suc n) block inside is = omega (arith, length-take-le (suc n) block inside)

-- where the count of what came isn't 0, something came
pub some_came : (buffer : List ℕ) (count : ℕ) → count ≤ length buffer → count ≢ 0 → 0 < length (take count buffer)
some_came buffer count within some = omega (arith, some, length-take-le count buffer within)
