-- What is read and said, step by step.
use Rattle.std.proofs.Common.{◌≡◌, ◌≢◌, ◌⊎◌, ◌+◌, ℕ, List, [], ◌∷◌, ◌++◌, length, Option, Some, None, option_map, Result, Ok, Err, String, Global, string_bytes, inl, inr, ⊎_elim, refl, ap, subst, sym, ◌∙◌, append_assoc}
use Rattle.std.specs.Prelude.{MatchOption}
use Rattle.std.proofs.lemmas.List.{append-nil, length-append}
use Rattle.std.proofs.lemmas.Grind.{flat_map-append}
use Rattle.std.proofs.lemmas.List.Elements.{All-append, All-cons, All-nil}
use Rattle.std.proofs.lemmas.Bool.Decides.{eqb_tells}
use Rattle.mad_term.specs.Trace.{Trace, after, ahead, ahead_all, failed, CutShort}
use Rattle.mad_term.proofs.Traces.{took_both, took_none}
use Rattle.mad_ask.specs.declared.ask_error.AskError.{AskError}
use Rattle.mad_ask.specs.declared.ask_error.AskError.TheVariants.{IO, EndOfInput, NotUtf8, Memory}
use Rattle.mad_ask.specs.Deciding.{Decision, Answered, NoText, Undecided, line_decides, complaint}
use Rattle.mad_ask.specs.Offers.{Offered}
use Rattle.mad_ask.specs.Reading.{Devices, HasEnded, HasNoNewline, HasRead, IsAnswered, IsDecided, IsFaulted, IsLine, IsOutOfMemory, IsOver, IsRefused, ReadsAnswer, complaints, lines_bytes}
use Rattle.mad_ask.specs.Replies.{EndAnswers, EndFails, EndGives, ReplyFails, SaidOfLast}

-- ---- sources

both_ahead : (front back : List ℕ) (o : Option (List ℕ)) → option_map (λ rest. front ++ rest) (option_map (λ rest. back ++ rest) o) ≡ option_map (λ rest. (front ++ back) ++ rest) o
both_ahead front back None = refl
both_ahead front back (Some rest) = ap Some (sym (append_assoc front back rest))

none_ahead : (o : Option (List ℕ)) → o ≡ option_map (λ rest. [] ++ rest) o
none_ahead None = refl
none_ahead (Some rest) = refl

-- nothing was read
pub ahead_none : (t : Trace) → t ≡ ahead_all [] t
unfolding ahead_all
ahead_none t = ap (λ (o : Option (List ℕ)). let r : Trace = record { bytes = o; faults = t.faults; flushes = t.flushes } in r) (none_ahead t.bytes)

-- a byte was read after others
pub ahead_byte : (old mid new : Trace) (front : List ℕ) (byte : ℕ) → old ≡ ahead_all front mid → mid ≡ ahead byte new → old ≡ ahead_all (front ++ byte ∷ []) new
unfolding ahead_all ahead
ahead_byte old mid new front byte p q =
    p ∙ ap (ahead_all front) q ∙ ap (λ (o : Option (List ℕ)). let r : Trace = record { bytes = o; faults = new.faults; flushes = new.flushes } in r) (both_ahead front (byte ∷ []) new.bytes)

-- ---- lines

-- the bytes of lines and of one more
line_joined : (lines : List (List ℕ)) (line : List ℕ) → lines_bytes (lines ++ line ∷ []) ++ [] ≡ lines_bytes lines ++ line
line_joined lines line =
    append-nil (lines_bytes (lines ++ line ∷ [])) ∙ flat_map-append (λ l. l) lines (line ∷ []) ∙ ap (λ (bs : List ℕ). lines_bytes lines ++ bs) (append-nil line)

module _ (offered : Offered) where
  -- nothing was read yet
  pub read_none : (t : Trace) → HasRead offered [] [] t t
  read_none t = record {
    whole = All-nil _;
    undecided = All-nil _;
    read = ahead_none t;
  }

  -- one byte more
  pub read_byte : (lines : List (List ℕ)) (line : List ℕ) (old mid new : Trace) (byte : ℕ) → HasRead offered lines line old mid → mid ≡ ahead byte new → HasRead offered lines (line ++ byte ∷ []) old new
  read_byte lines line old mid new byte h e = record {
    whole = h.whole;
    undecided = h.undecided;
    read = ahead_byte old mid new (lines_bytes lines ++ line) byte h.read e ∙ ap (λ (bs : List ℕ). ahead_all bs new) (append_assoc (lines_bytes lines) line (byte ∷ []));
  }

  -- a line more that decided nothing
  pub read_line : (lines : List (List ℕ)) (line : List ℕ) (old new : Trace) → HasRead offered lines line old new → IsLine line → line_decides offered line ≡ Undecided → HasRead offered (lines ++ line ∷ []) [] old new
  read_line lines line old new h whole none = record {
    whole = All-append IsLine lines (line ∷ []) h.whole (All-cons IsLine line [] whole (All-nil IsLine));
    undecided = All-append (λ l. line_decides offered l ≡ Undecided) lines (line ∷ []) h.undecided (All-cons (λ l. line_decides offered l ≡ Undecided) line [] none (All-nil (λ l. line_decides offered l ≡ Undecided)));
    read = h.read ∙ ap (λ (bs : List ℕ). ahead_all bs new) (sym (line_joined lines line));
  }

-- a complaint more
pub said_more : (lines : List (List ℕ)) (line : List ℕ) (old mid new : Trace) → mid ≡ after old (complaints lines) → new ≡ after mid (complaint line) → new ≡ after old (complaints (lines ++ line ∷ []))
said_more lines line old mid new p q =
    took_both old mid new (complaints lines) (complaint line) p q
    ∙ ap (after old) (sym (flat_map-append complaint lines (line ∷ []) ∙ ap (λ (bs : List ℕ). complaints lines ++ bs) (append-nil (complaint line))))

-- bytes without a newline, and one more
pub no_newline_more : (line : List ℕ) (byte : ℕ) → HasNoNewline line → byte ≢ 10 → HasNoNewline (line ++ byte ∷ [])
no_newline_more line byte h ne = All-append (λ b. b ≢ 10) line (byte ∷ []) h (All-cons (λ b. b ≢ 10) byte [] ne (All-nil (λ b. b ≢ 10)))

-- ---- in the middle of reading

-- Some lines decided nothing, and were complained about; of the next these bytes were read, `count` in all.
pub record IsReading (offered : Offered) (line : List ℕ) (count : ℕ) (old new : Devices) : Type 0 where
  pub lines : List (List ℕ)
  pub read : HasRead offered lines line old.input new.input
  pub said : new.output ≡ after old.output (complaints lines)
  pub open_end : HasNoNewline line
  pub counted : length (lines_bytes lines ++ line) ≡ count

-- at first
pub starts : (offered : Offered) (line : List ℕ) (old : Devices) → line ≡ [] → IsReading offered line 0 old old
starts offered line old e =
    subst (λ (l : List ℕ). IsReading offered l 0 old old) (sym e) (record {
      lines = [];
      read = read_none offered old.input;
      said = took_none old.output;
      open_end = All-nil (λ b. b ≢ 10);
      counted = refl;
    })

-- a byte that ends no line
pub goes_on : (offered : Offered) (line after_it : List ℕ) (count byte : ℕ) (old mid new : Devices) → IsReading offered line count old mid → mid.input ≡ ahead byte new.input → new.output ≡ mid.output → byte ≢ 10 → after_it ≡ line ++ byte ∷ [] → IsReading offered after_it (count + 1) old new
goes_on offered line after_it count byte old mid new h e same ne is =
    subst (λ (l : List ℕ). IsReading offered l (count + 1) old new) (sym is) (record {
      lines = h.lines;
      read = read_byte offered h.lines line old.input mid.input new.input byte h.read e;
      said = same ∙ h.said;
      open_end = no_newline_more line byte h.open_end ne;
      counted = ap length (sym (append_assoc (lines_bytes h.lines) line (byte ∷ []))) ∙ length-append (lines_bytes h.lines ++ line) (byte ∷ []) ∙ ap (λ (n : ℕ). n + 1) h.counted;
    })

-- a newline after a line that decided nothing
pub goes_on_after : (offered : Offered) (line whole after_it : List ℕ) (count : ℕ) (old mid new : Devices) → IsReading offered line count old mid → mid.input ≡ ahead 10 new.input → whole ≡ line ++ 10 ∷ [] → line_decides offered whole ≡ Undecided → new.output ≡ after mid.output (complaint whole) → after_it ≡ [] → IsReading offered after_it (count + 1) old new
goes_on_after offered line whole after_it count old mid new h e is none said empty =
    subst (λ (l : List ℕ). IsReading offered l (count + 1) old new) (sym empty) (record {
      lines = h.lines ++ whole ∷ [];
      read = read_line offered h.lines whole old.input new.input (subst (λ (l : List ℕ). HasRead offered h.lines l old.input new.input) (sym is) (read_byte offered h.lines line old.input mid.input new.input 10 h.read e)) (record { front = line; one = h.open_end; ended = is }) none;
      said = said_more h.lines whole old.output mid.output new.output h.said said;
      open_end = All-nil (λ b. b ≢ 10);
      counted = ap length (line_joined h.lines whole ∙ ap (λ (bs : List ℕ). lines_bytes h.lines ++ bs) is ∙ sym (append_assoc (lines_bytes h.lines) line (10 ∷ []))) ∙ length-append (lines_bytes h.lines ++ line) (10 ∷ []) ∙ ap (λ (n : ℕ). n + 1) h.counted;
    })

-- ---- how it ends

-- the last line's part in what was said
last_said : (offered : Offered) (line : List ℕ) (lines : List (List ℕ)) (old mid new : Trace) → mid ≡ after old (complaints lines) → SaidOfLast offered line mid new → SaidOfLast offered line (after old (complaints lines)) new
last_said offered line lines old mid new e h = subst (λ (t : Trace). SaidOfLast offered line t new) e h

-- the input is over
module _ (offered : Offered) (line : List ℕ) (count : ℕ) (old mid new : Devices) (h : IsReading offered line count old mid) (same : new.input ≡ mid.input) (over : IsOver h.lines line new.input) where
  read_here : HasRead offered h.lines line old.input new.input
  read_here = subst (λ (t : Trace). HasRead offered h.lines line old.input t) (sym same) h.read

  has_ended : SaidOfLast offered line mid.output new.output → HasEnded offered old new
  has_ended said = record { lines = h.lines; last = line; read = read_here; said = last_said offered line h.lines old.output mid.output new.output h.said said; open_end = h.open_end; over = over }

  is_decided : (decision : Decision) → line ≢ [] → line_decides offered line ≡ decision → new.output ≡ mid.output → IsDecided offered decision old new
  is_decided decision some decides quiet = record { lines = h.lines; line = line; read = read_here; said = quiet ∙ h.said; decides = decides; ended = inr (some, h.open_end, over) }

  end_answers : (answer : List ℕ) → EndAnswers offered line mid.output answer new.output → IsAnswered offered old answer new
  end_answers answer (inl (some, decides, quiet)) = inl (is_decided (Answered answer) some decides quiet)
  end_answers answer (inr (default, said)) = inr (has_ended said, default)

  end_fails : (e : AskError) → EndFails offered line mid.output e new.output → IsRefused offered old e new
  end_fails (IO e) (some, none, cut) = record {
    lines = h.lines;
    more = line;
    last = new.input;
    read = read_here;
    fault = inr (refl, inr (some, h.open_end, over), none, subst (λ (t : Trace). CutShort t (complaint line) new.output) h.said cut);
  }
  end_fails EndOfInput (none, said) = (has_ended said, none)
  end_fails NotUtf8 (some, decides, quiet) = is_decided NoText some decides quiet
  end_fails Memory (inl quiet) = record { lines = h.lines; more = line; read = read_here; one = inl h.open_end; said = inl (quiet ∙ h.said) }
  end_fails Memory (inr said) = record { lines = h.lines; more = line; read = read_here; one = inl h.open_end; said = inr (last_said offered line h.lines old.output mid.output new.output h.said said) }

  -- so the end of the input gives what reading does
  pub ends : (r : Result (String Global) AskError) → EndGives offered line mid.output r new.output → ReadsAnswer offered old r new
  ends (Ok answer) g = end_answers (string_bytes answer) g
  ends (Err e) g = end_fails e g

-- a newline was read
module _ (offered : Offered) (line whole : List ℕ) (count : ℕ) (old mid new : Devices) (h : IsReading offered line count old mid) (e : mid.input ≡ ahead 10 new.input) (is : whole ≡ line ++ 10 ∷ []) where
  read_whole : HasRead offered h.lines whole old.input new.input
  read_whole = subst (λ (l : List ℕ). HasRead offered h.lines l old.input new.input) (sym is) (read_byte offered h.lines line old.input mid.input new.input 10 h.read e)

  whole_line : IsLine whole
  whole_line = record { front = line; one = h.open_end; ended = is }

  -- what the line decided
  pub line_decided : (decision : Decision) → line_decides offered whole ≡ decision → new.output ≡ mid.output → IsDecided offered decision old new
  line_decided decision decides quiet = record { lines = h.lines; line = whole; read = read_whole; said = quiet ∙ h.said; decides = decides; ended = inl whole_line }

  -- why it has no reply
  pub reply_failed : (x : AskError) → ReplyFails offered whole mid.output x new.output → IsRefused offered old x new
  reply_failed (IO x) (none, cut) = record {
    lines = h.lines;
    more = whole;
    last = new.input;
    read = read_whole;
    fault = inr (refl, inl whole_line, none, subst (λ (t : Trace). CutShort t (complaint whole) new.output) h.said cut);
  }
  reply_failed EndOfInput g = absurd g
  reply_failed NotUtf8 (decides, quiet) = line_decided NoText decides quiet
  reply_failed Memory quiet = record { lines = h.lines; more = whole; read = read_whole; one = inr whole_line; said = inl (quiet ∙ h.said) }

-- bytes without a newline, and one more of any kind
one_more : (line : List ℕ) (byte : ℕ) → HasNoNewline line → HasNoNewline (line ++ byte ∷ []) ⊎ IsLine (line ++ byte ∷ [])
one_more line byte h = ⊎_elim (λ e. inr (record { front = line; one = h; ended = ap (λ (b : ℕ). line ++ b ∷ []) e.1 })) (λ e. inl (no_newline_more line byte h e.1)) (eqb_tells byte 10)

-- the input failed
pub reader_failed : (offered : Offered) (line : List ℕ) (count : ℕ) (old mid new : Devices) → IsReading offered line count old mid → new.input ≡ failed mid.input → new.output ≡ mid.output → IsFaulted offered old new
reader_failed offered line count old mid new h e same = record {
  lines = h.lines;
  more = line;
  last = mid.input;
  read = h.read;
  fault = inl (e, h.open_end, same ∙ h.said);
}

-- no memory for a byte that was read
pub byte_lost : (offered : Offered) (line : List ℕ) (count byte : ℕ) (old mid new : Devices) → IsReading offered line count old mid → mid.input ≡ ahead byte new.input → new.output ≡ mid.output → IsOutOfMemory offered old new
byte_lost offered line count byte old mid new h e same = record {
  lines = h.lines;
  more = line ++ byte ∷ [];
  read = read_byte offered h.lines line old.input mid.input new.input byte h.read e;
  one = one_more line byte h.open_end;
  said = inl (same ∙ h.said);
}

-- what is known of an option, at either case
pub at_none : {A : Type 0} (o : Option A) (P : Type 0) (Q : A → Type 0) → o ≡ None → MatchOption o P Q → P
at_none {A} o P Q e h = let R : Option A → Type 0 = λ x. MatchOption x P Q in subst R e h

-- what holds of an answer that is there
pub at_some : {A : Type 0} (o : Option A) (P : Type 0) (Q : A → Type 0) (x : A) → o ≡ Some x → MatchOption o P Q → Q x
at_some {A} o P Q x e h = let R : Option A → Type 0 = λ y. MatchOption y P Q in subst R e h
