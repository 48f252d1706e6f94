-- What a present does to the bytes that a terminal has read.
use Rattle.std.proofs.Common.{◌≡◌, ⊎_elim, ℕ, ◌-◌, ◌*◌, true, false, List, [], ◌∷◌, ◌++◌, length, take, drop, replicate, Option, Some, None, Result, Ok, Err, refl, ap, sym, ◌∙◌, subst, arith, lit<, append_assoc, ◌≤◌, ◌+◌, Bool, cond, length-append}
use Rattle.std.specs.Prelude.{IfSome, IsErr}
use Rattle.std.proofs.lemmas.Bool.{false≢true}
use Rattle.std.proofs.lemmas.List.{append-nil, drop_all, take_all, take-append-drop, length-replicate}
use Rattle.mad_term.specs.declared.commands.ClearType.TheVariants.{All}
use Rattle.mad_term.specs.Commands.{clear_bytes, sgr_bytes}
use Rattle.mad_term.specs.Trace.{Trace, after, failed, flushed, Flushes, TookWith}
use Rattle.mad_term.proofs.Traces.{after-nil, took_with, took_flushed}
use Rattle.mad_screen.specs.Glyph.{Glyph}
use Rattle.mad_screen.specs.Grid.{Grid, IsGrid, empty_grid, plain_pen, blank, put_list}
use Rattle.mad_screen.specs.Terminal.{after_bytes, erased, screen_end}
use Rattle.mad_screen.proofs.CommandsRead.{command_read, sgr_read}
use Rattle.mad_screen.proofs.Reading.{letter_screen}
use Rattle.mad_screen.proofs.ReadingBack.{read_in_turn}
use Rattle.mad_frames.specs.declared.errors.PresentError.{PresentError}
use Rattle.mad_frames.specs.declared.errors.PresentError.TheVariants.{IO, Undefined, Memory}
use Rattle.mad_frames.specs.Bound.{most_bytes}
use Rattle.mad_frames.specs.Changes.{SameSize, ShowsCells, LeadTo}
use Rattle.mad_frames.specs.FrameLaws.{Step, IsDrawing, AreSteps, frame_after, taken_in}
use Rattle.mad_frames.specs.Frames.{FrameState, IsInStep, MayShow, LeadsAll, KeepsInStep, IsSent, IsPresented, IsCut, IsKept, IsMessage, IsBounded, drawn_screen, Sends, IsRefused, Presents, unknown}
use Rattle.mad_frames.specs.Mending.{mended}
use Rattle.mad_frames.proofs.HalfwayLemmas.{over, no_bytes}
use Rattle.mad_frames.proofs.MendLemmas.{empty_stays}
use Rattle.mad_frames.proofs.StyleBytes.{clearing_most}

-- what the device took, and what it has yet to take
joined : (taken front rest unsent changes : List ℕ) → front ++ rest ≡ unsent ++ changes → (taken ++ front) ++ rest ≡ (taken ++ unsent) ++ changes
joined taken front rest unsent changes e = append_assoc taken front rest ∙ ap (λ l. taken ++ l) e ∙ sym (append_assoc taken unsent changes)

-- whatever front of a message went out
sent_in_step : (old new : FrameState) (front : List ℕ) → IsSent old new front → KeepsInStep old new front
sent_in_step old new front sent start taken h =
    let s = sent.leads h.0 h.2 in (
      s.0,
      ap (after_bytes start) (joined taken front new.unsent old.unsent sent.changes sent.whole) ∙ read_in_turn start h.0 s.0 (taken ++ old.unsent) sent.changes h.1 s.1,
      record { grid = s.2.grid; size = record { width = s.2.size.width; height = s.2.size.height }; shows = λ _. s.2 },
    )

-- so many bytes of a message went out
pub front_sent : (old new : FrameState) (bytes : List ℕ) (n : ℕ) → IsMessage old new.base bytes → drawn_screen old ≡ Some new.base → new.unsent ≡ drop n bytes → new.drawn ≡ [] → new.known ≡ true → IsSent old new (take n bytes)
front_sent old new bytes n m read rest drawn known = record {
  changes = m.changes;
  whole = ap (λ l. take n bytes ++ l) rest ∙ take-append-drop n bytes ∙ m.whole;
  leads = m.leads;
  quiet = m.quiet;
  bound = m.bound;
  read = read;
  drawn = drawn;
  known = known;
}

-- all of it, and a flush
pub flush_sends : {T E : Type 0} (old new : FrameState) (before mid now : Trace) (bytes : List ℕ) (n : ℕ) (r : Result T E) → IsSent old new (take n bytes) → n ≡ length bytes → new.unsent ≡ drop n bytes → mid ≡ after before bytes → Flushes mid r now → Sends old new before now r
flush_sends old new before mid now bytes n (Ok t) sent all rest went flush =
    record {
      front = take n bytes;
      sent = sent;
      unsent = rest ∙ drop_all n bytes (omega arith);
      went = flush ∙ ap flushed (went ∙ ap (after before) (sym (take_all n bytes (omega arith))));
    }
flush_sends old new before mid now bytes n (Err e) sent all rest went flush =
    record { front = take n bytes; sent = sent; went = flush ∙ ap failed (went ∙ ap (after before) (sym (take_all n bytes (omega arith)))) }

-- or a part of it, and a fault
pub cut_sends : {T E : Type 0} (old new : FrameState) (before now : Trace) (front : List ℕ) (r : Result T E) → IsErr r → IsSent old new front → now ≡ failed (after before front) → Sends old new before now r
cut_sends old new before now front (Ok t) fault sent went = absurd (false≢true fault)
cut_sends old new before now front (Err e) fault sent went = record { front = front; sent = sent; went = went }

took_failed : (old new : Trace) (text : List ℕ) (P : List ℕ → Type 0) → new ≡ failed (after old text) → P text → TookWith old new P
unfolding failed
took_failed old new text P e h = subst (λ (t : Trace). TookWith old t P) (sym e) (took_with old (after old text) text P refl h)

presented_in_step : (old new : FrameState) (before now : Trace) → IsPresented old new before now → TookWith before now (KeepsInStep old new)
presented_in_step old new before now h =
    took_flushed before (after before h.front) now (KeepsInStep old new) (took_with before (after before h.front) h.front (KeepsInStep old new) refl (sent_in_step old new h.front h.sent)) h.went

cut_in_step : (old new : FrameState) (before now : Trace) → IsCut old new before now → TookWith before now (KeepsInStep old new)
cut_in_step old new before now h = took_failed before now h.front (KeepsInStep old new) h.went (sent_in_step old new h.front h.sent)

kept_in_step : (old new : FrameState) (before now : Trace) → IsKept old new before now → TookWith before now (KeepsInStep old new)
kept_in_step old new before now h =
    took_with before now [] (KeepsInStep old new) (h.device ∙ sym (after-nil before))
    (λ start taken s. subst (λ (f : FrameState). IsInStep f start (taken ++ [])) (sym h.frame) (subst (λ (l : List ℕ). IsInStep old start l) (sym (append-nil taken)) s))

refused_in_step : (old new : FrameState) (before now : Trace) (e : PresentError) → IsRefused old new before now e → TookWith before now (KeepsInStep old new)
refused_in_step old new before now (IO e) h = cut_in_step old new before now h
refused_in_step old new before now Undefined h = kept_in_step old new before now h.1
refused_in_step old new before now Memory h = kept_in_step old new before now h

-- and so does a present, whatever it answers
pub presents_in_step : {T : Type 0} (old new : FrameState) (before now : Trace) (r : Result T PresentError) → Presents old new before now r → TookWith before now (KeepsInStep old new)
presents_in_step old new before now (Ok t) h = presented_in_step old new before now h
presents_in_step old new before now (Err e) h = refused_in_step old new before now e h

took_as : (o new : Option (List ℕ)) (P Q : List ℕ → Type 0) → ((text : List ℕ) → P text → Q text) → IfSome o (λ before. (text : List ℕ) × (new ≡ Some (before ++ text)) × P text) → IfSome o (λ before. (text : List ℕ) × (new ≡ Some (before ++ text)) × Q text)
took_as None new P Q f h = tt
took_as (Some b) new P Q f h = (h.0, h.1, f h.0 h.2)

-- a frame that was in step is so where the terminal may show anything
pub unknown_in_step : (old new : FrameState) (before now : Trace) → TookWith before now (KeepsInStep (unknown old) new) → TookWith before now (KeepsInStep old new)
unknown_in_step old new before now h =
    took_as before.bytes now.bytes (KeepsInStep (unknown old) new) (KeepsInStep old new)
    (λ text keeps start taken s. keeps start taken (s.0, s.1, record { grid = s.2.grid; size = s.2.size; shows = λ (e : false ≡ true). absurd (false≢true e) }))
    h

-- ---- a terminal that may show anything

all_over : (cells : List Glyph) (n : ℕ) → length cells ≡ n → put_list cells 0 (replicate n blank) ≡ replicate n blank
all_over cells n full =
    let count : length (replicate n blank) ≡ n = length-replicate n blank in
    over [] cells (replicate n blank) (omega arith)
    ∙ ap (λ (l : List Glyph). replicate n blank ++ l) (drop_all (length (replicate n blank)) cells (omega arith)) ∙ append-nil (replicate n blank)

-- the pen is made plain, and the screen erased
erased_shown : (f : FrameState) (t : Grid) → MayShow f t → ShowsCells (empty_grid f.base.width f.base.height) (erased 0 (screen_end t) (record t { pen = plain_pen }))
unfolding erased
erased_shown f t may =
    let n = screen_end t in
    let all : n - 0 ≡ n = omega arith in
    let cells : put_list t.cells 0 (replicate (n - 0) blank) ≡ replicate n blank = ap (λ (k : ℕ). put_list t.cells 0 (replicate k blank)) all ∙ all_over t.cells n may.grid.full in
    let size : replicate n blank ≡ replicate (f.base.height * f.base.width) blank =
    ap (λ (h : ℕ). replicate (h * t.width) blank) (sym may.size.height) ∙ ap (λ (w : ℕ). replicate (f.base.height * w) blank) (sym may.size.width) in
    record {
      grid = record { full = ap length cells ∙ length-replicate n blank; column = may.grid.column; row = may.grid.row };
      pen = refl;
      size = record { width = may.size.width; height = may.size.height };
      cells = cells ∙ size;
    }

-- what clears the terminal is read
pub cleared : (f : FrameState) (t : Grid) → MayShow f t → (shown : Grid) × (after_bytes t (sgr_bytes (0 ∷ []) ++ clear_bytes All) ≡ Some shown) × ShowsCells (empty_grid f.base.width f.base.height) shown
cleared f t may =
    let plain : Grid = record t { pen = plain_pen } in
    let empty : Grid = erased 0 (screen_end t) plain in
    let reset : after_bytes t (sgr_bytes (0 ∷ [])) ≡ Some plain = sgr_read t (0 ∷ []) plain_pen (lit< tt, tt) refl in
    let clear : after_bytes plain (clear_bytes All) ≡ Some empty = command_read plain empty (2 ∷ []) 74 (lit< tt, tt) letter_screen (lit< tt) refl in
    (empty, read_in_turn t plain empty (sgr_bytes (0 ∷ [])) (clear_bytes All) reset clear, erased_shown f t may)

-- a frame that isn't known may be shown by any screen
pub false_known : (g t : Grid) → false ≡ true → ShowsCells g t
false_known g t e = absurd (false≢true e)

-- so the changes from an empty screen lead on
pub cleared_leads : (f : FrameState) (new : Grid) (bytes all : List ℕ) → LeadTo (mended (empty_grid f.base.width f.base.height)) (mended new) bytes → all ≡ (sgr_bytes (0 ∷ []) ++ clear_bytes All) ++ bytes → LeadsAll f new all
cleared_leads f new bytes all leads e t may =
    let c = cleared f t may in
    let shows : ShowsCells (mended (empty_grid f.base.width f.base.height)) c.0 = subst (λ (g : Grid). ShowsCells g c.0) (sym (empty_stays f.base.width f.base.height)) c.2 in
    let s = leads c.0 shows in (
      s.0,
      ap (after_bytes t) e ∙ read_in_turn t c.0 s.0 (sgr_bytes (0 ∷ []) ++ clear_bytes All) bytes c.1 s.1,
      s.2,
    )

-- the changes from the screen that the terminal shows do so
pub known_leads : (f : FrameState) (new : Grid) (bytes : List ℕ) → f.known ≡ true → LeadTo (mended f.base) (mended new) bytes → LeadsAll f new bytes
known_leads f new bytes known leads t may = leads t (may.shows known)

-- ---- many steps

-- a frame that isn't known, and has nothing left to send, is in step with any terminal of its size
pub begins_in_step : (f : FrameState) (start : Grid) → f.known ≡ false → f.unsent ≡ [] → IsGrid start → SameSize f.base start → IsInStep f start []
begins_in_step f start unknown none grid size = (
  start,
  ap (after_bytes start) none ∙ no_bytes start,
  record { grid = grid; size = size; shows = λ e. absurd (false≢true (sym unknown ∙ e)) },
)

drawing_in_step : (f : FrameState) (s : Step) (start : Grid) (taken : List ℕ) → IsDrawing f s → IsInStep f start taken → IsInStep s.frame start (taken ++ s.bytes)
drawing_in_step f s start taken d h =
    let bytes : (taken ++ s.bytes) ++ s.frame.unsent ≡ taken ++ f.unsent = ap (λ l. (taken ++ l) ++ s.frame.unsent) d.bytes ∙ ap (λ l. l ++ s.frame.unsent) (append-nil taken) ∙ ap (λ l. taken ++ l) d.unsent in (
      h.0,
      ap (after_bytes start) bytes ∙ h.1,
      record {
        grid = h.2.grid;
        size = subst (λ (g : Grid). SameSize g h.0) (sym d.base) h.2.size;
        shows = λ e. subst (λ (g : Grid). ShowsCells (mended g) h.0) (sym d.base) (h.2.shows (sym d.known ∙ e));
      },
    )

-- steps keep a frame in step
pub steps_in_step : (f : FrameState) (start : Grid) (taken : List ℕ) (steps : List Step) → IsInStep f start taken → AreSteps f steps → IsInStep (frame_after f steps) start (taken ++ taken_in steps)
steps_in_step f start taken [] h are = subst (λ (l : List ℕ). IsInStep f start l) (sym (append-nil taken)) h
steps_in_step f start taken (s ∷ ss) h are =
    let next : IsInStep s.frame start (taken ++ s.bytes) = ⊎_elim (λ (d : IsDrawing f s). drawing_in_step f s start taken d h) (λ (k : KeepsInStep f s.frame s.bytes). k start taken h) are.0 in
    subst (λ (l : List ℕ). IsInStep (frame_after s.frame ss) start l) (append_assoc taken s.bytes (taken_in ss)) (steps_in_step s.frame start (taken ++ s.bytes) ss next are.1)

-- a terminal in step shows a known frame that has nothing left to send
pub known_shown : (f : FrameState) (start : Grid) (taken : List ℕ) → IsInStep f start taken → f.known ≡ true → f.unsent ≡ [] → (t : Grid) × (after_bytes start taken ≡ Some t) × ShowsCells (mended f.base) t
known_shown f start taken h known none = (
  h.0,
  ap (after_bytes start) (sym (ap (λ l. taken ++ l) none ∙ append-nil taken)) ∙ h.1,
  h.2.shows known,
)

-- ---- how many bytes there are

-- a known frame's changes
pub known_bounded : (f : FrameState) (new : Grid) (bytes : List ℕ) → f.known ≡ true → length bytes ≤ most_bytes (mended f.base).cells (mended new).cells → IsBounded f new bytes
known_bounded f new bytes known h =
    subst (λ (k : Bool). length bytes ≤ cond k 0 8 + most_bytes (cond k (mended f.base) (empty_grid f.base.width f.base.height)).cells (mended new).cells) (sym known) (plus_none (most_bytes (mended f.base).cells (mended new).cells) h)
  where
    plus_none : (n : ℕ) → length bytes ≤ n → length bytes ≤ 0 + n
    plus_none n k = omega arith

-- those of another, after what clears the terminal
pub cleared_bounded : (f : FrameState) (new : Grid) (drawn bytes : List ℕ) → f.known ≡ false → length drawn ≤ most_bytes (mended (empty_grid f.base.width f.base.height)).cells (mended new).cells → bytes ≡ (sgr_bytes (0 ∷ []) ++ clear_bytes All) ++ drawn → IsBounded f new bytes
cleared_bounded f new drawn bytes known h is =
    let empty = empty_grid f.base.width f.base.height in
    let fits : length drawn ≤ most_bytes empty.cells (mended new).cells = subst (λ (g : Grid). length drawn ≤ most_bytes g.cells (mended new).cells) (empty_stays f.base.width f.base.height) h in
    let count : length bytes ≡ length (sgr_bytes (0 ∷ []) ++ clear_bytes All) + length drawn = ap length is ∙ length-append (sgr_bytes (0 ∷ []) ++ clear_bytes All) drawn in
    subst (λ (k : Bool). length bytes ≤ cond k 0 8 + most_bytes (cond k (mended f.base) empty).cells (mended new).cells) (sym known)
    (sums (length bytes) (length (sgr_bytes (0 ∷ []) ++ clear_bytes All)) (length drawn) (most_bytes empty.cells (mended new).cells) count clearing_most fits)
  where
    sums : (a b c d : ℕ) → a ≡ b + c → b ≤ 8 → c ≤ d → a ≤ 8 + d
    sums a b c d p q r = omega arith
