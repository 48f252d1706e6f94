-- A text in pieces on a terminal that scrolls: how its steps join.
use Rattle.std.proofs.Common.{◌≡◌, ◌⊎◌, inl, inr, ℕ, ◌+◌, ◌≤◌, List, [], ◌∷◌, ◌++◌, length, Option, Result, Ok, Err, refl, sym, ap, ◌∙◌, subst, arith, append_assoc, append-nil, string_bytes}
use Rattle.std.specs.Prelude.{IsErrOf, OnErr, OnOk, false, is_err}
use Rattle.std.specs.List.{AllByRecursion, flat_map}
use Rattle.std.specs.Result.{IsErrAnd}
use Rattle.mad_live.specs.LiveRows.{AreLast, AreRows, AreWhole, BeginsBelow, LeadsEverywhere, Redraws, RedrawsRows, Shows, Stands, StandsAfter, StandsBelow, IsAnywhere, new_row}
use Rattle.mad_live.specs.Papers.{Paper, Reads}
use Rattle.mad_live.specs.declared.live_rows.LiveRows.{LiveRows}
use Rattle.mad_live.proofs.RowLemmas.{all_first, all_then, rows_of_rest}
use Rattle.mad_live.proofs.StepLemmas.{stands_first}
use Rattle.mad_page_skin.specs.declared.page_skin.PageSkin.{PageSkin}
use Rattle.mad_screen.specs.Glyph.{Glyph}
use Rattle.mad_sections.specs.Sections.{SectionContent}
use Rattle.mad_stream.specs.LiveTexts.{without_last}
use Rattle.mad_stream.proofs.LiveTextLemmas.{rows_but_last}
use Rattle.mad_term.specs.Draws.{Draws}
use Rattle.mad_term.specs.Trace.{Trace}
use Rattle.mad_term.specs.declared.errors.Error.{Error}
use Rattle.mad_term.specs.declared.errors.Error.TheVariants.{Memory}
use Rattle.markdown_lines.specs.Texts.{behind_mark}
use Rattle.markdown_live.specs.LiveMarkdowns.{ArePageRows, BeginsLiveBelow, EndsLive, FeedsLive, Fit, FitsSoFar, GoesOnBelow, HasLastRows, HasRead, IsLive, KeepsLive, ShowsLeft, ShowsNow, ShowsRows, StartsLive, TakesPiece, growing_now, unshown}
use Rattle.markdown_live.specs.declared.live_markdown.LiveMarkdown.{LiveMarkdown}
use Rattle.markdown_live.proofs.PageRowLemmas.{fit_both, no_rows, rows_fit, rows_joined, rows_whole}
use Rattle.markdown_live.specs.Growing.{ShowsSoFar}
use Rattle.markdown_live.proofs.ReadLemmas.{shows_so_far}
use Rattle.markdown_reader.specs.MarkdownSays.{markdown_says}
use Rattle.markdown_reader.specs.declared.markdown.Markdown.{Markdown}
use Rattle.markdown_stream.specs.Come.{HasCome, sections_there}
use Rattle.markdown_stream.specs.Streams.{IsStreamed, coming, streamed_page}
use Rattle.markdown_stream.specs.declared.section_stream.SectionStream.{SectionStream}

-- what fits of two groups of sections
fits_rest : (w : ℕ) (skin : PageSkin) (width : Option ℕ) (first rest : List SectionContent) → Fit w skin width (first ++ rest) → Fit w skin width rest
fits_rest w skin width first rest fit = all_then (λ (section : SectionContent). (rows : List ℕ) → ArePageRows skin width (section ∷ []) rows → AreRows w rows) first rest fit

fits_first : (w : ℕ) (skin : PageSkin) (width : Option ℕ) (first rest : List SectionContent) → Fit w skin width (first ++ rest) → Fit w skin width first
fits_first w skin width first rest fit = all_first (λ (section : SectionContent). (rows : List ℕ) → ArePageRows skin width (section ∷ []) rows → AreRows w rows) first rest fit

-- ---- the beginning

-- a live text to which nothing has come can begin on any terminal
pub starts_live : (s : LiveMarkdown) → HasRead [] [] s → s.rows.tail.items ≡ [] → StartsLive s
starts_live s h tail columns height p here clear screen = record {
  own = [];
  step = h;
  rows = no_rows s.skin s.width;
  stands = subst (λ (l : List ℕ). Stands columns height p.above [] l p) (sym tail) (stands_first columns height p here clear (omega (arith, screen)));
}

-- ---- a piece

-- the terminal is as it was, in the same skin and at the same width
pub keeps_live : (old new : LiveMarkdown) (piece : List ℕ) → TakesPiece old piece new → new.skin ≡ old.skin → new.width ≡ old.width → new.rows ≡ old.rows → KeepsLive old piece new
keeps_live old new piece takes skin width rows = record {
  text = takes;
  rows = rows;
  live = λ columns height above first read done p live. record {
    own = live.own;
    step = takes read (first ++ live.own) live.step;
    rows = subst (λ (k : PageSkin). ArePageRows k new.width live.own done) (sym skin) (subst (λ (k : Option ℕ). ArePageRows old.skin k live.own done) (sym width) live.rows);
    stands = subst (λ (l : LiveRows). Stands columns height above done l.tail.items p) (sym rows) live.stands;
  };
}

-- the last of the rows of what is growing fit
tail_fits : (w : ℕ) (left front tail : List ℕ) → AreWhole left → AreWhole front → without_last left ≡ front ++ tail → AreRows w left → AreRows w tail
tail_fits w left front tail whole whole_front is are = rows_of_rest w front tail whole_front (subst (λ (l : List ℕ). AreRows w l) is (rows_but_last w left whole are.whole))

-- what a call has shown that then has this in place of what was kept
shown_live : (columns height : ℕ) (above : List (List Glyph)) (first own : List SectionContent) (read done tail : List ℕ) (mid new : LiveMarkdown) (q : Paper) → HasRead read (first ++ own) mid → ArePageRows mid.skin mid.width (own ++ unshown mid) done
    → new ≡ record mid { rows = new.rows; unshown = new.unshown } → new.rows.tail.items ≡ tail → new.unshown.items ≡ [] → Stands columns height above done tail q → IsLive columns height above first read done new q
shown_live columns height above first own read done tail mid new q step rows same tail_is none stands =
    let now : LiveMarkdown = record mid { rows = new.rows; unshown = new.unshown } in
    subst (λ (s : LiveMarkdown). IsLive columns height above first read done s q) (sym same) (record {
      own = own ++ unshown mid;
      step = record {
        goes_on = step.goes_on;
        sections = step.sections;
        links = step.links;
        come = step.come;
        taken = step.taken;
        joins = step.joins ∙ append_assoc first own (unshown mid) ∙ sym (append-nil (first ++ (own ++ unshown mid))) ∙ ap (λ (l : List SectionContent). (first ++ (own ++ unshown mid)) ++ l) (sym (ap (flat_map markdown_says) none));
      };
      rows = rows;
      stands = subst (λ (l : List ℕ). Stands columns height above done l q) (sym tail_is) stands;
    })

-- the terminal shows the text, and where a call succeeded, the live text has what it shows
pub shows_now : {T : Type 0} (columns height : ℕ) (above : List (List Glyph)) (first : List SectionContent) (read done : List ℕ) (mid new : LiveMarkdown) (before now : Trace) (r : Result T Error) (p : Paper) → IsLive columns height above first read done mid p → (h : ShowsLeft {T = T} mid new before r now)
    → mid.rows.height ≤ height → FitsSoFar columns mid.skin mid.width read → ShowsNow {T = T} columns height above first read done (h.more ++ h.tail) mid new r p h.bytes
shows_now {T} columns height above first read done mid new before now r p live h enough fits =
    let own : List SectionContent = live.own in
    let so_far = shows_so_far read (first ++ own) mid live.step in
    let fit : Fit columns mid.skin mid.width (((first ++ own) ++ unshown mid) ++ growing_now mid) = fits ((first ++ own) ++ unshown mid) (growing_now mid) so_far in
    let fit_growing : Fit columns mid.skin mid.width (growing_now mid) = fits_rest columns mid.skin mid.width ((first ++ own) ++ unshown mid) (growing_now mid) fit in
    let fit_kept : Fit columns mid.skin mid.width (unshown mid) = fits_rest columns mid.skin mid.width (first ++ own) (unshown mid) (fits_first columns mid.skin mid.width ((first ++ own) ++ unshown mid) (growing_now mid) fit) in
    let whole : AreWhole h.more = rows_whole mid.skin mid.width (unshown mid) h.more h.more_rows in
    let more_fit : AreRows columns h.more = rows_fit columns mid.skin mid.width (unshown mid) h.more fit_kept h.more_rows in
    let left_fit : AreRows columns h.left = rows_fit columns mid.skin mid.width (growing_now mid) h.left fit_growing h.left_rows in
    let last_fit : AreRows columns h.tail = tail_fits columns h.left h.last.front h.tail (rows_whole mid.skin mid.width (growing_now mid) h.left h.left_rows) h.last.whole h.last.is left_fit in
    let steps : StandsAfter columns height above (done ++ h.more) h.tail h.bytes p = h.leads columns height above done p live.stands enough whole (fit_both columns h.more h.tail whole more_fit last_fit) in
    let done_rows : ArePageRows mid.skin mid.width (own ++ unshown mid) (done ++ h.more) = rows_joined mid.skin mid.width own (unshown mid) done h.more live.rows h.more_rows in
    record {
      paper = steps.paper;
      reads = steps.reads;
      more = h.more;
      tail = h.tail;
      is = refl;
      rows = record {
        own = own ++ unshown mid;
        growing = growing_now mid;
        so_far = subst (λ (l : List SectionContent). ShowsSoFar (behind_mark read) l (growing_now mid)) (append_assoc first own (unshown mid)) so_far;
        done_rows = done_rows;
        left = h.left;
        left_rows = h.left_rows;
        last = h.last;
        stands = steps.stands;
      };
      shows = on_ok_both r (new ≡ record mid { rows = new.rows; unshown = new.unshown }) ((new.rows.tail.items ≡ h.tail) × (new.unshown.items ≡ []))
          ((new.rows.tail.items ≡ h.tail) × (new.unshown.items ≡ []) × IsLive columns height above first read (done ++ h.more) new steps.paper)
          (λ same k. (k.0, k.1, shown_live columns height above first own read (done ++ h.more) h.tail mid new steps.paper live.step done_rows same k.0 k.1 steps.stands)) h.same h.kept;
    }
  where
    on_ok_both : {T : Type 0} (r : Result T Error) (P Q R : Type 0) → (P → Q → R) → OnOk r P → OnOk r Q → OnOk r R
    on_ok_both {T} (Ok x) P Q R f p q = f p q
    on_ok_both {T} (Err e) P Q R f p q = tt

-- the rows of a text fit, in the same skin and at the same width
pub fits_same : (columns : ℕ) (skin skin' : PageSkin) (width width' : Option ℕ) (text : List ℕ) → skin' ≡ skin → width' ≡ width → FitsSoFar columns skin width text → FitsSoFar columns skin' width' text
fits_same columns skin skin' width width' text e f h = subst (λ (k : PageSkin). FitsSoFar columns k width' text) (sym e) (subst (λ (k : Option ℕ). FitsSoFar columns skin k text) (sym f) h)

now_of : {T : Type 0} (columns height : ℕ) (above : List (List Glyph)) (first : List SectionContent) (read done wanted : List ℕ) (old mid new : LiveMarkdown) (r : Result T Error) (p : Paper) (bytes : List ℕ) → mid.skin ≡ old.skin → mid.width ≡ old.width → mid.rows ≡ old.rows
    → ShowsNow {T = T} columns height above first read done wanted mid new r p bytes → ShowsNow {T = T} columns height above first read done wanted old new r p bytes
now_of {T} columns height above first read done wanted old mid new r p bytes skin width rows h = record {
  paper = h.paper;
  reads = h.reads;
  more = h.more;
  tail = h.tail;
  is = h.is;
  rows = subst (λ (k : PageSkin). ShowsRows columns height above first read k old.width old.rows.height (done ++ h.more) h.tail h.paper) skin
      (subst (λ (k : Option ℕ). ShowsRows columns height above first read mid.skin k old.rows.height (done ++ h.more) h.tail h.paper) width
      (subst (λ (k : LiveRows). ShowsRows columns height above first read mid.skin mid.width k.height (done ++ h.more) h.tail h.paper) rows h.rows));
  shows = h.shows;
}

-- a piece was taken, and then the text so far was shown
pub feeds_live : (old mid new : LiveMarkdown) (piece : List ℕ) (before now : Trace) (r : Result (Unit {0}) Error) → TakesPiece old piece mid → mid.skin ≡ old.skin → mid.width ≡ old.width → mid.rows ≡ old.rows → ShowsLeft mid new before r now ⊎ IsErrOf r Memory → FeedsLive old piece new before r now ⊎ IsErrOf r Memory
feeds_live old mid new piece before now r takes skin width rows (inr is) = inr is
feeds_live old mid new piece before now r takes skin width rows (inl h) = inl (record {
  wanted = h.more ++ h.tail;
  bytes = h.bytes;
  change = subst (λ (l : LiveRows). Redraws l.tail.items (h.more ++ h.tail) h.bytes) rows h.change;
  wrote = h.wrote;
  shows = λ columns height above first read done p live enough fits.
      now_of columns height above first (read ++ piece) done (h.more ++ h.tail) old mid new r p h.bytes skin width rows
      (shows_now columns height above first (read ++ piece) done mid new before now r p ((keeps_live old mid piece takes skin width rows).live columns height above first read done p live) h
      (subst (λ (l : LiveRows). l.height ≤ height) (sym rows) enough) (fits_same columns old.skin mid.skin old.width mid.width (read ++ piece) skin width fits));
})

-- where what it shows was refused, it has the piece, and no more counts as shown
pub refused_keeps : (old mid new : LiveMarkdown) (piece : List ℕ) (r : Result (Unit {0}) Error) → TakesPiece old piece mid → mid.skin ≡ old.skin → mid.width ≡ old.width → mid.rows ≡ old.rows → OnErr r (new ≡ mid) → OnErr r (KeepsLive old piece new ⊎ IsErrOf r Memory)
refused_keeps old mid new piece (Ok x) takes skin width rows same = tt
refused_keeps old mid new piece (Err e) takes skin width rows same = inl (subst (λ (s : LiveMarkdown). KeepsLive old piece s) (sym same) (keeps_live old mid piece takes skin width rows))

-- ---- what is shown

-- rows were made and shown
pub shows_left : (old new : LiveMarkdown) (more left rows : List ℕ) (before now : Trace) (r : Result (Unit {0}) Error) → ArePageRows old.skin old.width (unshown old) more → ArePageRows old.skin old.width (growing_now old) left → rows ≡ without_last left
    → RedrawsRows old.rows more rows new.rows before r now → OnOk r ((new ≡ record old { rows = new.rows; unshown = new.unshown }) × (new.unshown.items ≡ [])) → ShowsLeft old new before r now
shows_left old new more left rows before now r more_rows left_rows is h kept = record {
  more = more;
  more_rows = more_rows;
  left = left;
  left_rows = left_rows;
  tail = h.tail;
  last = subst (λ (l : List ℕ). AreLast old.rows.height l h.tail) is h.last;
  bytes = h.bytes;
  change = h.change;
  leads = h.leads;
  wrote = h.wrote;
  same = first_of (new ≡ record old { rows = new.rows; unshown = new.unshown }) (new.unshown.items ≡ []) r kept;
  kept = both_of (new.rows.tail.items ≡ h.tail) (new ≡ record old { rows = new.rows; unshown = new.unshown }) (new.unshown.items ≡ []) r h.kept kept;
}
  where
    first_of : (A B : Type 0) (s : Result (Unit {0}) Error) → OnOk s (A × B) → OnOk s A
    first_of A B (Ok x) h = h.0
    first_of A B (Err e) h = tt

    both_of : (A B C : Type 0) (s : Result (Unit {0}) Error) → OnOk s A → OnOk s (B × C) → OnOk s (A × C)
    both_of A B C (Ok x) a h = (a, h.1)
    both_of A B C (Err e) a h = tt

-- rows were made, and refused
pub left_refused : (old new : LiveMarkdown) (more left rows : List ℕ) (before now : Trace) (e : Error) → ArePageRows old.skin old.width (unshown old) more → ArePageRows old.skin old.width (growing_now old) left → rows ≡ without_last left
    → RedrawsRows old.rows more rows new.rows before (Err e) now ⊎ IsErrOf {T = Unit {0}} (Err e) Memory → ShowsLeft {T = Unit {0}} old new before (Err e) now ⊎ IsErrOf {T = Unit {0}} (Err e) Memory
left_refused old new more left rows before now e more_rows left_rows is (inl h) = inl (shows_left old new more left rows before now (Err e) more_rows left_rows is h tt)
left_refused old new more left rows before now e more_rows left_rows is (inr d) = inr d

-- ---- the end

none_left : (front tail : List ℕ) → [] ≡ front ++ tail → tail ≡ []
none_left [] tail e = sym e
none_left (c ∷ front) tail e = absurd (clash e)
  where
    clash : [] ≡ c ∷ (front ++ tail) → ⊥
    clash e = cc

-- all rows that are left are done
pub ends_live : (old : LiveMarkdown) (more : List ℕ) (rows : LiveRows) (before now : Trace) (r : Result (Unit {0}) Error) → HasLastRows old more → RedrawsRows old.rows more [] rows before r now ⊎ IsErrOf r Memory → EndsLive old before r now ⊎ IsErrOf r Memory
ends_live old more rows before now r last (inr e) = inr e
ends_live old more rows before now r last (inl h) = inl (record {
  wanted = more ++ h.tail;
  bytes = h.bytes;
  change = h.change;
  wrote = h.wrote;
  shows = λ columns height above first read done p live enough fits.
      let own : List SectionContent = live.own in
      let kept : List SectionContent = last.kept in
      let more_rows : ArePageRows old.skin old.width kept more = last.rows_are in
      let all : streamed_page read ≡ (first ++ own) ++ kept = last.page read (first ++ own) live.step in
      let whole : AreWhole more = rows_whole old.skin old.width kept more more_rows in
      let fit : Fit columns old.skin old.width kept = fits_rest columns old.skin old.width (first ++ own) kept (subst (λ (l : List SectionContent). Fit columns old.skin old.width l) all fits) in
      let none : h.tail ≡ [] = none_left h.last.front h.tail h.last.is in
      let same : more ++ h.tail ≡ more = ap (λ (l : List ℕ). more ++ l) none ∙ append-nil more in
      let are : AreRows columns (more ++ h.tail) = subst (λ (l : List ℕ). AreRows columns l) (sym same) (rows_fit columns old.skin old.width kept more fit more_rows) in
      let steps : StandsAfter columns height above (done ++ more) h.tail h.bytes p = h.leads columns height above done p live.stands enough whole are in (
        steps.paper,
        own ++ kept,
        steps.reads,
        all ∙ append_assoc first own kept,
        subst (λ (l : List ℕ). ArePageRows old.skin old.width (own ++ kept) (done ++ l)) (sym same) (rows_joined old.skin old.width own kept done more live.rows more_rows),
        subst (λ (l : List ℕ). Shows columns above l steps.paper) (append_assoc done more h.tail) steps.stands.shows,
      );
})

-- ---- going on below

-- a text with the same rows to show, at another width
read_below : (read : List ℕ) (shown : List SectionContent) (old new : LiveMarkdown) → new.fresh ≡ old.fresh → new.sections ≡ old.sections → new.unshown ≡ old.unshown → HasRead read shown old → HasRead read shown new
read_below read shown old new fresh sections kept h = record {
  goes_on = λ later. h.goes_on later ∙ ap (λ f. behind_mark read ++ coming f later) (sym fresh);
  sections = h.sections;
  links = h.links;
  come = subst (λ (s : SectionStream). HasCome (behind_mark read) h.sections h.links s) (sym sections) h.come;
  taken = ap sections_there sections ∙ h.taken;
  joins = h.joins ∙ ap (λ k. shown ++ flat_map markdown_says k.items) (sym kept);
}

-- after a new row it goes on below
pub goes_below : (old new : LiveMarkdown) (width : Option ℕ) (height : ℕ) (before now : Trace) → new.fresh ≡ old.fresh → new.sections ≡ old.sections → new.unshown ≡ old.unshown → new.width ≡ width → BeginsBelow old.rows height new.rows before (Ok (tt {0})) now → GoesOnBelow old width height new before (Ok (tt {0})) now
goes_below old new width height before now fresh sections kept width_is b = record {
  wrote = b.wrote;
  below = λ columns rows p first read h here.
      let stands : StandsBelow columns rows p = b.leads columns rows p here in
      record {
        paper = stands.paper;
        reads = stands.reads;
        above = stands.above;
        live = record {
          own = [];
          step = read_below read (first ++ []) old new fresh sections kept (subst (λ (l : List SectionContent). HasRead read l old) (sym (append-nil first)) h);
          rows = no_rows new.skin new.width;
          stands = subst (λ (l : List ℕ). Stands columns rows stands.paper.above [] l stands.paper) (sym b.fresh.0) stands.stands;
        };
      };
  size = (width_is, b.fresh.1);
}

-- the device failed at the new row
pub below_fails : (old new : LiveMarkdown) (width : Option ℕ) (height : ℕ) (before now : Trace) (r : Result (Unit {0}) Error) (e : Error) → IsErrAnd r (λ d. d ≡ e) → BeginsBelow old.rows height new.rows before (Err e) now → GoesOnBelow old width height new before r now
below_fails old new width height before now (Ok x) e is b = absurd is
below_fails old new width height before now (Err d) e is b = record { wrote = subst (λ (f : Error). Draws {T = Unit {0}} before new_row (Err f) now) (sym is) b.wrote; below = tt; size = tt }

-- a success is not out of memory, so the other case holds
pub none_memory : {A : Type 0} (x : Unit {0}) → A ⊎ IsErrOf {T = Unit {0}} (Ok x) Memory → A
none_memory {A} x (inl a) = a
none_memory {A} x (inr e) = absurd (clash e)
  where
    clash : Ok x ≡ Err Memory → ⊥
    clash e = cc

-- ---- the same skin, the same width

-- sections fit, in the same skin and at the same width
pub fit_same : (columns : ℕ) (skin skin' : PageSkin) (width width' : Option ℕ) (page : List SectionContent) → skin' ≡ skin → width' ≡ width → Fit columns skin width page → Fit columns skin' width' page
fit_same columns skin skin' width width' page e f h = subst (λ (k : PageSkin). Fit columns k width' page) (sym e) (subst (λ (k : Option ℕ). Fit columns skin k page) (sym f) h)

-- rows of all sections are those of the text
pub streamed_rows : (skin skin' : PageSkin) (width width' : Option ℕ) (text : List ℕ) (own : List SectionContent) (rows : List ℕ) → skin ≡ skin' → width ≡ width' → streamed_page text ≡ own → ArePageRows skin width own rows → IsStreamed skin' width' text rows
streamed_rows skin skin' width width' text own rows e f is h =
    let same : ArePageRows skin' width' (streamed_page text) rows =
    subst (λ (k : PageSkin). ArePageRows k width' (streamed_page text) rows) e (subst (λ (k : Option ℕ). ArePageRows skin k (streamed_page text) rows) f (subst (λ (l : List SectionContent). ArePageRows skin width l rows) (sym is) h)) in
    record { rows = same.0; page = same.1; written = same.2 }

-- what is known of an Ok holds where no error is answered
pub ok_of : {T E : Type 0} (P : Type 0) (r : Result T E) → is_err r ≡ false → OnOk r P → P
ok_of {T} {E} P (Ok x) is h = h
ok_of {T} {E} P (Err e) is h = absurd (cc)

-- rows were shown in place of those that the same terminal has
pub shown_from : (old mid new : LiveRows) (more rows : List ℕ) (before now : Trace) (r : Result (Unit {0}) Error) (B : Type 0) → mid ≡ old → RedrawsRows mid more rows new before r now ⊎ B → RedrawsRows old more rows new before r now ⊎ B
shown_from old mid new more rows before now r B is h = subst (λ (l : LiveRows). RedrawsRows l more rows new before r now ⊎ B) is h

-- rows that are done, as they were handed on
pub shown_as : (old new : LiveRows) (given more rows : List ℕ) (before now : Trace) (r : Result (Unit {0}) Error) (B : Type 0) → given ≡ more → RedrawsRows old given rows new before r now ⊎ B → RedrawsRows old more rows new before r now ⊎ B
shown_as old new given more rows before now r B is h = subst (λ (l : List ℕ). RedrawsRows old l rows new before r now ⊎ B) is h

-- the rows of the same that was read
pub rows_of : (skin : PageSkin) (width : Option ℕ) (given reads : List Markdown) (rows : List ℕ) → given ≡ reads → ArePageRows skin width (flat_map markdown_says given) rows → ArePageRows skin width (flat_map markdown_says reads) rows
rows_of skin width given reads rows is h = subst (λ (l : List Markdown). ArePageRows skin width (flat_map markdown_says l) rows) is h
