-- A text that grows on a terminal: what came, what was handed out, and what stands there.
use Rattle.std.proofs.Common.{◌≡◌, ◌⊎◌, inl, inr, ◌<◌, ◌+◌, ◌^◌, ℕ, Bool, true, false, List, [], ◌++◌, length, take, drop, Option, Some, None, IsUtf8, refl, ap, sym, ◌∙◌, subst, arith, append_assoc, append-nil, Result, Ok}
use Rattle.std.specs.Prelude.{IsErrOf}
use Rattle.std.proofs.Math.Seq.{drop-append_seam}
use Rattle.std.proofs.lemmas.Bool.{false≢true}
use Rattle.std.proofs.lemmas.List.{length-append}
use Rattle.std.proofs.lemmas.Str.{IsUtf8-append, IsUtf8-nil}
use Rattle.mad_frames.specs.Gathered.{untouched}
use Rattle.mad_live.specs.LiveRows.{new_row}
use Rattle.mad_live.specs.Papers.{Paper, Reads}
use Rattle.mad_live.proofs.PaperLemmas.{then_reads}
use Rattle.mad_page_skin.specs.declared.page_skin.PageSkin.{PageSkin}
use Rattle.mad_screen.specs.Glyph.{Glyph}
use Rattle.mad_sections.specs.Sections.{SectionContent}
use Rattle.mad_stream.proofs.PiecesShown.{nothing_reads}
use Rattle.mad_term.specs.Trace.{Trace}
use Rattle.mad_term.specs.declared.errors.Error.{Error}
use Rattle.mad_term.specs.declared.errors.Error.TheVariants.{Memory}
use Rattle.markdown_live.specs.LiveMarkdowns.{ArePageRows, BeginsLiveBelow, EndsLive, FeedsLive, Fit, GoesOnBelow, IsLive, ShowsNow, StartsLive}
use Rattle.markdown_live.specs.declared.live_markdown.LiveMarkdown.{LiveMarkdown}
use Rattle.markdown_live.proofs.LiveLemmas.{fit_same, none_memory}
use Rattle.markdown_stream.specs.Streams.{streamed_page}
use Rattle.termimad.specs.StreamedFronts.{IsTextFront}
use Rattle.termimad_c.specs.Answers.{HandsOut}
use Rattle.termimad_c.specs.GrowingTexts.{Begins, Comes, EndsOn, Feeds, FeedsLast, GoesBelow, GoesOn, Grows, GrowsOn, HandsBelow, HandsOn, HasAll, Resizes, ShowsNext, StandsBelow, StartsBelow, Waits}
use Rattle.termimad_c.specs.Inputs.{IsPageSkinOf, IsTextSoFar}
use Rattle.termimad_c.specs.declared.answer.Answer.{Answer}
use Rattle.termimad_c.specs.declared.growing.Growing.{Growing}
use Rattle.termimad_c.proofs.PieceLemmas.{handed_on, joins, rows_join, some_is, some_is_not_none, twice, unfolded}

-- ---- what a live text makes

-- the call that succeeded fed
fed_of : (s t : LiveMarkdown) (text : List ℕ) (r : Result (Unit {0}) Error) (start now : Trace) → r ≡ Ok (tt {0}) → FeedsLive s text t start r now ⊎ IsErrOf r Memory → FeedsLive {T = Unit {0}} s text t start (Ok (tt {0})) now
fed_of s t text r start now is fed = none_memory (tt {0}) (subst (λ (x : Result (Unit {0}) Error). FeedsLive s text t start x now ⊎ IsErrOf x Memory) is fed)

-- the next text was fed
pub next_fed : (s t : LiveMarkdown) (text bytes : List ℕ) (r : Result (Unit {0}) Error) (start now : Trace) → start ≡ untouched → r ≡ Ok (tt {0}) → FeedsLive s text t start r now ⊎ IsErrOf r Memory
    → t.skin ≡ s.skin → t.width ≡ s.width → t.rows.height ≡ s.rows.height → now.bytes ≡ Some bytes → ShowsNext false s text bytes (Some t)
next_fed s t text bytes r start now p is fed dress across tall taken =
    let f : FeedsLive {T = Unit {0}} s text t start (Ok (tt {0})) now = fed_of s t text r start now is fed in (
      t,
      refl,
      record {
        skin = dress;
        width = across;
        height = tall;
        wanted = f.wanted;
        shows = λ columns rows above first read done q live enough fits.
            subst (λ (l : List ℕ). ShowsNow {T = Unit {0}} columns rows above first (read ++ text) done f.wanted s t (Ok (tt {0})) q l) (unfolded start now f.bytes bytes p f.wrote taken)
            (f.shows columns rows above first read done q live enough fits);
      },
    )

-- the last text was fed, and it ended
pub last_fed : (s mid : LiveMarkdown) (text all : List ℕ) (r q : Result (Unit {0}) Error) (start between now : Trace) → start ≡ untouched → r ≡ Ok (tt {0}) → FeedsLive s text mid start r between ⊎ IsErrOf r Memory
    → mid.skin ≡ s.skin → mid.width ≡ s.width → mid.rows.height ≡ s.rows.height → q ≡ Ok (tt {0}) → EndsLive mid between q now ⊎ IsErrOf q Memory → now.bytes ≡ Some all → ShowsNext true s text all None
last_fed s mid text all r q start between now p is fed dress across tall ended ends taken =
    let f : FeedsLive {T = Unit {0}} s text mid start (Ok (tt {0})) between = fed_of s mid text r start between is fed in
    let e : EndsLive {T = Unit {0}} mid between (Ok (tt {0})) now = none_memory (tt {0}) (subst (λ (x : Result (Unit {0}) Error). EndsLive mid between x now ⊎ IsErrOf x Memory) ended ends) in (
      refl,
      record {
        mid = mid;
        one = f.bytes;
        two = e.bytes;
        is = sym (twice start between now f.bytes e.bytes all p f.wrote e.wrote taken);
        feeds = record { skin = dress; width = across; height = tall; wanted = f.wanted; shows = f.shows };
        ends = record {
          wanted = e.wanted;
          shows = λ columns rows above first read done there live enough fit.
              let z = e.shows columns rows above first read done there live enough fit in
              record { paper = z.0; reads = z.2; own = z.1; page = z.3; rows_are = z.4; shows = z.5 };
        };
      },
    )

-- a new row was begun, below which it goes on
pub went_below : (s t : LiveMarkdown) (width height : ℕ) (bytes : List ℕ) (r : Result (Unit {0}) Error) (start now : Trace) → start ≡ untouched → r ≡ Ok (tt {0}) → GoesOnBelow s (Some width) height t start r now
    → t.skin ≡ s.skin → now.bytes ≡ Some bytes → (u : LiveMarkdown) × (Some t ≡ Some u) × GoesBelow s width height bytes u
went_below s t width height bytes r start now p is goes dress taken =
    let f : GoesOnBelow s (Some width) height t start (Ok (tt {0})) now = subst (λ (x : Result (Unit {0}) Error). GoesOnBelow s (Some width) height t start x now) is goes in (
      t,
      refl,
      record {
        skin = dress;
        width_is = f.size.0;
        height_is = f.size.1;
        is = sym (unfolded start now new_row bytes p f.wrote taken);
        below = f.below;
      },
    )

-- ---- the beginning

-- a text of which nothing has come
pub begins_live : (word : List ℕ) (width height columns rows : ℕ) (skin : PageSkin) (s : LiveMarkdown) (g : Growing) → width < 2 ^ 16 → height < 2 ^ 16 → columns ≡ width → rows ≡ height → IsPageSkinOf word skin
    → StartsLive s → s.skin ≡ skin → s.width ≡ Some columns → s.rows.height ≡ rows → g.live ≡ Some s → g.begun.items ≡ [] → g.waiting.items ≡ [] → Begins word width height g
begins_live word width height columns rows skin s g narrow low wide tall given start dress across high is none waits = record {
  goes_on = record {
    narrow = narrow;
    low = low;
    live = s;
    is = is;
    given = subst (IsPageSkinOf word) (sym dress) given;
    wide = across ∙ ap Some wide;
    tall = high ∙ tall;
    text = [];
    cut = sym none;
    short = omega (arith, ap length none);
  };
  stands = λ across_it screen p here clear reach. record {
    live = s;
    is = is;
    text = [];
    utf8 = IsUtf8-nil;
    cut = sym none;
    paper = p;
    reads = subst (λ (l : List ℕ). Reads p l p) (sym waits) (nothing_reads p);
    stands = start across_it screen p here clear reach;
  };
}

-- ---- a piece

-- nothing comes behind the end
pub nothing_grows : (last : Bool) (old new : Growing) (piece : List ℕ) → old.live ≡ None → piece ≡ [] → new ≡ old → Grows last old piece new
nothing_grows last old new piece none empty same = inr (none, empty, same)

-- a piece came, and what is text of it was fed
pub came : (last : Bool) (old new : Growing) (piece all text bytes : List ℕ) (live : LiveMarkdown) → old.live ≡ Some live → all ≡ old.begun.items ++ piece → IsTextSoFar last all text → new.begun.items ≡ drop (length text) all
    → Waits old bytes new → ShowsNext last live text bytes new.live → Grows last old piece new
came last old new piece all text bytes live is joined taken kept waits shows = inl (record {
  live = live;
  is = is;
  text = text;
  taken = subst (λ (l : List ℕ). IsTextSoFar last l text) joined taken;
  rest = kept ∙ ap (λ (l : List ℕ). drop (length text) l) joined;
  bytes = bytes;
  waits = waits;
  shows = shows;
})

-- what is left of a piece behind its text
left_of : (text bytes rest : List ℕ) (front : IsTextFront bytes text) → rest ≡ drop (length text) bytes → rest ≡ front.rest
left_of text bytes rest front kept = kept ∙ ap (λ (l : List ℕ). drop (length text) l) front.joins ∙ drop-append_seam text front.rest

-- bytes that wait after those that did were handed out, or wait on
sent_on : (sent old bytes mid new : List ℕ) (count : ℕ) → mid ≡ old ++ bytes → new ≡ drop count mid → (sent ++ old) ++ bytes ≡ (sent ++ take count mid) ++ new
sent_on sent old bytes mid new count waits rest = rows_join sent old bytes mid waits ∙ handed_on sent mid new count rest

-- a piece came
goes_further : (word : List ℕ) (width height : ℕ) (come piece : List ℕ) (old mid new : Growing) (t : Comes false old piece mid) → new.live ≡ mid.live → new.begun ≡ mid.begun → GoesOn word width height come old
    → GoesOn word width height (come ++ piece) new
goes_further word width height come piece old mid new t live begun g =
    let same : g.live ≡ t.live = some_is g.live t.live (sym g.is ∙ t.is) in
    let next = t.shows in
    let front : IsTextFront (old.begun.items ++ piece) t.text = t.taken.0 in
    let rest : new.begun.items ≡ front.rest = ap (λ v. v.items) begun ∙ left_of t.text (old.begun.items ++ piece) mid.begun.items front t.rest in
    record {
      narrow = g.narrow;
      low = g.low;
      live = next.0;
      is = live ∙ next.1;
      given = subst (IsPageSkinOf word) (ap (λ (m : LiveMarkdown). m.skin) same ∙ sym next.2.skin) g.given;
      wide = next.2.width ∙ sym (ap (λ (m : LiveMarkdown). m.width) same) ∙ g.wide;
      tall = next.2.height ∙ sym (ap (λ (m : LiveMarkdown). m.rows.height) same) ∙ g.tall;
      text = g.text ++ t.text;
      cut = joins come g.text old.begun.items piece (old.begun.items ++ piece) t.text new.begun.items g.cut refl (front.joins ∙ ap (λ (l : List ℕ). t.text ++ l) (sym rest));
      short = omega (arith, t.taken.1, ap length front.joins ∙ length-append t.text front.rest, ap length rest);
    }

-- each terminal on which the text stood shows it then
grows_on : (old mid new : Growing) (piece : List ℕ) (count : ℕ) (t : Comes false old piece mid) → new.live ≡ mid.live → new.begun ≡ mid.begun → new.waiting.items ≡ drop count mid.waiting.items → GrowsOn old piece (take count mid.waiting.items) new
grows_on old mid new piece count t live begun rest columns rows above first come done sent p o enough fits =
    let same : t.live ≡ o.live = some_is t.live o.live (sym t.is ∙ o.is) in
    let next = t.shows in
    let front : IsTextFront (old.begun.items ++ piece) t.text = t.taken.0 in
    let left : new.begun.items ≡ front.rest = ap (λ v. v.items) begun ∙ left_of t.text (old.begun.items ++ piece) mid.begun.items front t.rest in
    let text : List ℕ = o.text ++ t.text in
    let utf8 : IsUtf8 text = IsUtf8-append o.text t.text o.utf8 front.utf8 in
    let cut : come ++ piece ≡ text ++ new.begun.items = joins come o.text old.begun.items piece (old.begun.items ++ piece) t.text new.begun.items o.cut refl (front.joins ∙ ap (λ (l : List ℕ). t.text ++ l) (sym left)) in
    let feeds : Feeds o.live t.text t.bytes next.0 = subst (λ (m : LiveMarkdown). Feeds m t.text t.bytes next.0) same next.2 in
    let f : ShowsNow {T = Unit {0}} columns rows above first text done feeds.wanted o.live next.0 (Ok (tt {0})) o.paper t.bytes =
    feeds.shows columns rows above first o.text done o.paper o.stands enough (fits text new.begun.items utf8 cut) in
    record {
      more = f.more;
      now = record {
        live = next.0;
        is = live ∙ next.1;
        text = text;
        utf8 = utf8;
        cut = cut;
        paper = f.paper;
        reads = subst (λ (l : List ℕ). Reads p l f.paper) (sent_on sent old.waiting.items t.bytes mid.waiting.items new.waiting.items count t.waits rest)
            (then_reads p o.paper f.paper (sent ++ old.waiting.items) t.bytes o.reads f.reads);
        stands = f.shows.2;
      };
      tail = f.tail;
      shows = f.rows;
    }

-- rows of a page, in the same skin and at the same width
rows_as : (skin skin' : PageSkin) (width width' : Option ℕ) (own : List SectionContent) (rows : List ℕ) → skin ≡ skin' → width ≡ width' → ArePageRows skin width own rows → ArePageRows skin' width' own rows
rows_as skin skin' width width' own rows e f h = subst (λ (k : PageSkin). ArePageRows k width' own rows) e (subst (λ (k : Option ℕ). ArePageRows skin k own rows) f h)

-- each terminal on which the text stood has all of it at the end
ends_on : (old mid new : Growing) (piece : List ℕ) (count : ℕ) (t : Comes true old piece mid) → new.live ≡ mid.live → new.waiting.items ≡ drop count mid.waiting.items → EndsOn old piece (take count mid.waiting.items) new
ends_on old mid new piece count t live rest columns rows above first come done sent p o enough fits =
    let same : t.live ≡ o.live = some_is t.live o.live (sym t.is ∙ o.is) in
    let none = t.shows.0 in
    let l : FeedsLast o.live t.text t.bytes = subst (λ (m : LiveMarkdown). FeedsLast m t.text t.bytes) same t.shows.1 in
    let text : List ℕ = o.text ++ t.text in
    let all : text ≡ come ++ piece = ap (λ (k : List ℕ). o.text ++ k) t.taken.1 ∙ sym (append_assoc o.text old.begun.items piece) ∙ ap (λ (k : List ℕ). k ++ piece) (sym o.cut) in
    let utf8 : IsUtf8 text = IsUtf8-append o.text t.text o.utf8 (subst IsUtf8 (sym t.taken.1) t.taken.0) in
    let f : ShowsNow {T = Unit {0}} columns rows above first text done l.feeds.wanted o.live l.mid (Ok (tt {0})) o.paper l.one =
    l.feeds.shows columns rows above first o.text done o.paper o.stands enough (fits.comes text [] utf8 (sym all ∙ sym (append-nil text))) in
    let fit : Fit columns l.mid.skin l.mid.width (streamed_page text) =
    fit_same columns o.live.skin l.mid.skin o.live.width l.mid.width (streamed_page text) l.feeds.skin l.feeds.width (subst (λ (k : List ℕ). Fit columns o.live.skin o.live.width (streamed_page k)) (sym all) fits.whole) in
    let e = l.ends.shows columns rows above first text (done ++ f.more) f.paper f.shows.2 (omega (arith, l.feeds.height, enough)) fit in
    record {
      none = live ∙ none;
      paper = e.paper;
      reads = subst (λ (k : List ℕ). Reads p k e.paper) (sent_on sent old.waiting.items t.bytes mid.waiting.items new.waiting.items count t.waits rest)
          (then_reads p o.paper e.paper (sent ++ old.waiting.items) t.bytes o.reads (subst (λ (k : List ℕ). Reads o.paper k e.paper) (sym l.is) (then_reads o.paper f.paper e.paper l.one l.two f.reads e.reads)));
      own = e.own;
      page = subst (λ (k : List ℕ). streamed_page k ≡ first ++ e.own) all e.page;
      rows = (done ++ f.more) ++ l.ends.wanted;
      rows_are = rows_as l.mid.skin o.live.skin l.mid.width o.live.width e.own ((done ++ f.more) ++ l.ends.wanted) l.feeds.skin l.feeds.width e.rows_are;
      shows = e.shows;
    }

-- bytes that waited at the end were handed out
still_over : (columns : ℕ) (above : List (List Glyph)) (first : List SectionContent) (skin : PageSkin) (width : Option ℕ) (come sent : List ℕ) (p : Paper) (count : ℕ) (old new : Growing) → new.live ≡ old.live
    → new.waiting.items ≡ drop count old.waiting.items → HasAll columns above first skin width come sent old p → HasAll columns above first skin width come (sent ++ take count old.waiting.items) new p
still_over columns above first skin width come sent p count old new live rest h = record {
  none = live ∙ h.none;
  paper = h.paper;
  reads = subst (λ (l : List ℕ). Reads p l h.paper) (handed_on sent old.waiting.items new.waiting.items count rest) h.reads;
  own = h.own;
  page = h.page;
  rows = h.rows;
  rows_are = h.rows_are;
  shows = h.shows;
}

-- a piece came, and bytes were handed out
hands_came : (last : Bool) (old mid new : Growing) (piece buffer filled : List ℕ) (answer : Answer) → Comes last old piece mid → HandsOut mid.waiting.items buffer answer filled
    → new.waiting.items ≡ drop (length buffer) mid.waiting.items → new.live ≡ mid.live → new.begun ≡ mid.begun → HandsOn last old piece buffer answer new filled
hands_came false old mid new piece buffer filled answer t handed rest live begun = record {
  bytes = mid.waiting.items;
  handed = handed;
  goes_on = λ _ word width height come g. goes_further word width height come piece old mid new t live begun g;
  grows = λ _. grows_on old mid new piece (length buffer) t live begun rest;
  ends = λ p. absurd (false≢true p);
  over = λ columns above first skin width come sent p h. some_is_not_none t.live (sym h.none ∙ t.is);
}
hands_came true old mid new piece buffer filled answer t handed rest live begun = record {
  bytes = mid.waiting.items;
  handed = handed;
  goes_on = λ p. absurd (false≢true (sym p));
  grows = λ p. absurd (false≢true (sym p));
  ends = λ _. ends_on old mid new piece (length buffer) t live rest;
  over = λ columns above first skin width come sent p h. some_is_not_none t.live (sym h.none ∙ t.is);
}

-- none came behind the end, and bytes were handed out
hands_over : (last : Bool) (old mid new : Growing) (piece buffer filled : List ℕ) (answer : Answer) → old.live ≡ None → piece ≡ [] → mid ≡ old → HandsOut mid.waiting.items buffer answer filled
    → new.waiting.items ≡ drop (length buffer) mid.waiting.items → new.live ≡ mid.live → HandsOn last old piece buffer answer new filled
hands_over last old mid new piece buffer filled answer none empty same handed rest live = record {
  bytes = mid.waiting.items;
  handed = handed;
  goes_on = λ _ word width height come g. some_is_not_none g.live (sym none ∙ g.is);
  grows = λ _ columns rows above first come done sent p o enough fits. some_is_not_none o.live (sym none ∙ o.is);
  ends = λ _ columns rows above first come done sent p o enough fits. some_is_not_none o.live (sym none ∙ o.is);
  over = λ columns above first skin width come sent p h. (
    empty,
    still_over columns above first skin width come sent p (length buffer) mid new live rest (subst (λ (g : Growing). HasAll columns above first skin width come sent g p) (sym same) h),
  );
}

-- a piece came, or none behind the end, and bytes were handed out
pub hands_more : (last : Bool) (old mid new : Growing) (piece buffer filled : List ℕ) (answer : Answer) → Grows last old piece mid → HandsOut mid.waiting.items buffer answer filled
    → new.waiting.items ≡ drop (length buffer) mid.waiting.items → new.live ≡ mid.live → new.begun ≡ mid.begun → HandsOn last old piece buffer answer new filled
hands_more last old mid new piece buffer filled answer (inl t) handed rest live begun = hands_came last old mid new piece buffer filled answer t handed rest live begun
hands_more last old mid new piece buffer filled answer (inr h) handed rest live begun = hands_over last old mid new piece buffer filled answer h.0 h.1 h.2 handed rest live

-- ---- another screen

-- what a live text makes that was taken out of where it was
pub below_of : (s live : LiveMarkdown) (held : Option LiveMarkdown) (width height : ℕ) (old bytes new : List ℕ) (next : Option LiveMarkdown) → held ≡ Some live → held ≡ Some s → new ≡ old ++ bytes → StartsBelow live width height bytes next
    → (x : List ℕ) × (new ≡ old ++ x) × StartsBelow s width height x next
below_of s live held width height old bytes new next is is_s waits starts = (bytes, waits, subst (λ (m : LiveMarkdown). StartsBelow m width height bytes next) (some_is live s (sym is ∙ is_s)) starts)

-- the text goes on below, on a screen of this size
pub resized : (width height columns rows : ℕ) (old new : Growing) (bytes : List ℕ) (live : LiveMarkdown) → width < 2 ^ 16 → height < 2 ^ 16 → columns ≡ width → rows ≡ height → old.live ≡ Some live → new.begun ≡ old.begun → Waits old bytes new
    → StartsBelow live columns rows bytes new.live → Resizes width height old new
resized width height columns rows old new bytes live narrow low wide tall is begun waits starts = record {
  narrow = narrow;
  low = low;
  live = live;
  is = is;
  begun = begun;
  bytes = bytes;
  waits = waits;
  starts = subst (λ (w : ℕ). StartsBelow live w height bytes new.live) wide (subst (λ (h : ℕ). StartsBelow live columns h bytes new.live) tall starts);
}

-- it goes on at another width and height
sized : (word : List ℕ) (columns rows width height : ℕ) (come : List ℕ) (old mid new : Growing) (t : Resizes width height old mid) → new.live ≡ mid.live → new.begun ≡ mid.begun → GoesOn word columns rows come old → GoesOn word width height come new
sized word columns rows width height come old mid new t live begun g =
    let same : g.live ≡ t.live = some_is g.live t.live (sym g.is ∙ t.is) in
    let next = t.starts in
    record {
      narrow = t.narrow;
      low = t.low;
      live = next.0;
      is = live ∙ next.1;
      given = subst (IsPageSkinOf word) (ap (λ (m : LiveMarkdown). m.skin) same ∙ sym next.2.skin) g.given;
      wide = next.2.width_is;
      tall = next.2.height_is;
      text = g.text;
      cut = g.cut ∙ ap (λ v. g.text ++ v.items) (sym (begun ∙ t.begun));
      short = omega (arith, g.short, ap (λ v. length v.items) (begun ∙ t.begun));
    }

-- it stands below what any terminal has
stands_below : (width height : ℕ) (old mid new : Growing) (count : ℕ) (t : Resizes width height old mid) → new.live ≡ mid.live → new.begun ≡ mid.begun → new.waiting.items ≡ drop count mid.waiting.items → StandsBelow old (take count mid.waiting.items) new
stands_below width height old mid new count t live begun rest columns rows above first come done sent p o columns' rows' start below reads anywhere =
    let same : t.live ≡ o.live = some_is t.live o.live (sym t.is ∙ o.is) in
    let next = t.starts in
    let g : GoesBelow o.live width height t.bytes next.0 = subst (λ (m : LiveMarkdown). GoesBelow m width height t.bytes next.0) same next.2 in
    let b : BeginsLiveBelow columns' rows' below (first ++ o.stands.own) o.text next.0 = g.below columns' rows' below (first ++ o.stands.own) o.text o.stands.step anywhere in
    record {
      live = next.0;
      is = live ∙ next.1;
      text = o.text;
      utf8 = o.utf8;
      cut = o.cut ∙ ap (λ v. o.text ++ v.items) (sym (begun ∙ t.begun));
      paper = b.paper;
      reads = subst (λ (l : List ℕ). Reads start l b.paper) (sent_on [] old.waiting.items t.bytes mid.waiting.items new.waiting.items count t.waits rest)
          (then_reads start below b.paper old.waiting.items t.bytes reads (subst (λ (l : List ℕ). Reads below l b.paper) (sym g.is) b.reads));
      stands = subst (λ (rows_above : List (List Glyph)). IsLive columns' rows' rows_above (first ++ o.stands.own) o.text [] next.0 b.paper) b.above b.live;
    }

-- it went below, and bytes were handed out
pub hands_below : (width height : ℕ) (old mid new : Growing) (buffer filled : List ℕ) (answer : Answer) → Resizes width height old mid → HandsOut mid.waiting.items buffer answer filled
    → new.waiting.items ≡ drop (length buffer) mid.waiting.items → new.live ≡ mid.live → new.begun ≡ mid.begun → HandsBelow width height old buffer answer new filled
hands_below width height old mid new buffer filled answer t handed rest live begun = record {
  bytes = mid.waiting.items;
  handed = handed;
  goes_on = λ word columns rows come g. sized word columns rows width height come old mid new t live begun g;
  below = stands_below width height old mid new (length buffer) t live begun rest;
}
