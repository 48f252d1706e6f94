-- A text that comes in pieces: what came, and what was handed out.
use Rattle.std.proofs.Common.{◌≡◌, ◌≤◌, ◌<◌, ◌+◌, ◌^◌, ℕ, Bool, true, false, List, [], ◌++◌, length, take, drop, is_some, Option, Some, None, IsUtf8, refl, ap, sym, ◌∙◌, subst, arith, append_assoc, append-nil, Result, Ok, Err}
use Rattle.std.proofs.Math.Seq.{drop-append_seam}
use Rattle.std.proofs.lemmas.Bool.{false≢true}
use Rattle.std.proofs.lemmas.List.{length-append, take-append-drop}
use Rattle.mad_page_skin.specs.declared.page_skin.PageSkin.{PageSkin}
use Rattle.mad_frames.specs.Gathered.{untouched}
use Rattle.termimad.specs.StreamedFronts.{IsTextFront}
use Rattle.mad_term.specs.Trace.{Trace, after}
use Rattle.mad_term.specs.declared.errors.Error.{Error}
use Rattle.markdown_stream.specs.Streams.{Fed, Feeds, Finishes, IsInStep, IsPrompt, IsStreamed}
use Rattle.markdown_stream.specs.declared.stream.MarkdownStream.{MarkdownStream}
use Rattle.termimad_c.specs.Answers.{HandsOut}
use Rattle.termimad_c.specs.Inputs.{IsPageSkinOf, IsTextSoFar}
use Rattle.termimad_c.specs.TextsInPieces.{Comes, GoesOn, HandsOn, IsOver, Reads, Waits}
use Rattle.termimad_c.specs.declared.answer.Answer.{Answer}
use Rattle.termimad_c.specs.declared.coming.Coming.{Coming}

pub some_is : {A : Type 0} (x y : A) → Some x ≡ Some y → x ≡ y
some_is x y k = cc

pub some_is_not_none : {A : Type 0} {B : Type 0} (x : A) → None ≡ Some x → B
some_is_not_none x k = absurd (false≢true (ap is_some k))

-- an option that has a value
pub there : {A : Type 0} (o : Option A) → is_some o ≡ true → (x : A) × (o ≡ Some x)
there (Some x) p = (x, refl)
there None p = absurd (false≢true p)

-- ---- the rows of a text

-- the bytes that a device took which had taken nothing
pub unfolded : (start now : Trace) (bytes rows : List ℕ) → start ≡ untouched → now ≡ after start bytes → now.bytes ≡ Some rows → bytes ≡ rows
unfolding after
unfolded start now bytes rows p q taken = some_is bytes rows (sym (ap (λ (t : Trace). t.bytes) (q ∙ ap (λ (t : Trace). after t bytes) p)) ∙ taken)

pub twice : (start mid now : Trace) (one two rows : List ℕ) → start ≡ untouched → mid ≡ after start one → now ≡ after mid two → now.bytes ≡ Some rows → one ++ two ≡ rows
unfolding after
twice start mid now one two rows p q r taken =
    some_is (one ++ two) rows (sym (ap (λ (t : Trace). t.bytes) (r ∙ ap (λ (t : Trace). after t two) (q ∙ ap (λ (t : Trace). after t one) p))) ∙ taken)

-- the next text was read
pub next_read : (s t : MarkdownStream) (text rows : List ℕ) (r : Result (Unit {0}) Error) (start now : Trace) → start ≡ untouched → r ≡ Ok (tt {0}) → Feeds s text t start r now → IsPrompt t → now.bytes ≡ Some rows
    → Reads false s text rows (Some t)
next_read s t text rows r start now p is feeds prompt taken =
    let fed : Fed s text t start (λ d. d) now = subst (λ (x : Result (Unit {0}) Error). Feeds s text t start x now) is feeds in
    (t, refl, prompt, fed.skin, fed.width, λ read sent h. subst (λ (l : List ℕ). IsInStep (read ++ text) t (sent ++ l)) (unfolded start now fed.bytes rows p fed.went taken) (fed.keeps read sent h))

-- the last text was read
pub last_read : (s t : MarkdownStream) (text rows : List ℕ) (r q : Result (Unit {0}) Error) (start mid now : Trace) → start ≡ untouched → r ≡ Ok (tt {0}) → Feeds s text t start r mid → q ≡ Ok (tt {0})
    → ((read sent : List ℕ) → IsInStep read t sent → Finishes t.skin t.width read sent mid q now) → now.bytes ≡ Some rows → Reads true s text rows None
last_read s t text rows r q start mid now p is feeds ends finishes taken =
    let fed : Fed s text t start (λ d. d) mid = subst (λ (x : Result (Unit {0}) Error). Feeds s text t start x mid) is feeds in (
      refl,
      λ read sent h.
          let f = subst (λ (x : Result (Unit {0}) Error). Finishes t.skin t.width (read ++ text) (sent ++ fed.bytes) mid x now) ends (finishes (read ++ text) (sent ++ fed.bytes) (fed.keeps read sent h)) in
          let joined : (sent ++ fed.bytes) ++ f.0 ≡ sent ++ rows = append_assoc sent fed.bytes f.0 ∙ ap (λ (l : List ℕ). sent ++ l) (twice start mid now fed.bytes f.0 rows p fed.went f.2 taken) in
          subst (λ (k : PageSkin). IsStreamed k s.width (read ++ text) (sent ++ rows)) fed.skin (subst (λ (w : Option ℕ). IsStreamed t.skin w (read ++ text) (sent ++ rows)) fed.width
          (subst (λ (l : List ℕ). IsStreamed t.skin t.width (read ++ text) l) joined f.1)),
    )

-- ---- pieces

-- a text of which nothing has come
pub nothing_came : (word : List ℕ) (width columns : ℕ) (skin : PageSkin) (s : MarkdownStream) (c : Coming) → width < 2 ^ 16 → columns ≡ width → IsPageSkinOf word skin
    → IsInStep [] s [] → IsPrompt s → s.skin ≡ skin → s.width ≡ Some columns → c.stream ≡ Some s → c.begun.items ≡ [] → c.rows.items ≡ [] → GoesOn word width [] [] c
nothing_came word width columns skin s c narrow wide given step prompt dress across is none waits = record {
  narrow = narrow;
  stream = s;
  is = is;
  given = subst (IsPageSkinOf word) (sym dress) given;
  wide = across ∙ ap Some wide;
  text = [];
  cut = sym none;
  short = omega (arith, ap length none);
  step = subst (λ (rows : List ℕ). IsInStep [] s rows) (sym waits) step;
  prompt = prompt;
}

-- what came behind a text and the beginning of a character
pub joins : (come text begun piece bytes next rest : List ℕ) → come ≡ text ++ begun → bytes ≡ begun ++ piece → bytes ≡ next ++ rest → come ++ piece ≡ (text ++ next) ++ rest
joins come text begun piece bytes next rest cut is parts =
    ap (λ (l : List ℕ). l ++ piece) cut ∙ append_assoc text begun piece ∙ ap (λ (l : List ℕ). text ++ l) (sym is ∙ parts) ∙ sym (append_assoc text next rest)

-- the rows that wait come after those that were handed out
pub rows_join : (sent old rows new : List ℕ) → new ≡ old ++ rows → (sent ++ old) ++ rows ≡ sent ++ new
rows_join sent old rows new is = append_assoc sent old rows ∙ ap (λ (l : List ℕ). sent ++ l) (sym is)

-- a piece came, of which a text was read
pub text_read : (last : Bool) (old new : Coming) (piece bytes text rows : List ℕ) (s : MarkdownStream) → old.stream ≡ Some s → bytes ≡ old.begun.items ++ piece → IsTextSoFar last bytes text
    → new.begun.items ≡ drop (length text) bytes → Waits old rows new → Reads last s text rows new.stream → Comes last old piece new
text_read false old new piece bytes text rows s is joined (front, short) kept waits reads =
    let t = reads.0 in
    let rest : new.begun.items ≡ front.rest = kept ∙ ap (λ (l : List ℕ). drop (length text) l) front.joins ∙ drop-append_seam text front.rest in
    record {
      goes_on = λ _ word width come sent g.
          let same : g.stream ≡ s = some_is g.stream s (sym g.is ∙ is) in
          record {
            narrow = g.narrow;
            stream = t;
            is = reads.1;
            given = subst (IsPageSkinOf word) (ap (λ (m : MarkdownStream). m.skin) same ∙ sym reads.3) g.given;
            wide = reads.4 ∙ sym (ap (λ (m : MarkdownStream). m.width) same) ∙ g.wide;
            text = g.text ++ text;
            cut = joins come g.text old.begun.items piece bytes text new.begun.items g.cut joined (front.joins ∙ ap (λ (l : List ℕ). text ++ l) (sym rest));
            short = omega (arith, short, ap length front.joins ∙ length-append text front.rest, ap length rest);
            step = subst (λ (l : List ℕ). IsInStep (g.text ++ text) t l) (rows_join sent old.rows.items rows new.rows.items waits)
                (reads.5 g.text (sent ++ old.rows.items) (subst (λ (m : MarkdownStream). IsInStep g.text m (sent ++ old.rows.items)) same g.step));
            prompt = reads.2;
          };
      ends = λ p. absurd (false≢true p);
      over = λ none. some_is_not_none s (sym none ∙ is);
    }
text_read true old new piece bytes text rows s is joined (utf8, whole) kept waits reads = record {
  goes_on = λ p. absurd (false≢true (sym p));
  ends = λ _ word width come sent g.
      let same : g.stream ≡ s = some_is g.stream s (sym g.is ∙ is) in
      let all : g.text ++ text ≡ come ++ piece = sym (joins come g.text old.begun.items piece bytes text [] g.cut joined (sym whole ∙ sym (append-nil text)) ∙ append-nil (g.text ++ text)) in
      record {
        skin = s.skin;
        given = subst (IsPageSkinOf word) (ap (λ (m : MarkdownStream). m.skin) same) g.given;
        rows = subst (λ (w : Option ℕ). IsStreamed s.skin w (come ++ piece) (sent ++ new.rows.items)) (sym (ap (λ (m : MarkdownStream). m.width) same) ∙ g.wide)
            (subst (λ (l : List ℕ). IsStreamed s.skin s.width (come ++ piece) l) (rows_join sent old.rows.items rows new.rows.items waits)
            (subst (λ (l : List ℕ). IsStreamed s.skin s.width l ((sent ++ old.rows.items) ++ rows)) all
            (reads.1 g.text (sent ++ old.rows.items) (subst (λ (m : MarkdownStream). IsInStep g.text m (sent ++ old.rows.items)) same g.step))));
        none = reads.0;
      };
  over = λ none. some_is_not_none s (sym none ∙ is);
}

-- nothing comes behind the end
pub nothing_read : (last : Bool) (old new : Coming) (piece : List ℕ) → old.stream ≡ None → piece ≡ [] → new ≡ old → Comes last old piece new
nothing_read last old new piece none empty same = record {
  goes_on = λ _ word width come sent g. some_is_not_none g.stream (sym none ∙ g.is);
  ends = λ _ word width come sent g. some_is_not_none g.stream (sym none ∙ g.is);
  over = λ _. (empty, same);
}

-- rows that were handed out stand before those that wait on
pub handed_on : (sent rows left : List ℕ) (count : ℕ) → left ≡ drop count rows → sent ++ rows ≡ (sent ++ take count rows) ++ left
handed_on sent rows left count is =
    ap (λ (l : List ℕ). sent ++ l) (sym (take-append-drop count rows)) ∙ sym (append_assoc sent (take count rows) (drop count rows)) ∙ ap (λ (l : List ℕ). (sent ++ take count rows) ++ l) (sym is)

-- rows were handed out
goes_on_handed : (word : List ℕ) (width : ℕ) (come sent : List ℕ) (count : ℕ) (mid new : Coming) → new.rows.items ≡ drop count mid.rows.items → new.stream ≡ mid.stream → new.begun ≡ mid.begun
    → GoesOn word width come sent mid → GoesOn word width come (sent ++ take count mid.rows.items) new
goes_on_handed word width come sent count mid new rest stream begun g = record {
  narrow = g.narrow;
  stream = g.stream;
  is = stream ∙ g.is;
  given = g.given;
  wide = g.wide;
  text = g.text;
  cut = g.cut ∙ ap (λ v. g.text ++ v.items) (sym begun);
  short = omega (arith, g.short, ap (λ v. length v.items) begun);
  step = subst (λ (l : List ℕ). IsInStep g.text g.stream l) (handed_on sent mid.rows.items new.rows.items count rest) g.step;
  prompt = g.prompt;
}

over_handed : (word : List ℕ) (width : ℕ) (come sent : List ℕ) (count : ℕ) (mid new : Coming) → new.rows.items ≡ drop count mid.rows.items → new.stream ≡ mid.stream
    → IsOver word width come sent mid → IsOver word width come (sent ++ take count mid.rows.items) new
over_handed word width come sent count mid new rest stream o = record {
  skin = o.skin;
  given = o.given;
  rows = subst (λ (l : List ℕ). IsStreamed o.skin (Some width) come l) (handed_on sent mid.rows.items new.rows.items count rest) o.rows;
  none = stream ∙ o.none;
}

-- a piece came, and rows were handed out
pub hands_on : (last : Bool) (old mid new : Coming) (piece buffer filled : List ℕ) (answer : Answer) → Comes last old piece mid → HandsOut mid.rows.items buffer answer filled
    → new.rows.items ≡ drop (length buffer) mid.rows.items → new.stream ≡ mid.stream → new.begun ≡ mid.begun → HandsOn last old piece buffer answer new filled
hands_on last old mid new piece buffer filled answer comes handed rest stream begun = record {
  rows = mid.rows.items;
  handed = handed;
  goes_on = λ p word width come sent g. goes_on_handed word width (come ++ piece) sent (length buffer) mid new rest stream begun (comes.goes_on p word width come sent g);
  ends = λ p word width come sent g. over_handed word width (come ++ piece) sent (length buffer) mid new rest stream (comes.ends p word width come sent g);
  over = λ word width come sent o. (
    (comes.over o.none).0,
    over_handed word width come sent (length buffer) mid new rest stream (subst (IsOver word width come sent) (sym (comes.over o.none).1) o),
  );
}
