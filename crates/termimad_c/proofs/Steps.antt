-- The steps of a call: why it is refused, and what its inputs are.
use Rattle.std.proofs.Common.{◌≡◌, ◌≢◌, ◌≤◌, ◌<◌, ◌^◌, ℕ, Bool, List, [], ◌∷◌, length, Option, Some, None, MatchResult, Result, Ok, Err, IsUtf8, false, refl, ap, sym, ◌∙◌, subst, inl, inr, arith}
use Rattle.std.specs.Result.{IsErrAnd}
use Rattle.std.proofs.lemmas.Result.{err_from_is_err_and}
use Rattle.termimad.specs.Fitting.{IsCompositeFitted}
use Rattle.termimad.specs.Inlines.{IsInlineOf}
use Rattle.termimad.specs.Layouts.{IsMarkdownLayout}
use Rattle.termimad.specs.Pieces.{pieces_bytes}
use Rattle.termimad.specs.RowSkins.{row_skin}
use Rattle.termimad.specs.RowStyles.{line_rules}
use Rattle.termimad.specs.Rows.{composite_pieces, margins_of}
use Rattle.termimad.specs.Trace.{Trace}
use Rattle.termimad.specs.StreamedParts.{WritesFront}
use Rattle.termimad.specs.declared.Alignment.{Alignment}
use Rattle.termimad.specs.declared.Error.{Error}
use Rattle.termimad.specs.declared.FmtComposite.{FmtComposite}
use Rattle.termimad.specs.declared.FmtLine.{FmtLine}
use Rattle.termimad.specs.declared.MadSkin.{MadSkin}
use Rattle.mad_page_skin.specs.PageSkins.{page_skin_of}
use Rattle.mad_page_skin.specs.declared.page_skin.PageSkin.{PageSkin}
use Rattle.termimad_words.specs.GivenSkins.{page_skin_given, skin_given, RefusesPageSkin as RefusesPageWord, RefusesSkin as RefusesWord}
use Rattle.termimad_run.specs.ProgramRuns.{WritesCall, ShowsCall}
use Rattle.termimad_run.specs.declared.call.Command.{Command}
use Rattle.termimad_words.specs.declared.failure.Failure.{Failure}
use Rattle.termimad_words.specs.declared.failure.Failure.TheVariants as failure
use Rattle.termimad_c.specs.Answers.{HandsOut, HandsOutParts, bit, refusal_of}
use Rattle.mad_frames.specs.Gathered.{untouched}
use Rattle.termimad_c.specs.Inputs.{word_given, IsNoText, IsPageSkinOf, IsSkinOf, IsTextSoFar, RefusesCode, RefusesPage, RefusesPageSkin, RefusesSkin, RefusesCall, RefusesParts, alignment_number}
use Rattle.termimad_c.specs.Making.{ArePartsOf, IsPageWritten, IsWritten, IsRowCount, IsFittedLine}
use Rattle.termimad_c.specs.declared.answer.Answer.{Answer}
use Rattle.termimad_c.specs.declared.answer.Progress.{Progress}
use Rattle.termimad_c.specs.declared.answer.Refusal.{Refusal}
use Rattle.termimad_c.specs.declared.answer.Refusal.TheVariants.{Condition, NotUtf8, Skin, Memory}

-- a call that was refused so
pub exit : {T : Type 0} (Makes : T → Type 0) (Refuses : Refusal → Type 0) (r : Result T Refusal) (refusal : Refusal) → IsErrAnd r (λ e. e ≡ refusal) → Refuses refusal → MatchResult r Makes Refuses
exit {T} Makes Refuses r refusal is h =
    let p = err_from_is_err_and r is in
    subst (λ (s : Result T Refusal). MatchResult s Makes Refuses) (sym (p.1 ∙ ap Err p.2)) h

-- the program refuses the word of a skin
pub word_refused : (word : List ℕ) (given : Option (List ℕ)) (f : Failure) → given ≡ word_given word → RefusesWord given f → RefusesSkin word (refusal_of f)
word_refused word given failure.Skin p h = sym (ap skin_given p) ∙ h
word_refused word given failure.Memory p h = tt
word_refused word given _ p h = absurd h

-- a call is refused for its skin
pub skin_refused : (Wrong : Type 0) (text word : List ℕ) (refusal : Refusal) → RefusesSkin word refusal → RefusesCall Wrong text word refusal
skin_refused Wrong text word NotUtf8 h = inr h
skin_refused Wrong text word Skin h = h
skin_refused Wrong text word Memory h = tt
skin_refused Wrong text word Condition h = absurd h

-- a call is refused as one is that has no numbers
pub call_refused : (Wrong : Type 0) (text word : List ℕ) (refusal : Refusal) → RefusesCall ⊥ text word refusal → RefusesCall Wrong text word refusal
call_refused Wrong text word NotUtf8 h = h
call_refused Wrong text word Skin h = h
call_refused Wrong text word Memory h = h
call_refused Wrong text word Condition h = absurd h

-- an empty word is none
pub empty_word : (word : List ℕ) → length word ≡ 0 → None ≡ word_given word
empty_word [] p = refl
empty_word (byte ∷ more) p = absurd (omega (arith, p))

-- any other is given
pub other_word : (word : List ℕ) → length word ≢ 0 → Some word ≡ word_given word
other_word [] p = absurd (p refl)
other_word (byte ∷ more) p = refl

-- the program refuses the word of a page's skin
pub page_word_refused : (word : List ℕ) (given : Option (List ℕ)) (f : Failure) → given ≡ word_given word → RefusesPageWord given f → RefusesPageSkin word (refusal_of f)
page_word_refused word given failure.Skin p h = sym (ap page_skin_given p) ∙ h
page_word_refused word given failure.Memory p h = tt
page_word_refused word given _ p h = absurd h

-- a page is refused for its skin
pub page_skin_refused : (Wrong : Type 0) (text word : List ℕ) (refusal : Refusal) → RefusesPageSkin word refusal → RefusesPage Wrong text word refusal
page_skin_refused Wrong text word NotUtf8 h = inr h
page_skin_refused Wrong text word Skin h = h
page_skin_refused Wrong text word Memory h = tt
page_skin_refused Wrong text word Condition h = absurd h

-- a page is refused as one is that has no numbers
pub page_refused : (Wrong : Type 0) (text word : List ℕ) (refusal : Refusal) → RefusesPage ⊥ text word refusal → RefusesPage Wrong text word refusal
page_refused Wrong text word NotUtf8 h = h
page_refused Wrong text word Skin h = h
page_refused Wrong text word Memory h = h
page_refused Wrong text word Condition h = absurd h

-- code is refused for what is no text: the word of its language
pub code_refused : (Wrong : Type 0) (text language word : List ℕ) (refusal : Refusal) → (refusal ≡ NotUtf8) × (¬ (IsUtf8 language)) → RefusesCode Wrong text language word refusal
code_refused Wrong text language word refusal (is, none) = subst (RefusesCode Wrong text language word) (sym is) (inl none)

-- code is refused as a page is that has no numbers
pub code_in_page : (Wrong : Type 0) (text language word : List ℕ) (refusal : Refusal) → RefusesPage ⊥ text word refusal → RefusesCode Wrong text language word refusal
code_in_page Wrong text language word NotUtf8 h = inr h
code_in_page Wrong text language word Skin h = h
code_in_page Wrong text language word Memory h = h
code_in_page Wrong text language word Condition h = absurd h

-- the skin of a page for a word that is a text
pub page_skin_read : (word text : List ℕ) (given : Option (List ℕ)) (skin : PageSkin) (unknown : List (List ℕ)) → IsUtf8 word → text ≡ word → given ≡ word_given text → page_skin_given given ≡ Some (skin, unknown) → IsPageSkinOf word skin
page_skin_read word text given skin unknown utf8 p q h = (utf8, unknown, ap page_skin_given (ap word_given (sym p) ∙ sym q) ∙ h)

-- all that a call wrote of a page
pub page_all_written : (text word src : List ℕ) (command : Command) (skin : PageSkin) (old last : Trace) (whole : List ℕ) → IsUtf8 text → src ≡ text → IsPageSkinOf word skin → old ≡ untouched
    → WritesCall skin command src old (Ok (tt {0})) last → last.bytes ≡ Some whole → IsPageWritten text word command whole
page_all_written text word src command skin old last whole utf8 p given q writes taken = record {
  utf8 = utf8;
  skin = skin;
  given = given;
  last = last;
  writes = subst (λ (t : List ℕ). WritesCall skin command t untouched (Ok (tt {0})) last) p (subst (λ (o : Trace). WritesCall skin command src o (Ok (tt {0})) last) q writes);
  whole_is = taken;
}

-- the skin of a word that is a text
pub skin_read : (word text : List ℕ) (given : Option (List ℕ)) (skin : MadSkin) (unknown : List (List ℕ)) → IsUtf8 word → text ≡ word → given ≡ word_given text → skin_given given ≡ Some (skin, unknown) → IsSkinOf word skin
skin_read word text given skin unknown utf8 p q h = (utf8, unknown, ap skin_given (ap word_given (sym p) ∙ sym q) ∙ h)

-- all that a call wrote on a device that had taken nothing
pub all_written : (text word src : List ℕ) (command : Command) (skin : MadSkin) (page_skin : PageSkin) (old last : Trace) (whole : List ℕ) → IsUtf8 text → src ≡ text → IsSkinOf word skin → page_skin ≡ page_skin_of skin → old ≡ untouched
    → WritesCall page_skin command src old (Ok (tt {0})) last → ShowsCall page_skin command src old last → last.bytes ≡ Some whole → IsWritten text word command whole
all_written text word src command skin page_skin old last whole utf8 p given same q writes shown taken = record {
  utf8 = utf8;
  skin = skin;
  given = given;
  last = last;
  writes = subst (λ (k : PageSkin). WritesCall k command text untouched (Ok (tt {0})) last) same (subst (λ (t : List ℕ). WritesCall page_skin command t untouched (Ok (tt {0})) last) p (subst (λ (o : Trace). WritesCall page_skin command src o (Ok (tt {0})) last) q writes));
  shown = subst (λ (k : PageSkin). ShowsCall k command text untouched last) same (subst (λ (t : List ℕ). ShowsCall page_skin command t untouched last) p (subst (λ (o : Trace). ShowsCall page_skin command src o last) q shown));
  whole_is = taken;
}

-- the rows of a layout
pub rows_counted : (text word src : List ℕ) (width columns count : ℕ) (skin : MadSkin) (lines : List FmtLine) → IsUtf8 text → src ≡ text → IsSkinOf word skin → columns ≡ width
    → IsMarkdownLayout (line_rules (row_skin skin)) (Some columns) src lines → count ≡ length lines → IsRowCount text word width count
rows_counted text word src width columns count skin lines utf8 p given q layout counted = record {
  utf8 = utf8;
  skin = skin;
  given = given;
  lines = lines;
  layout = subst (λ (t : List ℕ). IsMarkdownLayout (line_rules (row_skin skin)) (Some width) t lines) p (subst (λ (w : ℕ). IsMarkdownLayout (line_rules (row_skin skin)) (Some w) src lines) q layout);
  count_is = counted;
}

-- a line that was read, fitted and written
pub line_fitted : (text word src : List ℕ) (width align columns : ℕ) (alignment : Alignment) (skin dress : MadSkin) (line fitted : FmtComposite) (whole : List ℕ) → IsUtf8 text → src ≡ text → IsSkinOf word skin
    → columns ≡ width → alignment_number alignment ≡ align → dress ≡ skin → IsInlineOf (row_skin skin) src line → (line.visible_length ≤ columns → fitted ≡ line)
    → (columns < line.visible_length → IsCompositeFitted (line_rules (row_skin skin)) alignment columns line fitted)
    → whole ≡ pieces_bytes (composite_pieces (row_skin dress) None (margins_of (row_skin dress) None fitted) false fitted) → IsFittedLine text word width align whole
line_fitted text word src width align columns alignment skin dress line fitted whole utf8 p given q aligned worn read fits cut written = record {
  utf8 = utf8;
  skin = skin;
  given = given;
  alignment = alignment;
  aligned = aligned;
  line = line;
  read = subst (λ (t : List ℕ). IsInlineOf (row_skin skin) t line) p read;
  fitted = fitted;
  fits = λ h. fits (subst (λ (w : ℕ). line.visible_length ≤ w) (sym q) h);
  cut = λ h. subst (λ (w : ℕ). IsCompositeFitted (line_rules (row_skin skin)) alignment w line fitted) q (cut (subst (λ (w : ℕ). w < line.visible_length) (sym q) h));
  whole_is = written ∙ ap (λ (s : MadSkin). pieces_bytes (composite_pieces (row_skin s) None (margins_of (row_skin s) None fitted) false fitted)) worn;
}

-- the parts of a text that were laid out
pub parts_written : (text word read : List ℕ) (width columns : ℕ) (skin : MadSkin) (fenced is_last : Bool) (used : ℕ) (fenced_then : Bool) (r : Result (ℕ × Bool) Error) (old last : Trace) (rows : List ℕ) → width < 2 ^ 16 → columns ≡ width → IsSkinOf word skin → IsTextSoFar is_last text read
    → old ≡ untouched → r ≡ Ok (used, fenced_then) → WritesFront (row_skin skin) (Some columns) read fenced is_last old r last → last.bytes ≡ Some rows → ArePartsOf text word width fenced is_last rows used fenced_then
parts_written text word read width columns skin fenced is_last used fenced_then r old last rows narrow wide given so_far q is writes taken = record {
  narrow = narrow;
  skin = skin;
  given = given;
  read = read;
  so_far = so_far;
  last = last;
  writes = subst (λ n. WritesFront (row_skin skin) (Some n) read fenced is_last untouched (Ok (used, fenced_then)) last) wide
      (subst (λ (s : Result (ℕ × Bool) Error). WritesFront (row_skin skin) (Some columns) read fenced is_last untouched s last) is (subst (λ (o : Trace). WritesFront (row_skin skin) (Some columns) read fenced is_last o r last) q writes));
  rows_are = taken;
}

-- why such a call is refused
pub parts_narrow : (text word : List ℕ) (width : ℕ) (is_last : Bool) (refusal : Refusal) → (refusal ≡ Condition) × (2 ^ 16 ≤ width) → RefusesParts text word width is_last refusal
parts_narrow text word width is_last refusal (is, wide) = subst (RefusesParts text word width is_last) (sym is) wide

-- a refused skin refuses the parts
pub parts_in_skin : (text word : List ℕ) (width : ℕ) (is_last : Bool) (refusal : Refusal) → RefusesSkin word refusal → RefusesParts text word width is_last refusal
parts_in_skin text word width is_last NotUtf8 h = inr h
parts_in_skin text word width is_last Skin h = h
parts_in_skin text word width is_last Memory h = tt
parts_in_skin text word width is_last Condition h = absurd h

-- so does what is no text
pub parts_no_text : (text word : List ℕ) (width : ℕ) (is_last : Bool) (refusal : Refusal) → (refusal ≡ NotUtf8) × IsNoText is_last text → RefusesParts text word width is_last refusal
parts_no_text text word width is_last refusal (is, none) = subst (RefusesParts text word width is_last) (sym is) (inl none)

-- so does a want of memory
pub parts_no_memory : (text word : List ℕ) (width : ℕ) (is_last : Bool) (refusal : Refusal) → refusal ≡ Memory → RefusesParts text word width is_last refusal
parts_no_memory text word width is_last refusal is = subst (RefusesParts text word width is_last) (sym is) tt

-- rows that fit the buffer, and others
pub parts_fit : (rows old new : List ℕ) (used : ℕ) (fenced_then fenced : Bool) (answer : Answer) (progress : Progress) → HandsOut rows old answer new → answer.status ≡ 0 → progress ≡ record { count = answer.count; used = used; fenced = bit fenced_then; status = answer.status }
    → HandsOutParts rows used fenced_then fenced old progress new
parts_fit rows old new used fenced_then fenced answer progress h fits is = subst (λ (p : Progress). HandsOutParts rows used fenced_then fenced old p new) (sym is) (record {
  count = h.count;
  done = λ enough. (fits, refl, refl);
  short = λ less. absurd (omega (arith, sym fits ∙ h.short less));
  front = h.front;
})

-- parts that don't fit the buffer: none is used up
pub parts_cut : (rows old new : List ℕ) (used : ℕ) (fenced_then fenced : Bool) (answer : Answer) (progress : Progress) → HandsOut rows old answer new → answer.status ≢ 0 → progress ≡ record { count = answer.count; used = 0; fenced = bit fenced; status = answer.status }
    → HandsOutParts rows used fenced_then fenced old progress new
parts_cut rows old new used fenced_then fenced answer progress h other is = subst (λ (p : Progress). HandsOutParts rows used fenced_then fenced old p new) (sym is) (record {
  count = h.count;
  done = λ enough. absurd (other (h.done enough));
  short = λ less. (h.short less, refl, refl);
  front = h.front;
})
