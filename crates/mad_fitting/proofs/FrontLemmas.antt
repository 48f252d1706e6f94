-- Reading a text character by character, and counting its columns.
use Rattle.std.proofs.Common.{◌≡◌, ℕ, ◌+◌, ◌<◌, ◌≤◌, ◌⊎◌, true, false, List, [], ◌∷◌, ◌++◌, length, chars, take, drop, sym, ap, ◌∙◌, arith, subst}
use Rattle.std.specs.Char.{encode_utf8, len_utf8, is_whitespace}
use Rattle.std.specs.List.{AllByRecursion}
use Rattle.std.specs.Str.{IsUtf8}
use Rattle.std.proofs.lemmas.Str.{length-encode, IsUtf8-past_char, IsCharBoundary-from_drop, drop_past_char, chars_past_char, chars-nil}
use Rattle.std.proofs.lemmas.List.{length-drop, length-append, take_all}
use Rattle.std.proofs.Math.Seq.{take-append_seam}
use Rattle.std.proofs.StrCases.{chars_of_empty}
use Rattle.mad_md.proofs.CharLemmas.{chars_cut, chars_take_more}
use Rattle.mad_characters.specs.Columns.{char_columns}
use Rattle.mad_measure.specs.TextColumns.{columns}
use Rattle.mad_fitting.specs.Pieces.{IsFrontOf, StopsWithin, IsNoLonger, IsSolidFront}
use Rattle.mad_fitting.specs.declared.fronts.Front.{Front}

-- joined characters take as many columns as both together
pub columns-append : (cs ds : List ℕ) → columns (cs ++ ds) ≡ columns cs + columns ds
columns-append [] ds = omega arith
columns-append (c ∷ cs) ds = omega (arith, columns-append cs ds)

-- a text is read up to a byte, and what was read takes so many columns
pub record IsRead (text : List ℕ) (at : ℕ) (width : ℕ) : Type 0 where
  pub utf8 : IsUtf8 text
  pub inside : at ≤ length text
  pub rest : IsUtf8 (drop at text)
  pub counts : width ≡ columns (chars (take at text))
  pub narrow : width ≤ at

-- at a text's start nothing is read
pub read_start : (text : List ℕ) → IsUtf8 text → IsRead text 0 0
read_start text utf8 = record { utf8 = utf8; inside = omega arith; rest = utf8; counts = ap columns (sym chars-nil); narrow = omega arith }

-- a character more is read
pub read_more : (text more : List ℕ) (at new c width w : ℕ) → IsRead text at width → drop at text ≡ encode_utf8 c ++ more → new ≡ at + length (encode_utf8 c) → w ≡ char_columns c → w ≤ len_utf8 c
    → IsRead text new (width + w) × (drop new text ≡ more) × (chars (take new text) ≡ chars (take at text) ++ c ∷ [])
read_more text more at new c width w h parts moved wide narrow =
    let one : at + len_utf8 c ≡ new = omega (arith, moved, length-encode c) in
    let longer : chars (take new text) ≡ chars (take at text) ++ c ∷ [] = ap (λ n. chars (take n text)) (sym one) ∙ chars_take_more text more at c h.utf8 h.inside h.rest parts in
    let after : drop new text ≡ more = ap (λ n. drop n text) (sym one) ∙ drop_past_char text more at c parts in (
      record {
        utf8 = h.utf8;
        inside = omega (arith, moved, length-drop at text, h.inside, (simp length-append at (ap length parts)));
        rest = subst IsUtf8 (sym after) (IsUtf8-past_char (drop at text) more c h.rest parts);
        counts = omega (arith, h.counts, ap columns longer, columns-append (chars (take at text)) (c ∷ []), wide);
        narrow = omega (arith, h.narrow, moved, length-encode c, narrow);
      },
      after,
      longer,
    )

-- what is read is a front of the text
pub front_read : (text : List ℕ) (at width : ℕ) (front : Front) → IsRead text at width → front ≡ record { bytes = at; columns = width } → IsFrontOf text front
front_read text at width front h is =
    subst (IsFrontOf text) (sym is) (record { utf8 = h.utf8; border = IsCharBoundary-from_drop text at h.inside h.rest; counts = h.counts })

-- the next character doesn't fit
pub stops_before : (most : ℕ) (text more : List ℕ) (at c width w : ℕ) (front : Front) → IsRead text at width → drop at text ≡ encode_utf8 c ++ more → w ≡ char_columns c → most < width + w
    → front ≡ record { bytes = at; columns = width } → StopsWithin most text front
stops_before most text more at c width w front h parts wide over is =
    let next : chars (drop at text) ≡ c ∷ chars more = chars_past_char (drop at text) more c h.rest parts in
    subst (StopsWithin most text) (sym is) (λ d ds e.
    let same : c ≡ d = cc in
    omega (arith, over, wide, ap char_columns same))

-- there is no next character
pub stops_at_end : (most : ℕ) (text : List ℕ) (at width : ℕ) (front : Front) → IsRead text at width → length (drop at text) ≡ 0 → front ≡ record { bytes = length text; columns = width }
    → StopsWithin most text front × IsFrontOf text front
stops_at_end most text at width front h none is =
    let end : at ≡ length text = omega (arith, none, h.inside, length-drop at text) in
    let here : front ≡ record { bytes = at; columns = width } = is ∙ ap (λ n. record { bytes = n; columns = width }) (sym end) in
    let nothing : chars (drop at text) ≡ [] = chars_of_empty (drop at text) none in (
      subst (StopsWithin most text) (sym here) (λ d ds e. let both : [] ≡ d ∷ ds = sym nothing ∙ e in absurd (cc)),
      front_read text at width front h here,
    )

-- all of the text is the front that was read, where nothing is left
pub no_longer_at : (least : ℕ) (text : List ℕ) (at width w : ℕ) → IsRead text at width → length (drop at text) ≡ 0 → IsNoLonger least text (record { bytes = at; columns = width }) → IsNoLonger least text (record { bytes = length text; columns = w })
no_longer_at least text at width w h none short =
    let end : at ≡ length text = omega (arith, none, h.inside, length-drop at text) in
    subst (λ n. (n ≡ 0) ⊎ ((cs : List ℕ) × (c : ℕ) × (chars (take n text) ≡ cs ++ c ∷ []) × (columns cs < least))) end short

-- what a front says of itself where its columns are written out
pub read_again : (text : List ℕ) (at width : ℕ) → IsRead text at width → IsRead text at (columns (chars (take at text)))
read_again text at width h = subst (IsRead text at) h.counts h

-- the characters before a byte, by their number
pub number_before : (text : List ℕ) (at width n : ℕ) → IsRead text at width → length (chars (take at text)) ≡ n → chars (take at text) ≡ take n (chars text)
number_before text at width n h number =
    let cut = chars_cut text at h.utf8 h.inside h.rest in
    sym (ap (take n) cut ∙ ap (λ k. take k (chars (take at text) ++ chars (drop at text))) (sym number) ∙ take-append_seam (chars (take at text)) (chars (drop at text)))

-- a text that is read to its end, of n characters at most, is its first n
pub all_before : (text : List ℕ) (at width n : ℕ) → IsRead text at width → length (drop at text) ≡ 0 → length (chars (take at text)) ≤ n → chars (take (length text) text) ≡ take n (chars text)
all_before text at width n h none few =
    let end : at ≡ length text = omega (arith, none, h.inside, length-drop at text) in
    let all : take (length text) text ≡ text = take_all (length text) text (omega arith) in
    let same : chars (take at text) ≡ chars text = ap (λ k. chars (take k text)) end ∙ ap chars all in
    ap chars all ∙ sym (take_all n (chars text) (omega (arith, few, ap length same)))

-- whitespace comes next, or nothing
pub ended_before : (text more : List ℕ) (at c width : ℕ) → IsRead text at width → drop at text ≡ encode_utf8 c ++ more → is_whitespace c ≡ true → (d : ℕ) (ds : List ℕ) → chars (drop at text) ≡ d ∷ ds → is_whitespace d ≡ true
ended_before text more at c width h parts white d ds e =
    let next : c ∷ chars more ≡ d ∷ ds = sym (chars_past_char (drop at text) more c h.rest parts) ∙ e in
    let same : c ≡ d = cc in
    ap is_whitespace (sym same) ∙ white

-- a text that is read to its end without whitespace is a solid front
pub ended_at_end : (text : List ℕ) (at width : ℕ) → IsRead text at width → length (drop at text) ≡ 0 → AllByRecursion (λ c. is_whitespace c ≡ false) (chars (take at text)) → IsSolidFront text (record { bytes = length text; columns = width })
ended_at_end text at width h none solid =
    let end : at ≡ length text = omega (arith, none, h.inside, length-drop at text) in
    let nothing : chars (drop (length text) text) ≡ [] = ap (λ n. chars (drop n text)) (sym end) ∙ chars_of_empty (drop at text) none in
    record {
      solid = subst (λ n. AllByRecursion (λ c. is_whitespace c ≡ false) (chars (take n text))) end solid;
      ended = λ d ds e. let both : [] ≡ d ∷ ds = sym nothing ∙ e in absurd (cc);
    }
