-- The text `aaa bb cc`: how it is read, and laid out in a wider place.
use Rattle.std.proofs.Common.{◌≡◌, ◌≢◌, ℕ, ◌<◌, inl, List, [], ◌∷◌, ◌++◌, chars, refl, ap, sym, subst, arith, lit<, lit≤}
use Rattle.std.specs.List.{AllByRecursion, join_with_byte}
use Rattle.std.specs.Str.{IsAscii}
use Rattle.std.proofs.lemmas.Str.{IsUtf8-from_ascii, chars-IsAscii}
use Rattle.std.proofs.lemmas.Str.Ascii.{IsAscii-cons, IsAscii-nil}
use Rattle.mad_characters.specs.Columns.{char_columns}
use Rattle.mad_characters.proofs.CharColumns.{char_columns-ascii}
use Rattle.mad_md.specs.Parts.{AreParts, HasNoNewline, line_spans, line_text}
use Rattle.mad_md.specs.ReadByMarks.{IsParagraphText}
use Rattle.mad_measure.proofs.AllLemmas.{all_back}
use Rattle.mad_layout.specs.Sources.{TakesColumns, LinesTakeColumns}
use Rattle.mad_layout.specs.Words.{words}

-- ---- its characters

-- `a` takes one column
pub one_a : char_columns 97 ≡ 1
one_a = char_columns-ascii 97 (lit≤ tt) (lit< tt)

-- so does `b`
pub one_b : char_columns 98 ≡ 1
one_b = char_columns-ascii 98 (lit≤ tt) (lit< tt)

-- so does `c`
pub one_c : char_columns 99 ≡ 1
one_c = char_columns-ascii 99 (lit≤ tt) (lit< tt)

-- so does a space
pub one_space : char_columns 32 ≡ 1
one_space = char_columns-ascii 32 (lit≤ tt) (lit< tt)

letters : IsAscii words
letters =
    let c = IsAscii-cons 99 [] (lit< tt) IsAscii-nil in
    let cc = IsAscii-cons 99 (99 ∷ []) (lit< tt) c in
    let scc = IsAscii-cons 32 (99 ∷ 99 ∷ []) (lit< tt) cc in
    let bscc = IsAscii-cons 98 (32 ∷ 99 ∷ 99 ∷ []) (lit< tt) scc in
    let bbscc = IsAscii-cons 98 (98 ∷ 32 ∷ 99 ∷ 99 ∷ []) (lit< tt) bscc in
    let sbbscc = IsAscii-cons 32 (98 ∷ 98 ∷ 32 ∷ 99 ∷ 99 ∷ []) (lit< tt) bbscc in
    let asbbscc = IsAscii-cons 97 (32 ∷ 98 ∷ 98 ∷ 32 ∷ 99 ∷ 99 ∷ []) (lit< tt) sbbscc in
    IsAscii-cons 97 (97 ∷ 97 ∷ 32 ∷ 98 ∷ 98 ∷ 32 ∷ 99 ∷ 99 ∷ []) (lit< tt) (IsAscii-cons 97 (97 ∷ 32 ∷ 98 ∷ 98 ∷ 32 ∷ 99 ∷ 99 ∷ []) (lit< tt) asbbscc)

-- the text's bytes are its characters
pub spelled : chars words ≡ words
spelled = chars-IsAscii words letters

-- each of its characters takes columns
pub words_columns : TakesColumns words
words_columns = record {
  utf8 = IsUtf8-from_ascii words letters;
  columns = subst (AllByRecursion (λ c. 0 < char_columns c)) (sym spelled)
      (omega (arith, one_a), (omega (arith, one_a), (omega (arith, one_a), (omega (arith, one_space), (omega (arith, one_b), (omega (arith, one_b), (omega (arith, one_space), (omega (arith, one_c), (omega (arith, one_c), tt)))))))));
}

-- ---- its one part

unbroken : HasNoNewline words
unbroken = (λ e. absurd (omega (arith, e)), (λ e. absurd (omega (arith, e)), (λ e. absurd (omega (arith, e)), (λ e. absurd (omega (arith, e)), (λ e. absurd (omega (arith, e)), (λ e. absurd (omega (arith, e)), (λ e. absurd (omega (arith, e)), (λ e. absurd (omega (arith, e)), (λ e. absurd (omega (arith, e)), tt)))))))))

-- the text is one part
pub cut_words : AreParts words (words ∷ [])
cut_words = record { some = omega arith; joined = refl; cut = (unbroken, tt) }

-- it is cut into no other parts
pub one_part : (parts : List (List ℕ)) → AreParts words parts → parts ≡ words ∷ []
one_part [] cut = absurd (omega (arith, cut.some))
one_part (p ∷ []) cut = ap (λ (q : List ℕ). q ∷ []) cut.joined
one_part (p ∷ q ∷ ps) cut =
    let held : HasNoNewline (p ++ (10 ∷ join_with_byte 10 (q ∷ ps))) = subst HasNoNewline (sym cut.joined) unbroken in
    absurd ((all_back (λ b. b ≢ 10) p (10 ∷ join_with_byte 10 (q ∷ ps)) held).0 refl)

words_begin : IsParagraphText words
words_begin = (refl, inl refl)

-- each of its lines takes columns, and begins as a paragraph
pub words_take_columns : LinesTakeColumns words
words_take_columns parts cut =
    subst (λ (ps : List (List ℕ)). AllByRecursion (λ span. TakesColumns (line_text words span) × IsParagraphText (line_text words span)) (line_spans ps)) (sym (one_part parts cut)) ((words_columns, words_begin), tt)
