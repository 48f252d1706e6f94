-- Columns under their titles.
use Rattle.std.proofs.Common.{◌≡◌, ◌≢◌, ◌<◌, ◌+◌, ◌-◌, ℕ, suc, Bool, true, false, cond, not, List, [], ◌∷◌, ◌++◌, length, get_or, take, drop, map, refl, ap, sym, subst, ◌∙◌, arith, append_assoc, append-nil, string_bytes, ◌==◌}
use Rattle.std.specs.Str.{bytes_eq}
use Rattle.std.specs.List.{AllByRecursion}
use Rattle.std.proofs.Math.Seq.{drop-cons}
use Rattle.std.proofs.lemmas.Bool.Decides.{nat_tests}
use Rattle.std.proofs.lemmas.Slice.Eq.{bytes_eq-Decides}
use Rattle.std.proofs.lemmas.List.{take-append-drop, take_all}
use Rattle.std.proofs.lemmas.List.Elements.{All-more, recursion_from_All}
use Rattle.mad_style.specs.Repeats.{styled_char_bytes}
use Rattle.mad_style.specs.StyledChars.{styled_char}
use Rattle.mad_style.specs.declared.compound_styles.CompoundStyle.{CompoundStyle}
use Rattle.mad_style.specs.declared.styled_chars.StyledChar.{StyledChar}
use Rattle.mad_list_columns.specs.declared.columns.ListViewColumn.{ListViewColumn}
use Rattle.mad_list_columns.specs.Drawing.{Title, border, separated, title_over, titles, with_column}
use Rattle.mad_list_columns.specs.Titles.{BeginsAnother, HaveTitle}
use Rattle.mad_list_columns.proofs.JoinLemmas.{each_after}

-- ---- one title

same : (xs ys : List ℕ) → ys ≡ xs → bytes_eq xs ys ≡ true
same xs ys e = (bytes_eq-Decides xs ys).1 (sym e)

other : (xs ys : List ℕ) → ys ≢ xs → bytes_eq xs ys ≡ false
other xs ys unlike = by (bytes_eq xs ys) refl
  where
    by : (b : Bool) → bytes_eq xs ys ≡ b → b ≡ false
    by true e = absurd (unlike (sym ((bytes_eq-Decides xs ys).0 e)))
    by false e = refl

-- a column goes under the title that follows where it has it
under : {E : Type 0} (c : ListViewColumn E) (t : Title) (ts : List Title) → t.text ≡ string_bytes c.title → with_column c (t ∷ ts) ≡ record { text = string_bytes c.title; widths = c.spacing.width ∷ t.widths; measure = c.measure } ∷ ts
under c t ts e = ap (λ (b : Bool). cond b (record { text = string_bytes c.title; widths = c.spacing.width ∷ t.widths; measure = c.measure } ∷ ts) (record { text = string_bytes c.title; widths = c.spacing.width ∷ []; measure = c.measure } ∷ (t ∷ ts))) (same (string_bytes c.title) t.text e)

-- and else it has one of its own
apart : {E : Type 0} (c : ListViewColumn E) (t : Title) (ts : List Title) → t.text ≢ string_bytes c.title → with_column c (t ∷ ts) ≡ title_over (c ∷ []) ∷ (t ∷ ts)
apart c t ts unlike = ap (λ (b : Bool). cond b (record { text = string_bytes c.title; widths = c.spacing.width ∷ t.widths; measure = c.measure } ∷ ts) (record { text = string_bytes c.title; widths = c.spacing.width ∷ []; measure = c.measure } ∷ (t ∷ ts))) (other (string_bytes c.title) t.text unlike)

-- the first title is that of the first column
pub record Begins (title : List ℕ) (ts : List Title) : Type 0 where
  pub first : Title
  pub others : List Title
  pub parts : ts ≡ first ∷ others
  pub text : first.text ≡ title

begins : {E : Type 0} (c : ListViewColumn E) (ts : List Title) → Begins (string_bytes c.title) (with_column c ts)
begins c [] = record { first = title_over (c ∷ []); others = []; parts = refl; text = refl }
begins c (t ∷ ts) = by (bytes_eq (string_bytes c.title) t.text)
  where
    by : (b : Bool) → Begins (string_bytes c.title) (cond b (record { text = string_bytes c.title; widths = c.spacing.width ∷ t.widths; measure = c.measure } ∷ ts) (record { text = string_bytes c.title; widths = c.spacing.width ∷ []; measure = c.measure } ∷ (t ∷ ts)))
    by true = record { first = record { text = string_bytes c.title; widths = c.spacing.width ∷ t.widths; measure = c.measure }; others = ts; parts = refl; text = refl }
    by false = record { first = record { text = string_bytes c.title; widths = c.spacing.width ∷ []; measure = c.measure }; others = t ∷ ts; parts = refl; text = refl }

-- a column before others of another title
alone : {E : Type 0} (c : ListViewColumn E) (rest : List (ListViewColumn E)) → BeginsAnother (string_bytes c.title) rest → with_column c (titles rest) ≡ title_over (c ∷ []) ∷ titles rest
alone c [] another = refl
alone c (d ∷ ds) another =
    let b : Begins (string_bytes d.title) (titles (d ∷ ds)) = begins d (titles ds) in
    subst (λ (ts : List Title). with_column c ts ≡ title_over (c ∷ []) ∷ ts) (sym b.parts) (apart c b.first b.others (λ e. another (sym b.text ∙ e)))

-- ---- the columns under it

-- columns of one title, and then others of another
together : {E : Type 0} (title : List ℕ) (c : ListViewColumn E) (alike rest : List (ListViewColumn E)) → string_bytes c.title ≡ title → AllByRecursion (λ d. string_bytes d.title ≡ title) alike → BeginsAnother title rest → titles (c ∷ (alike ++ rest)) ≡ title_over (c ∷ alike) ∷ titles rest
together {E} title c [] rest is all another = alone c rest (subst (λ (t : List ℕ). BeginsAnother t rest) (sym is) another)
together title c (d ∷ ds) rest is all another =
    ap (with_column c) (together title d ds rest all.0 all.1 another)
    ∙ under c (title_over (d ∷ ds)) (titles rest) (all.0 ∙ sym is)

differ : (xs ys : List ℕ) → not (bytes_eq xs ys) ≡ true → xs ≢ ys
differ xs ys e = λ same.
    let is : bytes_eq xs ys ≡ true = (bytes_eq-Decides xs ys).1 same in
    let false_is : false ≡ true = ap not (sym is) ∙ e in
    absurd (cc)

equal : (xs ys : List ℕ) → not (bytes_eq xs ys) ≡ false → xs ≡ ys
equal xs ys e = by (bytes_eq xs ys) refl e
  where
    by : (b : Bool) → bytes_eq xs ys ≡ b → not b ≡ false → xs ≡ ys
    by true is e = (bytes_eq-Decides xs ys).0 is
    by false is e = absurd (cc)

-- one column more has the title
pub alike_more : {E : Type 0} (title : List ℕ) (xs : List (ListViewColumn E)) (i : ℕ) (x : ListViewColumn E) → i < length xs → x ≡ get_or xs i x → not (bytes_eq (string_bytes x.title) title) ≡ false → HaveTitle title (take i xs) → HaveTitle title (take (i + 1) xs)
alike_more {E} title xs i x within is e so_far =
    All-more (λ (d : ListViewColumn E). string_bytes d.title ≡ title) xs i x within so_far
    (sym (ap (λ (d : ListViewColumn E). string_bytes d.title) is) ∙ equal (string_bytes x.title) title e)

-- what is left of a list begins with an element of another title
pub begins_another : {E : Type 0} (title : List ℕ) (xs : List (ListViewColumn E)) (i : ℕ) (x : ListViewColumn E) → i < length xs → x ≡ get_or xs i x → not (bytes_eq (string_bytes x.title) title) ≡ true → BeginsAnother title (drop i xs)
begins_another {E} title xs i x within is e =
    subst (λ (cs : List (ListViewColumn E)). BeginsAnother title cs) (sym (drop-cons xs i x within))
    (λ same. differ (string_bytes x.title) title e (ap (λ (c : ListViewColumn E). string_bytes c.title) is ∙ same))

-- a list is its first value and the others
pub first_and_others : {E : Type 0} (xs : List (ListViewColumn E)) (x : ListViewColumn E) → 0 < length xs → x ≡ get_or xs 0 x → xs ≡ x ∷ take (length xs - 1) (drop 1 xs)
first_and_others [] x some is = absurd (omega arith)
first_and_others {E} (y ∷ ys) x some is =
    let all : take (length (y ∷ ys) - 1) ys ≡ ys = take_all (length (y ∷ ys) - 1) ys (omega arith) in
    ap (λ (zs : List (ListViewColumn E)). y ∷ zs) (sym all) ∙ ap (λ (z : ListViewColumn E). z ∷ take (length (y ∷ ys) - 1) ys) (sym is)

-- the first title is over the columns that share it; then the others come
pub split_titles : {E : Type 0} (columns : List (ListViewColumn E)) (c : ListViewColumn E) (others : List (ListViewColumn E)) (n : ℕ) → columns ≡ c ∷ others → HaveTitle (string_bytes c.title) (take n others) → BeginsAnother (string_bytes c.title) (drop n others) → titles columns ≡ title_over (take (1 + n) columns) ∷ titles (drop (1 + n) columns)
split_titles {E} columns c others n is alike another =
    let one : suc n ≡ 1 + n = omega arith in
    subst (λ (k : ℕ). titles columns ≡ title_over (take k columns) ∷ titles (drop k columns)) one
    (subst (λ (cs : List (ListViewColumn E)). titles cs ≡ title_over (take (suc n) cs) ∷ titles (drop (suc n) cs)) (sym is)
    (ap (λ (ds : List (ListViewColumn E)). titles (c ∷ ds)) (sym (take-append-drop n others))
    ∙ together (string_bytes c.title) c (take n others) (drop n others) refl (recursion_from_All (λ d. string_bytes d.title ≡ string_bytes c.title) (take n others) alike) another))

-- ---- titles one after the other

-- one more was written: what is written and what is left stay the same
pub one_taken : (between : List ℕ) (f : Title → List ℕ) (bytes mid new : List ℕ) (t : Title) (ts us : List Title) → us ≡ t ∷ ts → mid ≡ bytes ++ between → new ≡ mid ++ f t → new ++ each_after between (map f ts) ≡ bytes ++ each_after between (map f us)
one_taken between f bytes mid new t ts us is line title =
    ap (λ (bs : List ℕ). bs ++ each_after between (map f ts)) (title ∙ ap (λ (bs : List ℕ). bs ++ f t) line ∙ append_assoc bytes between (f t))
    ∙ append_assoc bytes (between ++ f t) (each_after between (map f ts))
    ∙ ap (λ (vs : List Title). bytes ++ each_after between (map f vs)) (sym is)

-- a number that is tested to be zero is
pub zero_of : (n : ℕ) → true ≡ (n == 0) → n ≡ 0
zero_of n e = grind (arith, nat_tests)

-- all were written
pub all_taken : {E : Type 0} (table : CompoundStyle) (code : ℕ) (line : StyledChar) (f : Title → List ℕ) (old pushed new : List ℕ) (t : Title) (ts us : List Title) (rest : List (ListViewColumn E)) → line ≡ styled_char table code → us ≡ t ∷ ts → pushed ≡ old ++ f t → length rest ≡ 0 → new ++ each_after (styled_char_bytes line) (map f (titles rest)) ≡ pushed ++ each_after (styled_char_bytes line) (map f ts) → new ≡ old ++ separated (border table code) (map f us)
all_taken table code line f old pushed new t ts us (c ∷ cs) is_line is first none all = absurd (omega arith)
all_taken table code line f old pushed new t ts us [] is_line is first none all =
    sym (append-nil new)
    ∙ all
    ∙ ap (λ (bs : List ℕ). bs ++ each_after (styled_char_bytes line) (map f ts)) first
    ∙ append_assoc old (f t) (each_after (styled_char_bytes line) (map f ts))
    ∙ ap (λ (vs : List Title). old ++ separated (styled_char_bytes line) (map f vs)) (sym is)
    ∙ ap (λ (l : StyledChar). old ++ separated (styled_char_bytes l) (map f us)) is_line
