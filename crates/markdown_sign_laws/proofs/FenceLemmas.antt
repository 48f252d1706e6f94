-- A fence begins and closes with its signs.
use Rattle.std.proofs.Common.{◌≡◌, ◌⊎◌, inl, inr, ℕ, zero, suc, ◌<◌, ◌≤◌, Bool, true, false, cond, not, nat_le, nat_lt, ◌||◌, ◌&&◌, ◌==◌, List, [], ◌∷◌, ◌++◌, drop, replicate, Some, None, refl, sym, ap, subst, ◌∙◌, arith}
use Rattle.std.proofs.lemmas.Bool.{and_from, and_parts, eqb-true, le-leb, le-ltb, leb-true, lt-ltb, ltb-false}
use Rattle.std.specs.List.{list_any}
use Rattle.markdown_marks.specs.Bytes.{count_in_front, first, is_blank, is_run_alone}
use Rattle.markdown_marks.specs.Marks.{fence_of, fence_start}
use Rattle.markdown_marks.specs.Remaining.{columns_in_front, take_columns, whole}
use Rattle.markdown_marks.specs.declared.marks.Fence.{Fence}
use Rattle.markdown_blocks.specs.Leaves.{closes_fence}
use Rattle.markdown_sign_laws.specs.Fences.{ClosesCode, ClosingIsSaid, FencesAreSaid, IsFence}
use Rattle.markdown_sign_laws.specs.Words.{are_blanks, begins_with, is_space_or_tab}
use Rattle.markdown_sign_laws.proofs.FrontLemmas.{Front, columns_of, few, front, many, taken_of}
use Rattle.markdown_sign_laws.proofs.RunLemmas.{apart_stops, begins, blanks_apart, counted, left_behind, not_none, run, same_some}

-- ---- what closes code

-- at least so many of one sign, and blanks
pub record IsRunAlone (sign length : ℕ) (bytes : List ℕ) : Type 0 where
  pub count : ℕ
  pub enough : length ≤ count
  pub behind : List ℕ
  pub blank : are_blanks behind ≡ true
  pub whole : bytes ≡ replicate count sign ++ behind

pub alone_said : (sign length : ℕ) (bytes : List ℕ) → is_run_alone sign length bytes ≡ true → IsRunAlone sign length bytes
unfolding is_run_alone is_blank
alone_said sign length bytes h =
    let n = count_in_front sign bytes in
    let r = run sign bytes in
    let both = and_parts (nat_le length n) (are_blanks (drop n bytes)) h in
    record { count = n; enough = leb-true length n both.0; behind = r.rest; blank = ap are_blanks (sym r.left) ∙ both.1; whole = r.whole }

pub alone_found : (sign length count : ℕ) (behind : List ℕ) → is_space_or_tab sign ≡ false → length ≤ count → are_blanks behind ≡ true → is_run_alone sign length (replicate count sign ++ behind) ≡ true
unfolding is_run_alone is_blank
alone_found sign length count behind other enough blank =
    let bytes = replicate count sign ++ behind in
    ap (λ (n : ℕ). nat_le length n && are_blanks (drop n bytes)) (counted sign count behind (apart_stops sign behind other (blanks_apart behind blank)))
    ∙ and_from (nat_le length count) (are_blanks (drop count bytes)) (le-leb length count enough) (ap are_blanks (left_behind sign count behind) ∙ blank)

not_four : (n : ℕ) → n ≡ 4 → nat_lt n 4 ≡ true → ⊥
not_four n e h = let no : false ≡ true = sym (ap (λ (k : ℕ). nat_lt k 4) e) ∙ h in absurd (cc)

closes_by : (sign length : ℕ) (line : List ℕ) → nat_lt (columns_in_front 4 (whole line)) 4 ≡ true → is_run_alone sign length (take_columns 4 (whole line)).bytes ≡ true → Front line → ClosesCode sign length line
closes_by sign length line less h (many e) = absurd (not_four (columns_in_front 4 (whole line)) e less)
closes_by sign length line less h (few indent bytes below e stops) =
    let taken = ap (λ (xs : List ℕ). (take_columns 4 (whole xs)).bytes) e ∙ taken_of indent bytes below stops in
    let a = alone_said sign length bytes (ap (is_run_alone sign length) (sym taken) ∙ h) in
    record { indent = indent; few = below; count = a.count; enough = a.enough; behind = a.behind; blank = a.blank; whole = e ∙ ap (λ (xs : List ℕ). replicate indent 32 ++ xs) a.whole }

said_closing : (sign length : ℕ) (line : List ℕ) → closes_fence sign length (whole line) ≡ true → ClosesCode sign length line
said_closing sign length line h =
    let both = and_parts (nat_lt (columns_in_front 4 (whole line)) 4) (is_run_alone sign length (take_columns 4 (whole line)).bytes) h in closes_by sign length line both.0 both.1 (front line)

signs_begin : (sign count : ℕ) (behind : List ℕ) → is_space_or_tab sign ≡ false → 0 < count → begins is_space_or_tab (replicate count sign ++ behind) ≡ false
signs_begin sign zero behind other some = absurd (omega (arith, some))
signs_begin sign (suc count) behind other some = other

closes_at : (sign length indent count : ℕ) (behind : List ℕ) → is_space_or_tab sign ≡ false → 0 < length → indent < 4 → length ≤ count → are_blanks behind ≡ true
    → closes_fence sign length (whole (replicate indent 32 ++ (replicate count sign ++ behind))) ≡ true
closes_at sign length indent count behind other some below enough blank =
    let bytes = replicate count sign ++ behind in
    let line = replicate indent 32 ++ bytes in
    let stops = signs_begin sign count behind other (omega (arith, some, enough)) in
    and_from (nat_lt (columns_in_front 4 (whole line)) 4) (is_run_alone sign length (take_columns 4 (whole line)).bytes)
    (ap (λ (n : ℕ). nat_lt n 4) (columns_of indent bytes below stops) ∙ lt-ltb indent 4 below)
    (ap (is_run_alone sign length) (taken_of indent bytes below stops) ∙ alone_found sign length count behind other enough blank)

-- a line closes code exactly where it is said to
pub closing_said : ClosingIsSaid
closing_said sign length line other some = (
  said_closing sign length line,
  λ h. ap (λ (xs : List ℕ). closes_fence sign length (whole xs)) h.whole ∙ closes_at sign length h.indent h.count h.behind other some h.few h.enough h.blank,
)

-- ---- what begins code

fence_parts : (p q r any : Bool) → (not (p || q) || r || (p && any)) ≡ false → ((p ≡ true) × (any ≡ false) ⊎ ((p ≡ false) × (q ≡ true))) × (r ≡ false)
fence_parts true q false false h = (inl (refl, refl), refl)
fence_parts true q true any h = let no : true ≡ false = h in absurd (cc)
fence_parts true q false true h = let no : true ≡ false = h in absurd (cc)
fence_parts false true false any h = (inr (refl, refl), refl)
fence_parts false true true any h = let no : true ≡ false = h in absurd (cc)
fence_parts false false r any h = let no : true ≡ false = h in absurd (cc)

-- the sign of a fence, and what may stand behind it
abbrev OfSign : ℕ → List ℕ → Type 0
OfSign sign info = ((sign ≡ 96) × (list_any (λ b. b == 96) info ≡ false)) ⊎ ((sign ≡ 126) × (begins_with 126 info ≡ false))

of_sign : (s : ℕ) (left rest : List ℕ) → left ≡ rest → begins_with s rest ≡ false
    → (((s == 96) ≡ true) × (list_any (λ b. b == 96) left ≡ false)) ⊎ (((s == 96) ≡ false) × ((s == 126) ≡ true)) → OfSign s rest
of_sign s left rest e stops (inl h) = inl (eqb-true s 96 h.0, ap (λ (xs : List ℕ). list_any (λ b. b == 96) xs) (sym e) ∙ h.1)
of_sign s left rest e stops (inr h) = let is = eqb-true s 126 h.1 in inr (is, ap (λ (k : ℕ). begins_with k rest) (sym is) ∙ stops)

said_fence : (sign length : ℕ) (bytes : List ℕ) → fence_start bytes ≡ Some (record { sign = sign; length = length }) → IsFence sign length bytes
unfolding fence_start
said_fence sign length bytes h =
    let s = first bytes in
    let n = count_in_front s bytes in
    let r = run s bytes in
    let here : Fence = record { sign = s; length = n } in
    let any = list_any (λ b. b == 96) (drop n bytes) in
    let found = not_none (not ((s == 96) || (s == 126)) || nat_lt n 3 || ((s == 96) && any)) (Some here) (record { sign = sign; length = length }) h in
    let parts = fence_parts (s == 96) (s == 126) (nat_lt n 3) any found.0 in
    subst (λ (f : Fence). IsFence f.sign f.length bytes) (same_some here (record { sign = sign; length = length }) found.1) (record {
      enough = ltb-false n 3 parts.1;
      info = r.rest;
      of_sign = of_sign s (drop n bytes) r.rest r.left r.stops parts.0;
      whole = r.whole;
    })

none_begins : (info : List ℕ) → list_any (λ b. b == 96) info ≡ false → begins_with 96 info ≡ false
none_begins [] h = refl
none_begins (b ∷ bs) h = first_no (b == 96) (list_any (λ b. b == 96) bs) h
  where
    first_no : (p q : Bool) → (p || q) ≡ false → p ≡ false
    first_no true q k = k
    first_no false q k = refl

some_fence : (fence : Fence) (p q r any : Bool) → (p || q) ≡ true → r ≡ false → (p && any) ≡ false → cond (not (p || q) || r || (p && any)) None (Some fence) ≡ Some fence
some_fence fence p q r any e f g = rw e (rw f (rw g refl))

first_sign : (sign length : ℕ) (info : List ℕ) → 3 ≤ length → first (replicate length sign ++ info) ≡ sign
first_sign sign zero info enough = absurd (omega (arith, enough))
first_sign sign (suc length) info enough = refl

begun_by : (sign length : ℕ) (info : List ℕ) → 3 ≤ length → begins_with sign info ≡ false → ((sign == 96) || (sign == 126)) ≡ true → ((sign == 96) && list_any (λ b. b == 96) info) ≡ false
    → fence_start (replicate length sign ++ info) ≡ Some (record { sign = sign; length = length })
unfolding fence_start
begun_by sign length info enough stops known clear =
    let bytes = replicate length sign ++ info in
    ap (λ (s : ℕ). fence_of s (count_in_front s bytes) bytes) (first_sign sign length info enough)
    ∙ ap (λ (n : ℕ). fence_of sign n bytes) (counted sign length info stops)
    ∙ some_fence (record { sign = sign; length = length }) (sign == 96) (sign == 126) (nat_lt length 3) (list_any (λ b. b == 96) (drop length bytes)) known (le-ltb length 3 enough)
    (ap (λ (xs : List ℕ). (sign == 96) && list_any (λ b. b == 96) xs) (left_behind sign length info) ∙ clear)

begun_at : (sign length : ℕ) (info : List ℕ) → 3 ≤ length → OfSign sign info → fence_start (replicate length sign ++ info) ≡ Some (record { sign = sign; length = length })
begun_at sign length info enough (inl h) =
    subst (λ (s : ℕ). fence_start (replicate length s ++ info) ≡ Some (record { sign = s; length = length })) (sym h.0) (begun_by 96 length info enough (none_begins info h.1) refl h.1)
begun_at sign length info enough (inr h) =
    subst (λ (s : ℕ). fence_start (replicate length s ++ info) ≡ Some (record { sign = s; length = length })) (sym h.0) (begun_by 126 length info enough h.1 refl refl)

-- bytes begin code exactly where they are said to
pub fences_said : FencesAreSaid
fences_said sign length bytes = (said_fence sign length bytes, λ h. ap fence_start h.whole ∙ begun_at sign length h.info h.enough h.of_sign)
