-- Markup of html ends where a text may be cut: behind a sign >, before a byte of ASCII, or with the text.
use Rattle.std.proofs.Common.{◌≡◌, ℕ, zero, suc, ◌+◌, ◌-◌, ◌<◌, ◌≤◌, ◌⊎◌, inl, inr, ⊎_elim, Bool, true, eqb, not, ◌&&◌, List, [], ◌∷◌, length, take, drop, get_or, refl, sym, ap, subst, ◌∙◌, arith, Option, Some, None, codes, nat_eq}
use Rattle.std.specs.Char.{is_ascii_alphabetic}
use Rattle.std.specs.Cmp.Lexicographic.{pointwise}
use Rattle.std.proofs.lemmas.Bool.{eqb-true, and_parts}
use Rattle.std.proofs.lemmas.List.{length-drop, get_or-drop, drop_all}
use Rattle.markdown_marks.specs.Bytes.{first}
use Rattle.markdown_marks.specs.Html.{next_place}
use Rattle.markdown_marks.specs.declared.tags.Place.{Place}
use Rattle.markdown_html.specs.Starts.{begins, without_slash}
use Rattle.markdown_spans.specs.Attributes.{is_tag_named}
use Rattle.markdown_spans.specs.Code.{spaced}
use Rattle.markdown_spans.specs.Needles.{after_first}
use Rattle.markdown_pieces.proofs.EndLemmas.{EndsWell}
use Rattle.markdown_pieces.proofs.HtmlEnds.{IsEnd, found_ends}
use Rattle.markdown_pieces.proofs.TailLemmas.{by_cond, EndsBy, ends_cons, ends_here, Gives}
use Rattle.markdown_html_text.specs.Markup.{or_end, behind, other_end, is_quoted, after_tag, place_of, closes, from_closing, is_tag, tag_end}

-- an end of a text that begins with a byte of ASCII, or with none
pub record BeginsSmall (text rest : List ℕ) : Type 0 where
  pub n : ℕ
  pub few : n ≤ length text
  pub is : drop n text ≡ rest
  pub small : get_or rest 0 0 < 128

-- what is left behind markup
abbrev pub IsLeft : List ℕ → List ℕ → Type 0
IsLeft text rest = EndsBy 62 text rest ⊎ BeginsSmall text rest

left_all : (text : List ℕ) → IsLeft text []
left_all text = inr (record { n = length text; few = omega arith; is = drop_all (length text) text (omega arith); small = omega arith })

left_here : (b : ℕ) (bs : List ℕ) → b < 128 → IsLeft (b ∷ bs) (b ∷ bs)
left_here b bs h = inr (record { n = 0; few = omega arith; is = refl; small = h })

small_cons : (b : ℕ) (text rest : List ℕ) → BeginsSmall text rest → BeginsSmall (b ∷ text) rest
small_cons b text rest t = record { n = suc t.n; few = omega (arith, t.few); is = t.is; small = t.small }

left_cons : (b : ℕ) (text rest : List ℕ) → IsLeft text rest → IsLeft (b ∷ text) rest
left_cons b text rest l = ⊎_elim (λ (e : EndsBy 62 text rest). inl (ends_cons 62 b text rest e)) (λ (s : BeginsSmall text rest). inr (small_cons b text rest s)) l

-- what is left of all but the first bytes is left of all
left_behind : (k : ℕ) (text rest : List ℕ) → IsLeft (drop k text) rest → IsLeft text rest
left_behind zero text rest l = l
left_behind (suc k) [] rest l = l
left_behind (suc k) (b ∷ bs) rest l = left_cons b bs rest (left_behind k bs rest l)

-- ---- tags

tag_left : (place : Place) (bytes : List ℕ) → IsLeft bytes (after_tag place bytes)
unfolding after_tag
tag_left place [] = left_all []
tag_left place (b ∷ bs) =
    by_cond (IsLeft (b ∷ bs)) (eqb b 62 && not (is_quoted place)) bs (after_tag (next_place place (spaced b)) bs)
    (λ h. let both = and_parts (eqb b 62) (not (is_quoted place)) h in inl (ends_here 62 b bs (eqb-true b 62 both.0)))
    (λ h. left_cons b bs (after_tag (next_place place (spaced b)) bs) (tag_left (next_place place (spaced b)) bs))

sign_first : (b : ℕ) (bs : List ℕ) → begins (b ∷ bs) (codes "</") ≡ true → b < 128
sign_first b bs h =
    let both = and_parts (nat_eq 60 b) (pointwise nat_eq (47 ∷ []) (take 1 bs)) h in
    let same : 60 ≡ b = eqb-true 60 b both.0 in omega (arith, same)

closing_left : (name bytes : List ℕ) → IsLeft bytes (from_closing name bytes)
unfolding from_closing
closing_left name [] = left_all []
closing_left name (b ∷ bs) =
    let sign : Bool = begins (b ∷ bs) (codes "</") in
    by_cond (IsLeft (b ∷ bs)) (closes name (b ∷ bs)) (b ∷ bs) (from_closing name bs)
    (λ h. let both = and_parts (sign && is_tag (drop 2 (b ∷ bs))) (is_tag_named name (drop 2 (b ∷ bs))) h in
    let front = and_parts sign (is_tag (drop 2 (b ∷ bs))) both.0 in left_here b bs (sign_first b bs front.0))
    (λ h. left_cons b bs (from_closing name bs) (closing_left name bs))

slash_left : (place : Place) (bytes : List ℕ) → IsLeft bytes (after_tag place (without_slash bytes))
slash_left place bytes =
    by_cond (λ (l : List ℕ). IsLeft bytes (after_tag place l)) (eqb (first bytes) 47) (drop 1 bytes) bytes (λ h. left_behind 1 bytes (after_tag place (drop 1 bytes)) (tag_left place (drop 1 bytes)))
    (λ h. tag_left place bytes)

-- of a tag
pub tag_end_left : (bytes : List ℕ) → IsLeft bytes (tag_end bytes)
tag_end_left bytes =
    by_cond (IsLeft bytes) (is_tag_named (codes "script") bytes) (from_closing (codes "script") bytes) _ (λ h. closing_left (codes "script") bytes)
    (λ h. by_cond (IsLeft bytes) (is_tag_named (codes "style") bytes) (from_closing (codes "style") bytes) (after_tag (place_of bytes) (without_slash bytes)) (λ k. closing_left (codes "style") bytes)
    (λ k. slash_left (place_of bytes) bytes))

-- ---- what isn't a tag

or_end_left : (text : List ℕ) (o : Option (List ℕ)) → Gives (EndsBy 62 text) o → IsLeft text (or_end o)
or_end_left text None g = left_all text
or_end_left text (Some rest) g = inl (g rest refl)

needle_left : (needle text : List ℕ) → IsEnd 62 needle → IsLeft text (behind needle text)
needle_left needle text end = or_end_left text (after_first needle text) (found_ends 62 needle text end)

-- what is found is left so
abbrev pub GivesLeft : List ℕ → Option (List ℕ) → Type 0
GivesLeft bytes o = (after : List ℕ) → o ≡ Some after → IsLeft bytes after

none_left : (bytes : List ℕ) → GivesLeft bytes None
none_left bytes after e = absurd (no e)
  where
    no : None ≡ Some after → ⊥
    no e = cc

some_left : (bytes found : List ℕ) → IsLeft bytes found → GivesLeft bytes (Some found)
some_left bytes found l after e = let same : found ≡ after = cc in subst (IsLeft bytes) same l

needle_behind : (k : ℕ) (needle bytes : List ℕ) → IsEnd 62 needle → GivesLeft bytes (Some (behind needle (drop k bytes)))
needle_behind k needle bytes end = some_left bytes (behind needle (drop k bytes)) (left_behind k bytes (behind needle (drop k bytes)) (needle_left needle (drop k bytes) end))

-- of comments and the like
pub other_left : (bytes : List ℕ) → GivesLeft bytes (other_end bytes)
other_left bytes =
    let P : Option (List ℕ) → Type 0 = GivesLeft bytes in
    by_cond P (begins bytes (codes "!--")) (Some (behind (codes "-->") (drop 3 bytes))) _ (λ h. needle_behind 3 (codes "-->") bytes refl)
    (λ h1. by_cond P (begins bytes (codes "?")) (Some (behind (codes "?>") (drop 1 bytes))) _ (λ h. needle_behind 1 (codes "?>") bytes refl)
    (λ h2. by_cond P (begins bytes (codes "![CDATA[")) (Some (behind (codes "]]>") (drop 8 bytes))) _ (λ h. needle_behind 8 (codes "]]>") bytes refl)
    (λ h3. by_cond P (begins bytes (codes "!") && is_ascii_alphabetic (first (drop 1 bytes))) (Some (behind (codes ">") (drop 1 bytes))) None (λ h. needle_behind 1 (codes ">") bytes refl)
    (λ h. none_left bytes))))

-- ---- so it is with the bytes of markup

by_sign : (b : ℕ) (bytes after : List ℕ) → EndsBy 62 bytes after → get_or (b ∷ bytes) (length bytes - length after) 0 < 128
by_sign b bytes after e =
    let left : length after ≡ length bytes - suc e.n = sym (ap length e.is) ∙ length-drop (suc e.n) bytes in
    let last : length bytes - length after ≡ suc e.n = omega (arith, left, e.few) in
    let byte : get_or (b ∷ bytes) (length bytes - length after) 0 ≡ 62 = ap (λ i. get_or (b ∷ bytes) i 0) last ∙ e.byte in omega (arith, byte)

by_next : (b : ℕ) (bytes after : List ℕ) → BeginsSmall bytes after → get_or (b ∷ bytes) (length bytes - length after + 1) 0 < 128
by_next b bytes after s =
    let left : length after ≡ length bytes - s.n = sym (ap length s.is) ∙ length-drop s.n bytes in
    let zero_more : s.n + 0 ≡ s.n = omega arith in
    let last : length bytes - length after + 1 ≡ suc s.n = omega (arith, left, s.few) in
    let byte : get_or (b ∷ bytes) (length bytes - length after + 1) 0 ≡ get_or after 0 0 =
    ap (λ i. get_or (b ∷ bytes) i 0) last ∙ ap (λ i. get_or bytes i 0) (sym zero_more) ∙ sym (get_or-drop s.n bytes 0 0) ∙ ap (λ (l : List ℕ). get_or l 0 0) s.is in
    omega (arith, byte, s.small)

-- markup behind a byte ends well
pub markup_ends : (b : ℕ) (bytes after : List ℕ) → IsLeft bytes after → EndsWell (b ∷ bytes) (length bytes - length after)
markup_ends b bytes after l = ⊎_elim (λ (e : EndsBy 62 bytes after). inl (by_sign b bytes after e)) (λ (s : BeginsSmall bytes after). inr (by_next b bytes after s)) l
