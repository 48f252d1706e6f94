-- Raw html ends with a sign >.
use Rattle.std.proofs.Common.{◌≡◌, ℕ, true, false, eqb, ◌&&◌, List, [], ◌∷◌, length, take, drop, refl, sym, ◌∙◌, Option, Some, None, codes, nat_eq}
use Rattle.std.specs.Char.{is_ascii_alphabetic}
use Rattle.std.specs.Cmp.Lexicographic.{pointwise}
use Rattle.std.proofs.lemmas.Bool.{eqb-true, and_parts}
use Rattle.markdown_marks.specs.Bytes.{first}
use Rattle.markdown_marks.specs.Html.{next_place, is_after}
use Rattle.markdown_marks.specs.declared.tags.Place.{Place}
use Rattle.markdown_marks.specs.declared.tags.Place.TheVariants.{Name, CloseName}
use Rattle.markdown_spans.specs.Code.{spaced}
use Rattle.markdown_html.specs.Starts.{begins}
use Rattle.markdown_spans.specs.Needles.{after_first}
use Rattle.markdown_spans.specs.Tags.{is_nowhere, closes, after_tag, tag_end}
use Rattle.markdown_spans.specs.Html.{after_comment, other_end, html_end}
use Rattle.markdown_pieces.proofs.TailLemmas.{by_cond, EndsBy, ends_cons, ends_here, ends_then, tail_from, Gives, gives_none, gives_some, else_gives}

-- ---- tags

after_tag_ends : (place : Place) (bytes : List ℕ) → Gives (EndsBy 62 bytes) (after_tag place bytes)
unfolding after_tag
after_tag_ends place [] = gives_none (EndsBy 62 [])
after_tag_ends place (b ∷ bs) =
    let P : Option (List ℕ) → Type 0 = Gives (EndsBy 62 (b ∷ bs)) in
    let next : Place = next_place place (spaced b) in
    by_cond P (closes b next) (Some bs) _ (λ h. let both = and_parts (eqb b 62) (is_after next) h in gives_some (EndsBy 62 (b ∷ bs)) bs (ends_here 62 b bs (eqb-true b 62 both.0)))
    (λ h. by_cond P (is_nowhere next) None _ (λ k. gives_none (EndsBy 62 (b ∷ bs))) (λ k a e. ends_cons 62 b bs a (after_tag_ends next bs a e)))

tag_ends : (bytes : List ℕ) → Gives (EndsBy 62 bytes) (tag_end bytes)
tag_ends [] = gives_none (EndsBy 62 [])
tag_ends (b ∷ bs) =
    let P : Option (List ℕ) → Type 0 = Gives (EndsBy 62 (b ∷ bs)) in
    by_cond P (is_ascii_alphabetic b) (after_tag Name bs) _ (λ h a e. ends_cons 62 b bs a (after_tag_ends Name bs a e))
    (λ h. by_cond P (eqb b 47 && is_ascii_alphabetic (first bs)) (after_tag CloseName bs) None (λ k a e. ends_cons 62 b bs a (after_tag_ends CloseName bs a e)) (λ k. gives_none (EndsBy 62 (b ∷ bs))))

-- ---- bytes that are found

-- the last of some bytes
abbrev pub IsEnd : ℕ → List ℕ → Type 0
IsEnd b [] = ⊥
IsEnd b (n ∷ []) = n ≡ b
IsEnd b (n ∷ m ∷ ns) = IsEnd b (m ∷ ns)

-- these bytes are in front, and the last of them is this one
front_ends : (b : ℕ) (ns : List ℕ) (bs : List ℕ) → IsEnd b ns → pointwise nat_eq ns (take (length ns) bs) ≡ true → EndsBy b bs (drop (length ns) bs)
front_ends b [] bs end h = absurd end
front_ends b (n ∷ ns) [] end h = absurd (no h)
  where
    no : false ≡ true → ⊥
    no e = cc
front_ends b (n ∷ []) (c ∷ cs) end h = let both = and_parts (nat_eq n c) true h in ends_here b c cs (sym (eqb-true n c both.0) ∙ end)
front_ends b (n ∷ m ∷ ns) (c ∷ cs) end h =
    let both = and_parts (nat_eq n c) (pointwise nat_eq (m ∷ ns) (take (length (m ∷ ns)) cs)) h in ends_cons b c cs (drop (length (m ∷ ns)) cs) (front_ends b (m ∷ ns) cs end both.1)

-- what follows such bytes is behind this one
pub found_ends : (b : ℕ) (needle text : List ℕ) → IsEnd b needle → Gives (EndsBy b text) (after_first needle text)
unfolding after_first
found_ends b needle [] end = gives_none (EndsBy b [])
found_ends b needle (c ∷ cs) end =
    by_cond (Gives (EndsBy b (c ∷ cs))) (begins (c ∷ cs) needle) (Some (drop (length needle) (c ∷ cs))) (after_first needle cs)
    (λ h. gives_some (EndsBy b (c ∷ cs)) (drop (length needle) (c ∷ cs)) (front_ends b needle (c ∷ cs) end h)) (λ h a e. ends_cons b c cs a (found_ends b needle cs end a e))

comment_ends : (text : List ℕ) → Gives (EndsBy 62 text) (after_comment text)
comment_ends text =
    let P : Option (List ℕ) → Type 0 = Gives (EndsBy 62 text) in
    by_cond P (begins text (codes ">")) (Some (drop 1 text)) _ (λ h. gives_some (EndsBy 62 text) (drop 1 text) (front_ends 62 (codes ">") text refl h))
    (λ h. by_cond P (begins text (codes "->")) (Some (drop 2 text)) (after_first (codes "-->") text)
    (λ k. gives_some (EndsBy 62 text) (drop 2 text) (front_ends 62 (codes "->") text refl k)) (λ k. found_ends 62 (codes "-->") text refl))

-- behind so many bytes
behind : (k : ℕ) (bytes : List ℕ) (o : Option (List ℕ)) → Gives (EndsBy 62 (drop k bytes)) o → Gives (EndsBy 62 bytes) o
behind k bytes o g a e = ends_then 62 bytes (drop k bytes) a (tail_from k bytes) (g a e)

other_ends : (bytes : List ℕ) → Gives (EndsBy 62 bytes) (other_end bytes)
other_ends bytes =
    let P : Option (List ℕ) → Type 0 = Gives (EndsBy 62 bytes) in
    by_cond P (begins bytes (codes "!--")) (after_comment (drop 3 bytes)) _ (λ h. behind 3 bytes (after_comment (drop 3 bytes)) (comment_ends (drop 3 bytes)))
    (λ h1. by_cond P (begins bytes (codes "?")) (after_first (codes "?>") (drop 1 bytes)) _ (λ h. behind 1 bytes (after_first (codes "?>") (drop 1 bytes)) (found_ends 62 (codes "?>") (drop 1 bytes) refl))
    (λ h2. by_cond P (begins bytes (codes "![CDATA[")) (after_first (codes "]]>") (drop 8 bytes)) _ (λ h. behind 8 bytes (after_first (codes "]]>") (drop 8 bytes)) (found_ends 62 (codes "]]>") (drop 8 bytes) refl))
    (λ h3. by_cond P (begins bytes (codes "!") && is_ascii_alphabetic (first (drop 1 bytes))) (after_first (codes ">") (drop 1 bytes)) None
    (λ h. behind 1 bytes (after_first (codes ">") (drop 1 bytes)) (found_ends 62 (codes ">") (drop 1 bytes) refl)) (λ h. gives_none (EndsBy 62 bytes)))))

-- raw html ends with a sign >
pub html_ends : (bytes : List ℕ) → Gives (EndsBy 62 bytes) (html_end bytes)
html_ends bytes = else_gives (EndsBy 62 bytes) (tag_end bytes) (other_end bytes) (tag_ends bytes) (other_ends bytes)
