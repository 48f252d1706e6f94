-- What tags have to do with pieces, one piece after another.
use Rattle.std.proofs.Common.{◌≡◌, ℕ, suc, ◌+◌, ◌<◌, ◌≤◌, List, [], ◌∷◌, ◌++◌, length, drop, get_or, map, refl, sym, ap, ◌∙◌, arith, append_assoc, Bool}
use Rattle.std.proofs.lemmas.List.{drop_more, drop_all, append-nil}
use Rattle.markdown_pieces.specs.declared.pieces.Piece.{Piece}
use Rattle.markdown_inlines.specs.declared.links.Over.{Over}
use Rattle.markdown_inlines.specs.declared.tags.Tags.{Tags}
use Rattle.markdown_inlines.specs.Links.{links_in, overs_of}
use Rattle.markdown_inlines.specs.Tags.{no_tags, after_piece, tagged_over, tagged_from}
use Rattle.markdown_inlines.specs.Inlines.{all_over}
use Rattle.markdown_inlines.proofs.LinkLemmas.{overs_length}

tagged_cons : (index number : ℕ) (t : Tags) (p : Piece) (ps : List Piece) (o : Over) (os : List Over)
    → tagged_from index number t (p ∷ ps) (o ∷ os) ≡ tagged_over index p.kind t o ∷ tagged_from (index + 1) (number + links_in p.kind) (after_piece number p.kind o t) ps os
unfolding tagged_from
tagged_cons index number t p ps o os = refl

tagged_next : (i number : ℕ) (t : Tags) (ps : List Piece) (os : List Over) (dp : Piece) (dv : Over) → i < length ps → i < length os
    → tagged_from i number t (drop i ps) (drop i os)
    ≡ tagged_over i (get_or ps i dp).kind t (get_or os i dv)
    ∷ tagged_from (i + 1) (number + links_in (get_or ps i dp).kind) (after_piece number (get_or ps i dp).kind (get_or os i dv) t) (drop (i + 1) ps) (drop (i + 1) os)
tagged_next i number t ps os dp dv hp ho =
    ap (λ (l : List Piece). tagged_from i number t l (drop i os)) (drop_more ps i dp hp)
    ∙ ap (λ (l : List Over). tagged_from i number t (get_or ps i dp ∷ drop (i + 1) ps) l) (drop_more os i dv ho)
    ∙ tagged_cons i number t (get_or ps i dp) (drop (i + 1) ps) (get_or os i dv) (drop (i + 1) os)

-- what is said of a piece joins what is said so far, and all stays the same
pub tagged_step : (i number more : ℕ) (t after : Tags) (ps : List Piece) (os : List Over) (dp : Piece) (dv o : Over) (done now all : List Over) → i < length ps → i < length os
    → o ≡ tagged_over i (get_or ps i dp).kind t (get_or os i dv) → more ≡ number + links_in (get_or ps i dp).kind → after ≡ after_piece number (get_or ps i dp).kind (get_or os i dv) t
    → now ≡ done ++ o ∷ [] → done ++ tagged_from i number t (drop i ps) (drop i os) ≡ all → now ++ tagged_from (i + 1) more after (drop (i + 1) ps) (drop (i + 1) os) ≡ all
tagged_step i number more t after ps os dp dv o done now all hp ho said counted opened is h =
    let behind : List Piece = drop (i + 1) ps in
    let others : List Over = drop (i + 1) os in
    let one : Over = tagged_over i (get_or ps i dp).kind t (get_or os i dv) in
    let many : ℕ = number + links_in (get_or ps i dp).kind in
    ap (λ (l : List Over). l ++ tagged_from (i + 1) more after behind others) is ∙ append_assoc done (o ∷ []) (tagged_from (i + 1) more after behind others)
    ∙ ap (λ (x : Over). done ++ (x ∷ tagged_from (i + 1) more after behind others)) said
    ∙ ap (λ k. done ++ (one ∷ tagged_from (i + 1) k after behind others)) counted
    ∙ ap (λ (a : Tags). done ++ (one ∷ tagged_from (i + 1) many a behind others)) opened
    ∙ ap (λ (l : List Over). done ++ l) (sym (tagged_next i number t ps os dp dv hp ho)) ∙ h

-- past the last piece all is said
pub tagged_end : (i number : ℕ) (t : Tags) (ps : List Piece) (os now all : List Over) → length ps ≤ i → now ++ tagged_from i number t (drop i ps) os ≡ all → now ≡ all
unfolding tagged_from
tagged_end i number t ps os now all over h = sym (append-nil now) ∙ ap (λ (l : List Piece). now ++ tagged_from i number t l os) (sym (drop_all i ps over)) ∙ h

-- it is said once of each
pub tagged_length : (i number : ℕ) (t : Tags) (ps : List Piece) (os : List Over) → length os ≡ length ps → length (tagged_from i number t ps os) ≡ length ps
unfolding tagged_from
tagged_length i number t [] os e = refl
tagged_length i number t (p ∷ ps) [] e = absurd (omega (arith, e))
tagged_length i number t (p ∷ ps) (o ∷ os) e = ap suc (tagged_length (i + 1) (number + links_in p.kind) (after_piece number p.kind o t) ps os (omega (arith, e)))

pub all_length : (ps : List Piece) → length (all_over ps) ≡ length ps
all_length ps = tagged_length 0 0 no_tags ps (overs_of ps) (overs_length 0 0 ps)

-- ---- what tags don't change

-- whether a link or an image begins at each piece
abbrev pub opens_of : Over → Bool
opens_of o = o.opens

-- whether an image with nothing between its brackets ends at it
abbrev pub silent_of : Over → Bool
silent_of o = o.silent

pub opens_stay : (i number : ℕ) (t : Tags) (ps : List Piece) (os : List Over) → length os ≡ length ps → map opens_of (tagged_from i number t ps os) ≡ map opens_of os
unfolding tagged_from
opens_stay i number t [] [] e = refl
opens_stay i number t [] (o ∷ os) e = absurd (omega (arith, e))
opens_stay i number t (p ∷ ps) [] e = absurd (omega (arith, e))
opens_stay i number t (p ∷ ps) (o ∷ os) e = ap (λ (l : List Bool). o.opens ∷ l) (opens_stay (i + 1) (number + links_in p.kind) (after_piece number p.kind o t) ps os (omega (arith, e)))

pub silent_stays : (i number : ℕ) (t : Tags) (ps : List Piece) (os : List Over) → length os ≡ length ps → map silent_of (tagged_from i number t ps os) ≡ map silent_of os
unfolding tagged_from
silent_stays i number t [] [] e = refl
silent_stays i number t [] (o ∷ os) e = absurd (omega (arith, e))
silent_stays i number t (p ∷ ps) [] e = absurd (omega (arith, e))
silent_stays i number t (p ∷ ps) (o ∷ os) e = ap (λ (l : List Bool). o.silent ∷ l) (silent_stays (i + 1) (number + links_in p.kind) (after_piece number p.kind o t) ps os (omega (arith, e)))
