-- A block of html as leaves.
use Rattle.std.proofs.Common.{◌≡◌, ℕ, zero, suc, ◌+◌, ◌-◌, ◌<◌, ◌≤◌, ◌⊎◌, inl, inr, ⊎_elim, Bool, true, false, cond, eqb, List, [], ◌∷◌, ◌++◌, length, map, take, drop, get_or, refl, sym, ap, subst, ◌∙◌, arith, append_assoc}
use Rattle.std.specs.Borrow.{Bor}
use Rattle.std.proofs.lemmas.List.{append-nil, length-append, map-append, take-append-drop}
use Rattle.std.proofs.lemmas.Bool.{eqb-true}
use Rattle.std.proofs.Math.Seq.{take-append_seam}
use Rattle.markdown_pieces.proofs.TailLemmas.{by_cond}
use Rattle.markdown_html_text.specs.HtmlLeaves.{begins_leaf, markup_more, with_leaf, leaves_from, html_leaves}

-- bytes that belong to what was read last go on with the leaf
pub leaves_skip : (begun : List ℕ) (skip : ℕ) (bs : List ℕ) → leaves_from begun skip bs ≡ leaves_from (begun ++ take skip bs) 0 (drop skip bs)
unfolding leaves_from
leaves_skip begun zero bs = let nothing : begun ++ [] ≡ begun = append-nil begun in ap (λ (l : List ℕ). leaves_from l 0 bs) (sym nothing)
leaves_skip begun (suc skip) [] = let nothing : begun ++ [] ≡ begun = append-nil begun in ap (λ (l : List ℕ). l ∷ []) (sym nothing)
leaves_skip begun (suc skip) (b ∷ bs) = leaves_skip (begun ++ b ∷ []) skip bs ∙ ap (λ (l : List ℕ). leaves_from l 0 (drop skip bs)) (append_assoc begun (b ∷ []) (take skip bs))

-- the texts of leaves
abbrev pub texts_of : List (Bor (List ℕ)) → List (List ℕ)
texts_of leaves = map (λ leaf. leaf.now) leaves

-- The leaves of a text that are done, and what the last one has so far: these bytes of those that it began with. The rest is still to be read.
pub record AreLeaves (text : List ℕ) (done : List (List ℕ)) (begun rest : List ℕ) : Type 0 where
  pub leaf : List ℕ
  pub cut : begun ≡ leaf ++ rest
  pub same : done ++ leaves_from leaf 0 rest ≡ html_leaves text

-- before any byte is read
pub leaves_begin : (text : List ℕ) → AreLeaves text [] text text
leaves_begin text = record { leaf = []; cut = refl; same = refl }

-- so much of the leaf is read
leaf_is : (text : List ℕ) (done : List (List ℕ)) (begun rest : List ℕ) (h : AreLeaves text done begun rest) → length h.leaf ≡ length begun - length rest
leaf_is text done begun rest h =
    let all : length begun ≡ length h.leaf + length rest = ap length h.cut ∙ length-append h.leaf rest in
    omega (arith, all)

leaf_taken : (text : List ℕ) (done : List (List ℕ)) (begun rest : List ℕ) (h : AreLeaves text done begun rest) → take (length begun - length rest) begun ≡ h.leaf
leaf_taken text done begun rest h =
    ap (λ (n : ℕ). take n begun) (sym (leaf_is text done begun rest h)) ∙ ap (take (length h.leaf)) h.cut ∙ take-append_seam h.leaf rest

no_leaf : (leaf : List ℕ) (leaves : List (List ℕ)) → length leaf < 1 → with_leaf leaf leaves ≡ leaves
no_leaf [] leaves none = refl
no_leaf (b ∷ bs) leaves none = absurd (omega arith)

one_leaf : (leaf : List ℕ) (leaves : List (List ℕ)) → 0 < length leaf → with_leaf leaf leaves ≡ leaf ∷ leaves
one_leaf leaf leaves some =
    by_cond (λ (l : List (List ℕ)). l ≡ leaf ∷ leaves) (eqb (length leaf) 0) leaves (leaf ∷ leaves) (λ h. let none : length leaf ≡ 0 = eqb-true (length leaf) 0 h in absurd (omega (arith, none, some))) (λ h. refl)

nothing_before : (leaf : List ℕ) (b : ℕ) → length leaf < 1 → b ∷ [] ≡ leaf ++ b ∷ []
nothing_before [] b none = refl
nothing_before (c ∷ cs) b none = absurd (omega arith)

-- a byte that begins no leaf goes on with the one that is there, and so does one in front of all
goes_on : (leaf : List ℕ) (b : ℕ) (bs : List ℕ) → (length leaf < 1) ⊎ (begins_leaf b bs ≡ false) → leaves_from (leaf ++ b ∷ []) (markup_more b bs) bs ≡ leaves_from leaf 0 (b ∷ bs)
unfolding leaves_from
goes_on leaf b bs h =
    let more : ℕ = markup_more b bs in
    let first : List (List ℕ) = with_leaf leaf (leaves_from (b ∷ []) more bs) in
    let second : List (List ℕ) = leaves_from (leaf ++ b ∷ []) more bs in
    let alike : length leaf < 1 → first ≡ second = λ none. no_leaf leaf (leaves_from (b ∷ []) more bs) none ∙ ap (λ (l : List ℕ). leaves_from l more bs) (nothing_before leaf b none) in
    ⊎_elim (λ none. by_both (begins_leaf b bs) first second (alike none)) (λ plain. sym (ap (λ (t : Bool). cond t first second) plain)) h
  where
    by_both : (t : Bool) (x y : List (List ℕ)) → x ≡ y → y ≡ cond t x y
    by_both true x y e = sym e
    by_both false x y e = refl

-- a byte more, and what belongs to it
pub leaf_on : (text : List ℕ) (done : List (List ℕ)) (begun rest next : List ℕ) → AreLeaves text done begun rest → 1 ≤ length rest → next ≡ drop 1 rest
    → (length begun - length rest < 1) ⊎ (begins_leaf (get_or rest 0 0) next ≡ false) → AreLeaves text done begun (drop (markup_more (get_or rest 0 0) next) next)
leaf_on text done begun [] next h some is plain = absurd (omega arith)
leaf_on text done begun (b ∷ bs) next h some is plain =
    let few : length h.leaf ≡ length begun - suc (length bs) = leaf_is text done begun (b ∷ bs) h in
    let less : length begun - suc (length bs) < 1 → length h.leaf < 1 = λ l. omega (arith, few, l) in
    let on : (length h.leaf < 1) ⊎ (begins_leaf b bs ≡ false) = ⊎_elim (λ l. inl (less l)) (λ e. inr (ap (begins_leaf b) (sym is) ∙ e)) plain in
    subst (λ (l : List ℕ). AreLeaves text done begun (drop (markup_more b l) l)) (sym is) (byte_on text done begun b bs h on)
  where
    byte_on : (text : List ℕ) (done : List (List ℕ)) (begun : List ℕ) (b : ℕ) (bs : List ℕ) (h : AreLeaves text done begun (b ∷ bs)) → (length h.leaf < 1) ⊎ (begins_leaf b bs ≡ false)
        → AreLeaves text done begun (drop (markup_more b bs) bs)
    byte_on text done begun b bs h on =
        let more : ℕ = markup_more b bs in
        let joined : (h.leaf ++ b ∷ []) ++ take more bs ≡ h.leaf ++ b ∷ take more bs = append_assoc h.leaf (b ∷ []) (take more bs) in
        record {
          leaf = h.leaf ++ b ∷ take more bs;
          cut = h.cut ∙ ap (λ (l : List ℕ). h.leaf ++ b ∷ l) (sym (take-append-drop more bs)) ∙ sym (append_assoc h.leaf (b ∷ take more bs) (drop more bs));
          same = ap (λ (l : List ℕ). done ++ leaves_from l 0 (drop more bs)) (sym joined) ∙ ap (λ (ls : List (List ℕ)). done ++ ls) (sym (leaves_skip (h.leaf ++ b ∷ []) more bs))
              ∙ ap (λ (ls : List (List ℕ)). done ++ ls) (goes_on h.leaf b bs on) ∙ h.same;
        }

-- a byte that begins another leaf ends the one that is there
begun_anew : (leaf : List ℕ) (b : ℕ) (bs : List ℕ) → 0 < length leaf → begins_leaf b bs ≡ true → leaf ∷ leaves_from (b ∷ []) (markup_more b bs) bs ≡ leaves_from leaf 0 (b ∷ bs)
unfolding leaves_from
begun_anew leaf b bs some begins =
    let more : ℕ = markup_more b bs in
    sym (one_leaf leaf (leaves_from (b ∷ []) more bs) some)
    ∙ sym (ap (λ (t : Bool). cond t (with_leaf leaf (leaves_from (b ∷ []) more bs)) (leaves_from (leaf ++ b ∷ []) more bs)) begins)

-- a byte that begins another leaf, and what belongs to it
pub leaf_more : (text : List ℕ) (done all : List (List ℕ)) (begun rest next : List ℕ) → AreLeaves text done begun rest → 1 ≤ length rest → next ≡ drop 1 rest
    → 0 < length begun - length rest → begins_leaf (get_or rest 0 0) next ≡ true → all ≡ done ++ take (length begun - length rest) begun ∷ []
    → AreLeaves text all rest (drop (markup_more (get_or rest 0 0) next) next)
leaf_more text done all begun [] next h some is many begins pushed = absurd (omega arith)
leaf_more text done all begun (b ∷ bs) next h some is many begins pushed =
    let few : length h.leaf ≡ length begun - suc (length bs) = leaf_is text done begun (b ∷ bs) h in
    let filled : all ≡ done ++ h.leaf ∷ [] = pushed ∙ ap (λ (l : List ℕ). done ++ l ∷ []) (leaf_taken text done begun (b ∷ bs) h) in
    subst (λ (l : List ℕ). AreLeaves text all (b ∷ bs) (drop (markup_more b l) l)) (sym is)
    (byte_more text done all begun b bs h (omega (arith, few, many)) (ap (begins_leaf b) (sym is) ∙ begins) filled)
  where
    byte_more : (text : List ℕ) (done all : List (List ℕ)) (begun : List ℕ) (b : ℕ) (bs : List ℕ) (h : AreLeaves text done begun (b ∷ bs)) → 0 < length h.leaf → begins_leaf b bs ≡ true
        → all ≡ done ++ h.leaf ∷ [] → AreLeaves text all (b ∷ bs) (drop (markup_more b bs) bs)
    byte_more text done all begun b bs h some begins filled =
        let more : ℕ = markup_more b bs in
        let rest : List (List ℕ) = leaves_from (b ∷ take more bs) 0 (drop more bs) in
        record {
          leaf = b ∷ take more bs;
          cut = ap (λ (l : List ℕ). b ∷ l) (sym (take-append-drop more bs));
          same = ap (λ (ls : List (List ℕ)). ls ++ rest) filled ∙ append_assoc done (h.leaf ∷ []) rest
              ∙ ap (λ (ls : List (List ℕ)). done ++ h.leaf ∷ ls) (sym (leaves_skip (b ∷ []) more bs))
              ∙ ap (λ (ls : List (List ℕ)). done ++ ls) (begun_anew h.leaf b bs some begins) ∙ h.same;
        }

-- where no byte is left, the last leaf ends
pub leaves_end : (text : List ℕ) (done all : List (List ℕ)) (begun rest : List ℕ) → AreLeaves text done begun rest → length rest < 1 → all ≡ done ++ begun ∷ [] → all ≡ html_leaves text
unfolding leaves_from
leaves_end text done all begun [] h none pushed =
    let whole : begun ≡ h.leaf = h.cut ∙ append-nil h.leaf in
    pushed ∙ ap (λ (l : List ℕ). done ++ l ∷ []) whole ∙ h.same
leaves_end text done all begun (b ∷ bs) h none pushed = absurd (omega arith)

-- the texts with one leaf more
pub texts_push : (leaves all : List (Bor (List ℕ))) (leaf : Bor (List ℕ)) → all ≡ leaves ++ leaf ∷ [] → texts_of all ≡ texts_of leaves ++ leaf.now ∷ []
texts_push leaves all leaf e = ap (λ (ls : List (Bor (List ℕ))). texts_of ls) e ∙ map-append (λ (leaf : Bor (List ℕ)). leaf.now) leaves (leaf ∷ [])
