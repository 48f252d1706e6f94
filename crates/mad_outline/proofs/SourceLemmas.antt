-- Lines that are made of others one after the other.
use Rattle.std.proofs.Common.{◌≡◌, ℕ, ◌+◌, List, [], ◌∷◌, ◌++◌, length, map, sym, ap, ◌∙◌, append_assoc, append-nil, length-append}
use Rattle.std.proofs.lemmas.List.{length-map}
use Rattle.mad_md.specs.Lines.{LineContent, content_of}
use Rattle.mad_md.specs.declared.line.Line.{Line}
use Rattle.mad_outline.specs.LinkLists.{items_by}

-- so many lines more
pub longer : (a b : List Line) (s : List LineContent) → map content_of b ≡ map content_of a ++ s → length b ≡ length a + length s
longer a b s e = sym (length-map b content_of) ∙ (ap length e ∙ (length-append (map content_of a) s ∙ ap (λ (n : ℕ). n + length s) (length-map a content_of)))

-- what is said of one more
pub item_more : {A : Type 0} (said : ℕ → A → List LineContent) (done new : List Line) (whole : List LineContent) (x : A) (xs : List A)
    → map content_of done ++ items_by said (length done) (x ∷ xs) ≡ whole → map content_of new ≡ map content_of done ++ said (length done) x → map content_of new ++ items_by said (length new) xs ≡ whole
item_more said done new whole x xs h e =
    let s = said (length done) x in
    ap (λ (n : ℕ). map content_of new ++ items_by said n xs) (longer done new s e)
    ∙ (ap (λ (l : List LineContent). l ++ items_by said (length done + length s) xs) e ∙ (append_assoc (map content_of done) s (items_by said (length done + length s) xs) ∙ h))

-- what is said of all
pub items_all : {A : Type 0} (said : ℕ → A → List LineContent) (done : List Line) (whole : List LineContent) (xs : List A)
    → map content_of done ++ items_by said (length done) xs ≡ whole → xs ≡ [] → map content_of done ≡ whole
items_all {A = A} said done whole xs h none = sym (append-nil (map content_of done)) ∙ (ap (λ (l : List A). map content_of done ++ items_by said (length done) l) (sym none) ∙ h)
