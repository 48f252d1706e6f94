-- What is walked: the innermost of what is open is the last of a vector, and the first of what is walked; then the parts, one after the other.
use Rattle.std.proofs.Common.{◌≡◌, ℕ, ◌+◌, ◌<◌, ◌≤◌, List, [], ◌∷◌, ◌++◌, map, length, drop, get_or, reverse, Some, sym, ap, ◌∙◌}
use Rattle.std.proofs.lemmas.List.{drop_all, drop_more, reverse-append}
use Rattle.markdown_leaves.specs.Parts.{PartContent, part_of}
use Rattle.markdown_leaves.specs.Told.{parts_of}
use Rattle.markdown_leaves.specs.declared.parts.Part.{Part}
use Rattle.markdown_events.specs.Walks.{Walking, all_ended, events_of, innermost, nothing_walked, part_told, parts_told}
use Rattle.markdown_events.specs.declared.events.Tag.{Tag}

pub one_more : (xs : List Tag) (tag : Tag) → reverse (xs ++ tag ∷ []) ≡ tag ∷ reverse xs
one_more xs tag = reverse-append xs (tag ∷ [])

pub last_first : (xs ys : List Tag) (tag : Tag) → ys ≡ xs ++ tag ∷ [] → reverse ys ≡ tag ∷ reverse xs
last_first xs ys tag e = ap reverse e ∙ one_more xs tag

pub last_innermost : (xs ys : List Tag) (tag : Tag) → ys ≡ xs ++ tag ∷ [] → Some tag ≡ innermost (reverse ys)
last_innermost xs ys tag e = sym (ap innermost (last_first xs ys tag e))

-- ---- the parts of a text

-- one part more
pub part_more : (ps : List Part) (i : ℕ) (part : Part) (w v : Walking) → i < length ps → part ≡ get_or ps i part → v ≡ part_told (part_of part) w
    → parts_told (map part_of (drop (i + 1) ps)) v ≡ parts_told (map part_of (drop i ps)) w
unfolding parts_told
part_more ps i part w v inside is told =
    let rest : List PartContent = map part_of (drop (i + 1) ps) in
    ap (parts_told rest) told
    ∙ ap (λ (p : Part). parts_told rest (part_told (part_of p) w)) is
    ∙ sym (ap (λ (qs : List Part). parts_told (map part_of qs) w) (drop_more ps i part inside))

parts_end : (ps : List Part) (i : ℕ) (w : Walking) → length ps ≤ i → parts_told (map part_of (drop i ps)) w ≡ w
unfolding parts_told
parts_end ps i w past = ap (λ (qs : List Part). parts_told (map part_of qs) w) (drop_all i ps past)

-- all of them
pub text_walked : (text : List ℕ) (parts ps : List Part) (i : ℕ) (w : Walking) → map part_of parts ≡ parts_of text → ps ≡ parts → length ps ≤ i
    → parts_told (map part_of (drop i ps)) w ≡ parts_told (map part_of ps) nothing_walked → all_ended w ≡ events_of text
unfolding events_of
text_walked text parts ps i w told same past h =
    ap all_ended
    (sym (parts_end ps i w past) ∙ h ∙ ap (λ (qs : List Part). parts_told (map part_of qs) nothing_walked) same ∙ ap (λ (cs : List PartContent). parts_told cs nothing_walked) told)
