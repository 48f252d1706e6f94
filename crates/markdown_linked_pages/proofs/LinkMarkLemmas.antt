-- Links before those of a section, counted on.
use Rattle.std.proofs.Common.{◌≡◌, ℕ, suc, ◌+◌, ◌<◌, ◌≤◌, Bool, true, false, cond, List, [], ◌∷◌, length, map, drop, get_or, refl, ap, sym, ◌∙◌, arith}
use Rattle.std.specs.Prelude.{nat_lt, slice_index_or}
use Rattle.std.proofs.lemmas.Bool.Decides.{nat_tests}
use Rattle.std.proofs.lemmas.List.{at_drop_more, drop-drop, drop_all}
use Rattle.mad_mark_runs.specs.declared.mark_runs.MarkRun.{MarkRun}
use Rattle.mad_sections.specs.Sections.{SectionContent}
use Rattle.markdown_reader.specs.Mapping.{LinkSaid}
use Rattle.markdown_reader.specs.SectionsSaid.{link_said}
use Rattle.markdown_reader.specs.declared.sections.Link.{Link}
use Rattle.markdown_linked_pages.specs.LinkedPages.{linked_from, links_before, numbered, with_link_marks}

-- so many links are passed: of each section from one on those before it are counted behind them
pub record ArePassed (links : List LinkSaid) (section passed : ℕ) : Type 0 where
  pub counted : (i : ℕ) → section ≤ i → links_before i links ≡ passed + links_before i (drop passed links)

-- none at first
pub none_passed : (links : List LinkSaid) → ArePassed links 0 0
none_passed links = record { counted = λ i h. omega arith }

before_by : (l : LinkSaid) (ls : List LinkSaid) (i j : ℕ) (t u : Bool) → nat_lt l.section j ≡ t → nat_lt l.section i ≡ u → j ≤ i → (links_before i ls ≡ links_before j ls + links_before i (drop (links_before j ls) ls))
    → cond u (links_before i ls + 1) 0 ≡ cond t (links_before j ls + 1) 0 + links_before i (drop (cond t (links_before j ls + 1) 0) (l ∷ ls))
before_by l ls i j true true a b le more =
    let n = links_before j ls in
    let step : drop (n + 1) (l ∷ ls) ≡ drop n ls = drop_behind n in
    omega (arith, more, ap (links_before i) step)
  where
    drop_behind : (n : ℕ) → drop (n + 1) (l ∷ ls) ≡ drop n ls
    drop_behind n = let up : n + 1 ≡ suc n = omega arith in ap (λ (m : ℕ). drop m (l ∷ ls)) up
before_by l ls i j true false a b le more = absurd (grind (arith, nat_tests, a, b, le))
before_by l ls i j false u a b le more = ap (λ (v : Bool). cond v (links_before i ls + 1) 0) (sym b) ∙ omega arith

-- those before a section are before each later one
before_later : (links : List LinkSaid) (i j : ℕ) → j ≤ i → links_before i links ≡ links_before j links + links_before i (drop (links_before j links) links)
before_later [] i j le = refl
before_later (l ∷ ls) i j le = before_by l ls i j (nat_lt l.section j) (nat_lt l.section i) refl refl le (before_later ls i j le)

-- those before the next section
pub passed_here : (links : List LinkSaid) (n p q : ℕ) → ArePassed links n p → q ≡ p + links_before n (drop p links) → q ≡ links_before n links
passed_here links n p q h is = is ∙ sym (h.counted n (omega arith))

-- so they are passed for those behind it
pub passed_on : (links : List LinkSaid) (n p q : ℕ) → ArePassed links n p → q ≡ p + links_before n (drop p links) → ArePassed links (n + 1) q
passed_on links n p q h is = record { counted = λ i le. later i (omega (arith, le)) }
  where
    later : (i : ℕ) → n ≤ i → links_before i links ≡ q + links_before i (drop q links)
    later i le =
        let m = links_before n (drop p links) in
        let count : p + m ≡ q = omega (arith, is) in
        let rest : drop m (drop p links) ≡ drop q links = drop-drop m p links ∙ ap (λ (k : ℕ). drop k links) count in
        omega (arith, h.counted i le, before_later (drop p links) i n le, ap (links_before i) rest, is)

-- the sections of a text behind the next one, which has the marks of its links
pub linked_step : (links : List LinkSaid) (marks : List (List MarkRun)) (n p : ℕ) (found made : List MarkRun) (left after : List SectionContent) (s shown : SectionContent) → left ≡ s ∷ after → found ≡ slice_index_or marks n [] → made ≡ numbered p found → p ≡ links_before n links
    → shown ≡ with_link_marks made s → linked_from links marks n left ≡ shown ∷ linked_from links marks (n + 1) after
linked_step links marks n p found made left after s shown joins found_is made_is before shown_is =
    ap (linked_from links marks n) joins
    ∙ ap (λ (x : SectionContent). x ∷ linked_from links marks (n + 1) after)
    (ap (λ (ms : List MarkRun). with_link_marks ms s) (ap (λ (k : ℕ). numbered k (slice_index_or marks n [])) (sym before) ∙ ap (numbered p) (sym found_is) ∙ sym made_is) ∙ sym shown_is)

-- ---- the loop that counts them

-- one more is passed
pub count_gone : (section : ℕ) (links : List Link) (i : ℕ) (d : Link) (all : ℕ) → i < length links → (get_or links i d).section < section
    → i + links_before section (map link_said (drop i links)) ≡ all → (i + 1) + links_before section (map link_said (drop (i + 1) links)) ≡ all
count_gone section links i d all h low before =
    let rest = links_before section (map link_said (drop (i + 1) links)) in
    let test : nat_lt (get_or links i d).section section ≡ true = grind (arith, nat_tests, low) in
    let one : links_before section (map link_said (drop i links)) ≡ rest + 1 =
    at_drop_more (λ (ls : List Link). links_before section (map link_said ls)) links i d h ∙ ap (λ (t : Bool). cond t (rest + 1) 0) test in
    omega (arith, one, before)

-- the next one is of the section, or of a later one
pub count_stops : (section : ℕ) (links : List Link) (i : ℕ) (d : Link) (all : ℕ) → i < length links → section ≤ (get_or links i d).section → i + links_before section (map link_said (drop i links)) ≡ all → i ≡ all
count_stops section links i d all h high before =
    let rest = links_before section (map link_said (drop (i + 1) links)) in
    let test : nat_lt (get_or links i d).section section ≡ false = grind (arith, nat_tests, high) in
    let none : links_before section (map link_said (drop i links)) ≡ 0 =
    at_drop_more (λ (ls : List Link). links_before section (map link_said ls)) links i d h ∙ ap (λ (t : Bool). cond t (rest + 1) 0) test in
    omega (arith, none, before)

-- there is none
pub count_ends : (section : ℕ) (links : List Link) (i all : ℕ) → length links ≤ i → i + links_before section (map link_said (drop i links)) ≡ all → i ≡ all
count_ends section links i all h before =
    let none : links_before section (map link_said (drop i links)) ≡ 0 = ap (λ (ls : List Link). links_before section (map link_said ls)) (drop_all i links h) in
    omega (arith, none, before)
