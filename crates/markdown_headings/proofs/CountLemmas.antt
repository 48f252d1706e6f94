-- Names by counts of those before.
use Rattle.std.proofs.Common.{◌≡◌, ℕ, ◌+◌, ◌^◌, ◌<◌, ◌≤◌, Bool, true, false, cond, List, [], ◌∷◌, ◌++◌, length, map, take, drop, get_or, Option, Some, String, string_bytes, unwrap_or, refl, sym, ap, ◌∙◌, arith, append_assoc, append-nil}
use Rattle.std.specs.BTreeMap.{BTreeMap, Updates, get_by_text, is_at}
use Rattle.std.specs.Cmp.Lexicographic.{bytes_decides, slice_cmp}
use Rattle.std.specs.List.{sum_by}
use Rattle.std.specs.Map.{lookup}
use Rattle.std.specs.Ordering.{nat_cmp}
use Rattle.std.specs.Str.{bytes_eq}
use Rattle.std.specs.String.{string_cmp}
use Rattle.std.proofs.lemmas.List.{drop_all, drop_more, length-map, length-take, map-append, take_more}
use Rattle.std.proofs.lemmas.List.Sums.{count_by-le-length, sum_by-append, sum_by-cons}
use Rattle.std.proofs.lemmas.Map.Text.{btree_map_updates_text}
use Rattle.markdown_anchors.specs.Anchors.{name_bytes, names_after, numbered, times}
use Rattle.markdown_headings.specs.Counts.{IsCountedOnce, counted, next}
use Rattle.markdown_headings.specs.Headings.{TitleSaid}
use Rattle.markdown_headings.specs.Named.{names_of}

-- the text of a heading without what is said of pictures
abbrev text_of : TitleSaid → List ℕ
text_of title = title.words

-- the names of headings, without numbers
abbrev pub plain_names : List TitleSaid → List (List ℕ)
plain_names titles = map (λ (title : TitleSaid). name_bytes title.words) titles

-- The names so far, and those of the titles that are left, are all. The map has how many of the titles so far have each name.
pub record NamedSoFar {Y : Type 0} (titles : List TitleSaid) (i : ℕ) (names : List (List ℕ)) (counts : BTreeMap (String Y) ℕ) : Type 0 where
  pub names_are : names ++ names_after (plain_names (take i titles)) (map text_of (drop i titles)) ≡ names_of titles
  pub counts_are : (name : List ℕ) → counted counts name ≡ times name (plain_names (take i titles))

plus_zero : (n : ℕ) → n + 0 ≡ n
plus_zero n = omega arith

-- ---- one name more in a map

chosen : (t : Bool) (more : ℕ) (o : Option ℕ) → unwrap_or (cond t (Some more) o) 0 ≡ cond t more (unwrap_or o 0)
chosen true more o = refl
chosen false more o = refl

module _ {Y : Type 0} where
  -- a name was put into the map with the next count
  pub counted_once : (text first : List ℕ) (key : String Y) (count more : ℕ) (m n : BTreeMap (String Y) ℕ) → string_bytes key ≡ name_bytes text → first ≡ string_bytes key → count ≡ counted m first → more ≡ next count
      → Updates string_cmp m n key (Some more) → IsCountedOnce m n (name_bytes text)
  counted_once text first key count more m n own first_is counted_is more_is up = λ other.
      ap (λ (o : Option ℕ). unwrap_or o 0) (btree_map_updates_text (string_bytes key) m n (Some more) up other)
      ∙ chosen (bytes_eq (string_bytes key) other) more (get_by_text m other)
      ∙ ap (λ (l : List ℕ). cond (bytes_eq l other) more (counted m other)) own
      ∙ ap (λ (k : ℕ). cond (bytes_eq (name_bytes text) other) k (counted m other)) (more_is ∙ ap next (counted_is ∙ ap (counted m) (first_is ∙ own)))

  -- a name was put behind the others, with the number by the map
  pub name_pushed : (text own first second last : List ℕ) (count : ℕ) (m : BTreeMap (String Y) ℕ) (names names' : List (List ℕ)) → own ≡ name_bytes text → first ≡ own → count ≡ counted m first → second ≡ own → last ≡ numbered second count
      → names' ≡ names ++ last ∷ [] → names' ≡ names ++ numbered (name_bytes text) (counted m (name_bytes text)) ∷ []
  name_pushed text own first second last count m names names' own_is first_is counted_is second_is made more =
      more ∙ ap (λ (l : List ℕ). names ++ l ∷ []) (made ∙ ap (λ (n : List ℕ). numbered n count) (second_is ∙ own_is) ∙ ap (numbered (name_bytes text)) (counted_is ∙ ap (counted m) (first_is ∙ own_is)))

-- ---- names among names

-- one name more
times_push : (name own : List ℕ) (names : List (List ℕ)) → times name (names ++ own ∷ []) ≡ times name names + cond (bytes_eq own name) 1 0
times_push name own names =
    let one : List ℕ → ℕ = λ other. cond (bytes_eq other name) 1 0 in
    sum_by-append one names (own ∷ []) ∙ ap (λ (n : ℕ). sum_by one names + n) (sum_by-cons one own [] ∙ plus_zero (one own))

more_by : (name own : List ℕ) (names : List (List ℕ)) (more old : ℕ) (t : Bool) → bytes_eq own name ≡ t → more ≡ times own names + 1 → old ≡ times name names → cond t more old ≡ times name names + cond t 1 0
more_by name own names more old true same is was = is ∙ ap (λ (n : List ℕ). times n names + 1) ((bytes_decides own name).0 same)
more_by name own names more old false differs is was = was ∙ sym (plus_zero (times name names))

next_is : (n : ℕ) → n + 1 < 2 ^ 64 → next n ≡ n + 1
next_is n small = omega (arith, small)

few_named : (name : List ℕ) (titles : List TitleSaid) (i : ℕ) → times name (plain_names (take i titles)) ≤ i
few_named name titles i =
    omega (arith, count_by-le-length (λ (other : List ℕ). bytes_eq other name) (plain_names (take i titles)), length-map (take i titles) (λ (title : TitleSaid). name_bytes title.words), length-take i titles)

module _ {Y : Type 0} where
  -- before the first title
  pub none_named : (titles : List TitleSaid) (names : List (List ℕ)) (counts : BTreeMap (String Y) ℕ) → names ≡ [] → counts.entries ≡ [] → NamedSoFar titles 0 names counts
  none_named titles names counts none empty = record {
    names_are = ap (λ (l : List (List ℕ)). l ++ names_of titles) none;
    counts_are = λ name. ap (λ (es : List (String Y × ℕ)). unwrap_or (lookup (is_at (λ key. slice_cmp nat_cmp name (string_bytes key))) es) 0) empty;
  }

  -- past the last title
  pub all_named : (titles : List TitleSaid) (i : ℕ) (names : List (List ℕ)) (counts : BTreeMap (String Y) ℕ) → length titles ≤ i → NamedSoFar titles i names counts → names ≡ names_of titles
  all_named titles i names counts past h =
      sym (append-nil names) ∙ sym (ap (λ (l : List TitleSaid). names ++ names_after (plain_names (take i titles)) (map text_of l)) (drop_all i titles past)) ∙ h.names_are

  -- one title more
  pub one_named : (titles : List TitleSaid) (i : ℕ) (title : TitleSaid) (names names' : List (List ℕ)) (counts counts' : BTreeMap (String Y) ℕ) → i < length titles → length titles < 2 ^ 64 → get_or titles i title ≡ title
      → names' ≡ names ++ numbered (name_bytes title.words) (counted counts (name_bytes title.words)) ∷ [] → IsCountedOnce counts counts' (name_bytes title.words) → NamedSoFar titles i names counts → NamedSoFar titles (i + 1) names' counts'
  one_named titles i title names names' counts counts' below few here pushed once h =
      let own : List ℕ = name_bytes title.words in
      let before : List (List ℕ) = plain_names (take i titles) in
      let rest : List (List ℕ) = map text_of (drop (i + 1) titles) in
      let taken : take (i + 1) titles ≡ take i titles ++ title ∷ [] = take_more titles i title below ∙ ap (λ (t : TitleSaid). take i titles ++ t ∷ []) here in
      let before_is : plain_names (take (i + 1) titles) ≡ before ++ own ∷ [] = ap plain_names taken ∙ map-append (λ (t : TitleSaid). name_bytes t.words) (take i titles) (title ∷ []) in
      let left : drop i titles ≡ title ∷ drop (i + 1) titles = drop_more titles i title below ∙ ap (λ (t : TitleSaid). t ∷ drop (i + 1) titles) here in
      let small : counted counts own + 1 < 2 ^ 64 = omega (arith, h.counts_are own, few_named own titles i, below, few) in
      let more : next (counted counts own) ≡ times own before + 1 = next_is (counted counts own) small ∙ ap (λ (n : ℕ). n + 1) (h.counts_are own) in
      record {
        names_are =
            ap (λ (l : List (List ℕ)). l ++ names_after (plain_names (take (i + 1) titles)) rest) pushed
            ∙ append_assoc names (numbered own (counted counts own) ∷ []) (names_after (plain_names (take (i + 1) titles)) rest)
            ∙ ap (λ (b : List (List ℕ)). names ++ numbered own (counted counts own) ∷ names_after b rest) before_is
            ∙ ap (λ (n : ℕ). names ++ numbered own n ∷ names_after (before ++ own ∷ []) rest) (h.counts_are own)
            ∙ sym (ap (λ (l : List TitleSaid). names ++ names_after before (map text_of l)) left)
            ∙ h.names_are;
        counts_are = λ name.
            once name ∙ more_by name own before (next (counted counts own)) (counted counts name) (bytes_eq own name) refl more (h.counts_are name)
            ∙ sym (times_push name own before) ∙ sym (ap (times name) before_is);
      }
