-- Labels that words name by their shape, read byte by byte.
use Rattle.std.proofs.Common.{◌≡◌, ℕ, suc, ◌-◌, ◌<◌, ◌==◌, ◌&&◌, ◌||◌, Bool, true, false, cond, not, List, [], ◌∷◌, ◌++◌, length, get_or, take, drop, map, Option, Some, None, if◌then◌else◌, refl, sym, ap, ◌∙◌, arith}
use Rattle.std.specs.Prelude.{reverse}
use Rattle.std.specs.Char.{is_ascii_digit}
use Rattle.std.specs.List.{list_all, list_any}
use Rattle.std.specs.Str.{bytes_eq}
use Rattle.std.proofs.lemmas.List.{reverse-append}
use Rattle.std.proofs.Math.Seq.{take-length}
use Rattle.markdown_marks.specs.Bytes.{first}
use Rattle.markdown_brackets.specs.Labels.{normal}
use Rattle.markdown_brackets.specs.Labels.{with_label as label_added}
use Rattle.markdown_brackets.specs.Targets.{label_len}
use Rattle.markdown_lines.specs.Links.{Defined}
use Rattle.markdown_stream.specs.Openings.{opening_of, openings_of}
use Rattle.markdown_stream.specs.Provisional.{Opening, opening_at, inside, label_by, named, labels_from, labels_named, may_name, with_label, with_labels}
use Rattle.markdown_stream.specs.declared.provisional.Bracket.{Bracket}

-- ---- definitions

-- labels, and then others
pub labels_joined : (defined : Defined) (xs ys : List (List ℕ)) → with_labels defined (xs ++ ys) ≡ with_labels (with_labels defined xs) ys
unfolding with_labels
labels_joined defined [] ys = refl
labels_joined defined (x ∷ xs) ys = labels_joined (with_label defined (normal x)) xs ys

-- these labels are defined, each with the address at its place
abbrev pub defined_with : List (List ℕ) → List (List ℕ) → Defined
defined_with labels addresses = record { labels = labels; addresses = addresses }

new_by : (t : Bool) (labels new addresses now : List (List ℕ)) (label : List ℕ) → true ≡ not t → new ≡ cond t labels (labels ++ label ∷ []) → now ≡ addresses ++ [] ∷ []
    → defined_with new now ≡ (if t then defined_with labels addresses else defined_with (labels ++ label ∷ []) (addresses ++ [] ∷ []))
new_by true labels new addresses now label fresh new_is now_is = absurd (no fresh)
  where
    no : true ≡ false → ⊥
    no e = cc
new_by false labels new addresses now label fresh new_is now_is = ap (λ (l : List (List ℕ)). defined_with l now) new_is ∙ ap (defined_with (labels ++ label ∷ [])) now_is

old_by : (t : Bool) (labels new addresses : List (List ℕ)) (label : List ℕ) → false ≡ not t → new ≡ cond t labels (labels ++ label ∷ [])
    → defined_with new addresses ≡ (if t then defined_with labels addresses else defined_with (labels ++ label ∷ []) (addresses ++ [] ∷ []))
old_by true labels new addresses label there new_is = ap (λ (l : List (List ℕ)). defined_with l addresses) new_is
old_by false labels new addresses label there new_is = absurd (no there)
  where
    no : false ≡ true → ⊥
    no e = cc

-- a label that is new leads nowhere
pub label_new : (labels new : List (List ℕ)) (label : List ℕ) (addresses now : List (List ℕ)) → true ≡ not (list_any (bytes_eq label) labels) → new ≡ label_added labels label → now ≡ addresses ++ [] ∷ []
    → defined_with new now ≡ with_label (defined_with labels addresses) (Some label)
label_new labels new label addresses now fresh new_is now_is = new_by (list_any (bytes_eq label) labels) labels new addresses now label fresh new_is now_is

-- one that was defined before changes nothing
pub label_old : (labels new : List (List ℕ)) (label : List ℕ) (addresses : List (List ℕ)) → false ≡ not (list_any (bytes_eq label) labels) → new ≡ label_added labels label
    → defined_with new addresses ≡ with_label (defined_with labels addresses) (Some label)
label_old labels new label addresses there new_is = old_by (list_any (bytes_eq label) labels) labels new addresses label there new_is

-- ---- brackets

-- one more bracket is open
one_more : (bs : List Bracket) (b : Bracket) → openings_of (bs ++ b ∷ []) ≡ opening_of b ∷ openings_of bs
one_more bs b = ap (map opening_of) (reverse-append bs (b ∷ []))

-- the nearest
pub nearest : (old new : List Bracket) (b : Bracket) → old ≡ new ++ b ∷ [] → openings_of old ≡ opening_of b ∷ openings_of new
nearest old new b e = ap openings_of e ∙ one_more new b

-- without one that is open nothing is named
pub none_open : (defined : Defined) (bs : List Bracket) (rest : List ℕ) → length bs ≡ 0 → defined ≡ with_labels defined (named (openings_of bs) rest)
unfolding with_labels
none_open defined [] rest none = refl
none_open defined (b ∷ bs) rest none = absurd (omega (arith, none))

-- ---- bytes

-- a byte behind a backslash says nothing
escaped_read : (opens : List Opening) (before b : ℕ) (bs : List ℕ) → labels_from opens b false bs ≡ labels_from opens before true (b ∷ bs)
unfolding labels_from
escaped_read opens before b bs = refl

-- a bracket opens
open_read : (opens : List Opening) (before b : ℕ) (bs : List ℕ) → b ≡ 91 → labels_from (opening_at before bs ∷ opens) b (b == 92) bs ≡ labels_from opens before false (b ∷ bs)
unfolding labels_from
open_read opens before b bs e = ap (λ k. labels_from (opening_at before bs ∷ opens) k (k == 92) bs) e ∙ sym (ap (λ k. labels_from opens before false (k ∷ bs)) e)

-- one closes
close_read : (opens : List Opening) (before b : ℕ) (bs : List ℕ) → b ≡ 93 → named opens bs ++ labels_from (drop 1 opens) b (b == 92) bs ≡ labels_from opens before false (b ∷ bs)
unfolding labels_from
close_read opens before b bs e = ap (λ k. named opens bs ++ labels_from (drop 1 opens) k (k == 92) bs) e ∙ sym (ap (λ k. labels_from opens before false (k ∷ bs)) e)

by_tests : (opens closes : Bool) (opened closed on : List (List ℕ)) → opens ≡ false → closes ≡ false → on ≡ (if opens then opened else if closes then closed else on)
by_tests opens closes opened closed on not_open not_close = sym (ap (λ t. if t then opened else if closes then closed else on) not_open ∙ ap (λ t. if t then closed else on) not_close)

-- another byte
pub other_read : (opens : List Opening) (before b : ℕ) (bs : List ℕ) → (b == 91) ≡ false → (b == 93) ≡ false → labels_from opens b (b == 92) bs ≡ labels_from opens before false (b ∷ bs)
unfolding labels_from
other_read opens before b bs not_open not_close =
    by_tests (b == 91) (b == 93) (labels_from (opening_at before bs ∷ opens) b false bs) (named opens bs ++ labels_from (drop 1 opens) b false bs) (labels_from opens b (b == 92) bs) not_open not_close

-- a closing bracket adds the label that it names
pub closed : (old new : Defined) (opens now : List Opening) (before b : ℕ) (bs : List ℕ) → b ≡ 93 → new ≡ with_labels old (named opens bs) → now ≡ drop 1 opens
    → with_labels new (labels_from now b (b == 92) bs) ≡ with_labels old (labels_from opens before false (b ∷ bs))
closed old new opens now before b bs e new_is now_is =
    ap (λ (d : Defined). with_labels d (labels_from now b (b == 92) bs)) new_is
    ∙ ap (λ (os : List Opening). with_labels (with_labels old (named opens bs)) (labels_from os b (b == 92) bs)) now_is
    ∙ sym (labels_joined old (named opens bs) (labels_from (drop 1 opens) b (b == 92) bs)) ∙ ap (with_labels old) (close_read opens before b bs e)

-- an opening one opens
pub opened : (defined : Defined) (old new : List Bracket) (bracket : Bracket) (before b : ℕ) (bs : List ℕ) → b ≡ 91 → new ≡ old ++ bracket ∷ [] → opening_of bracket ≡ opening_at before bs
    → with_labels defined (labels_from (openings_of new) b (b == 92) bs) ≡ with_labels defined (labels_from (openings_of old) before false (b ∷ bs))
opened defined old new bracket before b bs e new_is is =
    ap (λ (os : List Opening). with_labels defined (labels_from os b (b == 92) bs)) (ap openings_of new_is ∙ one_more old bracket ∙ ap (λ (o : Opening). o ∷ openings_of old) is)
    ∙ ap (with_labels defined) (open_read (openings_of old) before b bs e)

-- ---- a text, byte by byte

-- its first byte, and the others
pub split_first : (rest : List ℕ) → 0 < length rest → rest ≡ get_or rest 0 0 ∷ take (length rest - 1) (drop 1 rest)
split_first [] some = absurd (omega (arith, some))
split_first (b ∷ bs) some =
    let less : length (b ∷ bs) - 1 ≡ length bs = omega arith in
    ap (λ (l : List ℕ). b ∷ l) (sym (ap (λ n. take n bs) less ∙ take-length bs))

-- a byte behind a backslash was read
pub escaped_on : (now old all : Defined) (opens os : List Opening) (on escaped : Bool) (before b : ℕ) (rest next : List ℕ) → now ≡ old → opens ≡ os → on ≡ false → escaped ≡ true → rest ≡ b ∷ next
    → with_labels old (labels_from os before escaped rest) ≡ all → with_labels now (labels_from opens b on next) ≡ all
escaped_on now old all opens os on escaped before b rest next now_is opens_is on_is escaped_is is held =
    ap (λ (d : Defined). with_labels d (labels_from opens b on next)) now_is
    ∙ ap (λ (l : List Opening). with_labels old (labels_from l b on next)) opens_is
    ∙ ap (λ t. with_labels old (labels_from os b t next)) on_is
    ∙ ap (with_labels old) (escaped_read os before b next)
    ∙ ap (λ t. with_labels old (labels_from os before t (b ∷ next))) (sym escaped_is)
    ∙ ap (λ (l : List ℕ). with_labels old (labels_from os before escaped l)) (sym is)
    ∙ held

-- another byte was read
pub read_on : (now read old all : Defined) (opens left os : List Opening) (on escaped : Bool) (before b : ℕ) (rest next : List ℕ) → now ≡ read → opens ≡ left → on ≡ (b == 92) → escaped ≡ false → rest ≡ b ∷ next
    → with_labels read (labels_from left b (b == 92) next) ≡ with_labels old (labels_from os before false (b ∷ next))
    → with_labels old (labels_from os before escaped rest) ≡ all → with_labels now (labels_from opens b on next) ≡ all
read_on now read old all opens left os on escaped before b rest next now_is opens_is on_is escaped_is is done held =
    ap (λ (d : Defined). with_labels d (labels_from opens b on next)) now_is
    ∙ ap (λ (l : List Opening). with_labels read (labels_from l b on next)) opens_is
    ∙ ap (λ t. with_labels read (labels_from left b t next)) on_is
    ∙ done
    ∙ ap (λ t. with_labels old (labels_from os before t (b ∷ next))) (sym escaped_is)
    ∙ ap (λ (l : List ℕ). with_labels old (labels_from os before escaped l)) (sym is)
    ∙ held

nothing_left : (defined : Defined) (opens : List Opening) (before : ℕ) (escaped : Bool) → with_labels defined (labels_from opens before escaped []) ≡ defined
unfolding labels_from with_labels
nothing_left defined opens before escaped = refl

-- all bytes were read
pub all_read : (defined all : Defined) (opens : List Opening) (before : ℕ) (escaped : Bool) (rest : List ℕ) → length rest < 1 → with_labels defined (labels_from opens before escaped rest) ≡ all → defined ≡ all
all_read defined all opens before escaped [] few held = sym (nothing_left defined opens before escaped) ∙ held
all_read defined all opens before escaped (b ∷ bs) few held = absurd (omega (arith, few))

-- ---- a text that names none

or_parts : (a b : Bool) → (a || b) ≡ false → (a ≡ false) × (b ≡ false)
or_parts true b h = absurd (no h)
  where
    no : true ≡ false → ⊥
    no e = cc
or_parts false b h = (refl, h)

no_bracket : (between rest : List ℕ) → (first rest == 91) ≡ false → label_by (if first rest == 91 then label_len (drop 1 rest) else None) between rest ≡ []
no_bracket between rest h =
    ap (λ t. label_by (if t then label_len (drop 1 rest) else None) between rest) h
    ∙ ap (λ t. if (if t && (first (drop 1 rest) == 93) then 2 else 0) == 2 then between ∷ [] else []) h

if_same : (t : Bool) (l : List (List ℕ)) → l ≡ [] → (if t then l else []) ≡ []
if_same true l h = h
if_same false l h = refl

none_by : (opens : List Opening) (rest : List ℕ) → (first rest == 91) ≡ false → named opens rest ≡ []
none_by [] rest h = refl
none_by (o ∷ os) rest h = if_same (o.free && not (list_all is_ascii_digit (inside o rest))) (label_by (if first rest == 91 then label_len (drop 1 rest) else None) (inside o rest) rest) (no_bracket (inside o rest) rest h)

nothing_closed : (closes follows : Bool) (here later : List (List ℕ)) → (closes && follows) ≡ false → (follows ≡ false → here ≡ []) → later ≡ [] → closes ≡ true → here ++ later ≡ []
nothing_closed true follows here later h none done is = ap (λ (l : List (List ℕ)). l ++ later) (none h) ∙ done
nothing_closed false follows here later h none done is = absurd (no is)
  where
    no : false ≡ true → ⊥
    no e = cc

nothing_read : (escaped opens closes : Bool) (plain opened closed on : List (List ℕ)) → plain ≡ [] → opened ≡ [] → (closes ≡ true → closed ≡ []) → on ≡ []
    → (if escaped then plain else if opens then opened else if closes then closed else on) ≡ []
nothing_read true opens closes plain opened closed on a b c d = a
nothing_read false true closes plain opened closed on a b c d = b
nothing_read false false true plain opened closed on a b c d = c refl
nothing_read false false false plain opened closed on a b c d = d

none_from : (text : List ℕ) (opens : List Opening) (before : ℕ) (escaped : Bool) → may_name text ≡ false → labels_from opens before escaped text ≡ []
unfolding labels_from may_name
none_from [] opens before escaped h = refl
none_from (b ∷ bs) opens before escaped h =
    let both = or_parts ((b == 93) && (first bs == 91)) (may_name bs) h in
    nothing_read escaped (b == 91) (b == 93) (labels_from opens b false bs) (labels_from (opening_at before bs ∷ opens) b false bs) (named opens bs ++ labels_from (drop 1 opens) b false bs) (labels_from opens b (b == 92) bs)
    (none_from bs opens b false both.1) (none_from bs (opening_at before bs ∷ opens) b false both.1)
    (nothing_closed (b == 93) (first bs == 91) (named opens bs) (labels_from (drop 1 opens) b false bs) both.0 (none_by opens bs) (none_from bs (drop 1 opens) b false both.1))
    (none_from bs opens b (b == 92) both.1)

-- without a closing bracket before an opening one no label is named
pub names_none : (defined : Defined) (text : List ℕ) → may_name text ≡ false → defined ≡ with_labels defined (labels_named text)
unfolding with_labels
names_none defined text h = sym (ap (with_labels defined) (none_from text [] 0 false h))
