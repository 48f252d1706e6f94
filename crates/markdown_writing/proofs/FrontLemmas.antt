-- The lines of a quote and of an item that were written.
use Rattle.std.proofs.Common.{◌≡◌, ℕ, Bool, true, false, cond, not, ◌||◌, ◌&&◌, ◌==◌, List, [], ◌∷◌, ◌++◌, length, map, flat_map, refl, sym, ap, ◌∙◌, append_assoc}
use Rattle.std.proofs.lemmas.Bool.{and_parts}
use Rattle.std.proofs.lemmas.List.{map-append}
use Rattle.std.specs.List.{list_all}
use Rattle.markdown_writing.specs.Fronts.{fronted, itemized, quoted}
use Rattle.markdown_writing.specs.Pages.{ended}
use Rattle.markdown_writing.specs.Writable.{is_line, is_tab_or_end}

-- ---- lines with something in front

-- a line, with one thing in front where it is empty, or another
abbrev pub put_before : (empty full : List ℕ) → List ℕ → List ℕ
put_before empty full [] = empty
put_before empty full (b ∷ bs) = full ++ b ∷ bs

-- a line behind the sign of a quote
abbrev pub quoted_line : List ℕ → List ℕ
quoted_line [] = 62 ∷ []
quoted_line (b ∷ bs) = 62 ∷ 32 ∷ b ∷ bs

-- a further line of an item
abbrev pub indented_line : List ℕ → List ℕ
indented_line [] = []
indented_line (b ∷ bs) = 32 ∷ 32 ∷ b ∷ bs

-- the lines of an item
abbrev pub item_lines : List (List ℕ) → List (List ℕ)
item_lines [] = []
item_lines (line ∷ lines) = (45 ∷ 32 ∷ line) ∷ map indented_line lines

-- one more line is indented as the others are
pub more_indented : (one : List ℕ) (lines : List (List ℕ)) (line : List ℕ) → item_lines ((one ∷ lines) ++ line ∷ []) ≡ item_lines (one ∷ lines) ++ indented_line line ∷ []
more_indented one lines line = ap (λ (ls : List (List ℕ)). (45 ∷ 32 ∷ one) ∷ ls) (map-append indented_line lines (line ∷ []))

-- ---- they are lines

and_true : (p q : Bool) → p ≡ true → q ≡ true → (p && q) ≡ true
and_true true q f g = g
and_true false q f g = f

-- what holds of each line holds of it with that in front
pub all_fronted : (front : List ℕ → List ℕ) (lines : List (List ℕ)) → ((line : List ℕ) → is_line line ≡ true → is_line (front line) ≡ true) → list_all is_line lines ≡ true → list_all is_line (map front lines) ≡ true
all_fronted front [] on h = refl
all_fronted front (line ∷ lines) on h = let parts = and_parts (is_line line) (list_all is_line lines) h in and_true (is_line (front line)) (list_all is_line (map front lines)) (on line parts.0) (all_fronted front lines on parts.1)

pub quoted_is : (line : List ℕ) → is_line line ≡ true → is_line (quoted_line line) ≡ true
quoted_is [] h = refl
quoted_is (b ∷ bs) h = h

indented_is : (line : List ℕ) → is_line line ≡ true → is_line (indented_line line) ≡ true
indented_is [] h = refl
indented_is (b ∷ bs) h = h

pub items_are : (lines : List (List ℕ)) → list_all is_line lines ≡ true → list_all is_line (item_lines lines) ≡ true
items_are [] h = refl
items_are (line ∷ lines) h = let parts = and_parts (is_line line) (list_all is_line lines) h in and_true (is_line line) (list_all is_line (map indented_line lines)) parts.0 (all_fronted indented_line lines indented_is parts.1)

-- ---- a text of lines

-- no end of a line
pub no_end : (b : ℕ) → not (is_tab_or_end b) ≡ true → ((b == 10) ≡ false) × ((b == 13) ≡ false)
no_end b h = neither (b == 9) (b == 10) (b == 13) h
  where
    neither : (p q r : Bool) → not (p || q || r) ≡ true → (q ≡ false) × (r ≡ false)
    neither true q r k = let no : false ≡ true = k in absurd (cc)
    neither false true r k = let no : false ≡ true = k in absurd (cc)
    neither false false true k = let no : false ≡ true = k in absurd (cc)
    neither false false false k = (refl, refl)

-- what is behind the first byte of a line
line_begun : (empty full bs rest : List ℕ) → is_line bs ≡ true → fronted empty full false ((bs ++ 10 ∷ []) ++ rest) ≡ (bs ++ 10 ∷ []) ++ fronted empty full true rest
line_begun empty full [] rest h = refl
line_begun empty full (b ∷ bs) rest h =
    let parts = and_parts (not (is_tab_or_end b)) (is_line bs) h in
    ap (λ (t : Bool). b ∷ fronted empty full t ((bs ++ 10 ∷ []) ++ rest)) (no_end b parts.0).0 ∙ ap (λ (cs : List ℕ). b ∷ cs) (line_begun empty full bs rest parts.1)

line_fronted : (empty full line rest : List ℕ) → is_line line ≡ true → fronted empty full true (ended line ++ rest) ≡ ended (put_before empty full line) ++ fronted empty full true rest
line_fronted empty full [] rest h = sym (append_assoc empty (10 ∷ []) (fronted empty full true rest))
line_fronted empty full (b ∷ bs) rest h =
    let parts = and_parts (not (is_tab_or_end b)) (is_line bs) h in
    let others = fronted empty full true rest in
    ap (λ (t : Bool). cond t empty full ++ b ∷ fronted empty full t ((bs ++ 10 ∷ []) ++ rest)) (no_end b parts.0).0
    ∙ ap (λ (cs : List ℕ). full ++ b ∷ cs) (line_begun empty full bs rest parts.1)
    ∙ sym (append_assoc full (b ∷ (bs ++ 10 ∷ [])) others)
    ∙ ap (λ (cs : List ℕ). cs ++ others) (sym (append_assoc full (b ∷ bs) (10 ∷ [])))

lines_fronted : (empty full : List ℕ) (lines : List (List ℕ)) → list_all is_line lines ≡ true → fronted empty full true (flat_map ended lines) ≡ flat_map ended (map (put_before empty full) lines)
lines_fronted empty full [] h = refl
lines_fronted empty full (line ∷ lines) h =
    let parts = and_parts (is_line line) (list_all is_line lines) h in
    line_fronted empty full line (flat_map ended lines) parts.0 ∙ ap (λ (bs : List ℕ). ended (put_before empty full line) ++ bs) (lines_fronted empty full lines parts.1)

same_lines : (f g : List ℕ → List ℕ) (lines : List (List ℕ)) → ((line : List ℕ) → f line ≡ g line) → map f lines ≡ map g lines
same_lines f g [] e = refl
same_lines f g (line ∷ lines) e = ap (λ (l : List ℕ). l ∷ map f lines) (e line) ∙ ap (λ (ls : List (List ℕ)). g line ∷ ls) (same_lines f g lines e)

quoted_same : (line : List ℕ) → put_before (62 ∷ []) (62 ∷ 32 ∷ []) line ≡ quoted_line line
quoted_same [] = refl
quoted_same (b ∷ bs) = refl

indented_same : (line : List ℕ) → put_before [] (32 ∷ 32 ∷ []) line ≡ indented_line line
indented_same [] = refl
indented_same (b ∷ bs) = refl

-- a text of lines, each behind the sign of a quote
pub lines_quoted : (lines : List (List ℕ)) → list_all is_line lines ≡ true → quoted (flat_map ended lines) ≡ flat_map ended (map quoted_line lines)
lines_quoted lines h =
    lines_fronted (62 ∷ []) (62 ∷ 32 ∷ []) lines h ∙ ap (flat_map ended) (same_lines (put_before (62 ∷ []) (62 ∷ 32 ∷ [])) quoted_line lines quoted_same)

-- a text of lines as an item
pub lines_itemized : (lines : List (List ℕ)) → (length lines == 0) ≡ false → list_all is_line lines ≡ true → itemized (flat_map ended lines) ≡ flat_map ended (item_lines lines)
lines_itemized [] some h = let no : true ≡ false = some in absurd (cc)
lines_itemized (line ∷ lines) some h =
    let parts = and_parts (is_line line) (list_all is_line lines) h in
    ap (λ (bs : List ℕ). 45 ∷ 32 ∷ bs) (line_begun [] (32 ∷ 32 ∷ []) line (flat_map ended lines) parts.0)
    ∙ ap (λ (bs : List ℕ). 45 ∷ 32 ∷ ((line ++ 10 ∷ []) ++ bs))
    (lines_fronted [] (32 ∷ 32 ∷ []) lines parts.1 ∙ ap (flat_map ended) (same_lines (put_before [] (32 ∷ 32 ∷ [])) indented_line lines indented_same))
