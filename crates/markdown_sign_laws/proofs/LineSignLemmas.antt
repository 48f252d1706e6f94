-- What containers take from the front of a line is signs: those that go on blanks and signs of quotes alone.
use Rattle.std.proofs.Common.{◌≡◌, ◌⊎◌, inl, inr, ℕ, zero, suc, ◌+◌, ◌-◌, ◌%◌, ◌==◌, Bool, true, false, cond, not, nat_lt, ◌||◌, ◌&&◌, List, [], ◌∷◌, ◌++◌, drop, length, Option, Some, None, refl, ap, sym, ◌∙◌, subst, append_assoc, arith}
use Rattle.std.specs.List.{prefix_len}
use Rattle.std.proofs.lemmas.Bool.{eqb-true}
use Rattle.std.proofs.lemmas.List.{length_push}
use Rattle.markdown_marks.specs.Bytes.{first, is_blank, is_blank_byte}
use Rattle.markdown_marks.specs.Items.{marker_start, may_interrupt}
use Rattle.markdown_marks.specs.Remaining.{Remaining, blank_taken, columns_in_front, one_column, one_taken, skip, take_columns, with_rest}
use Rattle.markdown_marks.specs.declared.items.Marker.{Marker}
use Rattle.markdown_blocks.specs.Containers.{Matched, Opened, Opens, after_quote, container_after, container_start, gap_after, goes_on, item_before, item_goes_on, item_of, item_start, match_more, matched, open_more, opened, quote_goes_on}
use Rattle.markdown_blocks.specs.declared.containers.Container.{Container}
use Rattle.markdown_blocks.specs.declared.containers.Container.TheVariants.{Quote, Item}
use Rattle.markdown_sign_laws.specs.AllLines.{AreSigns, IsBehindSigns, IsMarker, IsOneSign, is_quote_or_blank}
use Rattle.markdown_sign_laws.specs.Markers.{IsBullet, IsNumber}
use Rattle.markdown_sign_laws.proofs.MarkerLemmas.{markers_said, rest_behind}
use Rattle.markdown_sign_laws.proofs.RunLemmas.{not_zero}

-- what holds in both cases holds of what a condition chooses
pub by_cond : {X : Type 0} (P : X → Type 0) (t : Bool) (x y : X) → (t ≡ true → P x) → (t ≡ false → P y) → P (cond t x y)
by_cond P true x y f g = f refl
by_cond P false x y f g = g refl

-- ---- signs

-- no sign
pub signs_none : (begun : Bool) (bytes : List ℕ) → IsBehindSigns begun bytes bytes
signs_none begun bytes = record { rests = []; signs = refl }

joined : (begun : Bool) (a : List ℕ) (xs : List (List ℕ)) (b : List ℕ) (ys : List (List ℕ)) (c : List ℕ) → AreSigns begun a xs b → AreSigns begun b ys c → AreSigns begun a (xs ++ ys) c
joined begun a [] b ys c h k = subst (λ (x : List ℕ). AreSigns begun x ys c) (sym h) k
joined begun a (x ∷ xs) b ys c h k = (h.0, joined begun x xs b ys c h.1 k)

-- signs, and then more
pub signs_then : (begun : Bool) (a b c : List ℕ) → IsBehindSigns begun a b → IsBehindSigns begun b c → IsBehindSigns begun a c
signs_then begun a b c h k = record { rests = h.rests ++ k.rests; signs = joined begun a h.rests b k.rests c h.signs k.signs }

one_any : (begun : Bool) (bytes behind : List ℕ) → IsOneSign false bytes behind → IsOneSign begun bytes behind
one_any begun bytes behind (inl h) = inl h
one_any begun bytes behind (inr h) = let no : false ≡ true = h.0 in absurd (cc)

are_any : (begun : Bool) (a : List ℕ) (xs : List (List ℕ)) (b : List ℕ) → AreSigns false a xs b → AreSigns begun a xs b
are_any begun a [] b h = h
are_any begun a (x ∷ xs) b h = (one_any begun a x h.0, are_any begun x xs b h.1)

-- where items may begin they needn't
pub signs_any : (begun : Bool) (a b : List ℕ) → IsBehindSigns false a b → IsBehindSigns begun a b
signs_any begun a b h = record { rests = h.rests; signs = are_any begun a h.rests b h.signs }

sign_next : (b : ℕ) (bs : List ℕ) → is_quote_or_blank b ≡ true → IsBehindSigns false (b ∷ bs) bs
sign_next b bs h = record { rests = bs ∷ []; signs = (inl (b, h, refl), refl) }

sign_first : (bytes : List ℕ) → is_quote_or_blank (first bytes) ≡ true → IsBehindSigns false bytes (drop 1 bytes)
sign_first [] h = signs_none false []
sign_first (b ∷ bs) h = sign_next b bs h

blank_sign : (b : ℕ) → is_blank_byte b ≡ true → is_quote_or_blank b ≡ true
blank_sign b h = ap (λ (t : Bool). t || (b == 62)) h

one_more : (n : ℕ) → suc n ≡ 1 + n
one_more n = omega arith

-- without the blanks in front
pub signs_blanks : (bytes : List ℕ) → IsBehindSigns false bytes (drop (prefix_len is_blank_byte bytes) bytes)
signs_blanks [] = signs_none false []
signs_blanks (b ∷ bs) =
    let n = prefix_len is_blank_byte bs in
    by_cond (λ (k : ℕ). IsBehindSigns false (b ∷ bs) (drop k (b ∷ bs))) (is_blank_byte b) (1 + n) 0
    (λ on. subst (λ (k : ℕ). IsBehindSigns false (b ∷ bs) (drop k (b ∷ bs))) (one_more n) (signs_then false (b ∷ bs) bs (drop n bs) (sign_next b bs (blank_sign b on)) (signs_blanks bs))) (λ off. signs_none false (b ∷ bs))

-- ---- columns

abbrev GivesSigns : List ℕ → Option Remaining → Type 0
GivesSigns bytes None = Unit {0}
GivesSigns bytes (Some next) = IsBehindSigns false bytes next.bytes

blank_taken_signs : (column : ℕ) (bytes : List ℕ) → GivesSigns bytes (blank_taken column bytes)
blank_taken_signs column [] = tt
blank_taken_signs column (b ∷ bs) =
    by_cond (GivesSigns (b ∷ bs)) (b == 32) (one_taken column 0 bs) _ (λ h. sign_next b bs (ap is_quote_or_blank (eqb-true b 32 h)))
    (λ h. by_cond (GivesSigns (b ∷ bs)) (b == 9) (one_taken column (3 - column % 4) bs) None (λ k. sign_next b bs (ap is_quote_or_blank (eqb-true b 9 k))) (λ k. tt))

one_column_signs : (rest : Remaining) → GivesSigns rest.bytes (one_column rest)
unfolding one_column
one_column_signs rest =
    by_cond (GivesSigns rest.bytes) (nat_lt 0 rest.pending) (one_taken rest.column (rest.pending - 1) rest.bytes) _ (λ h. signs_none false rest.bytes) (λ h. blank_taken_signs rest.column rest.bytes)

with_signs : (rest : Remaining) (o : Option Remaining) (on : Remaining → Remaining) → GivesSigns rest.bytes o → ((next : Remaining) → IsBehindSigns false next.bytes (on next).bytes) → IsBehindSigns false rest.bytes (with_rest o rest on).bytes
with_signs rest None on h f = signs_none false rest.bytes
with_signs rest (Some next) on h f = signs_then false rest.bytes next.bytes (on next).bytes h (f next)

-- without some columns in front
pub take_signs : (n : ℕ) (rest : Remaining) → IsBehindSigns false rest.bytes (take_columns n rest).bytes
unfolding take_columns
take_signs zero rest = signs_none false rest.bytes
take_signs (suc n) rest = with_signs rest (one_column rest) (take_columns n) (one_column_signs rest) (take_signs n)

-- ---- containers that go on

quote_signs : (rest : Remaining) → first rest.bytes ≡ 62 → IsBehindSigns false rest.bytes (after_quote rest).bytes
unfolding skip
quote_signs rest h = signs_then false rest.bytes (skip 1 rest).bytes (after_quote rest).bytes (sign_first rest.bytes (ap is_quote_or_blank h)) (take_signs 1 (skip 1 rest))

neither : (p q : Bool) → (p || not q) ≡ false → q ≡ true
neither true q h = let e : true ≡ false = h in absurd (cc)
neither false true h = refl
neither false false h = let e : true ≡ false = h in absurd (cc)

quote_goes_on_signs : (rest : Remaining) → GivesSigns rest.bytes (quote_goes_on rest)
quote_goes_on_signs rest =
    let taken = take_columns 4 rest in
    by_cond (GivesSigns rest.bytes) ((columns_in_front 4 rest == 4) || not (first taken.bytes == 62)) None (Some (after_quote taken)) (λ h. tt)
    (λ h. signs_then false rest.bytes taken.bytes (after_quote taken).bytes (take_signs 4 rest) (quote_signs taken (eqb-true (first taken.bytes) 62 (neither (columns_in_front 4 rest == 4) (first taken.bytes == 62) h))))

item_goes_on_signs : (content : ℕ) (bare : Bool) (rest : Remaining) → GivesSigns rest.bytes (item_goes_on content bare rest)
item_goes_on_signs content bare rest =
    by_cond (GivesSigns rest.bytes) (is_blank rest.bytes) (cond bare None (Some (take_columns content rest))) _
    (λ h. by_cond (GivesSigns rest.bytes) bare None (Some (take_columns content rest)) (λ k. tt) (λ k. take_signs content rest))
    (λ h. by_cond (GivesSigns rest.bytes) (columns_in_front content rest == content) (Some (take_columns content rest)) None (λ k. take_signs content rest) (λ k. tt))

goes_on_signs : (container : Container) (bare : Bool) (rest : Remaining) → GivesSigns rest.bytes (goes_on container bare rest)
unfolding goes_on
goes_on_signs Quote bare rest = quote_goes_on_signs rest
goes_on_signs (Item sign number content) bare rest = item_goes_on_signs content bare rest

match_signs : (rest : Remaining) (o : Option Remaining) (others : Remaining → Matched) → GivesSigns rest.bytes o → ((next : Remaining) → IsBehindSigns false next.bytes (others next).rest.bytes)
    → IsBehindSigns false rest.bytes (match_more o rest others).rest.bytes
match_signs rest None others h f = signs_none false rest.bytes
match_signs rest (Some next) others h f = signs_then false rest.bytes next.bytes (others next).rest.bytes h (f next)

-- containers that go on
pub matched_signs : (bare : Bool) (containers : List Container) (rest : Remaining) → IsBehindSigns false rest.bytes (matched bare containers rest).rest.bytes
unfolding matched
matched_signs bare [] rest = signs_none false rest.bytes
matched_signs bare (container ∷ inner) rest =
    let here = bare && (length inner == 0) in
    match_signs rest (goes_on container here rest) (matched bare inner) (goes_on_signs container here rest) (matched_signs bare inner)

-- ---- containers that begin

is_marker : (marker : Marker) (bytes : List ℕ) → IsBullet marker bytes ⊎ IsNumber marker bytes → IsMarker bytes (drop marker.length bytes)
is_marker marker bytes (inl h) =
    let left : drop marker.length bytes ≡ h.behind = ap (λ (n : ℕ). drop n bytes) h.long ∙ ap (λ (xs : List ℕ). drop 1 xs) h.whole in
    record { marker = marker; said = inl h; sign = marker.sign ∷ []; long = sym h.long; whole = h.whole ∙ ap (λ (xs : List ℕ). marker.sign ∷ xs) (sym left) }
is_marker marker bytes (inr h) =
    let left : drop marker.length bytes ≡ h.behind = ap (λ (n : ℕ). drop n bytes) h.long ∙ ap (λ (xs : List ℕ). drop (length h.digits + 1) xs) h.whole ∙ rest_behind h.digits marker.sign h.behind in
    record {
      marker = marker;
      said = inr h;
      sign = h.digits ++ marker.sign ∷ [];
      long = length_push h.digits marker.sign ∙ sym h.long;
      whole = h.whole ∙ sym (append_assoc h.digits (marker.sign ∷ []) h.behind) ∙ ap (λ (xs : List ℕ). (h.digits ++ marker.sign ∷ []) ++ xs) (sym left);
    }

marker_next : (bytes behind : List ℕ) → IsMarker bytes behind → IsBehindSigns true bytes behind
marker_next bytes behind h = record { rests = behind ∷ []; signs = (inr (refl, h), refl) }

abbrev GivesOpened : List ℕ → Option Opened → Type 0
GivesOpened bytes None = Unit {0}
GivesOpened bytes (Some found) = IsBehindSigns true bytes found.rest.bytes

item_of_signs : (in_paragraph : Bool) (indent : ℕ) (rest : Remaining) (o : Option Marker) → marker_start rest.bytes ≡ o → GivesOpened rest.bytes (item_of in_paragraph indent rest o)
unfolding skip
item_of_signs in_paragraph indent rest None h = tt
item_of_signs in_paragraph indent rest (Some marker) h =
    let behind = skip marker.length rest in
    let found = marker_next rest.bytes behind.bytes (is_marker marker rest.bytes ((markers_said marker rest.bytes).0 h)) in
    by_cond (GivesOpened rest.bytes) (in_paragraph && not (may_interrupt marker rest.bytes)) None (Some (item_before indent marker behind)) (λ k. tt)
    (λ k. signs_then true rest.bytes behind.bytes (take_columns (gap_after behind) behind).bytes found (signs_any true behind.bytes (take_columns (gap_after behind) behind).bytes (take_signs (gap_after behind) behind)))

item_start_signs : (in_paragraph : Bool) (indent : ℕ) (rest : Remaining) → GivesOpened rest.bytes (item_start in_paragraph indent rest)
item_start_signs in_paragraph indent rest =
    by_cond (GivesOpened rest.bytes) _ None (item_of in_paragraph indent rest (marker_start rest.bytes)) (λ h. tt) (λ h. item_of_signs in_paragraph indent rest (marker_start rest.bytes) refl)

container_after_signs : (in_paragraph : Bool) (indent : ℕ) (rest : Remaining) → GivesOpened rest.bytes (container_after in_paragraph indent rest)
container_after_signs in_paragraph indent rest =
    by_cond (GivesOpened rest.bytes) (first rest.bytes == 62) (Some (record { container = Quote; rest = after_quote rest })) (item_start in_paragraph indent rest)
    (λ h. signs_any true rest.bytes (after_quote rest).bytes (quote_signs rest (eqb-true (first rest.bytes) 62 h))) (λ h. item_start_signs in_paragraph indent rest)

opened_after : (rest taken : Remaining) (o : Option Opened) → IsBehindSigns false rest.bytes taken.bytes → GivesOpened taken.bytes o → GivesOpened rest.bytes o
opened_after rest taken None h k = tt
opened_after rest taken (Some found) h k = signs_then true rest.bytes taken.bytes found.rest.bytes (signs_any true rest.bytes taken.bytes h) k

container_start_signs : (in_paragraph : Bool) (rest : Remaining) → GivesOpened rest.bytes (container_start in_paragraph rest)
unfolding container_start
container_start_signs in_paragraph rest =
    let indent = columns_in_front 4 rest in
    let taken = take_columns 4 rest in
    by_cond (GivesOpened rest.bytes) (indent == 4) None (container_after in_paragraph indent taken) (λ h. tt)
    (λ h. opened_after rest taken (container_after in_paragraph indent taken) (take_signs 4 rest) (container_after_signs in_paragraph indent taken))

open_signs : (rest : Remaining) (o : Option Opened) (others : Remaining → Opens) → GivesOpened rest.bytes o → ((next : Remaining) → IsBehindSigns true next.bytes (others next).rest.bytes)
    → IsBehindSigns true rest.bytes (open_more o rest others).rest.bytes
open_signs rest None others h f = signs_none true rest.bytes
open_signs rest (Some found) others h f = signs_then true rest.bytes found.rest.bytes (others found.rest).rest.bytes h (f found.rest)

-- containers that begin
pub opened_signs : (room : ℕ) (in_paragraph : Bool) (rest : Remaining) → IsBehindSigns true rest.bytes (opened room in_paragraph rest).rest.bytes
unfolding opened
opened_signs zero in_paragraph rest = signs_none true rest.bytes
opened_signs (suc room) in_paragraph rest = open_signs rest (container_start in_paragraph rest) (opened room false) (container_start_signs in_paragraph rest) (opened_signs room false)

no_more : (n : ℕ) → (suc n == 0) ≡ true → ⊥
no_more n h = let no = not_zero n in absurd (cc)

none_more : (rest : Remaining) (o : Option Opened) (others : Remaining → Opens) → (length (open_more o rest others).containers == 0) ≡ true → (open_more o rest others).rest ≡ rest
none_more rest None others h = refl
none_more rest (Some found) others h = absurd (no_more (length (others found.rest).containers) h)

-- where none begins nothing is taken
pub opened_none : (room : ℕ) (in_paragraph : Bool) (rest : Remaining) → (length (opened room in_paragraph rest).containers == 0) ≡ true → (opened room in_paragraph rest).rest ≡ rest
unfolding opened
opened_none zero in_paragraph rest h = refl
opened_none (suc room) in_paragraph rest h = none_more rest (container_start in_paragraph rest) (opened room false) h
