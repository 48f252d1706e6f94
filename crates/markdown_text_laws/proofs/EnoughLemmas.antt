-- No pairs take more marks of a run than it has.
use Rattle.std.proofs.Common.{◌≡◌, ℕ, zero, suc, ◌+◌, ◌<◌, ◌≤◌, ◌==◌, ◌&&◌, ◌||◌, not, Bool, true, false, cond, List, [], ◌∷◌, ◌++◌, map, length, take, drop, slice_index, Option, Some, None, refl, sym, ap, subst, ◌∙◌, arith, take-append-drop}
use Rattle.std.specs.List.{All}
use Rattle.std.proofs.lemmas.Bool.{eq-eqb, eqb-true, ne_eqb}
use Rattle.std.proofs.lemmas.List.{length-map}
use Rattle.std.proofs.lemmas.List.Elements.{All-head, All-tail}
use Rattle.std.proofs.lemmas.List.Sums.{sum_by-append, sum_by-cons}
use Rattle.markdown_emphasis.specs.Left.{run_at, taken_at, takes}
use Rattle.markdown_emphasis.specs.Laws.{NothingIsLeft}
use Rattle.markdown_emphasis.specs.Matching.{matches}
use Rattle.markdown_emphasis.specs.Pairs.{IsWithin}
use Rattle.markdown_emphasis.specs.Pieces.{moved}
use Rattle.markdown_emphasis.specs.declared.runs.Pair.{Pair}
use Rattle.markdown_emphasis.specs.declared.runs.Run.{Run}
use Rattle.markdown_emphasis.proofs.LeftLemmas.{takes_closer, takes_opener}
use Rattle.markdown_emphasis.proofs.PairLemmas.{matches_within}
use Rattle.markdown_brackets.specs.Brackets.{Closed, Reading, closed, closed_with, finished, first_open, inside_pairs, is_free, killed, linked, linked_by, nothing_read, place_of, run_of, target_at, unlinked, without_first}
use Rattle.markdown_brackets.specs.declared.brackets.Bracket.{Bracket}
use Rattle.markdown_brackets.specs.declared.brackets.Open.{Open}
use Rattle.markdown_brackets.specs.declared.brackets.Placed.{Placed}
use Rattle.markdown_brackets.specs.declared.targets.Target.{Target}
use Rattle.markdown_marks.specs.Bytes.{first}
use Rattle.markdown_pieces.specs.declared.pieces.Kind.{Kind}
use Rattle.markdown_pieces.specs.declared.pieces.Kind.TheVariants.{Plain, Shown, Code, Address, Bare, Html, Soft, Hard, Run as RunKind, Opening, Closing}
use Rattle.markdown_pieces.specs.declared.pieces.Piece.{Piece}
use Rattle.markdown_pieces.specs.Cut.{Step, closing_step, cut_from, opening_step, other_step, read_with, step, step_of}
use Rattle.markdown_pieces.specs.Pieces.{piece_at}
use Rattle.markdown_inlines.specs.Left.{marks_of}

by_cond : {X : Type 0} (P : X → Type 0) (t : Bool) (x y : X) → P x → P y → P (cond t x y)
by_cond P true x y f g = f
by_cond P false x y f g = g

-- ---- sums over places

-- of the numbers of these places, counted from one on, the sum of those whose place is this
abbrev sum_at : ℕ → List ℕ → ℕ → (ℕ → ℕ) → ℕ
sum_at i [] k f = 0
sum_at i (x ∷ xs) k f = cond (x == i) (f k) 0 + sum_at i xs (suc k) f

some_at : (i : ℕ) (xs : List ℕ) (k j : ℕ) (f : ℕ → ℕ) → j < length xs → slice_index xs j ≡ i → f (k + j) ≤ sum_at i xs k f
some_at i [] k j f h e = absurd (omega (arith, h))
some_at i (x ∷ xs) k zero f h e =
    let here : cond (x == i) (f k) 0 ≡ f k = ap (λ (t : Bool). cond t (f k) 0) (eq-eqb x i e) in
    let same : f (k + 0) ≡ f k = ap f (omega arith) in
    omega (arith, here, same)
some_at i (x ∷ xs) k (suc j) f h e =
    let same : f (k + suc j) ≡ f (suc k + j) = ap f (omega arith) in
    let more = some_at i xs (suc k) j f (omega (arith, h)) e in
    omega (arith, same, more)

both_at : (i : ℕ) (xs : List ℕ) (k : ℕ) (f g : ℕ → ℕ) → sum_at i xs k f + sum_at i xs k g ≤ sum_at i xs k (λ j. f j + g j)
both_at i [] k f g = omega arith
both_at i (x ∷ xs) k f g = let more = both_at i xs (suc k) f g in by_place (x == i) more
  where
    by_place : (t : Bool) → sum_at i xs (suc k) f + sum_at i xs (suc k) g ≤ sum_at i xs (suc k) (λ j. f j + g j)
        → (cond t (f k) 0 + sum_at i xs (suc k) f) + (cond t (g k) 0 + sum_at i xs (suc k) g) ≤ cond t (f k + g k) 0 + sum_at i xs (suc k) (λ j. f j + g j)
    by_place true h = omega (arith, h)
    by_place false h = omega (arith, h)

less_at : (i : ℕ) (xs : List ℕ) (k n : ℕ) (f g : ℕ → ℕ) → k + length xs ≤ n → ((j : ℕ) → j < n → f j ≤ g j) → sum_at i xs k f ≤ sum_at i xs k g
less_at i [] k n f g h le = omega arith
less_at i (x ∷ xs) k n f g h le =
    let here = le k (omega (arith, h)) in
    let more = less_at i xs (suc k) n f g (omega (arith, h)) le in
    by_place (x == i) here more
  where
    by_place : (t : Bool) → f k ≤ g k → sum_at i xs (suc k) f ≤ sum_at i xs (suc k) g → cond t (f k) 0 + sum_at i xs (suc k) f ≤ cond t (g k) 0 + sum_at i xs (suc k) g
    by_place true a b = omega (arith, a, b)
    by_place false a b = omega (arith, b)

same_at : (i : ℕ) (xs : List ℕ) (k : ℕ) (f g : ℕ → ℕ) → ((j : ℕ) → f j ≡ g j) → sum_at i xs k f ≡ sum_at i xs k g
same_at i [] k f g e = refl
same_at i (x ∷ xs) k f g e = ap (λ (n : ℕ). cond (x == i) n 0 + sum_at i xs (suc k) f) (e k) ∙ ap (λ (n : ℕ). cond (x == i) (g k) 0 + n) (same_at i xs (suc k) f g e)

-- ---- pairs of runs as pairs of pieces

within_first : (p : Pair) (n : ℕ) → IsWithin n p → (p.opener < n) × (p.closer < n)
within_first p n w = (omega (arith, w.ordered, w.inside), w.inside)

moved_takes : (i : ℕ) (places : List ℕ) (p : Pair) → IsWithin (length places) p → takes i (moved places p) ≤ sum_at i places 0 (λ j. takes j p)
moved_takes i places p w = by_ends (slice_index places p.opener == i) (slice_index places p.closer == i) refl refl
  where
    sum : ℕ
    sum = sum_at i places 0 (λ j. takes j p)

    at : (j : ℕ) → j < length places → slice_index places j ≡ i → takes j p ≤ sum
    at j h e = let zero_more : takes (0 + j) p ≡ takes j p = ap (λ (n : ℕ). takes n p) (omega arith) in let some = some_at i places 0 j (λ n. takes n p) h e in omega (arith, zero_more, some)

    by_ends : (s t : Bool) → (slice_index places p.opener == i) ≡ s → (slice_index places p.closer == i) ≡ t → cond (s || t) p.count 0 ≤ sum
    by_ends true t e f =
        let all : takes p.opener p ≡ p.count = takes_opener p in
        let some = at p.opener (omega (arith, w.ordered, w.inside)) (eqb-true (slice_index places p.opener) i e) in
        omega (arith, all, some)
    by_ends false true e f =
        let all : takes p.closer p ≡ p.count = takes_closer p in
        let some = at p.closer w.inside (eqb-true (slice_index places p.closer) i f) in
        omega (arith, all, some)
    by_ends false false e f = omega arith

moved_taken : (i : ℕ) (places : List ℕ) (ps : List Pair) → All (IsWithin (length places)) ps → taken_at (map (moved places) ps) i ≤ sum_at i places 0 (λ j. taken_at ps j)
moved_taken i places [] w = omega arith
moved_taken i places (p ∷ ps) w =
    let here = moved_takes i places p (All-head (IsWithin (length places)) p ps w) in
    let more = moved_taken i places ps (All-tail (IsWithin (length places)) p ps w) in
    let both = both_at i places 0 (λ j. takes j p) (λ j. taken_at ps j) in
    let left : taken_at (map (moved places) (p ∷ ps)) i ≡ takes i (moved places p) + taken_at (map (moved places) ps) i = sum_by-cons (takes i) (moved places p) (map (moved places) ps) in
    let right : sum_at i places 0 (λ j. taken_at (p ∷ ps) j) ≡ sum_at i places 0 (λ j. takes j p + taken_at ps j) = same_at i places 0 (λ j. taken_at (p ∷ ps) j) (λ j. takes j p + taken_at ps j) (λ j. sum_by-cons (takes j) p ps) in
    omega (arith, here, more, both, left, right)

-- how many marks placed runs have at a place
abbrev marks_at : ℕ → List Placed → ℕ
marks_at i [] = 0
marks_at i (p ∷ ps) = cond (p.place == i) p.run.count 0 + marks_at i ps

-- the runs from a number on are these
abbrev FromOn : List Run → ℕ → List Placed → Type 0
FromOn runs k [] = Unit {0}
FromOn runs k (p ∷ ps) = (run_at runs k ≡ p.run) × FromOn runs (suc k) ps

next_on : (r : Run) (runs : List Run) (k : ℕ) (ps : List Placed) → FromOn runs k ps → FromOn (r ∷ runs) (suc k) ps
next_on r runs k [] h = tt
next_on r runs k (p ∷ ps) h = (h.0, next_on r runs (suc k) ps h.1)

from_first : (ps : List Placed) → FromOn (map run_of ps) 0 ps
from_first [] = tt
from_first (p ∷ ps) = (refl, next_on p.run (map run_of ps) 0 ps (from_first ps))

counts_at : (i : ℕ) (runs : List Run) (k : ℕ) (ps : List Placed) → FromOn runs k ps → sum_at i (map place_of ps) k (λ j. (run_at runs j).count) ≡ marks_at i ps
counts_at i runs k [] h = refl
counts_at i runs k (p ∷ ps) h =
    ap (λ (r : Run). cond (p.place == i) r.count 0 + sum_at i (map place_of ps) (suc k) (λ j. (run_at runs j).count)) h.0 ∙ ap (λ (n : ℕ). cond (p.place == i) p.run.count 0 + n) (counts_at i runs (suc k) ps h.1)

-- pairs of placed runs take no more marks than there are
inside_enough : NothingIsLeft → (i : ℕ) (ps : List Placed) → taken_at (inside_pairs ps) i ≤ marks_at i ps
inside_enough enough i ps =
    let places = map place_of ps in
    let runs = map run_of ps in
    let long : length runs ≡ length places = length-map ps run_of ∙ sym (length-map ps place_of) in
    let within = subst (λ (n : ℕ). All (IsWithin n) (matches runs)) long (matches_within runs) in
    let taken = moved_taken i places (matches runs) within in
    let less = less_at i places 0 (length places) (λ j. taken_at (matches runs) j) (λ j. (run_at runs j).count) (omega arith) (λ j h. (enough runs).enough j (subst (λ (n : ℕ). j < n) (sym long) h)) in
    let count = counts_at i runs 0 ps (from_first ps) in
    omega (arith, taken, less, count)

-- ---- readings

-- what pairs take at a place, and what runs have there that no pair takes yet
abbrev used : ℕ → Reading → ℕ
used i r = taken_at r.pairs i + marks_at i r.runs

marks_both : (i : ℕ) (xs ys : List Placed) → marks_at i (xs ++ ys) ≡ marks_at i xs + marks_at i ys
marks_both i [] ys = omega arith
marks_both i (x ∷ xs) ys = let more = marks_both i xs ys in omega (arith, more)

killed_used : (image : Bool) (i : ℕ) (r : Reading) → used i (killed image r) ≡ used i r
killed_used true i r = refl
killed_used false i r = refl

linked_used : NothingIsLeft → (i : ℕ) (b : Bracket) (r : Reading) → used i (linked b r) ≤ used i r
linked_used enough i b r =
    let kept = take b.runs r.runs in
    let gone = drop b.runs r.runs in
    let next : Reading = record { brackets = r.brackets; runs = kept; pairs = r.pairs ++ inside_pairs gone } in
    let same : used i (linked b r) ≡ used i next = killed_used b.image i next in
    let pairs : taken_at (r.pairs ++ inside_pairs gone) i ≡ taken_at r.pairs i + taken_at (inside_pairs gone) i = sum_by-append (takes i) r.pairs (inside_pairs gone) in
    let all : marks_at i r.runs ≡ marks_at i kept + marks_at i gone = ap (marks_at i) (sym (take-append-drop b.runs r.runs)) ∙ marks_both i kept gone in
    let inside = inside_enough enough i gone in
    omega (arith, same, pairs, all, inside)

finished_taken : NothingIsLeft → (i : ℕ) (r : Reading) → taken_at (finished r) i ≤ used i r
finished_taken enough i r = let both : taken_at (finished r) i ≡ taken_at r.pairs i + taken_at (inside_pairs r.runs) i = sum_by-append (takes i) r.pairs (inside_pairs r.runs) in let inside = inside_enough enough i r.runs in omega (arith, both, inside)

-- ---- a step

-- the marks of a piece, at its place
abbrev own_marks : (i index : ℕ) → Kind → ℕ
own_marks i index kind = cond (index == i) (marks_of kind) 0

abbrev UsesMore : (i index : ℕ) → Reading → Step → Type 0
UsesMore i index r s = used i s.reading ≤ used i r + own_marks i index s.piece.kind

no_more : (i index : ℕ) (kind : Kind) (r next : Reading) → used i next ≤ used i r → used i next ≤ used i r + own_marks i index kind
no_more i index kind r next h = omega (arith, h)

same_less : (n : ℕ) → n ≤ n
same_less n = omega arith

run_uses : (i index : ℕ) (run : Run) (r : Reading) (pairs runs : ℕ) → runs ≡ marks_at i r.runs + (cond (index == i) run.count 0 + 0) → pairs + runs ≤ (pairs + marks_at i r.runs) + cond (index == i) run.count 0
run_uses i index run r pairs runs h = omega (arith, h)

other_uses : (i index more : ℕ) (kind : Kind) (r : Reading) → UsesMore i index r (step_of (record { kind = kind; more = more }) index r)
other_uses i index more (RunKind run) r = run_uses i index run r (taken_at r.pairs i) _ (marks_both i r.runs (record { place = index; run = run } ∷ []))
other_uses i index more Plain r = no_more i index Plain r r (same_less (used i r))
other_uses i index more (Shown c second) r = no_more i index (Shown c second) r r (same_less (used i r))
other_uses i index more (Code code) r = no_more i index (Code code) r r (same_less (used i r))
other_uses i index more (Address len scheme) r = no_more i index (Address len scheme) r r (same_less (used i r))
other_uses i index more (Bare scheme) r = no_more i index (Bare scheme) r r (same_less (used i r))
other_uses i index more (Html html) r = no_more i index (Html html) r r (same_less (used i r))
other_uses i index more Soft r = no_more i index Soft r r (same_less (used i r))
other_uses i index more Hard r = no_more i index Hard r r (same_less (used i r))
other_uses i index more (Opening image) r = no_more i index (Opening image) r r (same_less (used i r))
other_uses i index more (Closing link) r = no_more i index (Closing link) r r (same_less (used i r))

linked_uses : NothingIsLeft → (i index : ℕ) (b : Bracket) (target : Option Target) (r next : Reading) → used i next ≡ used i r → UsesMore i index r (closing_step (linked_by b target next))
linked_uses enough i index b None r next e = omega (arith, e)
linked_uses enough i index b (Some t) r next e = let less = linked_used enough i b next in omega (arith, e, less)

closed_uses : NothingIsLeft → (labels : List (List ℕ)) (text : List ℕ) (after i index : ℕ) (r : Reading) (o : Option Open) → UsesMore i index r (closing_step (closed_with labels text after o (without_first r)))
closed_uses enough labels text after i index r None = no_more i index (Closing None) r (without_first r) (same_less (used i r))
closed_uses enough labels text after i index r (Some o) =
    by_cond (λ (c : Closed). UsesMore i index r (closing_step c)) (o.dead && not o.bracket.image) (unlinked (without_first r)) (linked_by o.bracket (target_at labels text o.bracket.at after) (without_first r))
    (linked_uses enough i index o.bracket None r (without_first r) refl) (linked_uses enough i index o.bracket (target_at labels text o.bracket.at after) r (without_first r) refl)

read_uses : NothingIsLeft → (b : ℕ) (labels : List (List ℕ)) (text : List ℕ) (at i index : ℕ) (r : Reading) (rest : List ℕ) → UsesMore i index r (read_with b labels text at index r rest)
read_uses enough b labels text at i index r rest =
    let p = piece_at (is_free r.brackets) text at rest in
    by_cond (UsesMore i index r) (b == 91) (opening_step false (at + 1) index 0 r) _ (no_more i index (Opening false) r r (same_less (used i r)))
    (by_cond (UsesMore i index r) ((b == 33) && (first (drop (at + 1) text) == 91)) (opening_step true (at + 2) index 1 r) _ (no_more i index (Opening true) r r (same_less (used i r)))
    (by_cond (UsesMore i index r) (b == 93) (closing_step (closed labels text (at + 1) r)) (other_step text at index r rest) (closed_uses enough labels text (at + 1) i index r (first_open r.brackets))
    (other_uses i index p.more p.kind r)))

step_uses : NothingIsLeft → (labels : List (List ℕ)) (text : List ℕ) (at i index : ℕ) (r : Reading) (rest : List ℕ) → UsesMore i index r (step labels text at index r rest)
unfolding step
step_uses enough labels text at i index r rest = read_uses enough (slice_index text at) labels text at i index r rest

-- ---- all pieces

-- the marks of the piece of this index, where the first has that
abbrev marks_in : (i index : ℕ) → List Piece → ℕ
marks_in i index [] = 0
marks_in i index (p ∷ ps) = own_marks i index p.kind + marks_in i (index + 1) ps

cut_uses : NothingIsLeft → (labels : List (List ℕ)) (text : List ℕ) (i skip at index : ℕ) (r : Reading) (rest : List ℕ)
    → taken_at (finished (cut_from labels text skip at index r rest).reading) i ≤ used i r + marks_in i index (cut_from labels text skip at index r rest).pieces
unfolding cut_from
cut_uses enough labels text i skip at index r [] = let last = finished_taken enough i r in omega (arith, last)
cut_uses enough labels text i zero at index r (b ∷ bs) =
    let s = step labels text at index r (b ∷ bs) in
    let here = step_uses enough labels text at i index r (b ∷ bs) in
    let more = cut_uses enough labels text i s.piece.more (at + 1) (index + 1) s.reading bs in
    omega (arith, here, more)
cut_uses enough labels text i (suc skip) at index r (b ∷ bs) = cut_uses enough labels text i skip (at + 1) index r bs

none_behind : (i index : ℕ) (ps : List Piece) → i < index → marks_in i index ps ≡ 0
none_behind i index [] h = refl
none_behind i index (p ∷ ps) h =
    let other : (index == i) ≡ false = ne_eqb index i (λ e. omega (arith, e, h)) in
    let none : own_marks i index p.kind ≡ 0 = ap (λ (t : Bool). cond t (marks_of p.kind) 0) other in
    let more = none_behind i (index + 1) ps (omega (arith, h)) in
    omega (arith, none, more)

marks_here : (i index : ℕ) (before ps : List Piece) (p : Piece) → i ≡ index + length before → marks_in i index (before ++ p ∷ ps) ≡ marks_of p.kind
marks_here i index [] ps p e =
    let same : (index == i) ≡ true = eq-eqb index i (omega (arith, e)) in
    let own : own_marks i index p.kind ≡ marks_of p.kind = ap (λ (t : Bool). cond t (marks_of p.kind) 0) same in
    let more = none_behind i (index + 1) ps (omega (arith, e)) in
    omega (arith, own, more)
marks_here i index (b ∷ before) ps p e =
    let other : (index == i) ≡ false = ne_eqb index i (λ f. omega (arith, e, f)) in
    let none : own_marks i index b.kind ≡ 0 = ap (λ (t : Bool). cond t (marks_of b.kind) 0) other in
    let more = marks_here i (index + 1) before ps p (omega (arith, e)) in
    omega (arith, none, more)

-- pairs of a text take no more marks of a piece than it has
pub enough_marks : NothingIsLeft → (labels : List (List ℕ)) (text : List ℕ) (before ps : List Piece) (p : Piece) → (cut_from labels text 0 0 0 nothing_read text).pieces ≡ before ++ p ∷ ps
    → taken_at (finished (cut_from labels text 0 0 0 nothing_read text).reading) (length before) ≤ marks_of p.kind
enough_marks enough labels text before ps p e =
    let i = length before in
    let all = cut_uses enough labels text i 0 0 0 nothing_read text in
    let here : marks_in i 0 (cut_from labels text 0 0 0 nothing_read text).pieces ≡ marks_of p.kind = ap (marks_in i 0) e ∙ marks_here i 0 before ps p (omega arith) in
    let none : used i nothing_read ≡ 0 = refl in
    omega (arith, all, here, none)
