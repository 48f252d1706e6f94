-- Pairs lie within the pieces.
use Rattle.std.proofs.Common.{◌≡◌, ℕ, zero, suc, ◌+◌, ◌<◌, ◌≤◌, Bool, true, false, eqb, not, ◌&&◌, List, [], ◌∷◌, ◌++◌, length, take, drop, map, get_or, sym, subst, ◌∙◌, arith, Option, Some, None}
use Rattle.std.specs.List.{All}
use Rattle.std.proofs.lemmas.List.{length-map, map-append}
use Rattle.std.proofs.lemmas.List.Elements.{All-append, All-map, All-nil}
use Rattle.markdown_emphasis.specs.declared.runs.Run.{Run}
use Rattle.markdown_emphasis.specs.declared.runs.Pair.{Pair}
use Rattle.markdown_emphasis.specs.Matching.{matches}
use Rattle.markdown_emphasis.specs.Pairs.{IsWithin}
use Rattle.markdown_emphasis.specs.Pieces.{moved}
use Rattle.markdown_emphasis.proofs.PairLemmas.{matches_within}
use Rattle.markdown_brackets.specs.declared.targets.Target.{Target}
use Rattle.markdown_brackets.specs.declared.brackets.Bracket.{Bracket}
use Rattle.markdown_brackets.specs.declared.brackets.Open.{Open}
use Rattle.markdown_brackets.specs.declared.brackets.Placed.{Placed}
use Rattle.markdown_brackets.specs.Brackets.{Reading, is_free, nothing_read, with_run, first_open, without_first, place_of, run_of, inside_pairs, killed, linked, Closed, unlinked, linked_by, target_at, closed_with, closed}
use Rattle.markdown_pieces.specs.declared.pieces.Kind.{Kind}
use Rattle.markdown_pieces.specs.declared.pieces.Kind.TheVariants.{Plain, Shown, Code as CodeKind, Address, Bare, Html as HtmlKind, Soft, Hard, Run as RunKind, Opening, Closing}
use Rattle.markdown_marks.specs.Bytes.{first}
use Rattle.markdown_pieces.specs.Pieces.{piece_at}
use Rattle.markdown_pieces.specs.Cut.{Step, read_run, other_step, closing_step, opening_step, step, Pieces, cut_from, cut_text}
use Rattle.markdown_pieces.proofs.TailLemmas.{by_cond}

-- ---- places in order

abbrev AreAscending : ℕ → ℕ → List ℕ → Type 0
AreAscending a b [] = Unit {0}
AreAscending a b (x ∷ xs) = (a ≤ x) × (x < b) × AreAscending (x + 1) b xs

ascending_low : (a b : ℕ) (xs : List ℕ) (i : ℕ) → AreAscending a b xs → i < length xs → a ≤ get_or xs i 0
ascending_low a b [] i are h = absurd (omega arith)
ascending_low a b (x ∷ xs) zero are h = are.0
ascending_low a b (x ∷ xs) (suc i) are h = let k : x + 1 ≤ get_or xs i 0 = ascending_low (x + 1) b xs i are.2 (omega arith) in omega (arith, are.0)

ascending_high : (a b : ℕ) (xs : List ℕ) (i : ℕ) → AreAscending a b xs → i < length xs → get_or xs i 0 < b
ascending_high a b [] i are h = absurd (omega arith)
ascending_high a b (x ∷ xs) zero are h = are.1
ascending_high a b (x ∷ xs) (suc i) are h = ascending_high (x + 1) b xs i are.2 (omega arith)

ascending_less : (a b : ℕ) (xs : List ℕ) (i j : ℕ) → AreAscending a b xs → i < j → j < length xs → get_or xs i 0 < get_or xs j 0
ascending_less a b [] i j are h k = absurd (omega arith)
ascending_less a b (x ∷ xs) i zero are h k = absurd (omega arith)
ascending_less a b (x ∷ xs) zero (suc j) are h k = let low : x + 1 ≤ get_or xs j 0 = ascending_low (x + 1) b xs j are.2 (omega arith) in omega arith
ascending_less a b (x ∷ xs) (suc i) (suc j) are h k = ascending_less (x + 1) b xs i j are.2 (omega arith) (omega arith)

ascending_lower : (a c b : ℕ) (xs : List ℕ) → c ≤ a → AreAscending a b xs → AreAscending c b xs
ascending_lower a c b [] h are = tt
ascending_lower a c b (x ∷ xs) h are = (omega (arith, are.0), are.1, are.2)

ascending_more : (a b c : ℕ) (xs : List ℕ) → b ≤ c → AreAscending a b xs → AreAscending a c xs
ascending_more a b c [] h are = tt
ascending_more a b c (x ∷ xs) h are = (are.0, omega (arith, are.1), ascending_more (x + 1) b c xs h are.2)

ascending_push : (a b x : ℕ) (xs : List ℕ) → a ≤ x → b ≤ x → AreAscending a b xs → AreAscending a (x + 1) (xs ++ x ∷ [])
ascending_push a b x [] l h are = (l, omega arith, tt)
ascending_push a b x (y ∷ ys) l h are = (are.0, omega (arith, are.1), ascending_push (y + 1) b x ys (omega (arith, are.1)) h are.2)

ascending_take : (a b n : ℕ) (rs : List Placed) → AreAscending a b (map place_of rs) → AreAscending a b (map place_of (take n rs))
ascending_take a b zero rs are = tt
ascending_take a b (suc n) [] are = tt
ascending_take a b (suc n) (x ∷ xs) are = (are.0, are.1, ascending_take (x.place + 1) b n xs are.2)

ascending_drop : (a b n : ℕ) (rs : List Placed) → AreAscending a b (map place_of rs) → AreAscending a b (map place_of (drop n rs))
ascending_drop a b zero rs are = are
ascending_drop a b (suc n) [] are = tt
ascending_drop a b (suc n) (x ∷ xs) are = ascending_lower (x.place + 1) a b (map place_of (drop n xs)) (omega (arith, are.0)) (ascending_drop (x.place + 1) b n xs are.2)

-- ---- pairs

moved_within : (b : ℕ) (xs : List ℕ) (p : Pair) → AreAscending 0 b xs → IsWithin (length xs) p → IsWithin b (moved xs p)
moved_within b xs p are within = record {
  ordered = ascending_less 0 b xs p.opener p.closer are within.ordered within.inside;
  inside = ascending_high 0 b xs p.closer are within.inside;
}

inside_within : (b : ℕ) (rs : List Placed) → AreAscending 0 b (map place_of rs) → All (IsWithin b) (inside_pairs rs)
inside_within b rs are =
    let runs : List Run = map run_of rs in
    let same : length runs ≡ length (map place_of rs) = length-map rs run_of ∙ sym (length-map rs place_of) in
    let few : All (IsWithin (length (map place_of rs))) (matches runs) = subst (λ (n : ℕ). All (IsWithin n) (matches runs)) same (matches_within runs) in
    All-map (IsWithin b) (moved (map place_of rs)) (matches runs) (λ i d h. moved_within b (map place_of rs) (get_or (matches runs) i d) are (few i d h))

within_more : (a b : ℕ) (ps : List Pair) → a ≤ b → All (IsWithin a) ps → All (IsWithin b) ps
within_more a b ps l all i d h = let one : IsWithin a (get_or ps i d) = all i d h in record { ordered = one.ordered; inside = omega (arith, one.inside, l) }

-- what there is before a piece
record IsRead (index : ℕ) (r : Reading) : Type 0 where
  runs : AreAscending 0 index (map place_of r.runs)
  pairs : All (IsWithin index) r.pairs

read_more : (a b : ℕ) (r : Reading) → a ≤ b → IsRead a r → IsRead b r
read_more a b r h read = record { runs = ascending_more 0 a b (map place_of r.runs) h read.runs; pairs = within_more a b r.pairs h read.pairs }

read_with_run : (index : ℕ) (run : Run) (r : Reading) → IsRead index r → IsRead (index + 1) (with_run index run r)
read_with_run index run r read = record {
  runs = subst (λ (xs : List ℕ). AreAscending 0 (index + 1) xs) (sym (map-append place_of r.runs (record { place = index; run = run } ∷ []))) (ascending_push 0 index index (map place_of r.runs) (omega arith) (omega arith) read.runs);
  pairs = within_more index (index + 1) r.pairs (omega arith) read.pairs;
}

read_killed : (index : ℕ) (image : Bool) (r : Reading) → IsRead index r → IsRead index (killed image r)
read_killed index image r read = by_cond (IsRead index) image r _ (λ h. read) (λ h. record { runs = read.runs; pairs = read.pairs })

read_linked : (index : ℕ) (b : Bracket) (r : Reading) → IsRead index r → IsRead index (linked b r)
read_linked index b r read =
    read_killed index b.image (record { brackets = r.brackets; runs = take b.runs r.runs; pairs = r.pairs ++ inside_pairs (drop b.runs r.runs) }) (record {
      runs = ascending_take 0 index b.runs r.runs read.runs;
      pairs = All-append (IsWithin index) r.pairs (inside_pairs (drop b.runs r.runs)) read.pairs (inside_within index (drop b.runs r.runs) (ascending_drop 0 index b.runs r.runs read.runs));
    })

read_linked_by : (index : ℕ) (b : Bracket) (o : Option Target) (r : Reading) → IsRead index r → IsRead index (linked_by b o r).reading
read_linked_by index b None r read = read
read_linked_by index b (Some t) r read = read_linked index b r read

read_closed_by : (labels : List (List ℕ)) (text : List ℕ) (after index : ℕ) (o : Option Open) (r : Reading) → IsRead index r → IsRead index (closed_with labels text after o r).reading
read_closed_by labels text after index None r read = read
read_closed_by labels text after index (Some o) r read =
    by_cond (λ (c : Closed). IsRead index c.reading) (o.dead && not o.bracket.image) (unlinked r) _ (λ h. read) (λ h. read_linked_by index o.bracket (target_at labels text o.bracket.at after) r read)

read_closed : (labels : List (List ℕ)) (text : List ℕ) (after index : ℕ) (r : Reading) → IsRead index r → IsRead index (closed labels text after r).reading
read_closed labels text after index r read = read_closed_by labels text after index (first_open r.brackets) (without_first r) (record { runs = read.runs; pairs = read.pairs })

read_piece : (k : Kind) (index : ℕ) (r : Reading) → IsRead index r → IsRead (index + 1) (read_run k index r)
read_piece (RunKind run) index r read = read_with_run index run r read
read_piece Plain index r read = read_more index (index + 1) r (omega arith) read
read_piece (Shown c second) index r read = read_more index (index + 1) r (omega arith) read
read_piece (CodeKind code) index r read = read_more index (index + 1) r (omega arith) read
read_piece (Address len scheme) index r read = read_more index (index + 1) r (omega arith) read
read_piece (Bare scheme) index r read = read_more index (index + 1) r (omega arith) read
read_piece (HtmlKind html) index r read = read_more index (index + 1) r (omega arith) read
read_piece Soft index r read = read_more index (index + 1) r (omega arith) read
read_piece Hard index r read = read_more index (index + 1) r (omega arith) read
read_piece (Opening image) index r read = read_more index (index + 1) r (omega arith) read
read_piece (Closing link) index r read = read_more index (index + 1) r (omega arith) read

read_bracket : (image : Bool) (at index more : ℕ) (r : Reading) → IsRead index r → IsRead (index + 1) (opening_step image at index more r).reading
read_bracket image at index more r read = let next : IsRead (index + 1) r = read_more index (index + 1) r (omega arith) read in record { runs = next.runs; pairs = next.pairs }

read_step : (labels : List (List ℕ)) (text : List ℕ) (at index : ℕ) (r : Reading) (rest : List ℕ) → IsRead index r → IsRead (index + 1) (step labels text at index r rest).reading
unfolding step
read_step labels text at index r rest read =
    let b : ℕ = get_or text at 0 in
    let P : Step → Type 0 = λ s. IsRead (index + 1) s.reading in
    by_cond P (eqb b 91) (opening_step false (at + 1) index 0 r) _ (λ h. read_bracket false (at + 1) index 0 r read)
    (λ h1. by_cond P (eqb b 33 && eqb (first (drop (at + 1) text)) 91) (opening_step true (at + 2) index 1 r) _ (λ h. read_bracket true (at + 2) index 1 r read)
    (λ h2. by_cond P (eqb b 93) (closing_step (closed labels text (at + 1) r)) (other_step text at index r rest)
    (λ h. read_more index (index + 1) (closed labels text (at + 1) r).reading (omega arith) (read_closed labels text (at + 1) index r read))
    (λ h3. read_piece (piece_at (is_free r.brackets) text at rest).kind index r read)))

-- ---- all pieces

read_cut : (labels : List (List ℕ)) (text : List ℕ) (skip at index : ℕ) (r : Reading) (bs : List ℕ) → IsRead index r
    → IsRead (index + length (cut_from labels text skip at index r bs).pieces) (cut_from labels text skip at index r bs).reading
unfolding cut_from
read_cut labels text skip at index r [] read = read_more index (index + 0) r (omega arith) read
read_cut labels text zero at index r (b ∷ bs) read =
    let s : Step = step labels text at index r (b ∷ bs) in
    let rest : Pieces = cut_from labels text s.piece.more (at + 1) (index + 1) s.reading bs in
    read_more (index + 1 + length rest.pieces) (index + suc (length rest.pieces)) rest.reading (omega arith)
    (read_cut labels text s.piece.more (at + 1) (index + 1) s.reading bs (read_step labels text at index r (b ∷ bs) read))
read_cut labels text (suc skip) at index r (b ∷ bs) read = read_cut labels text skip (at + 1) index r bs read

-- each pair is of two of the pieces
pub pairs_within : (labels : List (List ℕ)) (text : List ℕ) → All (IsWithin (length (cut_text labels text).pieces)) (cut_text labels text).pairs
pairs_within labels text =
    let c : Pieces = cut_from labels text 0 0 0 nothing_read text in
    let none : IsRead 0 nothing_read = record { runs = tt; pairs = All-nil (IsWithin 0) } in
    let read : IsRead (length c.pieces) c.reading = read_more (0 + length c.pieces) (length c.pieces) c.reading (omega arith) (read_cut labels text 0 0 0 nothing_read text none) in
    All-append (IsWithin (length c.pieces)) c.reading.pairs (inside_pairs c.reading.runs) read.pairs (inside_within (length c.pieces) c.reading.runs read.runs)
