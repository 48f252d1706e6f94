-- Rows whose characters have styles of their own, row by row.
use Rattle.std.proofs.Common.{◌≡◌, ℕ, ◌+◌, ◌<◌, List, [], ◌∷◌, ◌++◌, map, take, length, get_or, Option, refl, ap, sym, ◌∙◌, subst, arith, append_assoc}
use Rattle.std.proofs.lemmas.List.{append-nil, length-map, length-take-le, map_more}
use Rattle.std.specs.List.{flat_map}
use Rattle.regex.specs.Patterns.{Re}
use Rattle.mad_patterns.specs.Searches.{hits}
use Rattle.mad_term.specs.Trace.{Trace, after, TookWith}
use Rattle.mad_style.specs.declared.compound_styles.CompoundStyle.{CompoundStyle}
use Rattle.mad_style.specs.declared.styled_chars.StyledChar.{StyledChar}
use Rattle.mad_plain_page.specs.StyledRows.{row_chars}
use Rattle.mad_plain_page.specs.declared.painted.StyledRow.{StyledRow}
use Rattle.mad_hits.specs.Drawn.{AreHitsShown, IsHitShown, hit_bytes, hits_bytes}
use Rattle.mad_hits.specs.FrontHits.{hit_behind}
use Rattle.mad_hits.specs.Hits.{Marked, marked_of}
use Rattle.mad_hits.specs.OwnRows.{AreRowsDrawn, IsRowDrawn, hits_of_row, own_hits, own_text, row_in}
use Rattle.mad_hits.specs.Parts.{marked_bytes, part_of}
use Rattle.mad_hits.specs.declared.hits.Hit.{Hit}
use Rattle.mad_hits.specs.declared.rooms.RowRoom.{RowRoom}
use Rattle.mad_hits.proofs.TookLemmas.{took_exact, took_in_turn}

-- the parts of hits that were put after none, along what is equal
pub own_put : (sought : Re) (row : List StyledChar) (bytes : List ℕ) (found : List (ℕ × ℕ)) (end : ℕ) (old new : List Marked) → old ≡ [] → bytes ≡ own_text row → found ≡ hits sought (own_text row) → end ≡ length (own_text row)
    → new ≡ old ++ flat_map (λ (hit : ℕ × ℕ). marked_bytes 0 row bytes (part_of (0, end) hit)) found → new ≡ hits_of_row sought row
own_put sought row bytes found end old new none spelt are long put =
    put
    ∙ (ap (λ (m : List Marked). m ++ flat_map (λ (hit : ℕ × ℕ). marked_bytes 0 row bytes (part_of (0, end) hit)) found) none
    ∙ (ap (λ (k : List ℕ). flat_map (λ (hit : ℕ × ℕ). marked_bytes 0 row k (part_of (0, end) hit)) found) spelt
    ∙ (ap (λ (n : ℕ). flat_map (λ (hit : ℕ × ℕ). marked_bytes 0 row (own_text row) (part_of (0, n) hit)) found) long
    ∙ ap (flat_map (λ (hit : ℕ × ℕ). marked_bytes 0 row (own_text row) (part_of (0, length (own_text row)) hit))) are)))

-- a row, and then its hits
pub row_drawn : (style : CompoundStyle) (room : RowRoom) (sought : Option Re) (y : ℕ) (row : List StyledChar) (hits given : List Hit) (left : ℕ) (old mid new : Trace)
    → left ≡ room.left → given ≡ hits → map marked_of hits ≡ own_hits sought row
    → mid ≡ after old (hit_bytes room.end y (record { column = left; chars = row })) → TookWith old mid (IsHitShown room.end y (record { column = left; chars = row }))
    → new ≡ after mid (hits_bytes room.end y (map (hit_behind style left) (map marked_of given))) → TookWith mid new (AreHitsShown room.end y (map (hit_behind style left) (map marked_of given)))
    → TookWith old new (IsRowDrawn style room sought y row)
row_drawn style room sought y row hits given left old mid new at same are row_written drawn hits_written over =
    let place : ℕ → Marked = λ n. record { column = n; chars = row } in
    let marks : ℕ → List Marked → List Marked = λ n ms. map (hit_behind style n) ms in
    let all : map marked_of given ≡ own_hits sought row = ap (map marked_of) same ∙ are in
    let own : List Marked = marks room.left (own_hits sought row) in
    let first_bytes : List ℕ = hit_bytes room.end y (row_in room row) in
    let row_is : mid ≡ after old first_bytes = row_written ∙ ap (λ (n : ℕ). after old (hit_bytes room.end y (place n))) at in
    let hits_are : new ≡ after mid (hits_bytes room.end y own) =
    hits_written ∙ ap (λ (n : ℕ). after mid (hits_bytes room.end y (marks n (map marked_of given)))) at ∙ ap (λ (ms : List Marked). after mid (hits_bytes room.end y (marks room.left ms))) all in
    let row_shown : TookWith old mid (IsHitShown room.end y (row_in room row)) = subst (λ (n : ℕ). TookWith old mid (IsHitShown room.end y (place n))) at drawn in
    let hits_shown : TookWith mid new (AreHitsShown room.end y own) =
    subst (λ (ms : List Marked). TookWith mid new (AreHitsShown room.end y (marks room.left ms))) all (subst (λ (n : ℕ). TookWith mid new (AreHitsShown room.end y (marks n (map marked_of given)))) at over) in
    took_in_turn old mid new (λ text. (text ≡ first_bytes) × IsHitShown room.end y (row_in room row) text) (λ text. (text ≡ hits_bytes room.end y own) × AreHitsShown room.end y own text) (IsRowDrawn style room sought y row)
    (λ a b first others. record {
      written = ap (λ (t : List ℕ). t ++ b) first.0 ∙ ap (λ (t : List ℕ). first_bytes ++ t) others.0;
      shown = (a, b, refl, first.1, others.1);
    })
    (took_exact old mid first_bytes (IsHitShown room.end y (row_in room row)) row_is row_shown) (took_exact mid new (hits_bytes room.end y own) (AreHitsShown room.end y own) hits_are hits_shown)

rows_drawn : (style : CompoundStyle) (room : RowRoom) (sought : Option Re) (y n : ℕ) (rows : List (List StyledChar)) (row : List StyledChar) (a b : List ℕ) → n ≡ y + length rows
    → AreRowsDrawn style room sought y rows a → IsRowDrawn style room sought n row b → AreRowsDrawn style room sought y (rows ++ row ∷ []) (a ++ b)
rows_drawn style room sought y n [] row a b at none here =
    let same : n ≡ y = omega (arith, at) in
    (b, [], ap (λ (l : List ℕ). l ++ b) none ∙ sym (append-nil b), subst (λ (k : ℕ). IsRowDrawn style room sought k row b) same here, refl)
rows_drawn style room sought y n (r ∷ rows) row a b at (first, others, are, drawn, rest) here = (
  first,
  others ++ b,
  ap (λ (s : List ℕ). s ++ b) are ∙ append_assoc first others b,
  drawn,
  rows_drawn style room sought (y + 1) n rows row others b (omega (arith, at)) rest here,
)

-- a row more
pub own_row_more : (style : CompoundStyle) (room : RowRoom) (sought : Option Re) (rows : List StyledRow) (i y : ℕ) (d : StyledRow) (chars : List StyledChar) (a b : List ℕ) → i < length rows → y ≡ i → d ≡ get_or rows i d → chars ≡ row_chars d
    → AreRowsDrawn style room sought 0 (map row_chars (take i rows)) a → IsRowDrawn style room sought y chars b → AreRowsDrawn style room sought 0 (map row_chars (take (i + 1) rows)) (a ++ b)
own_row_more style room sought rows i y d chars a b inside at item are so here =
    let long : length (map row_chars (take i rows)) ≡ length (take i rows) = length-map (take i rows) row_chars in
    let short : length (take i rows) ≡ i = length-take-le i rows (omega (arith, inside)) in
    subst (λ (rs : List (List StyledChar)). AreRowsDrawn style room sought 0 rs (a ++ b)) (sym (map_more row_chars rows i d inside))
    (rows_drawn style room sought 0 y (map row_chars (take i rows)) (row_chars (get_or rows i d)) a b (omega (arith, at, long, short)) so
    (subst (λ (cs : List StyledChar). IsRowDrawn style room sought y cs b) (are ∙ ap row_chars item) here))
