-- The hits of a row, text by text.
use Rattle.std.proofs.Common.{◌≡◌, ℕ, ◌+◌, ◌^◌, ◌-◌, ◌<◌, ◌≤◌, nat_lt, Bool, true, false, List, [], ◌∷◌, ◌++◌, map, take, drop, length, get_or, min, refl, ap, sym, ◌∙◌, arith, append_assoc}
use Rattle.std.specs.Prelude.{chars, if◌then◌else◌}
use Rattle.std.specs.List.{flat_map}
use Rattle.std.proofs.lemmas.List.{append-nil, drop_all, drop_more, map-append, take_more}
use Rattle.std.proofs.lemmas.List.Concat.{flat_map-append, flat_map-cons}
use Rattle.regex.specs.Patterns.{Re}
use Rattle.mad_md.specs.Flagged.{run_of}
use Rattle.mad_md.specs.declared.compound.Compound.{Compound}
use Rattle.mad_style.specs.StyledChars.{styled_char}
use Rattle.mad_style.specs.declared.compound_styles.CompoundStyle.{CompoundStyle}
use Rattle.mad_style.specs.declared.styled_chars.StyledChar.{StyledChar}
use Rattle.mad_wrap.specs.WrapLines.{capped}
use Rattle.mad_format.specs.declared.composite.FmtComposite.{FmtComposite}
use Rattle.mad_rows.specs.RowStyles.{compound_style, line_style}
use Rattle.mad_rows.specs.Rows.{cell_columns}
use Rattle.mad_rows.specs.declared.row_skin.RowSkin.{RowSkin}
use Rattle.mad_hits.specs.Styled.{styled_compound}
use Rattle.mad_hits.specs.Hits.{Marked, marked_at, marked_of, placed_cell, placed_cells}
use Rattle.mad_hits.specs.Parts.{char_count, marked_bytes, part_of, text_hits, texts_hits}
use Rattle.mad_hits.specs.declared.hits.Hit.{Hit}

-- a compound more is put after a text, of those that are left
pub styled_put : (skin : RowSkin) (l : FmtComposite) (xs : List Compound) (i : ℕ) (d : Compound) (whole text new : List StyledChar) (style : CompoundStyle)
    → i < length xs → style ≡ compound_style skin (line_style skin l.kind) (run_of (get_or xs i d)) → text ++ flat_map (styled_compound skin l) (drop i xs) ≡ whole
    → new ≡ text ++ map (styled_char style) (chars (get_or xs i d).src.now) → new ++ flat_map (styled_compound skin l) (drop (i + 1) xs) ≡ whole
styled_put skin l xs i d whole text new style inside is h put =
    let f = styled_compound skin l in
    let x = get_or xs i d in
    let e : new ≡ text ++ f x = put ∙ ap (λ (s : CompoundStyle). text ++ map (styled_char s) (chars x.src.now)) is in
    ap (λ (t : List StyledChar). t ++ flat_map f (drop (i + 1) xs)) e
    ∙ (append_assoc text (f x) (flat_map f (drop (i + 1) xs)) ∙ (ap (λ (t : List StyledChar). text ++ t) (sym (flat_map-cons f x (drop (i + 1) xs)) ∙ ap (flat_map f) (sym (drop_more xs i d inside))) ∙ h))

-- what is put for one element more, of those that are left
pub put_more : {X : Type 0} (f : X → List Marked) (xs : List X) (i : ℕ) (d : X) (old mid new : List Marked) → i < length xs → mid ≡ old ++ flat_map f (take i xs) → new ≡ mid ++ f (get_or xs i d) → new ≡ old ++ flat_map f (take (i + 1) xs)
put_more {X} f xs i d old mid new inside so put =
    let x : X = get_or xs i d in
    let last : flat_map f (take (i + 1) xs) ≡ flat_map f (take i xs) ++ f x =
    ap (flat_map f) (take_more xs i d inside) ∙ (flat_map-append f (take i xs) (x ∷ []) ∙ ap (λ (m : List Marked). flat_map f (take i xs) ++ m) (append-nil (f x))) in
    put ∙ (ap (λ (m : List Marked). m ++ f x) so ∙ (append_assoc old (flat_map f (take i xs)) (f x) ∙ ap (λ (m : List Marked). old ++ m) (sym last)))

-- the parts of hits in a text of these characters and bytes, along what is equal
pub parts_are : (n : ℕ) (own : ℕ × ℕ) (found : List (ℕ × ℕ)) (text shown : List StyledChar) (bytes spelt : List ℕ) (old new : List Marked) → text ≡ shown → bytes ≡ spelt
    → new ≡ old ++ flat_map (λ (hit : ℕ × ℕ). marked_bytes n text bytes (part_of own hit)) found → new ≡ old ++ flat_map (λ (hit : ℕ × ℕ). marked_bytes n shown spelt (part_of own hit)) found
parts_are n own found text shown bytes spelt old new a b put =
    put
    ∙ (ap (λ (t : List StyledChar). old ++ flat_map (λ (hit : ℕ × ℕ). marked_bytes n t bytes (part_of own hit)) found) a
    ∙ ap (λ (k : List ℕ). old ++ flat_map (λ (hit : ℕ × ℕ). marked_bytes n shown k (part_of own hit)) found) b)

-- the characters in some bytes of a text were put
pub part_put : (old new : List Hit) (hit : Hit) (n count start : ℕ) (text : List StyledChar) (bytes : List ℕ) (part : ℕ × ℕ) → nat_lt part.0 part.1 ≡ true → new ≡ old ++ hit ∷ [] → marked_of hit ≡ marked_at n text count start
    → start ≡ char_count (take part.0 bytes) → count ≡ char_count (take part.1 bytes) - start → map marked_of new ≡ map marked_of old ++ marked_bytes n text bytes part
part_put old new hit n count start text bytes part some put mark a b =
    let first : ℕ = char_count (take part.0 bytes) in
    let last : ℕ = char_count (take part.1 bytes) in
    let is : marked_of hit ≡ marked_at n text (last - first) first =
    mark ∙ (ap (λ (k : ℕ). marked_at n text k start) (b ∙ ap (λ (k : ℕ). last - k) a) ∙ ap (λ (k : ℕ). marked_at n text (last - first) k) a) in
    ap (map marked_of) put
    ∙ (map-append marked_of old (hit ∷ [])
    ∙ (ap (λ (m : Marked). map marked_of old ++ m ∷ []) is
    ∙ sym (ap (λ (x : Bool). map marked_of old ++ (if x then marked_at n text (last - first) first ∷ [] else [])) some)))

-- there are none
pub part_left : (old : List Marked) (n : ℕ) (text : List StyledChar) (bytes : List ℕ) (part : ℕ × ℕ) → nat_lt part.0 part.1 ≡ false → old ≡ old ++ marked_bytes n text bytes part
part_left old n text bytes part none =
    let first : ℕ = char_count (take part.0 bytes) in
    let last : ℕ = char_count (take part.1 bytes) in
    sym (ap (λ (x : Bool). old ++ (if x then marked_at n text (last - first) first ∷ [] else [])) none ∙ append-nil old)

-- ---- the cells of a row

-- the cells so far: where the next one is, and what is left
pub record CellsSoFar (skin : RowSkin) (sought : Re) (cells : List FmtComposite) (i start column : ℕ) (old new : List Hit) : Type 0 where
  pub now : ℕ
  pub at : column ≡ capped now
  pub first : List Marked
  pub added : map marked_of new ≡ map marked_of old ++ first
  pub goes : first ++ texts_hits skin (placed_cells skin sought now (drop i cells)) ≡ texts_hits skin (placed_cells skin sought start cells)

-- before the first cell there are no hits
pub no_cell : (skin : RowSkin) (sought : Re) (cells : List FmtComposite) (start column : ℕ) (hits : List Hit) → column ≡ capped start → CellsSoFar skin sought cells 0 start column hits hits
no_cell skin sought cells start column hits at = record { now = start; at = at; first = []; added = sym (append-nil (map marked_of hits)); goes = refl }

-- the hits of one cell more are there
pub cell_more : (skin : RowSkin) (sought : Re) (cells : List FmtComposite) (i start column inside next wide : ℕ) (d : FmtComposite) (old mid new : List Hit)
    → CellsSoFar skin sought cells i start column old mid → i < length cells → inside ≡ min (column + 1) (2 ^ 64 - 1) → wide ≡ capped (cell_columns skin (get_or cells i d)) → next ≡ min (inside + wide) (2 ^ 64 - 1)
    → ((n : ℕ) → column ≡ capped n → map marked_of new ≡ map marked_of mid ++ text_hits skin (placed_cell skin sought n (get_or cells i d)))
    → CellsSoFar skin sought cells (i + 1) start next old new
cell_more skin sought cells i start column inside next wide d old mid new s within in_is wide_is next_is put =
    let here = s.at in
    let cell : FmtComposite = get_or cells i d in
    let own : List Marked = text_hits skin (placed_cell skin sought s.now cell) in
    let rest : List Marked = texts_hits skin (placed_cells skin sought (s.now + 1 + cell_columns skin cell) (drop (i + 1) cells)) in
    record {
      now = s.now + 1 + cell_columns skin cell;
      at = omega (arith, here, in_is, wide_is, next_is);
      first = s.first ++ own;
      added = put s.now here ∙ (ap (λ (m : List Marked). m ++ own) s.added ∙ append_assoc (map marked_of old) s.first own);
      goes =
          append_assoc s.first own rest
          ∙ (ap (λ (cs : List FmtComposite). s.first ++ texts_hits skin (placed_cells skin sought s.now cs)) (sym (drop_more cells i d within)) ∙ s.goes);
    }

-- past the last cell those of all are there
pub cells_whole : (skin : RowSkin) (sought : Re) (cells : List FmtComposite) (i start column : ℕ) (old new : List Hit) → length cells ≤ i → CellsSoFar skin sought cells i start column old new
    → map marked_of new ≡ map marked_of old ++ texts_hits skin (placed_cells skin sought start cells)
cells_whole skin sought cells i start column old new past s =
    let none : texts_hits skin (placed_cells skin sought s.now (drop i cells)) ≡ [] = ap (λ (cs : List FmtComposite). texts_hits skin (placed_cells skin sought s.now cs)) (drop_all i cells past) in
    s.added ∙ ap (λ (m : List Marked). map marked_of old ++ m) (sym (append-nil s.first) ∙ (ap (λ (m : List Marked). s.first ++ m) (sym none) ∙ s.goes))
