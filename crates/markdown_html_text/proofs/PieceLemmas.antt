-- Pieces of html, one after another: a text may be cut at their ends.
use Rattle.std.proofs.Common.{◌≡◌, ℕ, zero, suc, ◌+◌, ◌-◌, ◌<◌, ◌≤◌, inl, inr, ⊎_elim, true, false, eqb, not, ◌&&◌, min, List, [], ◌∷◌, ◌++◌, length, take, drop, get_or, refl, sym, ap, subst, ◌∙◌, arith, Option, Some, None, append_assoc}
use Rattle.std.specs.List.{prefix_len}
use Rattle.std.specs.Str.{IsUtf8, IsCharBoundary}
use Rattle.std.proofs.lemmas.Bool.{cases_lt, eqb-true}
use Rattle.std.proofs.lemmas.Bool.Decides.{nat_tests}
use Rattle.std.proofs.lemmas.List.{length-drop, drop-drop, append-nil, take_all}
use Rattle.std.proofs.lemmas.List.Sums.{prefix_len_passes, prefix_len_stops}
use Rattle.std.proofs.lemmas.Str.{IsUtf8-drop, IsCharBoundary-start, IsCharBoundary-from_rest}
use Rattle.markdown_html.specs.Starts.{without_slash}
use Rattle.markdown_marks.specs.Definitions.{is_space_byte}
use Rattle.markdown_spans.specs.Entities.{entity_of}
use Rattle.markdown_spans.specs.declared.attributes.Html.TheVariants.{Nothing}
use Rattle.markdown_spans.specs.declared.entities.Entity.{Entity}
use Rattle.markdown_pieces.specs.Pieces.{entity_by}
use Rattle.markdown_pieces.specs.Places.{IsInside, AreCut}
use Rattle.markdown_pieces.specs.declared.pieces.Kind.{Kind}
use Rattle.markdown_pieces.specs.declared.pieces.Kind.TheVariants.{Plain, Html as HtmlKind, Soft, Hard}
use Rattle.markdown_pieces.specs.declared.pieces.Piece.{Piece}
use Rattle.markdown_pieces.proofs.EndLemmas.{EndsWell, well}
use Rattle.markdown_pieces.proofs.PieceEnds.{entity_ends, entity_ends_by}
use Rattle.markdown_pieces.proofs.TailLemmas.{by_cond}
use Rattle.markdown_html_text.specs.Markup.{other_by, other_end, is_tag, markup_of, tag_by, tag_end}
use Rattle.markdown_html_text.specs.HtmlPieces.{Step, step_of, fresh, texted, gap_kind, gap_step, cut_kind, effect_step, markup_step, entity_step, is_text_byte, step_by, step, pieces_from, html_pieces}
use Rattle.markdown_html_text.specs.declared.markup.Effect.{Effect}
use Rattle.markdown_html_text.specs.declared.markup.Effect.TheVariants.{Gap, Cut, Say}
use Rattle.markdown_html_text.specs.declared.markup.Markup.{Markup}
use Rattle.markdown_html_text.specs.declared.pieces.HtmlRow.{HtmlRow}
use Rattle.markdown_html_text.proofs.EndLemmas.{markup_ends, tag_end_left, GivesLeft, other_left}

-- ---- where each ends

-- a step's piece ends well
abbrev Ends : List ℕ → Step → Type 0
Ends rest s = EndsWell rest s.piece.more

effect_more : (effect : Effect) (more : ℕ) (row : HtmlRow) → (effect_step effect more row).piece.more ≡ more
effect_more Gap more row = refl
effect_more Cut more row = refl
effect_more (Say html) more row = refl

some_ends : (b : ℕ) (bs : List ℕ) (m : Markup) (row : HtmlRow) → EndsWell (b ∷ bs) m.len → Ends (b ∷ bs) (markup_step (Some m) row)
some_ends b bs m row h = subst (EndsWell (b ∷ bs)) (sym (effect_more m.effect m.len row)) h

other_ends : (b : ℕ) (bs : List ℕ) (row : HtmlRow) (o : Option (List ℕ)) → b < 128 → GivesLeft bs o → Ends (b ∷ bs) (markup_step (other_by bs o) row)
other_ends b bs row None small g = inl small
other_ends b bs row (Some after) small g = markup_ends b bs after (g after refl)

markup_step_ends : (b : ℕ) (bs : List ℕ) (row : HtmlRow) → b < 128 → Ends (b ∷ bs) (markup_step (markup_of bs) row)
unfolding markup_of
markup_step_ends b bs row small =
    by_cond (λ (o : Option Markup). Ends (b ∷ bs) (markup_step o row)) (is_tag (without_slash bs)) (Some (tag_by bs (tag_end bs))) (other_by bs (other_end bs))
    (λ h. some_ends b bs (tag_by bs (tag_end bs)) row (markup_ends b bs (tag_end bs) (tag_end_left bs))) (λ h. other_ends b bs row (other_end bs) small (other_left bs))

entity_same : (o : Option Entity) → (entity_by o).more ≡ (entity_step o).piece.more
entity_same None = refl
entity_same (Some entity) = refl

entity_step_ends : (b : ℕ) (bs : List ℕ) → b < 128 → Ends (b ∷ bs) (entity_step (entity_of bs))
entity_step_ends b bs small = subst (EndsWell (b ∷ bs)) (entity_same (entity_of bs)) (entity_ends_by (b ∷ bs) (entity_of bs) small (entity_ends bs))

space_small : (b : ℕ) → is_space_byte b ≡ true → b < 128
space_small b h = grind (arith, nat_tests)

spaces_end : (b : ℕ) (bs : List ℕ) (n : ℕ) → n ≡ prefix_len is_space_byte bs → b < 128 → get_or (b ∷ bs) n 0 < 128
spaces_end b bs zero e small = small
spaces_end b bs (suc n) e small = space_small (get_or bs n 0) (prefix_len_passes is_space_byte bs n 0 (omega (arith, e)))

text_small : (b : ℕ) → is_text_byte b ≡ false → b < 128
text_small b h = grind (arith, nat_tests)

beyond : (l : List ℕ) (n : ℕ) → length l ≤ n → get_or l n 0 < 128
beyond [] n h = omega arith
beyond (b ∷ bs) zero h = absurd (omega arith)
beyond (b ∷ bs) (suc n) h = beyond bs n (omega arith)

text_stop : (bytes : List ℕ) (n : ℕ) → n ≡ prefix_len is_text_byte bytes → get_or bytes n 0 < 128
text_stop bytes n e =
    ⊎_elim (λ (few : n < length bytes). text_small (get_or bytes n 0) (ap (λ i. is_text_byte (get_or bytes i 0)) e ∙ prefix_len_stops is_text_byte bytes 0 (omega (arith, e))))
    (λ (over : length bytes ≤ n). beyond bytes n over) (cases_lt n (length bytes))

text_ends : (b : ℕ) (bs : List ℕ) → EndsWell (b ∷ bs) (prefix_len is_text_byte bs)
text_ends b bs =
    let n : ℕ = prefix_len is_text_byte bs in
    let swap : suc n ≡ n + 1 = omega arith in
    inr (subst (λ (i : ℕ). get_or (b ∷ bs) i 0 < 128) swap (text_stop bs n refl))

-- each piece ends well
pub step_ends : (b : ℕ) (bs : List ℕ) (row : HtmlRow) → Ends (b ∷ bs) (step_by b bs row)
step_ends b bs row =
    let small : (n : ℕ) → eqb b n ≡ true → n < 128 → b < 128 = λ n h l. let same : b ≡ n = eqb-true b n h in omega (arith, same) in
    let P : Step → Type 0 = Ends (b ∷ bs) in
    by_cond P (eqb b 60) (markup_step (markup_of bs) row) _ (λ h. markup_step_ends b bs row (small 60 h (omega arith)))
    (λ h1. by_cond P (eqb b 38) (entity_step (entity_of bs)) _ (λ h. entity_step_ends b bs (small 38 h (omega arith)))
    (λ h2. by_cond P (is_space_byte b) (gap_step (prefix_len is_space_byte bs) row) (step_of Plain (prefix_len is_text_byte bs) texted)
    (λ h. inl (spaces_end b bs (prefix_len is_space_byte bs) refl (space_small b h))) (λ h. text_ends b bs)))

-- ---- nothing is inside of them

-- nothing is asked of what is inside a piece of this kind
abbrev IsWhole : Kind → Type 0
IsWhole kind = (text : List ℕ) (at : ℕ) → IsInside text at kind

gap_whole : (row : HtmlRow) → IsWhole (gap_kind row)
gap_whole row = by_cond IsWhole (row.begun && not row.gapped) Soft (HtmlKind Nothing) (λ h text at. tt) (λ h text at. tt)

cut_whole : (row : HtmlRow) → IsWhole (cut_kind row)
cut_whole row = by_cond IsWhole row.begun Hard (HtmlKind Nothing) (λ h text at. tt) (λ h text at. tt)

effect_whole : (effect : Effect) (more : ℕ) (row : HtmlRow) → IsWhole (effect_step effect more row).piece.kind
effect_whole Gap more row = gap_whole row
effect_whole Cut more row = cut_whole row
effect_whole (Say html) more row = λ text at. tt

markup_whole : (o : Option Markup) (row : HtmlRow) → IsWhole (markup_step o row).piece.kind
markup_whole None row = λ text at. tt
markup_whole (Some m) row = effect_whole m.effect m.len row

entity_whole : (o : Option Entity) → IsWhole (entity_step o).piece.kind
entity_whole None = λ text at. tt
entity_whole (Some entity) = λ text at. tt

step_whole : (b : ℕ) (bs : List ℕ) (row : HtmlRow) → IsWhole (step_by b bs row).piece.kind
step_whole b bs row =
    let P : Step → Type 0 = λ s. IsWhole s.piece.kind in
    by_cond P (eqb b 60) (markup_step (markup_of bs) row) _ (λ h. markup_whole (markup_of bs) row)
    (λ h1. by_cond P (eqb b 38) (entity_step (entity_of bs)) _ (λ h. entity_whole (entity_of bs))
    (λ h2. by_cond P (is_space_byte b) (gap_step (prefix_len is_space_byte bs) row) (step_of Plain (prefix_len is_text_byte bs) texted) (λ h. gap_whole row) (λ h text at. tt)))

-- ---- all pieces

record IsPlaced (text : List ℕ) (at : ℕ) (p : Piece) : Type 0 where
  inside : IsInside text at p.kind
  few : at + p.more < length text
  end : IsCharBoundary text (at + (p.more + 1))

step_placed : (text : List ℕ) (at b : ℕ) (bs : List ℕ) (row : HtmlRow) → IsUtf8 text → at < length text → IsCharBoundary text at → b ∷ bs ≡ drop at text → IsPlaced text at (step b bs row).piece
unfolding step
step_placed text at b bs row u within cut e =
    let more : ℕ = (step_by b bs row).piece.more in
    let v : IsUtf8 (b ∷ bs) = subst IsUtf8 (sym e) (IsUtf8-drop text at u cut) in
    let many : suc (length bs) ≡ length text - at = ap length e ∙ length-drop at text in
    let here : IsCharBoundary (b ∷ bs) (min more (length (b ∷ bs) - 1) + 1) = well (b ∷ bs) more v (omega arith) (step_ends b bs row) in
    let same : min more (length (b ∷ bs) - 1) + 1 ≡ min more (length bs) + 1 = omega arith in
    let there : IsCharBoundary (drop at text) (min more (length bs) + 1) = subst (λ (l : List ℕ). IsCharBoundary l (min more (length bs) + 1)) e (subst (λ n. IsCharBoundary (b ∷ bs) n) same here) in
    record { inside = step_whole b bs row text at; few = omega (arith, many, within); end = IsCharBoundary-from_rest text at (min more (length bs) + 1) (omega (arith, within)) there }

placed_from : (text : List ℕ) (skip at : ℕ) (row : HtmlRow) (bs : List ℕ) → IsUtf8 text → bs ≡ drop at text → at ≤ length text → skip ≤ length bs → IsCharBoundary text (at + skip) → AreCut text (at + skip) (pieces_from skip row bs)
unfolding pieces_from
placed_from text skip at row [] u e within few cut = let all : length text - at ≡ 0 = sym (length-drop at text) ∙ sym (ap length e) in omega (arith, all, few, within)
placed_from text zero at row (b ∷ bs) u e within few cut =
    let many : suc (length bs) ≡ length text - at = ap length e ∙ length-drop at text in
    let more : at < length text = omega (arith, many) in
    let zero_more : at + 0 ≡ at = omega arith in
    let here : IsCharBoundary text at = subst (λ n. IsCharBoundary text n) zero_more cut in
    let s : Step = step b bs row in
    let placed : IsPlaced text at s.piece = step_placed text at b bs row u more here e in
    let next : bs ≡ drop (at + 1) text = ap (drop 1) e ∙ drop-drop 1 at text in
    let there : at + 1 + s.piece.more ≡ at + (s.piece.more + 1) = omega arith in
    let after : IsCharBoundary text (at + 1 + s.piece.more) = subst (λ n. IsCharBoundary text n) (sym there) placed.end in
    let rest : AreCut text (at + 1 + s.piece.more) (pieces_from s.piece.more s.row bs) =
    placed_from text s.piece.more (at + 1) s.row bs u next (omega (arith, more)) (omega (arith, many, placed.few)) after in
    let start : at ≡ at + 0 = omega arith in
    let now : AreCut text at (pieces_from 0 row (b ∷ bs)) = (placed.inside, placed.few, placed.end, subst (λ n. AreCut text n (pieces_from s.piece.more s.row bs)) there rest) in
    subst (λ n. AreCut text n (pieces_from 0 row (b ∷ bs))) start now
placed_from text (suc skip) at row (b ∷ bs) u e within few cut =
    let many : suc (length bs) ≡ length text - at = ap length e ∙ length-drop at text in
    let next : bs ≡ drop (at + 1) text = ap (drop 1) e ∙ drop-drop 1 at text in
    let there : at + suc skip ≡ at + 1 + skip = omega arith in
    let rest : AreCut text (at + 1 + skip) (pieces_from skip row bs) = placed_from text skip (at + 1) row bs u next (omega (arith, many)) (omega (arith, few)) (subst (λ n. IsCharBoundary text n) there cut) in
    subst (λ n. AreCut text n (pieces_from skip row bs)) (sym there) rest

-- html is cut where it may be
pub html_placed : (text : List ℕ) → IsUtf8 text → AreCut text 0 (html_pieces text)
html_placed text u = placed_from text 0 0 fresh text u refl (omega arith) (omega arith) (IsCharBoundary-start text u)

-- ---- one piece more

pieces_skip : (skip : ℕ) (row : HtmlRow) (bs : List ℕ) → pieces_from skip row bs ≡ pieces_from 0 row (drop skip bs)
unfolding pieces_from
pieces_skip zero row bs = refl
pieces_skip (suc skip) row [] = refl
pieces_skip (suc skip) row (b ∷ bs) = pieces_skip skip row bs

-- a piece joins those that are cut, and all pieces are the same
pub pieces_next : (rest after : List ℕ) (row behind : HtmlRow) (done now all : List Piece) (p : Piece) → 1 ≤ length rest → after ≡ drop 1 rest → done ++ pieces_from 0 row rest ≡ all
    → p ≡ (step (get_or rest 0 0) after row).piece → behind ≡ (step (get_or rest 0 0) after row).row → now ≡ done ++ p ∷ [] → now ++ pieces_from 0 behind (drop p.more after) ≡ all
unfolding pieces_from
pieces_next [] after row behind done now all p some is same piece_is row_is now_is = absurd (omega arith)
pieces_next (b ∷ bs) after row behind done now all p some is same piece_is row_is now_is =
    ap (λ (l : List Piece). l ++ pieces_from 0 behind (drop p.more after)) now_is ∙ append_assoc done (p ∷ []) (pieces_from 0 behind (drop p.more after))
    ∙ ap (λ (l : List Piece). done ++ p ∷ l) (sym (pieces_skip p.more behind after))
    ∙ ap (λ (r : HtmlRow). done ++ p ∷ pieces_from p.more r after) row_is
    ∙ ap (λ (q : Piece). done ++ q ∷ pieces_from q.more (step b after row).row after) piece_is
    ∙ ap (λ (l : List ℕ). done ++ (step b l row).piece ∷ pieces_from (step b l row).piece.more (step b l row).row l) is ∙ same

-- where no byte is left, all pieces are there
pub pieces_all : (rest : List ℕ) (row : HtmlRow) (done all : List Piece) → length rest < 1 → done ++ pieces_from 0 row rest ≡ all → done ≡ all
unfolding pieces_from
pieces_all [] row done all none same = sym (append-nil done) ∙ same
pieces_all (b ∷ bs) row done all none same = absurd (omega arith)

-- all that follows the first byte
pub after_first_byte : (rest : List ℕ) → take (length rest - 1) (drop 1 rest) ≡ drop 1 rest
after_first_byte rest = let few : length (drop 1 rest) ≡ length rest - 1 = length-drop 1 rest in take_all (length rest - 1) (drop 1 rest) (omega (arith, few))
