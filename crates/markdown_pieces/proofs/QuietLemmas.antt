-- A text of which each byte stands for itself.
use Rattle.std.proofs.Common.{◌≡◌, ℕ, zero, suc, ◌+◌, ◌-◌, ◌<◌, ◌≤◌, min, Bool, true, false, cond, eqb, not, ◌||◌, ◌&&◌, List, [], ◌∷◌, length, drop, refl, sym, ap, ◌∙◌, arith, Some, None}
use Rattle.std.proofs.lemmas.Bool.{eqb-true}
use Rattle.markdown_emphasis.specs.declared.runs.Sign.TheVariants.{Star, Underscore, Tilde}
use Rattle.markdown_marks.specs.Bytes.{first, is_blank_byte}
use Rattle.markdown_addresses.specs.Bare.{HasNoAt}
use Rattle.markdown_brackets.specs.Brackets.{Reading, nothing_read, closed}
use Rattle.markdown_pieces.specs.declared.pieces.Kind.TheVariants.{Plain}
use Rattle.markdown_pieces.specs.declared.pieces.Piece.{Piece}
use Rattle.markdown_pieces.specs.Scan.{HasNoWeb}
use Rattle.markdown_pieces.specs.Pieces.{piece, is_plain, run_piece, code_piece, escape_piece, entity_piece, angle_piece, ends_line, break_piece, stays, plain_from, plain_piece, no_mark_piece, piece_by, piece_at}
use Rattle.markdown_pieces.specs.Cut.{Step, step_of, other_step, closing_step, opening_step, read_with, capped_step, step, Pieces, onto, cut_from, CutText, ended, cut_text, whole_text}
use Rattle.markdown_pieces.proofs.CutLemmas.{cut_cons}
use Rattle.markdown_pieces.proofs.PlainLemmas.{blank_stays, other_stays, plain_piece_same}
use Rattle.markdown_pieces.proofs.ScanLemmas.{plain_no_end, first_is, stay_step, stop_step}

never : true ≡ false → ⊥
never e = cc

-- ---- the first byte

-- a byte that stays is none of those that don't
other_byte : (m b : ℕ) (ends : Bool) → (is_plain m || (is_blank_byte m && not ends)) ≡ false → (is_plain b || (is_blank_byte b && not ends)) ≡ true → eqb b m ≡ false
other_byte m b ends off on = by (eqb b m) refl
  where
    by : (t : Bool) → eqb b m ≡ t → eqb b m ≡ false
    by false e = e
    by true e = absurd (never (sym on ∙ ap (λ x. is_plain x || (is_blank_byte x && not ends)) (eqb-true b m e) ∙ off))

-- what a test for an empty text says
pub some_length : (n : ℕ) (t : Bool) → t ≡ eqb n 0 → t ≡ false → 0 < n
some_length zero t e f = absurd (never (sym e ∙ f))
some_length (suc n) t e f = omega arith

-- a test whose contrary holds
pub off : (t : Bool) → not t ≡ true → t ≡ false
off true h = absurd (never (sym h))
off false h = refl

first_stays : (b : ℕ) (bs : List ℕ) → 0 < plain_from false None (b ∷ bs) → stays b (b ∷ bs) ≡ true
first_stays b bs some = by (stays b (b ∷ bs)) refl
  where
    by : (t : Bool) → stays b (b ∷ bs) ≡ t → stays b (b ∷ bs) ≡ true
    by true e = e
    by false e = absurd (omega (arith, some, stop_step None b bs e))

no_line_end : (b : ℕ) (bs : List ℕ) → stays b (b ∷ bs) ≡ true → ends_line (b ∷ bs) ≡ false
no_line_end b bs h = by (is_blank_byte b) refl
  where
    by : (t : Bool) → is_blank_byte b ≡ t → ends_line (b ∷ bs) ≡ false
    by true blank = off (ends_line (b ∷ bs)) (sym (blank_stays b (b ∷ bs) blank) ∙ h)
    by false blank = first_is b bs blank ∙ plain_no_end b (sym (other_stays b (b ∷ bs) blank) ∙ h)

-- ---- the first piece

three : {A : Type 0} (t u v : Bool) (a b c d : A) → t ≡ false → u ≡ false → v ≡ false → cond t a (cond u b (cond v c d)) ≡ d
three t u v a b c d e f g = ap (λ x. cond x a (cond u b (cond v c d))) e ∙ ap (λ x. cond x b (cond v c d)) f ∙ ap (λ x. cond x c d) g

four : {A : Type 0} (t u v w : Bool) (a b c d e : A) → t ≡ false → u ≡ false → v ≡ false → w ≡ false → cond t a (cond u b (cond v c (cond w d e))) ≡ e
four t u v w a b c d e h i j k = ap (λ x. cond x a (cond u b (cond v c (cond w d e)))) h ∙ three u v w b c d e i j k

-- a byte that is no bracket
read_other : (b : ℕ) (labels : List (List ℕ)) (text : List ℕ) (at index : ℕ) (r : Reading) (rest : List ℕ) → eqb b 91 ≡ false → eqb b 33 ≡ false → eqb b 93 ≡ false
    → read_with b labels text at index r rest ≡ other_step text at index r rest
read_other b labels text at index r rest x y z =
    let next : Bool = eqb (first (drop (at + 1) text)) 91 in
    three (eqb b 91) (eqb b 33 && next) (eqb b 93) (opening_step false (at + 1) index 0 r) (opening_step true (at + 2) index 1 r) (closing_step (closed labels text (at + 1) r)) (other_step text at index r rest) x
    (ap (λ t. t && next) y) z

-- a byte that is no mark
piece_other : (b : ℕ) (bs : List ℕ) → stays b (b ∷ bs) ≡ true → piece_by true b (b ∷ bs) 0 (b ∷ bs) ≡ no_mark_piece true None b (b ∷ bs)
piece_other b bs h =
    let rest : List ℕ = b ∷ bs in
    let ends : Bool = ends_line rest in
    let no_mark : Piece = no_mark_piece true None b rest in
    let later : Piece = cond (eqb b 92) (escape_piece bs) (cond (eqb b 38) (entity_piece bs) (cond (eqb b 60) (angle_piece bs) no_mark)) in
    four (eqb b 96) (eqb b 42) (eqb b 95) (eqb b 126) (code_piece rest) (run_piece Star rest 0 rest) (run_piece Underscore rest 0 rest) (run_piece Tilde rest 0 rest) later (other_byte 96 b ends refl h) (other_byte 42 b ends refl h)
    (other_byte 95 b ends refl h) (other_byte 126 b ends refl h)
    ∙ three (eqb b 92) (eqb b 38) (eqb b 60) (escape_piece bs) (entity_piece bs) (angle_piece bs) no_mark (other_byte 92 b ends refl h) (other_byte 38 b ends refl h) (other_byte 60 b ends refl h)

quiet_piece : (b : ℕ) (bs : List ℕ) → stays b (b ∷ bs) ≡ true → HasNoWeb (b ∷ bs) → HasNoAt (b ∷ bs) → piece_at true (b ∷ bs) 0 (b ∷ bs) ≡ piece Plain (plain_from false (Some b) bs)
unfolding piece_at plain_piece
quiet_piece b bs h web mail =
    let rest : List ℕ = b ∷ bs in
    piece_other b bs h ∙ ap (λ t. cond t (break_piece rest) (plain_piece true None b rest)) (no_line_end b bs h) ∙ sym (plain_piece_same true None b rest web mail)

same_min : (n m : ℕ) → m ≡ n → min n m ≡ n
same_min n m e = omega (arith, e)

-- a piece that is no run, and nothing was read
abbrev pub plain_step : ℕ → Step
plain_step more = record { piece = piece Plain more; reading = nothing_read }

quiet_step : (labels : List (List ℕ)) (b : ℕ) (bs : List ℕ) → stays b (b ∷ bs) ≡ true → plain_from false (Some b) bs ≡ length bs → HasNoWeb (b ∷ bs) → HasNoAt (b ∷ bs)
    → step labels (b ∷ bs) 0 0 nothing_read (b ∷ bs) ≡ plain_step (length bs)
unfolding step
quiet_step labels b bs h all web mail =
    let rest : List ℕ = b ∷ bs in
    let ends : Bool = ends_line rest in
    let long : length rest ≡ suc (length bs) = refl in
    let most : ℕ = length rest - 0 - 1 in
    let read : read_with b labels rest 0 0 nothing_read rest ≡ plain_step (length bs) =
    read_other b labels rest 0 0 nothing_read rest (other_byte 91 b ends refl h) (other_byte 33 b ends refl h) (other_byte 93 b ends refl h)
    ∙ ap (λ (p : Piece). step_of p 0 nothing_read) (quiet_piece b bs h web mail ∙ ap (λ (n : ℕ). piece Plain n) all) in
    ap (λ (s : Step). capped_step s most) read ∙ ap plain_step (same_min (length bs) most (omega (arith, long)))

-- ---- the whole text

cut_all : (labels : List (List ℕ)) (text : List ℕ) (skip at index : ℕ) (r : Reading) (bs : List ℕ) → length bs ≤ skip → cut_from labels text skip at index r bs ≡ record { pieces = []; reading = r }
unfolding cut_from
cut_all labels text zero at index r [] h = refl
cut_all labels text (suc skip) at index r [] h = refl
cut_all labels text zero at index r (b ∷ bs) h = absurd (omega (arith, h))
cut_all labels text (suc skip) at index r (b ∷ bs) h = cut_all labels text skip (at + 1) index r bs (omega (arith, h))

-- a text of which each byte stands for itself is one piece
pub quiet_cut : (labels : List (List ℕ)) (text : List ℕ) → 0 < length text → plain_from false None text ≡ length text → HasNoWeb text → HasNoAt text → cut_text labels text ≡ whole_text text
quiet_cut labels [] some all web mail = absurd (omega (arith, some))
quiet_cut labels (b ∷ bs) some all web mail =
    let text : List ℕ = b ∷ bs in
    let long : length text ≡ suc (length bs) = refl in
    let staying : stays b text ≡ true = first_stays b bs (omega (arith, all, long)) in
    let others : plain_from false (Some b) bs ≡ length bs = omega (arith, all, long, stay_step None b bs staying) in
    let after : Step → Pieces = λ s. onto s.piece (cut_from labels text s.piece.more (0 + 1) (0 + 1) s.reading bs) in
    let whole : ℕ → CutText = λ n. record { pieces = piece Plain n ∷ []; pairs = [] } in
    let last : length bs ≡ length text - 1 = omega (arith, long) in
    ap ended (cut_cons labels text 0 0 nothing_read b bs ∙ ap after (quiet_step labels b bs staying others web mail) ∙ ap (onto (piece Plain (length bs))) (cut_all labels text (length bs) (0 + 1) (0 + 1) nothing_read bs (omega arith)))
    ∙ ap whole last
