-- Characters, and the bytes that spell them.
use Rattle.std.proofs.Common.{ℕ, ◌≡◌, List, [], ◌∷◌, ◌++◌, take, drop, refl, ap, sym, ◌∙◌, arith, lit<, append-nil, cond, true}
use Rattle.std.specs.Prelude.{All, encode_utf8, encode_utf8_all}
use Rattle.std.specs.Char.{IsScalar}
use Rattle.std.specs.Str.{chars}
use Rattle.std.proofs.Math.Utf8.{scalars, scalar}
use Rattle.std.proofs.lemmas.Bool.{and_from}
use Rattle.std.proofs.lemmas.Str.{chars-encodes, chars-nil, encode_ascii}
use Rattle.std.proofs.lemmas.List.{take_at, drop_at, length-take-le}
use Rattle.std.proofs.lemmas.List.Edits.{split_between}
use Rattle.std.proofs.lemmas.List.Elements.{All-head, All-tail, All-take, All-drop}
use Rattle.mad_edit_lines.specs.TextLines.{accepted, IsAcceptedChar}
use Rattle.mad_edit.specs.Editor.{Editor, IsEditor, IsCut, selection_start, selection_end, selected, inserted, without}

-- of no bytes no character is accepted
pub nothing_accepted : accepted (chars []) ≡ []
nothing_accepted = ap accepted chars-nil

-- the bytes of one character are that character
pub one_char : (c : ℕ) → IsScalar c → chars (encode_utf8 c) ≡ c ∷ []
one_char c h = ap chars (sym (append-nil (encode_utf8 c))) ∙ chars-encodes (c ∷ []) (and_from (scalar c) true h refl)

-- a newline is one character
pub newline_char : chars (10 ∷ []) ≡ 10 ∷ []
newline_char = ap chars (sym (encode_ascii 10 (lit< tt))) ∙ one_char 10 refl

all_scalars : (cs : List ℕ) → All IsAcceptedChar cs → scalars cs ≡ true
all_scalars [] h = refl
all_scalars (c ∷ cs) h = and_from (scalar c) (scalars cs) (All-head IsAcceptedChar c cs h).1 (all_scalars cs (All-tail IsAcceptedChar c cs h))

-- characters that are all accepted stay as they are
pub all_accepted : (cs : List ℕ) → All IsAcceptedChar cs → accepted cs ≡ cs
all_accepted [] h = refl
all_accepted (c ∷ cs) h =
    ap (λ b. cond b (c ∷ accepted cs) (accepted cs)) (All-head IsAcceptedChar c cs h).0 ∙ ap (λ t. c ∷ t) (all_accepted cs (All-tail IsAcceptedChar c cs h))

-- the characters of a selection that was cut, put in again at the cursor, give back the text, and none of them is left out
pub cut_back : (old new : Editor) (bs : List ℕ) → IsEditor old → IsCut old new → bs ≡ encode_utf8_all (selected old) → (inserted new (chars bs) ≡ old.text) × (old.text ≡ take new.offset new.text ++ (chars bs ++ drop new.offset new.text))
cut_back old new bs h cut e =
    let t = old.text in
    let a = selection_start old in
    let b = selection_end old in
    let n = new.offset in
    let texts : All IsAcceptedChar (selected old) = All-take IsAcceptedChar _ _ (All-drop IsAcceptedChar a t h.accepted) in
    let part : chars bs ≡ selected old = ap chars e ∙ chars-encodes (selected old) (all_scalars (selected old) texts) in
    let size = length-take-le a t (omega (arith, h.last)) in
    let back : t ≡ take n new.text ++ (chars bs ++ drop n new.text) =
    split_between t a b (omega (arith, h.last))
    ∙ ap (λ s. s ++ (selected old ++ drop b t)) (sym (take_at (take a t) (drop b t) a size))
    ∙ ap (λ s. take a (without t a b) ++ (selected old ++ s)) (sym (drop_at (take a t) (drop b t) a size))
    ∙ ap (λ s. take a (without t a b) ++ (s ++ drop a (without t a b))) (sym part)
    ∙ ap (λ s. take a s ++ (chars bs ++ drop a s)) (sym cut.text)
    ∙ ap (λ m. take m new.text ++ (chars bs ++ drop m new.text)) (sym cut.cursor) in
    (ap (λ cs. take n new.text ++ (cs ++ drop n new.text)) (ap accepted part ∙ all_accepted (selected old) texts ∙ sym part) ∙ sym back, back)
