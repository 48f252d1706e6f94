-- The characters of a text, one after the other, with their tones.
use Rattle.std.proofs.Common.{◌≡◌, ℕ, ◌+◌, ◌-◌, ◌<◌, ◌≤◌, Bool, true, false, cond, List, [], ◌∷◌, ◌++◌, length, get_or, drop, map, filter, sym, ap, ◌∙◌, arith, append_assoc, append-nil}
use Rattle.std.specs.Prelude.{replicate, Result, Ok, Err, OnOk}
use Rattle.std.proofs.lemmas.List.{replicate-append-replicate}
use Rattle.bstr.specs.Utf8.{decoded, or_replacement, pieces}
use Rattle.bstr.proofs.lemmas.PieceLemmas.{piece-bounds, pieces-nil, pieces-step}
use Rattle.code_tones.specs.Tones.{toned, counted_tones, is_counted, TonedChar}
use Rattle.code_tones.proofs.CursorLemmas.{one_more}

-- the character in front has a byte
pub size_some : (bs : List ℕ) → 0 < length bs → 0 < (decoded bs).size
size_some bs some = omega (arith, piece-bounds bs some)

-- it has no more bytes than there are
pub size_within : (bs : List ℕ) → 0 < length bs → (decoded bs).size ≤ length bs
size_within bs some = omega (arith, piece-bounds bs some)

-- the tones of the characters of bytes
abbrev pub left_tones : List ℕ → List ℕ → List ℕ
left_tones tones bs = counted_tones (toned tones (pieces bs))

-- without bytes no tone is left
pub nothing_left : (tones bs : List ℕ) → length bs ≡ 0 → left_tones tones bs ≡ []
nothing_left tones [] none = ap (λ ps. counted_tones (toned tones ps)) pieces-nil
nothing_left tones (b ∷ bs) none = absurd (omega arith)

toned_step : (tones bs : List ℕ) → 0 < length bs → left_tones tones bs
    ≡ counted_tones (record { tone = get_or tones 0 0; char = or_replacement (decoded bs).char } ∷ toned (drop (decoded bs).size tones) (pieces (drop (decoded bs).size bs)))
toned_step tones bs some = ap (λ ps. counted_tones (toned tones ps)) (pieces-step bs some)

by_char : (tone c : ℕ) (cs : List TonedChar) (t : Bool) → is_counted c ≡ t → counted_tones (record { tone = tone; char = c } ∷ cs) ≡ cond t (tone ∷ counted_tones cs) (counted_tones cs)
by_char tone c cs true e = ap (λ t. map (λ (x : TonedChar). x.tone) (cond t (record { tone = tone; char = c } ∷ filter (λ (x : TonedChar). is_counted x.char) cs) (filter (λ (x : TonedChar). is_counted x.char) cs))) e
by_char tone c cs false e = ap (λ t. map (λ (x : TonedChar). x.tone) (cond t (record { tone = tone; char = c } ∷ filter (λ (x : TonedChar). is_counted x.char) cs) (filter (λ (x : TonedChar). is_counted x.char) cs))) e

-- A character is passed: the tones are its own, if it is counted, and those of what is left.
pub next_char : (tones after bs next : List ℕ) (tone c size : ℕ) (t : Bool) → 0 < length bs → tone ≡ get_or tones 0 0 → c ≡ or_replacement (decoded bs).char → size ≡ (decoded bs).size → is_counted c ≡ t
    → after ≡ drop (size - 1) (drop 1 tones) → next ≡ drop size bs → left_tones tones bs ≡ cond t (tone ∷ left_tones after next) (left_tones after next)
next_char tones after bs next tone c size t some tone_is c_is size_is counted after_is next_is =
    let sized : 0 < size = omega (arith, size_some bs some) in
    let passed : after ≡ drop size tones = after_is ∙ one_more size tones sized in
    let rest : left_tones (drop size tones) (drop size bs) ≡ left_tones after next = ap (λ (l : List ℕ). left_tones l (drop size bs)) (sym passed) ∙ ap (λ (l : List ℕ). left_tones after l) (sym next_is) in
    toned_step tones bs some
    ∙ ap (λ (k : ℕ). counted_tones (record { tone = get_or tones 0 0; char = or_replacement (decoded bs).char } ∷ toned (drop k tones) (pieces (drop k bs)))) (sym size_is)
    ∙ ap (λ (k : ℕ). counted_tones (record { tone = k; char = or_replacement (decoded bs).char } ∷ toned (drop size tones) (pieces (drop size bs)))) (sym tone_is)
    ∙ ap (λ (k : ℕ). counted_tones (record { tone = tone; char = k } ∷ toned (drop size tones) (pieces (drop size bs)))) (sym c_is)
    ∙ by_char tone c (toned (drop size tones) (pieces (drop size bs))) t counted
    ∙ ap (λ (l : List ℕ). cond t (tone ∷ l) l) rest

-- ---- what the runs have, and how many characters of one tone aren't in them yet

-- a character of another tone: those of the tone before are put into the runs
pub other_tone : (had has later left all : List ℕ) (tone value count : ℕ) → has ≡ had ++ replicate count value → left ≡ tone ∷ later → had ++ (replicate count value ++ left) ≡ all → has ++ (replicate 1 tone ++ later) ≡ all
other_tone had has later left all tone value count is left_is h =
    ap (λ (l : List ℕ). l ++ (tone ∷ later)) is ∙ append_assoc had (replicate count value) (tone ∷ later) ∙ ap (λ (l : List ℕ). had ++ (replicate count value ++ l)) (sym left_is) ∙ h

-- one more of the same
pub same_tone : (had later left all : List ℕ) (tone value count : ℕ) → tone ≡ value → left ≡ tone ∷ later → had ++ (replicate count value ++ left) ≡ all → had ++ (replicate (count + 1) value ++ later) ≡ all
same_tone had later left all tone value count same left_is h =
    ap (λ (l : List ℕ). had ++ (l ++ later)) (sym (replicate-append-replicate count 1 value))
    ∙ ap (λ (l : List ℕ). had ++ l) (append_assoc (replicate count value) (value ∷ []) later)
    ∙ ap (λ (k : ℕ). had ++ (replicate count value ++ (k ∷ later))) (sym same) ∙ ap (λ (l : List ℕ). had ++ (replicate count value ++ l)) (sym left_is) ∙ h

-- none
pub no_tone : (had later left all : List ℕ) (value count : ℕ) → left ≡ later → had ++ (replicate count value ++ left) ≡ all → had ++ (replicate count value ++ later) ≡ all
no_tone had later left all value count left_is h = ap (λ (l : List ℕ). had ++ (replicate count value ++ l)) (sym left_is) ∙ h

-- the same by other names
pub moved : (had has rest all : List ℕ) (n m v u : ℕ) → has ≡ had → m ≡ n → u ≡ v → had ++ (replicate n v ++ rest) ≡ all → has ++ (replicate m u ++ rest) ≡ all
moved had has rest all n m v u has_is m_is u_is h =
    ap (λ (l : List ℕ). l ++ (replicate m u ++ rest)) has_is ∙ ap (λ (k : ℕ). had ++ (replicate k u ++ rest)) m_is ∙ ap (λ (k : ℕ). had ++ (replicate n k ++ rest)) u_is ∙ h

-- at the end nothing is left
pub ends_with : {E : Type 0} (r : Result (Unit {0}) E) (had has all tones bs : List ℕ) (value count : ℕ) → length bs ≡ 0 → OnOk r (has ≡ had ++ replicate count value) → had ++ (replicate count value ++ left_tones tones bs) ≡ all
    → OnOk r (has ≡ all)
ends_with (Ok x) had has all tones bs value count none is h =
    is ∙ ap (λ (l : List ℕ). had ++ l) (sym (append-nil (replicate count value)) ∙ ap (λ (l : List ℕ). replicate count value ++ l) (sym (nothing_left tones bs none))) ∙ h
ends_with (Err e) had has all tones bs value count none is h = is
