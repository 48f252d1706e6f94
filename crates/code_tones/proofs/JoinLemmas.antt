-- The runs of tones, character by character.
use Rattle.std.proofs.Common.{◌≡◌, ℕ, zero, suc, ◌+◌, Bool, true, false, cond, List, [], ◌∷◌, ◌++◌, length, refl, sym, ap, ◌∙◌, arith, append_assoc}
use Rattle.std.specs.Prelude.{◌==◌, Result, Ok, Err, OnOk}
use Rattle.std.proofs.lemmas.Bool.Decides.{nat_tests}
use Rattle.mad_mark_runs.specs.Values.{end_from, joined_from, run_behind}
use Rattle.mad_mark_runs.specs.declared.mark_runs.MarkRun.{MarkRun}
use Rattle.mad_mark_runs.proofs.ValueLemmas.{end_joined}
use Rattle.code_tones.proofs.WalkLemmas.{left_tones, nothing_left}

end_behind : (end value count : ℕ) → end_from end (run_behind end value count) ≡ end + count
end_behind end value zero = omega arith
end_behind end value (suc n) = refl

-- a character of another tone: a run ends before it
pub other_joined : (had has : List MarkRun) (later left : List ℕ) (all : List MarkRun) (tone value count : ℕ) → (tone == value) ≡ false → has ≡ had ++ run_behind (end_from 0 had) value count → left ≡ tone ∷ later
    → had ++ joined_from (end_from 0 had) value count left ≡ all → has ++ joined_from (end_from 0 has) tone 1 later ≡ all
other_joined had has later left all tone value count other is left_is h =
    let end : ℕ = end_from 0 had in
    let run : List MarkRun = run_behind end value count in
    let ends : end_from 0 has ≡ end + count = ap (end_from 0) is ∙ end_joined 0 had run ∙ end_behind end value count in
    ap (λ (n : ℕ). has ++ joined_from n tone 1 later) ends
    ∙ ap (λ (l : List MarkRun). l ++ joined_from (end + count) tone 1 later) is
    ∙ append_assoc had run (joined_from (end + count) tone 1 later)
    ∙ ap (λ (t : Bool). had ++ cond t (joined_from end value (count + 1) later) (run ++ joined_from (end + count) tone 1 later)) (sym other)
    ∙ ap (λ (l : List ℕ). had ++ joined_from end value count l) (sym left_is) ∙ h

-- one more of the same
pub same_joined : (had : List MarkRun) (later left : List ℕ) (all : List MarkRun) (tone value count : ℕ) → (tone == value) ≡ true → left ≡ tone ∷ later → had ++ joined_from (end_from 0 had) value count left ≡ all
    → had ++ joined_from (end_from 0 had) value (count + 1) later ≡ all
same_joined had later left all tone value count same left_is h =
    let end : ℕ = end_from 0 had in
    ap (λ (t : Bool). had ++ cond t (joined_from end value (count + 1) later) (run_behind end value count ++ joined_from (end + count) tone 1 later)) (sym same)
    ∙ ap (λ (l : List ℕ). had ++ joined_from end value count l) (sym left_is) ∙ h

-- none
pub none_joined : (had : List MarkRun) (later left : List ℕ) (all : List MarkRun) (value count : ℕ) → left ≡ later → had ++ joined_from (end_from 0 had) value count left ≡ all → had ++ joined_from (end_from 0 had) value count later ≡ all
none_joined had later left all value count left_is h = ap (λ (l : List ℕ). had ++ joined_from (end_from 0 had) value count l) (sym left_is) ∙ h

-- the same by other names
pub runs_moved : (had has : List MarkRun) (rest : List ℕ) (all : List MarkRun) (n m v u : ℕ) → has ≡ had → m ≡ n → u ≡ v → had ++ joined_from (end_from 0 had) v n rest ≡ all → has ++ joined_from (end_from 0 has) u m rest ≡ all
runs_moved had has rest all n m v u has_is m_is u_is h =
    ap (λ (l : List MarkRun). l ++ joined_from (end_from 0 l) u m rest) has_is ∙ ap (λ (k : ℕ). had ++ joined_from (end_from 0 had) u k rest) m_is ∙ ap (λ (k : ℕ). had ++ joined_from (end_from 0 had) k n rest) u_is ∙ h

-- at the end nothing is left
pub joined_with : {E : Type 0} (r : Result (Unit {0}) E) (had has all : List MarkRun) (tones bs : List ℕ) (value count : ℕ) → length bs ≡ 0 → OnOk r (has ≡ had ++ run_behind (end_from 0 had) value count)
    → had ++ joined_from (end_from 0 had) value count (left_tones tones bs) ≡ all → OnOk r (has ≡ all)
joined_with (Ok x) had has all tones bs value count none is h = is ∙ ap (λ (l : List ℕ). had ++ joined_from (end_from 0 had) value count l) (sym (nothing_left tones bs none)) ∙ h
joined_with (Err e) had has all tones bs value count none is h = is

-- two tones are the same, or not
pub are_same : (a b : ℕ) → a ≡ b → (a == b) ≡ true
are_same a b e = grind (arith, nat_tests, e)

pub are_other : (a b : ℕ) → (a ≡ b → ⊥) → (a == b) ≡ false
are_other a b e = grind (arith, nat_tests, e)
