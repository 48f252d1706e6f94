-- A compound as a part.
use Rattle.std.proofs.Common.{◌≡◌, ℕ, ◌<◌, ◌≤◌, ◌⊎◌, inl, inr, Bool, true, false, List, [], ◌∷◌, length, chars, refl, sym, ap, ◌∙◌, arith}
use Rattle.std.specs.Prelude.{◌&&◌, nat_le, if◌then◌else◌}
use Rattle.std.proofs.lemmas.Bool.Decides.{nat_tests}
use Rattle.mad_measure.specs.TextColumns.{columns}
use Rattle.mad_fitting.specs.CenteredCuts.{inside_chars}
use Rattle.mad_fitting.specs.Parts.{whole_of}
use Rattle.mad_fitting.specs.declared.parts.Run.{Run}

narrow_test : (a b n k : ℕ) → n ≡ a → k ≡ b → (n < 2) ⊎ (k < 2) → (nat_le 2 a && nat_le 2 b) ≡ false
narrow_test a b n k wide long (inl few) = grind (arith, nat_tests)
narrow_test a b n k wide long (inr few) = grind (arith, nat_tests)

wide_test : (a b n k : ℕ) → n ≡ a → k ≡ b → 2 ≤ n → 2 ≤ k → (nat_le 2 a && nat_le 2 b) ≡ true
wide_test a b n k wide long two more = grind (arith, nat_tests)

-- a compound is no part where its inside has fewer than two columns, or than two characters
pub whole_none : (text : List ℕ) (n k : ℕ) → n ≡ columns (inside_chars (chars text)) → k ≡ length (inside_chars (chars text)) → (n < 2) ⊎ (k < 2) → whole_of text ≡ []
whole_none text n k wide long few =
    let test : (nat_le 2 (columns (inside_chars (chars text))) && nat_le 2 (length (inside_chars (chars text)))) ≡ false = narrow_test (columns (inside_chars (chars text))) (length (inside_chars (chars text))) n k wide long few in
    ap (λ (b : Bool). if b then record { compound = 0; start = 0; end = length text; columns = columns (inside_chars (chars text)) } ∷ [] else []) test

-- a compound is no part where its inside has fewer than two columns
pub whole_narrow : (text : List ℕ) (n : ℕ) → n ≡ columns (inside_chars (chars text)) → n < 2 → whole_of text ≡ []
whole_narrow text n wide few = whole_none text n (length (inside_chars (chars text))) wide refl (inl few)

-- a compound is one part where its inside has two columns at least, and two characters
pub whole_some : (text : List ℕ) (n k : ℕ) (run : Run) → n ≡ columns (inside_chars (chars text)) → k ≡ length (inside_chars (chars text)) → 2 ≤ n → 2 ≤ k → run ≡ record { compound = 0; start = 0; end = length text; columns = n } → whole_of text ≡ run ∷ []
whole_some text n k run wide long two more is =
    let test : (nat_le 2 (columns (inside_chars (chars text))) && nat_le 2 (length (inside_chars (chars text)))) ≡ true = wide_test (columns (inside_chars (chars text))) (length (inside_chars (chars text))) n k wide long two more in
    let whole : Run = record { compound = 0; start = 0; end = length text; columns = columns (inside_chars (chars text)) } in
    let same : run ≡ whole = is ∙ ap (λ (w : ℕ). record { compound = 0; start = 0; end = length text; columns = w }) wide in
    ap (λ (b : Bool). if b then whole ∷ [] else []) test ∙ ap (λ (r : Run). r ∷ []) (sym same)
