-- Capitals, character by character.
use Rattle.std.proofs.Common.{◌≡◌, ℕ, ◌==◌, Bool, true, false, ◌&&◌, not, List, [], ◌∷◌, ◌++◌, refl, ap, sym, ◌∙◌}
use Rattle.std.specs.Prelude.{◌||◌}
use Rattle.mad_patterns.specs.Capitals.{capital_in, is_capital}

-- the next character is behind a backslash
abbrev pub behind_after : Bool → List ℕ → Bool
behind_after behind [] = behind
behind_after behind (c ∷ cs) = behind_after (not behind && (c == 92)) cs

or_off : (b : Bool) → (b || false) ≡ b
or_off true = refl
or_off false = refl

or_group : (a b c : Bool) → (a || (b || c)) ≡ ((a || b) || c)
or_group true b c = refl
or_group false b c = refl

-- a character more
capital_last : (cs : List ℕ) (c : ℕ) (behind : Bool) → capital_in behind (cs ++ c ∷ []) ≡ (capital_in behind cs || (not (behind_after behind cs) && is_capital c))
capital_last [] c behind = or_off (not behind && is_capital c)
capital_last (d ∷ ds) c behind =
    let next : Bool = not behind && (d == 92) in
    ap (λ (b : Bool). (not behind && is_capital d) || b) (capital_last ds c next) ∙ or_group (not behind && is_capital d) (capital_in next ds) (not (behind_after next ds) && is_capital c)

behind_last : (cs : List ℕ) (c : ℕ) (behind : Bool) → behind_after behind (cs ++ c ∷ []) ≡ (not (behind_after behind cs) && (c == 92))
behind_last [] c behind = refl
behind_last (d ∷ ds) c behind = behind_last ds c (not behind && (d == 92))

-- whether there is a capital so far, and whether the next character is behind a backslash
pub record CapitalsSoFar (done : List ℕ) (has_one is_behind : Bool) : Type 0 where
  pub has : has_one ≡ capital_in false done
  pub behind : is_behind ≡ behind_after false done

pub capital_more : (done : List ℕ) (c : ℕ) (has_one is_behind counts hides now : Bool) → CapitalsSoFar done has_one is_behind → counts ≡ (not is_behind && is_capital c) → hides ≡ (not is_behind && (c == 92)) → now ≡ (has_one || counts) → CapitalsSoFar (done ++ c ∷ []) now hides
capital_more done c has_one is_behind counts hides now so a b e = record {
  has =
      e
      ∙ (ap (λ (x : Bool). x || counts) so.has
      ∙ (ap (λ (x : Bool). capital_in false done || x) (a ∙ ap (λ (x : Bool). not x && is_capital c) so.behind)
      ∙ sym (capital_last done c false)));
  behind = b ∙ (ap (λ (x : Bool). not x && (c == 92)) so.behind ∙ sym (behind_last done c false));
}
