-- The first token that passes the first line, step by step.
use Rattle.std.proofs.Common.{◌≡◌, ℕ, ◌≤◌, ◌<◌, ◌+◌, ◌⊎◌, inl, inr, Option, Some, None, List, [], ◌∷◌, ◌++◌, length, take, refl, sym, ap, ◌∙◌, arith, subst}
use Rattle.std.proofs.lemmas.Bool.{cases_lt}
use Rattle.std.proofs.Math.Seq.{take-append_seam, take-length}
use Rattle.std.proofs.lemmas.List.{length-append, take-append-le}
use Rattle.std.specs.Option.{option_or}
use Rattle.std.specs.Prelude.{MatchOption}
use Rattle.mad_measure.specs.declared.tokens.Token.{Token}
use Rattle.mad_wrap.specs.Breaks.{total_width}
use Rattle.mad_wrap.specs.LeastBound.{IsFirstPast}
use Rattle.mad_wrap.specs.LineRoom.{left_of, left_after, past_here}
use Rattle.mad_wrap.specs.declared.room.Room.{Room}
use Rattle.mad_wrap.proofs.CheckLemmas.{left_more, left_of-none}
use Rattle.mad_wrap.proofs.PlacingLemmas.{left_of-some, total_width-push}

-- what is said of the first token that passes the first line, among the tokens so far
abbrev pub IsPast : Room → List Token → Option ℕ → Type 0
IsPast r ts past = MatchOption past (r.first ≤ r.width → r.first + total_width ts ≤ r.width) (IsFirstPast r ts)

-- the tokens so far: their number, what they leave of the first line, and the first of them that passes it
pub record PastSoFar (r : Room) (ts : List Token) (left past : Option ℕ) (number : ℕ) : Type 0 where
  pub number_is : number ≡ length ts
  pub left_is : left ≡ left_of r.width (r.first + total_width ts)
  pub past_is : IsPast r ts past

-- before the first token none has passed the first line
pub past_begins : (r : Room) → PastSoFar r [] (left_of r.width r.first) None 0
past_begins r = record { number_is = refl; left_is = ap (left_of r.width) (omega arith); past_is = λ h. omega arith }

past_stays : (r : Room) (ts : List Token) (t : Token) (i : ℕ) → IsFirstPast r ts i → IsFirstPast r (ts ++ t ∷ []) i
past_stays r ts t i h = record {
  inside = omega (arith, h.inside, length-append ts (t ∷ []));
  before = λ room. omega (arith, h.before room, ap total_width (take-append-le i ts (t ∷ []) (omega (arith, h.inside))));
  passes = omega (arith, h.passes, ap total_width (take-append-le (i + 1) ts (t ∷ []) (omega (arith, h.inside))));
}

past_is_here : (r : Room) (ts : List Token) (t : Token) → (r.first ≤ r.width → r.first + total_width ts ≤ r.width) → r.width < r.first + total_width (ts ++ t ∷ []) → IsFirstPast r (ts ++ t ∷ []) (length ts)
past_is_here r ts t before passes =
    let size : length (ts ++ t ∷ []) ≡ length ts + 1 = omega (arith, length-append ts (t ∷ [])) in
    record {
      inside = omega arith;
      before = λ room. omega (arith, before room, ap total_width (take-append_seam ts (t ∷ [])));
      passes = omega (arith, passes, ap total_width (ap (λ n. take n (ts ++ t ∷ [])) (sym size) ∙ take-length (ts ++ t ∷ [])));
    }

here_by : (r : Room) (ts : List Token) (t : Token) → (r.first ≤ r.width → r.first + total_width ts ≤ r.width) → (r.width < r.first + total_width (ts ++ t ∷ [])) ⊎ (r.first + total_width (ts ++ t ∷ []) ≤ r.width)
    → IsPast r (ts ++ t ∷ []) (past_here (left_of r.width (r.first + total_width (ts ++ t ∷ []))) (length ts))
here_by r ts t before (inl over) = subst (λ l. IsPast r (ts ++ t ∷ []) (past_here l (length ts))) (sym (left_of-none r.width (r.first + total_width (ts ++ t ∷ [])) over)) (past_is_here r ts t before over)
here_by r ts t before (inr fits) = subst (λ l. IsPast r (ts ++ t ∷ []) (past_here l (length ts))) (sym (left_of-some r.width (r.first + total_width (ts ++ t ∷ [])) fits)) (λ room. fits)

past_or : (r : Room) (ts : List Token) (t : Token) (past : Option ℕ) → IsPast r ts past → IsPast r (ts ++ t ∷ []) (option_or past (past_here (left_of r.width (r.first + total_width (ts ++ t ∷ []))) (length ts)))
past_or r ts t (Some i) h = past_stays r ts t i h
past_or r ts t None h = here_by r ts t h (cases_lt r.width (r.first + total_width (ts ++ t ∷ [])))

-- one token more is there, and may be the first that passes
pub past_more : (r : Room) (ts : List Token) (t : Token) (left new_left past new_past : Option ℕ) (number new_number : ℕ) → PastSoFar r ts left past number → new_number ≡ number + 1 → new_left ≡ left_after left t.width → new_past ≡ option_or past (past_here new_left number)
    → PastSoFar r (ts ++ t ∷ []) new_left new_past new_number
past_more r ts t left new_left past new_past number new_number h counted after new =
    let left_is : new_left ≡ left_of r.width (r.first + total_width (ts ++ t ∷ [])) =
    after ∙ ap (λ l. left_after l t.width) h.left_is ∙ left_more r.width (r.first + total_width ts) t.width ∙ ap (left_of r.width) (omega (arith, total_width-push ts t)) in
    record {
      number_is = omega (arith, counted, h.number_is, length-append ts (t ∷ []));
      left_is = left_is;
      past_is = subst (IsPast r (ts ++ t ∷ [])) (sym (new ∙ ap (λ l. option_or past (past_here l number)) left_is ∙ ap (λ n. option_or past (past_here (left_of r.width (r.first + total_width (ts ++ t ∷ []))) n)) h.number_is))
          (past_or r ts t past h.past_is);
    }
