-- A letter that ends a sequence.
use Rattle.std.proofs.Common.{◌≡◌, ◌≢◌, ℕ, ◌<◌, ◌==◌, true, false, List, [], ◌∷◌, ◌++◌, Option, Some, None, Result, Ok, Err, Bool, refl, ap, ◌∙◌, arith, ne_eqb}
use Rattle.std.specs.Prelude.{IfOk, MatchBool, option_map}
use Rattle.std.proofs.lemmas.Bool.{cond-false}
use Rattle.std.proofs.lemmas.Bool.Decides.{nat_tests}
use Rattle.mad_screen.specs.Grid.{Grid}
use Rattle.mad_screen.specs.declared.reader.Mode.{Mode}
use Rattle.mad_screen.specs.declared.reader.Mode.TheVariants as mode
use Rattle.mad_screen.specs.Readers.{mode_of}
use Rattle.mad_screen.specs.Terminal.{Reading, Numbers, is_digit, end_number, feed_in, perform, resting}

-- what comes before `0` is no digit
pub below_digits : (c : ℕ) → c < 48 → is_digit c ≡ false
below_digits c h = grind (arith, nat_tests)

-- what comes after `9` is no digit
pub above_digits : (c : ℕ) → 57 < c → is_digit c ≡ false
above_digits c h = grind (arith, nat_tests)

after_number : (g : Grid) (ps : List ℕ) (n c : ℕ) → c ≢ 59 → end_number g ps (Some n) c ≡ option_map resting (perform c (ps ++ n ∷ []) g)
after_number g [] n c h = cond-false (c == 59) _ _ (ne_eqb c 59 h)
after_number g (p ∷ ps) n c h = cond-false (c == 59) _ _ (ne_eqb c 59 h)

after_none : (g : Grid) (ps : List ℕ) (c : ℕ) → ps ≡ [] → end_number g ps None c ≡ option_map resting (perform c ps g)
after_none g [] c h = refl
after_none g (p ∷ ps) c h = cc

-- a letter after a number
pub number_ended : (m : Mode) (g : Grid) (ps : List ℕ) (now : Option ℕ) (n c : ℕ) → m ≡ mode.Numbers → now ≡ Some n → is_digit c ≡ false → c ≢ 59
    → feed_in (mode_of m ps now) g c ≡ option_map resting (perform c (ps ++ n ∷ []) g)
number_ended m g ps now n c among here other letter =
    ap (λ (x : Mode). feed_in (mode_of x ps now) g c) among ∙ ap (λ (x : Option ℕ). feed_in (Numbers ps x) g c) here ∙ cond-false (is_digit c) _ _ other ∙ after_number g ps n c letter

-- or where there is none
pub none_ended : (m : Mode) (g : Grid) (ps : List ℕ) (now : Option ℕ) (c : ℕ) → m ≡ mode.Numbers → now ≡ None → is_digit c ≡ false → ps ≡ []
    → feed_in (mode_of m ps now) g c ≡ option_map resting (perform c ps g)
none_ended m g ps now c among here other empty =
    ap (λ (x : Mode). feed_in (mode_of x ps now) g c) among ∙ ap (λ (x : Option ℕ). feed_in (Numbers ps x) g c) here ∙ cond-false (is_digit c) _ _ other ∙ after_none g ps c empty

-- what the command answers is what the letter does
pub performed : {E : Type 0} (r : Result Bool E) (fed : Option Reading) (did : Option Grid) (new : Grid) → fed ≡ option_map resting did → IfOk r (λ done. MatchBool done (did ≡ Some new) (did ≡ None))
    → IfOk r (λ done. MatchBool done (fed ≡ Some (resting new)) (fed ≡ None))
performed {E} (Ok true) fed did new e h = e ∙ ap (option_map resting) h
performed {E} (Ok false) fed did new e h = e ∙ ap (option_map resting) h
performed {E} (Err x) fed did new e h = h
