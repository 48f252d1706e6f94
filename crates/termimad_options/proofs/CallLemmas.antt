-- What values of options are read as.
use Rattle.std.proofs.Common.{◌≡◌, inl, inr, ◌∙◌, ◌&&◌, ◌-◌, ℕ, Bool, true, false, nat_lt, refl, sym, ap, subst, List, [], ◌∷◌, map, length, Some, None, Result, Ok, Err, lt-ltb, ltb-true, option_map, slice_get}
use Rattle.std.proofs.lemmas.List.{length-map}
use Rattle.std.proofs.lemmas.Option.{slice_get-map}
use Rattle.std.specs.Borrow.{Bor}
use Rattle.std.specs.Char.{digit_value}
use Rattle.std.specs.List.{list_all}
use Rattle.std.specs.Result.{IfErr, IfOk, IsErrAnd, result_ok}
use Rattle.std.specs.Str.Parse.{AllDigits, ParsesUnsigned, digits_value, without_leading_plus}
use Rattle.clap.proofs.WalkLemmas.{both}
use Rattle.clap.specs.Words.{Text, found_of, matches_of, rows_of}
use Rattle.clap.specs.declared.error.Error.{Error}
use Rattle.clap.specs.declared.parser.matches.ArgMatches.{ArgMatches}
use Rattle.termimad_options.specs.Calls.{IsErrorIn, IsErrorOf, columns_written, links_said, mistakes_of}
use Rattle.termimad_options.specs.Rules.{termimad_rules}

digits_pass : (ds : List ℕ) → AllDigits 10 ds → list_all (λ d. nat_lt (digit_value d) 10) ds ≡ true
digits_pass [] h = refl
digits_pass (d ∷ ds) h = rw (lt-ltb (digit_value d) 10 h.0) (digits_pass ds h.1)

digits_from : (ds : List ℕ) → list_all (λ d. nat_lt (digit_value d) 10) ds ≡ true → AllDigits 10 ds
digits_from [] e = tt
digits_from (d ∷ ds) e =
    let parts = both _ _ e in
    (ltb-true _ _ parts.0, digits_from ds parts.1)

abbrev is_written : List ℕ → Bool
is_written ds = nat_lt 0 (length ds) && list_all (λ d. nat_lt (digit_value d) 10) ds && nat_lt (digits_value 10 ds) 65536

pub columns_read : {E : Type 0} (text : Text) (r : Result ℕ E) → ParsesUnsigned 16 10 text r → result_ok r ≡ columns_written text
columns_read text (Ok n) h =
    let ds = without_leading_plus text in
    rw (lt-ltb 0 (length ds) h.0.0.0, digits_pass ds h.0.0.1, lt-ltb (digits_value 10 ds) 65536 h.0.1) (ap Some h.1)
columns_read text (Err e) h = go (is_written (without_leading_plus text)) refl
  where
    go : (b : Bool) → is_written (without_leading_plus text) ≡ b → None ≡ columns_written text
    go false t = rw t refl
    go true t =
        let outer = both _ _ t in
        let inner = both _ _ outer.0 in
        absurd (h ((ltb-true _ _ inner.0, digits_from (without_leading_plus text) inner.1), ltb-true _ _ outer.1))

-- the last of texts behind references
pub last_text : (values : List (Bor Text)) → option_map (λ text. text.now) (slice_get values (length values - 1)) ≡ slice_get (map (λ text. text.now) values) (length (map (λ text. text.now) values) - 1)
last_text values =
    sym (slice_get-map (λ (text : Bor Text). text.now) values (length values - 1))
    ∙ ap (λ n. slice_get (map (λ (text : Bor Text). text.now) values) (n - 1)) (sym (length-map values (λ (text : Bor Text). text.now)))

-- the exit of a call that fails by this error
pub error_exit : {T E : Type 0} (r : Result T E) (e : E) (Q : E → Type 0) → IsErrAnd r (λ x. x ≡ e) → Q e → IfErr r Q
error_exit (Ok x) e Q h q = tt
error_exit (Err x) e Q h q = subst Q (sym h) q

-- what holds anyhow holds of a success
pub ok_always : {T E : Type 0} (r : Result T E) (A : Type 0) → A → IfOk r (λ _. A)
ok_always (Ok x) A a = a
ok_always (Err e) A a = tt

-- a wrong word for links in the matches of words is one in the words
pub error_of : (matches : ArgMatches) (said : List Text) → rows_of (found_of matches) ≡ matches_of termimad_rules said → mistakes_of said ≡ []
    → (e : Error) → IsErrorIn matches e → IsErrorOf said e
error_of matches said rows none e (inl memory) = inl (inl memory)
error_of matches said rows none e (inr other) = inr (other.0, (none, ap links_said (sym rows) ∙ other.1))
