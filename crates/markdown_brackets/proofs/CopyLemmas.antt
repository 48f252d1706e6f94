-- Labels of which each is a copy, with the same number.
use Rattle.std.proofs.Common.{◌≡◌, ℕ, zero, suc, ◌<◌, cond, eqb, List, [], ◌∷◌, ◌++◌, length, Option, Some, position, String, string_bytes, if◌then◌else◌, refl, sym, ap, subst, ◌∙◌}
use Rattle.std.specs.List.{All, AllZip}
use Rattle.std.specs.BTreeMap.{is_at}
use Rattle.std.specs.Cmp.Lexicographic.{slice_cmp}
use Rattle.std.specs.Map.{lookup, values_of}
use Rattle.std.specs.Ordering.{nat_cmp}
use Rattle.std.specs.Str.{bytes_eq}
use Rattle.markdown_brackets.specs.Numbers.{label_at, first_labels, by_number, IsNumbered}

module _ {A : Type 0} where
  abbrev pub IsCopy : (String A × ℕ) → (String A × ℕ) → Type 0
  IsCopy e f = (string_bytes f.0 ≡ string_bytes e.0) × (f.1 ≡ e.1)

  same_length : (es fs : List (String A × ℕ)) → AllZip IsCopy es fs → length fs ≡ length es
  same_length [] [] h = refl
  same_length [] (f ∷ fs) h = absurd h
  same_length (e ∷ es) [] h = absurd h
  same_length (e ∷ es) (f ∷ fs) h = ap suc (same_length es fs h.1)

  same_label : (number : ℕ) (es fs : List (String A × ℕ)) → AllZip IsCopy es fs → label_at number fs ≡ label_at number es
  same_label number [] [] h = refl
  same_label number [] (f ∷ fs) h = absurd h
  same_label number (e ∷ es) [] h = absurd h
  same_label number (e ∷ es) (f ∷ fs) h =
      ap (λ k. if eqb k number then string_bytes f.0 else label_at number fs) h.0.1
      ∙ ap (λ (label : List ℕ). if eqb e.1 number then label else label_at number fs) h.0.0
      ∙ ap (λ (label : List ℕ). if eqb e.1 number then string_bytes e.0 else label) (same_label number es fs h.1)

  same_first : (count : ℕ) (es fs : List (String A × ℕ)) → AllZip IsCopy es fs → first_labels count fs ≡ first_labels count es
  same_first zero es fs h = refl
  same_first (suc count) es fs h =
      ap (λ (labels : List (List ℕ)). labels ++ label_at count fs ∷ []) (same_first count es fs h)
      ∙ ap (λ (label : List ℕ). first_labels count es ++ label ∷ []) (same_label count es fs h)

  -- they are the same list
  pub same_labels : (es fs : List (String A × ℕ)) → AllZip IsCopy es fs → by_number fs ≡ by_number es
  same_labels es fs h = same_first (length fs) es fs h ∙ ap (λ count. first_labels count es) (same_length es fs h)

  same_values : (es fs : List (String A × ℕ)) → AllZip IsCopy es fs → values_of fs ≡ values_of es
  same_values [] [] h = refl
  same_values [] (f ∷ fs) h = absurd h
  same_values (e ∷ es) [] h = absurd h
  same_values (e ∷ es) (f ∷ fs) h = ap (λ k. k ∷ values_of fs) h.0.1 ∙ ap (λ (ks : List ℕ). e.1 ∷ ks) (same_values es fs h.1)

  same_found : (label : List ℕ) (es fs : List (String A × ℕ)) → AllZip IsCopy es fs
      → lookup (is_at (λ key. slice_cmp nat_cmp label (string_bytes key))) fs ≡ lookup (is_at (λ key. slice_cmp nat_cmp label (string_bytes key))) es
  same_found label [] [] h = refl
  same_found label [] (f ∷ fs) h = absurd h
  same_found label (e ∷ es) [] h = absurd h
  same_found label (e ∷ es) (f ∷ fs) h =
      let found : List (String A × ℕ) → Option ℕ = lookup (is_at (λ key. slice_cmp nat_cmp label (string_bytes key))) in
      let here : List ℕ → ℕ → Option ℕ → Option ℕ = λ bytes number rest. cond (is_at (slice_cmp nat_cmp label) bytes) (Some number) rest in
      ap (λ (bytes : List ℕ). here bytes f.1 (found fs)) h.0.0
      ∙ ap (λ k. here (string_bytes e.0) k (found fs)) h.0.1
      ∙ ap (here (string_bytes e.0) e.1) (same_found label es fs h.1)

  -- and each has its number there
  pub same_numbered : (es fs : List (String A × ℕ)) → AllZip IsCopy es fs → IsNumbered es → IsNumbered fs
  same_numbered es fs h is = record {
    below = subst (λ (ns : List ℕ). All (λ (number : ℕ). number < length fs) ns) (sym (same_values es fs h))
        (subst (λ (count : ℕ). All (λ (number : ℕ). number < count) (values_of es)) (sym (same_length es fs h)) is.below);
    found = λ label. same_found label es fs h ∙ is.found label ∙ ap (position (bytes_eq label)) (sym (same_labels es fs h));
  }
