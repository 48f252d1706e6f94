-- Runs, index by index.
use Rattle.std.proofs.Common.{◌≡◌, ℕ, ◌+◌, ◌<◌, cond, get_or, length, List, [], ◌∷◌, ◌++◌, Option, Some, None, ap, sym, ◌∙◌, arith}
use Rattle.std.specs.List.{filter_map, range_with_len, cons_option}
use Rattle.std.specs.Prelude.{option_and_then}
use Rattle.markdown_runs.specs.Texts.{marks_of, marks_at}
use Rattle.std.proofs.lemmas.Bool.{lt-ltb}
use Rattle.std.proofs.lemmas.List.{map-id, append-nil}
use Rattle.std.proofs.lemmas.List.Elements.{filter_map-append}
use Rattle.std.proofs.lemmas.List.FromFn.{map-range_with_len_more}

range_more : (n : ℕ) → range_with_len 0 (n + 1) ≡ range_with_len 0 n ++ n ∷ []
range_more n =
    sym (map-id (range_with_len 0 (n + 1))) ∙ map-range_with_len_more (λ (x : ℕ). x) 0 n n (omega arith) ∙ ap (λ l. l ++ n ∷ []) (map-id (range_with_len 0 n))

-- what is found at the next index is put behind the others
pub found_more : {X : Type 0} (f : ℕ → Option X) (n : ℕ) (x : X) → f n ≡ Some x → filter_map f (range_with_len 0 (n + 1)) ≡ filter_map f (range_with_len 0 n) ++ x ∷ []
found_more f n x h =
    ap (filter_map f) (range_more n) ∙ filter_map-append f (range_with_len 0 n) (n ∷ []) ∙ ap (λ o. filter_map f (range_with_len 0 n) ++ cons_option o []) h

-- a next index at which nothing is found changes nothing
pub none_more : {X : Type 0} (f : ℕ → Option X) (n : ℕ) → f n ≡ None → filter_map f (range_with_len 0 (n + 1)) ≡ filter_map f (range_with_len 0 n)
none_more f n h =
    ap (filter_map f) (range_more n) ∙ filter_map-append f (range_with_len 0 n) (n ∷ []) ∙ ap (λ o. filter_map f (range_with_len 0 n) ++ cons_option o []) h ∙ append-nil _

-- within a text the run at an index is the one of the character there
pub marks_at-within : (chars : List ℕ) (i : ℕ) → i < length chars → marks_at chars i ≡ marks_of chars i (get_or chars i 0)
marks_at-within chars i h = ap (λ b. option_and_then (marks_of chars i) (cond b (Some (get_or chars i 0)) None)) (lt-ltb i (length chars) h)
