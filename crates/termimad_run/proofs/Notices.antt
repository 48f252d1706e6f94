-- The lines of a skin's unknown keys, one after another.
use Rattle.std.proofs.Common.{◌≡◌, ℕ, ◌+◌, ◌<◌, List, [], ◌∷◌, ◌++◌, length, map, drop, get_or, ap, sym, ◌∙◌, append_assoc}
use Rattle.std.proofs.lemmas.List.{drop_more}
use Rattle.std.specs.Prelude.{codes}
use Rattle.termimad_run.specs.UnknownKeys.{key_lines}

-- one line more
pub line_said : {K : Type 0} (bytes : K → List ℕ) (keys : List K) (i : ℕ) (d : K) (said next key : List ℕ) → i < length keys → key ≡ bytes (get_or keys i d)
    → next ≡ ((said ++ codes "unknown key: ") ++ key) ++ (10 ∷ []) → next ++ key_lines (map bytes (drop (i + 1) keys)) ≡ said ++ key_lines (map bytes (drop i keys))
line_said bytes keys i d said next key within is more =
    let left = key_lines (map bytes (drop (i + 1) keys)) in
    ap (λ l. l ++ left) more
    ∙ append_assoc ((said ++ codes "unknown key: ") ++ key) (10 ∷ []) left
    ∙ append_assoc (said ++ codes "unknown key: ") key (10 ∷ left)
    ∙ append_assoc said (codes "unknown key: ") (key ++ (10 ∷ left))
    ∙ ap (λ k. said ++ (codes "unknown key: " ++ (k ++ (10 ∷ left)))) is
    ∙ ap (λ ks. said ++ key_lines (map bytes ks)) (sym (drop_more keys i d within))
