-- Lines for words, one after another.
use Rattle.std.proofs.Common.{◌≡◌, ℕ, ◌+◌, ◌<◌, List, ◌++◌, length, map, drop, get_or, ap, sym, ◌∙◌, append_assoc}
use Rattle.std.proofs.lemmas.List.{drop_more}
use Rattle.std.specs.List.{flat_map}

-- one line more
pub line_more : {K : Type 0} (bytes : K → List ℕ) (line : List ℕ → List ℕ) (keys : List K) (i : ℕ) (d : K) (said next key : List ℕ) → i < length keys
    → key ≡ bytes (get_or keys i d) → next ≡ said ++ line key
    → next ++ flat_map line (map bytes (drop (i + 1) keys)) ≡ said ++ flat_map line (map bytes (drop i keys))
line_more bytes line keys i d said next key within is more =
    let left = flat_map line (map bytes (drop (i + 1) keys)) in
    ap (λ l. l ++ left) more ∙ append_assoc said (line key) left ∙ ap (λ k. said ++ (line k ++ left)) is
    ∙ ap (λ ks. said ++ flat_map line (map bytes ks)) (sym (drop_more keys i d within))
