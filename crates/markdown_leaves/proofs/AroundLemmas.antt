-- Containers that are open: the innermost is the last of a vector, and the first of those around a line.
use Rattle.std.proofs.Common.{◌≡◌, Bool, ◌&&◌, List, [], ◌∷◌, ◌++◌, reverse, drop, sym, ap, ◌∙◌}
use Rattle.std.proofs.lemmas.List.{reverse-append}
use Rattle.markdown_blocks.specs.Containers.{is_item}
use Rattle.markdown_blocks.specs.declared.containers.Container.{Container}
use Rattle.markdown_leaves.specs.Gather.{passed_outside}

pub one_more : (xs : List Container) (c : Container) → reverse (xs ++ c ∷ []) ≡ c ∷ reverse xs
one_more xs c = reverse-append xs (c ∷ [])

innermost : (xs ys : List Container) (c : Container) → ys ≡ xs ++ c ∷ [] → reverse ys ≡ c ∷ reverse xs
innermost xs ys c e = ap reverse e ∙ one_more xs c

pub outside : (xs ys : List Container) (c : Container) (passed : Bool) → ys ≡ xs ++ c ∷ [] → (passed && is_item c) ≡ passed_outside (reverse ys) passed
outside xs ys c passed e = sym (ap (λ (cs : List Container). passed_outside cs passed) (innermost xs ys c e))

pub one_less : (xs ys : List Container) (c : Container) → ys ≡ xs ++ c ∷ [] → reverse xs ≡ drop 1 (reverse ys)
one_less xs ys c e = sym (ap (drop 1) (innermost xs ys c e))
