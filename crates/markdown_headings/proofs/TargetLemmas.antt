-- The first heading of a name, and the first of such names.
use Rattle.std.proofs.Common.{◌≡◌, ℕ, ◌+◌, Bool, cond, not, List, [], ◌∷◌, length, map, Some, None, refl, ap, ◌∙◌}
use Rattle.std.specs.Prelude.{nat_lt, position, string_bytes}
use Rattle.std.specs.List.{prefix_len}
use Rattle.std.specs.Str.{bytes_eq}
use Rattle.std.proofs.lemmas.List.{length-map}
use Rattle.markdown_headings.specs.HeadingsSaid.{name_said}
use Rattle.markdown_headings.specs.Targets.{first_named}
use Rattle.markdown_headings.specs.declared.naming.Heading.{Heading}

-- how many are in front that pass, of what others are
front_of : {A B : Type 0} (f : A → B) (p : B → Bool) (xs : List A) → prefix_len p (map f xs) ≡ prefix_len (λ (x : A). p (f x)) xs
front_of f p [] = refl
front_of f p (x ∷ xs) = ap (λ (n : ℕ). cond (p (f x)) (1 + n) 0) (front_of f p xs)

-- the first that passes, of what others are
position_of : {A B : Type 0} (f : A → B) (p : B → Bool) (xs : List A) → position p (map f xs) ≡ position (λ (x : A). p (f x)) xs
position_of {A} f p xs =
    ap (λ (n : ℕ). cond (nat_lt n (length (map f xs))) (Some n) None) (front_of f (λ y. not (p y)) xs)
    ∙ ap (λ (l : ℕ). cond (nat_lt (prefix_len (λ (x : A). not (p (f x))) xs) l) (Some (prefix_len (λ (x : A). not (p (f x))) xs)) None) (length-map xs f)

-- the first heading of a name is the first of their names that is this one
pub named_at : (headings : List Heading) (name : List ℕ) → first_named (map name_said headings) name ≡ position (λ (heading : Heading). bytes_eq (string_bytes heading.name) name) headings
named_at headings name = position_of name_said (λ (other : List ℕ). bytes_eq other name) headings
