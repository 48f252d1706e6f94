-- Attributes that are added one by one.
use Rattle.std.proofs.Common.{◌≡◌, ℕ, ◌^◌, ◌==◌, ◌||◌, ◌&&◌, Bool, true, false, List, [], ◌∷◌, filter, refl, sym, ap, ◌∙◌, eqb, eqb-true, inl, inr}
use Rattle.std.specs.Int.{bit_at}
use Rattle.std.proofs.lemmas.Bool.{cases_Bool, cond-false, cond-true, eqb-false}
use Rattle.std.proofs.Math.Bool.{and-false, and-true, or-false, or_assoc}
use Rattle.std.proofs.lemmas.Nat.Bits.{bit_at-zero, bit_at-pow_same, bit_at-pow_other}
use Rattle.mad_term.specs.Attribute.{attribute_index}
use Rattle.mad_term.specs.Attributes.{attribute_bits, has_attribute}
use Rattle.mad_term.specs.AttributeSets.{no_attributes, only, united}
use Rattle.mad_term.specs.declared.attribute.Attribute.{Attribute}
use Rattle.mad_term.specs.declared.attribute.Attribute.TheVariants as attribute
use Rattle.mad_term.specs.declared.attributes.Attributes.{Attributes}
use Rattle.mad_term.proofs.Bits.{or_test}
use Rattle.mad_term.proofs.SameAttributes.{same_sets}
use Rattle.mad_parse.specs.ReadsBack.{is_written}
use Rattle.mad_parse.specs.Written.{written_attributes}

-- attributes with those of a list
abbrev pub added : Attributes → List Attribute → Attributes
added s [] = s
added s (a ∷ list) = added (united s (only a)) list

-- the attribute is one of a list
abbrev is_in : Attribute → List Attribute → Bool
is_in a [] = false
is_in a (b ∷ list) = (attribute_index b == attribute_index a) || is_in a list

has_none : (a : Attribute) → has_attribute no_attributes a ≡ false
has_none a = ap (λ b. eqb b 1) (bit_at-zero (attribute_index a))

one_bit : (i k : ℕ) → (bit_at (2 ^ k) i == 1) ≡ (k == i)
one_bit i k =
    elim (cases_Bool (k == i)) as (λ _. (bit_at (2 ^ k) i == 1) ≡ (k == i)) [
      | inl same ↦ ap (λ j. bit_at (2 ^ k) j == 1) (sym (eqb-true k i same)) ∙ ap (λ b. b == 1) (bit_at-pow_same k) ∙ sym same
      | inr other ↦ ap (λ b. b == 1) (bit_at-pow_other k i (λ e. eqb-false k i other (sym e))) ∙ sym other
    ]

-- one attribute more
has_more : (s : Attributes) (b a : Attribute) → has_attribute (united s (only b)) a ≡ (has_attribute s a || (attribute_index b == attribute_index a))
has_more s b a =
    let i = attribute_index a in
    or_test (attribute_bits s) (2 ^ attribute_index b) i
    ∙ ap (λ x. has_attribute s a || x) (one_bit i (attribute_index b))

has_added : (s : Attributes) (list : List Attribute) (a : Attribute) → has_attribute (added s list) a ≡ (has_attribute s a || is_in a list)
has_added s [] a = sym (or-false (has_attribute s a))
has_added s (b ∷ list) a = has_added (united s (only b)) list a ∙ ap (λ x. x || is_in a list) (has_more s b a) ∙ or_assoc (has_attribute s a) (attribute_index b == attribute_index a) (is_in a list)

-- an attribute with the same bit
same_index : (s : Attributes) (a b : Attribute) → (attribute_index b == attribute_index a) ≡ true → has_attribute s b ≡ has_attribute s a
same_index s a b e = ap (λ i. bit_at (attribute_bits s) i == 1) (eqb-true (attribute_index b) (attribute_index a) e)

kept_one : (s : Attributes) (a b : Attribute) (rest : Bool) → has_attribute s b ≡ true → ((attribute_index b == attribute_index a) || (has_attribute s a && rest)) ≡ (has_attribute s a && ((attribute_index b == attribute_index a) || rest))
kept_one s a b rest has =
    elim (cases_Bool (attribute_index b == attribute_index a)) as (λ _. ((attribute_index b == attribute_index a) || (has_attribute s a && rest)) ≡ (has_attribute s a && ((attribute_index b == attribute_index a) || rest))) [
      | inl same ↦
          let this : has_attribute s a ≡ true = sym (same_index s a b same) ∙ has in
          ap (λ x. x || (has_attribute s a && rest)) same ∙ sym (ap (λ x. has_attribute s a && (x || rest)) same ∙ ap (λ x. x && true) this)
      | inr other ↦ ap (λ x. x || (has_attribute s a && rest)) other ∙ sym (ap (λ x. has_attribute s a && (x || rest)) other)
    ]

kept_none : (s : Attributes) (a b : Attribute) (rest : Bool) → has_attribute s b ≡ false → (has_attribute s a && rest) ≡ (has_attribute s a && ((attribute_index b == attribute_index a) || rest))
kept_none s a b rest hasnt =
    elim (cases_Bool (attribute_index b == attribute_index a)) as (λ _. (has_attribute s a && rest) ≡ (has_attribute s a && ((attribute_index b == attribute_index a) || rest))) [
      | inl same ↦
          let this : has_attribute s a ≡ false = sym (same_index s a b same) ∙ hasnt in
          ap (λ x. x && rest) this ∙ sym (ap (λ x. x && ((attribute_index b == attribute_index a) || rest)) this)
      | inr other ↦ sym (ap (λ x. has_attribute s a && (x || rest)) other)
    ]

-- of a list those that a set has
is_in_kept : (s : Attributes) (list : List Attribute) (a : Attribute) → is_in a (filter (has_attribute s) list) ≡ (has_attribute s a && is_in a list)
is_in_kept s [] a = sym (and-false (has_attribute s a))
is_in_kept s (b ∷ list) a =
    elim (cases_Bool (has_attribute s b)) as (λ _. is_in a (filter (has_attribute s) (b ∷ list)) ≡ (has_attribute s a && is_in a (b ∷ list))) [
      | inl has ↦ ap (is_in a) (cond-true (has_attribute s b) (b ∷ filter (has_attribute s) list) _ has) ∙ ap (λ x. (attribute_index b == attribute_index a) || x) (is_in_kept s list a) ∙ kept_one s a b (is_in a list) has
      | inr hasnt ↦ ap (is_in a) (cond-false (has_attribute s b) (b ∷ filter (has_attribute s) list) _ hasnt) ∙ is_in_kept s list a ∙ kept_none s a b (is_in a list) hasnt
    ]

in_written : (a : Attribute) → is_in a written_attributes ≡ is_written a
in_written attribute.Reset = refl
in_written _ = refl

-- the attributes of a list that a set has, where it has no others than those of the list
has_back : (s : Attributes) (list : List Attribute) → ((a : Attribute) → is_in a list ≡ false → has_attribute s a ≡ false) → (a : Attribute) → has_attribute (added no_attributes (filter (has_attribute s) list)) a ≡ has_attribute s a
has_back s list h a =
    has_added no_attributes (filter (has_attribute s) list) a ∙ ap (λ x. x || is_in a (filter (has_attribute s) list)) (has_none a)
    ∙ is_in_kept s list a
    ∙ elim (cases_Bool (is_in a list)) as (λ _. (has_attribute s a && is_in a list) ≡ has_attribute s a) [
      | inl within ↦ ap (λ x. has_attribute s a && x) within ∙ and-true (has_attribute s a)
      | inr other ↦ ap (λ x. has_attribute s a && x) other ∙ and-false (has_attribute s a) ∙ sym (h a other)
    ]

-- the attributes of a set that are written give it back, where it has no others
pub added_back : (s : Attributes) → ((a : Attribute) → is_written a ≡ false → has_attribute s a ≡ false) → added no_attributes (filter (has_attribute s) written_attributes) ≡ s
added_back s h = same_sets (added no_attributes (filter (has_attribute s) written_attributes)) s (has_back s written_attributes (λ a other. h a (sym (in_written a) ∙ other)))
