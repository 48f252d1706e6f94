-- Attributes are added one by one, where a test holds.
use Rattle.std.proofs.Common.{◌≡◌, ℕ, ◌+◌, ◌<◌, Bool, true, false, List, ◌∷◌, filter, length, drop, get_or, sym, ap, ◌∙◌}
use Rattle.std.proofs.lemmas.Bool.{cond-false, cond-true}
use Rattle.std.proofs.lemmas.List.{drop_more}
use Rattle.mad_term.specs.declared.attribute.Attribute.{Attribute}
use Rattle.mad_style.specs.declared.compound_styles.CompoundStyle.{CompoundStyle}
use Rattle.mad_style.specs.CompoundStyles.{attribute_added}
use Rattle.mad_parse.specs.TokenStyles.{all_added}

-- a style to which the attribute of this number is added, as the test holds of it
pub attribute_in : (p : Attribute → Bool) (a d : Attribute) (list : List Attribute) (i : ℕ) (s t whole : CompoundStyle) → i < length list → get_or list i d ≡ a → p a ≡ true
    → all_added s (filter p (drop i list)) ≡ whole → t ≡ attribute_added s a → all_added t (filter p (drop (i + 1) list)) ≡ whole
attribute_in p a d list i s t whole within is has held added =
    ap (λ u. all_added u (filter p (drop (i + 1) list))) added
    ∙ ap (all_added s) (sym (ap (filter p) (drop_more list i d within ∙ ap (λ b. b ∷ drop (i + 1) list) is) ∙ cond-true (p a) (a ∷ filter p (drop (i + 1) list)) (filter p (drop (i + 1) list)) has))
    ∙ held

-- a style that is left as it is, as the test doesn't hold of the attribute of this number
pub attribute_out : (p : Attribute → Bool) (a d : Attribute) (list : List Attribute) (i : ℕ) (s t whole : CompoundStyle) → i < length list → get_or list i d ≡ a → p a ≡ false
    → all_added s (filter p (drop i list)) ≡ whole → t ≡ s → all_added t (filter p (drop (i + 1) list)) ≡ whole
attribute_out p a d list i s t whole within is has held same =
    ap (λ u. all_added u (filter p (drop (i + 1) list))) same
    ∙ ap (all_added s) (sym (ap (filter p) (drop_more list i d within ∙ ap (λ b. b ∷ drop (i + 1) list) is) ∙ cond-false (p a) (a ∷ filter p (drop (i + 1) list)) (filter p (drop (i + 1) list)) has))
    ∙ held
