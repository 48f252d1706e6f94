-- What the items of a list say, one after another.
use Rattle.std.proofs.Common.{◌≡◌, ℕ, ◌+◌, ◌<◌, ◌≤◌, List, [], ◌∷◌, ◌++◌, length, get_or, drop, Result, Ok, ap, sym, ◌∙◌}
use Rattle.std.proofs.lemmas.List.{drop_more, drop_all}
use Rattle.serde_json.specs.View.{view, items_view}
use Rattle.serde_json.specs.declared.value.Value.{Value}
use Rattle.mad_parse.specs.declared.tokens.StyleToken.{StyleToken}
use Rattle.mad_parse.specs.declared.errors.ParseStyleTokenError.TheVariants as token_error
use Rattle.mad_json.specs.Faults.{ValueFault, TellsValue}
use Rattle.mad_json.specs.Lists.{items_said}
use Rattle.mad_json.specs.Texts.{value_said, and_next}
use Rattle.mad_json.specs.declared.errors.ValueError.{ValueError}
use Rattle.mad_json.specs.declared.errors.ValueError.TheVariants as value_error

items_next : {A : Type 0} (f : List StyleToken → A) (xs : List Value) (i : ℕ) (x : Value) (so_far : List A) → i < length xs → x ≡ get_or xs i x
    → items_said f (items_view (drop i xs)) so_far ≡ and_next (value_said f (view x)) (λ y. items_said f (items_view (drop (i + 1) xs)) (so_far ++ y ∷ []))
items_next {A} f xs i x so_far inside here = ap (λ (vs : List Value). items_said f (items_view vs) so_far) (drop_more xs i x inside ∙ ap (λ (v : Value). v ∷ drop (i + 1) xs) (sym here))

-- one more is read
pub items_more : {A : Type 0} (f : List StyleToken → A) (xs : List Value) (i : ℕ) (x : Value) (so_far new : List A) (y : A) (all : Result (List A) ValueFault) → i < length xs → x ≡ get_or xs i x
    → items_said f (items_view (drop i xs)) so_far ≡ all → value_said f (view x) ≡ Ok y → new ≡ so_far ++ y ∷ [] → items_said f (items_view (drop (i + 1) xs)) new ≡ all
items_more {A} f xs i x so_far new y all inside here held is pushed =
    ap (items_said f (items_view (drop (i + 1) xs))) pushed
    ∙ sym (items_next f xs i x so_far inside here ∙ ap (λ (r : Result A ValueFault). and_next r (λ z. items_said f (items_view (drop (i + 1) xs)) (so_far ++ z ∷ []))) is) ∙ held

-- the fault of one is the fault of all
pub items_refused : {A : Type 0} (f : List StyleToken → A) (xs : List Value) (i : ℕ) (x : Value) (so_far : List A) (e : ValueError) (all : Result (List A) ValueFault) → i < length xs → x ≡ get_or xs i x
    → items_said f (items_view (drop i xs)) so_far ≡ all → TellsValue e (value_said f (view x)) → TellsValue e all
items_refused {A} f xs i x so_far value_error.WrongType all inside here held told =
    sym held ∙ items_next f xs i x so_far inside here ∙ ap (λ (r : Result A ValueFault). and_next r (λ z. items_said f (items_view (drop (i + 1) xs)) (so_far ++ z ∷ []))) told
items_refused {A} f xs i x so_far (value_error.Style (token_error.Unrecognized text)) all inside here held told =
    sym held ∙ items_next f xs i x so_far inside here ∙ ap (λ (r : Result A ValueFault). and_next r (λ z. items_said f (items_view (drop (i + 1) xs)) (so_far ++ z ∷ []))) told
items_refused {A} f xs i x so_far (value_error.Style (token_error.InvalidColor color)) all inside here held told =
    sym held ∙ items_next f xs i x so_far inside here ∙ ap (λ (r : Result A ValueFault). and_next r (λ z. items_said f (items_view (drop (i + 1) xs)) (so_far ++ z ∷ []))) told
items_refused {A} f xs i x so_far (value_error.Style token_error.Memory) all inside here held told = absurd told
items_refused {A} f xs i x so_far value_error.Memory all inside here held told = tt

-- all are read
pub items_all : {A : Type 0} (f : List StyleToken → A) (xs ys : List Value) (i : ℕ) (read : List A) → length xs ≤ i → xs ≡ ys → items_said f (items_view (drop i xs)) read ≡ items_said f (items_view xs) []
    → items_said f (items_view ys) [] ≡ Ok read
items_all {A} f xs ys i read past same held =
    sym (ap (λ (vs : List Value). items_said f (items_view vs) []) same) ∙ sym held ∙ ap (λ (vs : List Value). items_said f (items_view vs) read) (drop_all i xs past)
