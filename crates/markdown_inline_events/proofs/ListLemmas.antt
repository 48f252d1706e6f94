-- Spans in the lists of their pieces.
use Rattle.std.proofs.Common.{◌≡◌, ℕ, zero, suc, ◌+◌, ◌<◌, Bool, true, false, eqb, if◌then◌else◌, inl, inr, List, [], ◌∷◌, ◌++◌, length, drop, set, reverse, get_or, refl, sym, ap, subst, ◌∙◌, arith}
use Rattle.std.specs.List.{filter}
use Rattle.std.proofs.lemmas.Bool.{cases_eq, eq-eqb, ne_eqb}
use Rattle.std.proofs.lemmas.List.{append-nil, drop_more, get_or-set_same, get_or-set_other, reverse-append}
use Rattle.std.specs.Global.{Vec}
use Rattle.markdown_inline_events.specs.declared.spans.Span.{Span}
use Rattle.markdown_inline_events.specs.Lists.{spans_at}
use Rattle.markdown_inline_events.specs.Spans.{begins_at, begun}

-- what is read of a list is what it has
pub list_at : (lists : List (Vec Span)) (index : ℕ) (d : Vec Span) → index < length lists → (get_or lists index d).items ≡ spans_at lists index
list_at [] index d h = absurd (omega (arith, h))
list_at (l ∷ lists) zero d h = refl
list_at (l ∷ lists) (suc index) d h = list_at lists index d (omega (arith, h))

-- one empty list more
pub none_more : (lists : List (Vec Span)) (list : Vec Span) (k : ℕ) → list.items ≡ [] → ((j : ℕ) → spans_at lists j ≡ []) → spans_at (lists ++ list ∷ []) k ≡ []
none_more [] list zero e none = e
none_more [] list (suc k) e none = refl
none_more (l ∷ lists) list zero e none = none 0
none_more (l ∷ lists) list (suc k) e none = none_more lists list k e (λ j. none (suc j))

-- one span, or none
abbrev one_if : Bool → Span → List Span
one_if b span = if b then span ∷ [] else []

-- a span goes to the list of its index, and the others stay
put_at : (lists : List (List Span)) (index k : ℕ) (span : Span) → k < length lists → get_or (set lists index (get_or lists index [] ++ span ∷ [])) k [] ≡ get_or lists k [] ++ one_if (eqb index k) span
put_at lists index k span h =
    elim (cases_eq index k) [
      | inl e ↦ subst (λ (i : ℕ). get_or (set lists i (get_or lists i [] ++ span ∷ [])) k [] ≡ get_or lists k [] ++ one_if (eqb i k) span) (sym e)
          (get_or-set_same lists k (get_or lists k [] ++ span ∷ []) [] h ∙ ap (λ (b : Bool). get_or lists k [] ++ one_if b span) (sym (eq-eqb k k refl)))
      | inr n ↦ get_or-set_other lists index k (get_or lists index [] ++ span ∷ []) [] (λ e. n (sym e)) ∙ sym (append-nil (get_or lists k [])) ∙ ap (λ (b : Bool). get_or lists k [] ++ one_if b span) (sym (ne_eqb index k n))
    ]

back_if : (b : Bool) (span : Span) (spans : List Span) → reverse (if b then span ∷ spans else spans) ≡ reverse spans ++ one_if b span
back_if true span spans = reverse-append (span ∷ []) spans
back_if false span spans = sym (append-nil (reverse spans))

-- what begins at a piece, with the span before
begun_more : (spans : List Span) (i k : ℕ) (span : Span) → i < length spans → begun (drop i spans) k ≡ begun (drop (i + 1) spans) k ++ one_if (eqb (get_or spans i span).opener k) (get_or spans i span)
begun_more spans i k span h = ap (λ (l : List Span). reverse (filter (begins_at k) l)) (drop_more spans i span h) ∙ back_if (eqb (get_or spans i span).opener k) (get_or spans i span) (filter (begins_at k) (drop (i + 1) spans))

-- one span more is in the list of the piece where it begins
pub begun_step : (lists new : List (List Span)) (spans : List Span) (i k : ℕ) (span : Span) → i < length spans → k < length lists → new ≡ set lists span.opener (get_or lists span.opener [] ++ span ∷ [])
    → span ≡ get_or spans i span → get_or lists k [] ≡ begun (drop (i + 1) spans) k → get_or new k [] ≡ begun (drop i spans) k
begun_step lists new spans i k span h w n is held =
    ap (λ (l : List (List Span)). get_or l k []) n ∙ put_at lists span.opener k span w ∙ ap (λ (l : List Span). l ++ one_if (eqb span.opener k) span) held
    ∙ sym (begun_more spans i k span h ∙ ap (λ (s : Span). begun (drop (i + 1) spans) k ++ one_if (eqb s.opener k) s) (sym is))
