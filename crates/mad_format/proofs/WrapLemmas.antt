-- Lines of wrapped compounds are a wrap of their composite.
use Rattle.std.proofs.Common.{◌≡◌, ℕ, ◌+◌, ◌<◌, List, [], ◌∷◌, length, drop, get_or, Option, None, Result, Ok, Err, IfOk, OnOk, refl, sym, ap, ◌∙◌, arith, subst}
use Rattle.std.proofs.lemmas.List.{at_drop_more}
use Rattle.std.specs.List.{AllByRecursion}
use Rattle.mad_md.specs.Flagged.{flagged_text}
use Rattle.mad_style.specs.declared.kinds.CompositeKind.{CompositeKind}
use Rattle.mad_style.specs.declared.kinds.CompositeKind.TheVariants.{Paragraph, Header, ListItem, ListItemFollowUp, OrderedListItem, OrderedListItemFollowUp, Code, Quote}
use Rattle.mad_measure.specs.TextColumns.{width_of}
use Rattle.mad_measure.specs.declared.spacing.Spacing.{Spacing}
use Rattle.mad_wrap.specs.LeastWords.{IsWrapOf}
use Rattle.mad_wrap.specs.WrapLines.{capped, compounds_of, AreCounted}
use Rattle.mad_wrap.specs.declared.wrapped_line.WrappedLine.{WrappedLine}
use Rattle.mad_format.specs.CompositeWraps.{line_compounds, HaveKinds, IsCompositeWrap, composite_of, AreComposites}
use Rattle.mad_format.specs.Indents.{indent, follow_up, room_of}
use Rattle.mad_format.specs.Wraps.{text_of, IsMeasured}
use Rattle.mad_format.specs.LineRules.{LineRules}
use Rattle.mad_format.specs.declared.composite.FmtComposite.{FmtComposite}

-- a follow-up is followed by its own kind
pub follow_up_stays : (kind : CompositeKind) → follow_up (follow_up kind) ≡ follow_up kind
follow_up_stays Paragraph = refl
follow_up_stays (Header level) = refl
follow_up_stays (ListItem depth) = refl
follow_up_stays (ListItemFollowUp depth) = refl
follow_up_stays (OrderedListItem level index) = refl
follow_up_stays (OrderedListItemFollowUp level index) = refl
follow_up_stays Code = refl
follow_up_stays Quote = refl

-- a composite that is wider than the width, by a right length
pub too_wide : (skin : LineRules) (width : ℕ) (source : FmtComposite) → width < source.visible_length → IsMeasured skin source → width < (room_of skin source.kind width).first + width_of (text_of source)
too_wide skin width source wide measured = omega (arith, wide, measured)

-- ---- lines as composites

-- the first of the lines as a composite, and what the others become
pub composed_first : (kind : CompositeKind) (indent other : ℕ) (spacing : Option Spacing) (all after : List WrappedLine) (l : WrappedLine) (c : FmtComposite) (cs : List FmtComposite) → all ≡ l ∷ after → c ≡ composite_of kind indent spacing l
    → AreComposites (follow_up kind) (follow_up (follow_up kind)) other other spacing after cs → AreComposites kind (follow_up kind) indent other spacing all (c ∷ cs)
composed_first kind indent other spacing all after l c cs next is h =
    subst (λ ls. AreComposites kind (follow_up kind) indent other spacing ls (c ∷ cs)) (sym next) (is, subst (λ k. AreComposites (follow_up kind) k other other spacing after cs) (follow_up_stays kind) h)

-- ---- what they say

same_compounds : (kind other : CompositeKind) (i n : ℕ) (spacing : Option Spacing) (ls : List WrappedLine) (cs : List FmtComposite) → AreComposites kind other i n spacing ls cs → line_compounds cs ≡ compounds_of ls
same_compounds kind other i n spacing [] cs h = ap line_compounds h
same_compounds kind other i n spacing (l ∷ ls) [] h = absurd h
same_compounds kind other i n spacing (l ∷ ls) (c ∷ cs) h =
    ap (λ (x : FmtComposite). x.compounds.items ∷ line_compounds cs) h.0 ∙ ap (λ xs. l.compounds.items ∷ xs) (same_compounds other other n n spacing ls cs h.1)

kinds_are : (kind other : CompositeKind) (i n : ℕ) (spacing : Option Spacing) (ls : List WrappedLine) (cs : List FmtComposite) → AreComposites kind other i n spacing ls cs → HaveKinds kind other cs
kinds_are kind other i n spacing [] cs h = subst (HaveKinds kind other) (sym h) tt
kinds_are kind other i n spacing (l ∷ ls) [] h = absurd h
kinds_are kind other i n spacing (l ∷ ls) (c ∷ cs) h = (ap (λ (x : FmtComposite). x.kind) h.0, kinds_are other other n n spacing ls cs h.1)

spacing_is : (kind other : CompositeKind) (i n : ℕ) (spacing : Option Spacing) (ls : List WrappedLine) (cs : List FmtComposite) → AreComposites kind other i n spacing ls cs → AllByRecursion (λ (c : FmtComposite). c.spacing ≡ spacing) cs
spacing_is kind other i n spacing [] cs h = subst (AllByRecursion (λ (c : FmtComposite). c.spacing ≡ spacing)) (sym h) tt
spacing_is kind other i n spacing (l ∷ ls) [] h = absurd h
spacing_is kind other i n spacing (l ∷ ls) (c ∷ cs) h = (ap (λ (x : FmtComposite). x.spacing) h.0, spacing_is other other n n spacing ls cs h.1)

margins_are : (kind other : CompositeKind) (i n : ℕ) (spacing : Option Spacing) (ls : List WrappedLine) (cs : List FmtComposite) → AreComposites kind other i n spacing ls cs → AllByRecursion (λ (c : FmtComposite). c.margins ≡ None) cs
margins_are kind other i n spacing [] cs h = subst (AllByRecursion (λ (c : FmtComposite). c.margins ≡ None)) (sym h) tt
margins_are kind other i n spacing (l ∷ ls) [] h = absurd h
margins_are kind other i n spacing (l ∷ ls) (c ∷ cs) h = (ap (λ (x : FmtComposite). x.margins) h.0, margins_are other other n n spacing ls cs h.1)

measured_one : (skin : LineRules) (kind : CompositeKind) (l : WrappedLine) (c : FmtComposite) (i : ℕ) (spacing : Option Spacing) → i ≡ indent skin.list_items_indentation_mode kind → l.columns ≡ capped (width_of (flagged_text l.compounds.items))
    → c ≡ record { kind = kind; compounds = l.compounds; visible_length = capped (l.columns + i); spacing = spacing; margins = None } → IsMeasured skin c
measured_one skin kind l c i spacing room counted is = subst (IsMeasured skin) (sym is) (omega (arith, room, counted))

measured_are : (skin : LineRules) (kind other : CompositeKind) (i n : ℕ) (spacing : Option Spacing) (ls : List WrappedLine) (cs : List FmtComposite) → i ≡ indent skin.list_items_indentation_mode kind → n ≡ indent skin.list_items_indentation_mode other
    → AreCounted ls → AreComposites kind other i n spacing ls cs → AllByRecursion (IsMeasured skin) cs
measured_are skin kind other i n spacing [] cs first next counted h = subst (AllByRecursion (IsMeasured skin)) (sym h) tt
measured_are skin kind other i n spacing (l ∷ ls) [] first next counted h = absurd h
measured_are skin kind other i n spacing (l ∷ ls) (c ∷ cs) first next counted h = (measured_one skin kind l c i spacing first counted.0 h.0, measured_are skin other other n n spacing ls cs next next counted.1 h.1)

-- the lines of a wrap of a composite's compounds, as composites, are a wrap of the composite
pub composite_wrap : (skin : LineRules) (width : ℕ) (source : FmtComposite) (lines : List WrappedLine) (cs : List FmtComposite) → IsWrapOf (room_of skin source.kind width) source.compounds.items (compounds_of lines) → AreCounted lines
    → AreComposites source.kind (follow_up source.kind) (room_of skin source.kind width).first (room_of skin source.kind width).other source.spacing lines cs → IsCompositeWrap skin width source cs
composite_wrap skin width source lines cs wrap counted h =
    let r = room_of skin source.kind width in
    record {
      wrap = subst (IsWrapOf r source.compounds.items) (sym (same_compounds source.kind (follow_up source.kind) r.first r.other source.spacing lines cs h)) wrap;
      made = record {
        kinds = kinds_are source.kind (follow_up source.kind) r.first r.other source.spacing lines cs h;
        measured = measured_are skin source.kind (follow_up source.kind) r.first r.other source.spacing lines cs refl refl counted h;
        spacing = spacing_is source.kind (follow_up source.kind) r.first r.other source.spacing lines cs h;
        margins = margins_are source.kind (follow_up source.kind) r.first r.other source.spacing lines cs h;
      };
    }

-- ---- of any list or result

-- what is left of a list begins with its next element
pub next_of : {A : Type 0} (xs : List A) (i : ℕ) (x : A) → i < length xs → x ≡ get_or xs i x → drop i xs ≡ x ∷ drop (i + 1) xs
next_of {A} xs i x inside is = at_drop_more (λ y. y) xs i x inside ∙ ap (λ y. y ∷ drop (i + 1) xs) (sym is)

-- what follows of an Ok
pub ok_then : {T E : Type 0} (P Q : T → Type 0) → ((x : T) → P x → Q x) → (r : Result T E) → IfOk r P → IfOk r Q
ok_then P Q f (Ok x) h = f x h
ok_then P Q f (Err e) h = tt

-- what follows from what is known of an Ok, whatever its value
pub then_ok : {T E : Type 0} (P Q : Type 0) (r : Result T E) → (P → Q) → OnOk r P → OnOk r Q
then_ok {T} {E} P Q (Ok x) f h = f h
then_ok {T} {E} P Q (Err e) f h = tt
