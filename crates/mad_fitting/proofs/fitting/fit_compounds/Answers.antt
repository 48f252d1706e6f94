use Rattle.std.proofs.Common.{◌+◌, ◌-◌, ◌/◌, inl, inr, refl, arith, subst, sym}
use Rattle.std.specs.Prelude.{IfOk}
use Rattle.std.proofs.lemmas.Result.{IfOk-weaker}
use Rattle.mad_md.specs.Flagged.{flagged_text}
use Rattle.mad_md.specs.declared.alignment.Alignment.TheVariants.{Unspecified, Left, Center, Right}
use Rattle.mad_measure.specs.TextColumns.{width_of}
use Rattle.mad_fitting.specs.Fitted.{IsFitted}
use Rattle.mad_fitting.specs.Turns.{IsReplacedAs}
use Rattle.mad_fitting.proofs.ThinLemmas.{both_ways}
use Rattle.mad_fitting.proofs.FitLemmas.{left_fitted, right_fitted, center_one, center_more, inside_fitted, some_left}
use Rattle.mad_fitting.proofs.fitting.fit_compounds.Goals as goal

pub returns-in-Left-clause-fitted : goal.returns-in-Left-clause-fitted
returns-in-Left-clause-fitted c = λ wide.
    IfOk-weaker c.fit_end.result _ _ (λ fitted h. subst (λ a. IsFitted a c.args.indent c.args.width c.args.compounds.now fitted.items) (sym c.in-Left.is) (left_fitted c.args.indent c.args.width c.excess_columns-excess.result c.args.compounds.now fitted.items wide c.excess_columns-excess.ensures.value (omega arith) h)) c.fit_end.ensures

pub returns-in-Right-clause-fitted : goal.returns-in-Right-clause-fitted
returns-in-Right-clause-fitted c = λ wide.
    IfOk-weaker c.fit_front.result _ _ (λ fitted h. subst (λ a. IsFitted a c.args.indent c.args.width c.args.compounds.now fitted.items) (sym c.in-Right.is) (right_fitted c.args.indent c.args.width c.excess_columns-excess.result c.args.compounds.now fitted.items wide c.excess_columns-excess.ensures.value (omega arith) h)) c.fit_front.ensures

pub returns-in-Unspecified-clause-fitted : goal.returns-in-Unspecified-clause-fitted
returns-in-Unspecified-clause-fitted c = λ wide.
    IfOk-weaker c.fit_inside.result _ _ (λ fitted h. subst (λ a. IsFitted a c.args.indent c.args.width c.args.compounds.now fitted.items) (sym c.in-Unspecified.is) (inside_fitted c.args.indent c.args.width c.excess_columns-excess.result c.args.compounds.now fitted.items wide c.excess_columns-excess.ensures.value (omega arith) h)) c.fit_inside.ensures.inside

pub returns-in-Center-clause-fitted : goal.returns-in-Center-clause-fitted
returns-in-Center-clause-fitted c = λ wide.
    let e = c.excess_columns-excess.result in
    let is = c.excess_columns-excess.ensures.value in
    elim (some_left (e / 2)) as (λ _. IfOk c.fit_both.result (λ fitted. IsFitted c.args.align c.args.indent c.args.width c.args.compounds.now fitted.items)) [
      | inl none ↦ IfOk-weaker c.fit_both.result _ _ (λ fitted h. subst (λ a. IsFitted a c.args.indent c.args.width c.args.compounds.now fitted.items) (sym c.in-Center.is) (center_one c.args.indent c.args.width e c.args.compounds.now fitted.items wide is (omega arith) none h)) (c.fit_both.ensures.one none)
      | inr some ↦ IfOk-weaker c.fit_both.result _ _ (λ fitted h. subst (λ a. IsFitted a c.args.indent c.args.width c.args.compounds.now fitted.items) (sym c.in-Center.is) (center_more c.args.indent c.args.width e (e / 2) c.args.compounds.now fitted.items wide is (omega arith) refl some (omega arith) h)) (c.fit_both.ensures.more some)
    ]

pub returns-in-Unspecified-clause-replaced : goal.returns-in-Unspecified-clause-replaced
returns-in-Unspecified-clause-replaced c = λ two wide.
    IfOk-weaker c.fit_inside.result _ _ (λ fitted h. subst (λ a. IsReplacedAs a (c.args.indent + width_of (flagged_text c.args.compounds.now) - c.args.width) c.args.compounds.now fitted.items) (sym c.in-Unspecified.is)
    (subst (λ e. IsReplacedAs Unspecified e c.args.compounds.now fitted.items) c.excess_columns-excess.ensures.value h)) c.fit_inside.ensures.down

pub returns-in-Left-clause-replaced : goal.returns-in-Left-clause-replaced
returns-in-Left-clause-replaced c = λ two wide.
    IfOk-weaker c.fit_end.result _ _ (λ fitted h. subst (λ a. IsReplacedAs a (c.args.indent + width_of (flagged_text c.args.compounds.now) - c.args.width) c.args.compounds.now fitted.items) (sym c.in-Left.is)
    (subst (λ e. IsReplacedAs Left e c.args.compounds.now fitted.items) c.excess_columns-excess.ensures.value h)) c.fit_end.ensures

pub returns-in-Right-clause-replaced : goal.returns-in-Right-clause-replaced
returns-in-Right-clause-replaced c = λ two wide.
    IfOk-weaker c.fit_front.result _ _ (λ fitted h. subst (λ a. IsReplacedAs a (c.args.indent + width_of (flagged_text c.args.compounds.now) - c.args.width) c.args.compounds.now fitted.items) (sym c.in-Right.is)
    (subst (λ e. IsReplacedAs Right e c.args.compounds.now fitted.items) c.excess_columns-excess.ensures.value h)) c.fit_front.ensures

pub returns-in-Center-clause-replaced : goal.returns-in-Center-clause-replaced
returns-in-Center-clause-replaced c = λ two wide.
    both_ways c.fit_both.result _ _ _ _ (λ fitted. IsReplacedAs c.args.align (c.args.indent + width_of (flagged_text c.args.compounds.now) - c.args.width) c.args.compounds.now fitted.items)
    (λ fitted one more. subst (λ a. IsReplacedAs a (c.args.indent + width_of (flagged_text c.args.compounds.now) - c.args.width) c.args.compounds.now fitted.items) (sym c.in-Center.is)
    (subst (λ e. IsReplacedAs Center e c.args.compounds.now fitted.items) c.excess_columns-excess.ensures.value (one, more))) c.fit_both.ensures.one c.fit_both.ensures.more
