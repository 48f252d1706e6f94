use Rattle.std.proofs.Common.{ℕ, Some, refl, ap, ◌∙◌, arith}
use Rattle.std.specs.Prelude.{Option}
use Rattle.std.specs.List.{flat_map}
use Rattle.std.proofs.lemmas.List.{append-nil}
use Rattle.mad_md.specs.declared.alignment.Alignment.TheVariants.{Left}
use Rattle.mad_md.specs.declared.compound.Compound.{Compound}
use Rattle.mad_md.specs.Flagged.{flagged_of}
use Rattle.mad_measure.specs.TextColumns.{width_of}
use Rattle.mad_wrap.specs.WrapLines.{capped}
use Rattle.mad_measure.specs.declared.spacing.Spacing.{Spacing}
use Rattle.mad_format.specs.declared.composite.FmtComposite.{FmtComposite}
use Rattle.mad_format.specs.declared.fitter.Fitter.{Fitter}
use Rattle.mad_layout.specs.RowSkins.{row_skin}
use Rattle.mad_rows.specs.RowStyles.{line_rules}
use Rattle.mad_pager.proofs.StepLemmas.{fitted_along}
use Rattle.mad_pager.proofs.status.status_line.Goals as goal

pub returns : goal.returns
returns c = record {
  whole = c.in_ok-line.line;
  fitted = c.in_place.result;
  is = refl;
  text = ap (flat_map (λ (k : Compound). k.src.now)) c.in_ok-line.ensures.text ∙ (append-nil _ ∙ ap (λ (k : Compound). k.src.now) c.raw_str.ensures);
  flags = ap (flat_map flagged_of) c.in_ok-line.ensures.text ∙ (append-nil _ ∙ ap flagged_of c.raw_str.ensures);
  length = c.in_ok-line.ensures.length ∙ ap (λ (k : Compound). capped (width_of (flagged_of k))) c.raw_str.ensures;
  fits = λ h. ap (λ (l : FmtComposite). l.compounds.items) c.in_place.ensures ∙ ap (λ (l : FmtComposite). l.compounds.items) (c.in_ok-fit.ensures.fits (omega arith)).1;
  cut = λ h measured.
      fitted_along (line_rules (row_skin c.args.skin.now)) _ _ _ c.in_ok-line.line c.fit.new.composite c.in_place.result (ap (λ (f : Fitter). f.align) c.for_align.ensures) c.from-width.ensures (ap (λ (l : FmtComposite). l.compounds.items) c.in_place.ensures) (c.in_ok-fit.ensures.fitted (omega arith) measured);
  kind = ap (λ (l : FmtComposite). l.kind) c.in_place.ensures ∙ (c.in_ok-fit.ensures.kind ∙ c.in_ok-line.ensures.kind);
  place = ap (λ (l : FmtComposite). l.spacing) c.in_place.ensures ∙ ap (λ (n : ℕ). let s : Option Spacing = Some (record { width = n; align = Left }) in s) c.from-width.ensures;
  margins = ap (λ (l : FmtComposite). l.margins) c.in_place.ensures;
}
