use Rattle.std.proofs.Common.{[], ◌∷◌, ◌++◌, map, ap, sym, ◌∙◌, subst, append_assoc}
use Rattle.std.proofs.lemmas.List.{map-append}
use Rattle.mad_format.specs.CompositeWraps.{AreComposites}
use Rattle.mad_format.specs.Indents.{follow_up}
use Rattle.mad_format.specs.WrappedLines.{line_with}
use Rattle.mad_format.specs.declared.composite.FmtComposite.{FmtComposite}
use Rattle.mad_format.specs.declared.line.FmtLine.{FmtLine}
use Rattle.mad_format.proofs.wrap.push_wrapped.Goals as goal

pub loop-composite-preserved : goal.loop-composite-preserved
loop-composite-preserved c =
    let held = c.loop-composite.invariant in
    let cs = held.0 in
    let before = c.args.lines.now.items in
    let composite : FmtComposite = c.in-Some.composite in
    let line : FmtLine = line_with c.args.margins composite in (
      cs ++ composite ∷ [],
      c.in_ok-put_line.ensures ∙ ap (λ l. c.loop-composite.lines.items ++ l ∷ []) c.line_with.ensures ∙ ap (λ ls. ls ++ line ∷ []) held.1
          ∙ append_assoc before (map (line_with c.args.margins) cs) (line ∷ []) ∙ ap (λ ls. before ++ ls) (sym (map-append (line_with c.args.margins) cs (composite ∷ []))),
      λ more h. subst (AreComposites c.args.kind (follow_up c.args.kind) c.args.room.first c.args.room.other c.args.spacing c.args.wrap.items) (sym (append_assoc cs (composite ∷ []) more))
          (held.2 (composite ∷ more) (c.in-Some.ensures.next more h)),
    )
