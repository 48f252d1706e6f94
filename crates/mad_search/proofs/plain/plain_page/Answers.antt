use Rattle.std.proofs.lemmas.Grind.{common_steps}
use Rattle.std.proofs.Common.{◌≡◌, List, arith, true, false, map, [], ◌∷◌, ◌++◌, ap, subst, sym, ◌∙◌}
use Rattle.std.specs.Vec.Iter.{into_iter_items}
use Rattle.mad_md.specs.Lines.{LineContent, content_of, contents}
use Rattle.mad_md.specs.declared.line.Line.{Line}
use Rattle.mad_blocks.specs.TextParts.{apart}
use Rattle.mad_sections.specs.Sections.{SectionContent, section_content}
use Rattle.mad_search.proofs.PlainLemmas.{PlainSoFar, content_more, plain_apart, plain_on, plain_whole}
use Rattle.mad_search.proofs.plain.plain_page.Goals as goal
use Rattle.mad_search.proofs.plain.plain_page.Goals.{then-is_apart+in_ok-push_part, else-is_apart}

pub loop-line-preserved : goal.loop-line-preserved
loop-line-preserved c =
    let all = contents c.args.text in
    let left = map content_of (into_iter_items c.next.new.self) in
    let line = c.in-Some.line in
    let part = c.loop-line.part.items in
    let sections = map section_content c.loop-line.sections.items in
    let so_far : PlainSoFar all (content_of line ∷ left) (map content_of part) sections = rw c.in-Some.ensures.steps.0 at c.loop-line.invariant in
    elim c.if-is_apart.branch [
      | then-is_apart+in_ok-push_part w ↦
          let cut : apart (map content_of part) (content_of line ∷ []) ≡ true = sym (w.if-is_apart.ensures ∙ ap (λ (ls : List Line). apart (map content_of ls) (content_of line ∷ [])) c.as_slice.ensures.value) in
          let one : map content_of c.push.new.self.items ≡ content_of line ∷ [] = ap (map content_of) (c.in_ok-push.ensures.items ∙ ap (λ v. v.items ++ line ∷ []) w.part-is ∙ ap (λ (ls : List Line). ls ++ line ∷ []) w.new-part-then-is_apart.ensures.items) in
          subst (λ (p : List LineContent). PlainSoFar all left p (map section_content c.if-is_apart.sections.items)) (sym one)
          (plain_apart all left (map content_of part) (content_of line) sections (map section_content c.if-is_apart.sections.items) so_far cut (ap (λ v. map section_content v.items) w.sections-is ∙ w.in_ok-push_part.ensures))
      | else-is_apart w ↦
          let with_it : apart (map content_of part) (content_of line ∷ []) ≡ false = sym (w.if-is_apart.ensures ∙ ap (λ (ls : List Line). apart (map content_of ls) (content_of line ∷ [])) c.as_slice.ensures.value) in
          subst (λ (s : List SectionContent). PlainSoFar all left (map content_of c.push.new.self.items) s) (sym (ap (λ v. map section_content v.items) w.sections-is))
          (plain_on all left (map content_of part) (map content_of c.push.new.self.items) (content_of line) sections so_far with_it
          (content_more part c.push.new.self.items line (c.in_ok-push.ensures.items ∙ ap (λ v. v.items ++ line ∷ []) w.part-is)))
    ]

pub returns : goal.returns
returns c =
    let none : into_iter_items c.loop-line.line-iterator ≡ [] = grind (arith, common_steps) in
    plain_whole (contents c.args.text) (map content_of (into_iter_items c.loop-line.line-iterator)) (map content_of c.loop-line.part.items) (map section_content c.loop-line.sections.items) (map section_content c.push_part-2.new.sections.items) c.loop-line.invariant
    (ap (map content_of) none) c.in_ok-push_part-2.ensures
