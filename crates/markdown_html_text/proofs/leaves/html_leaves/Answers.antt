use Rattle.std.proofs.Common.{◌≡◌, ℕ, ◌-◌, ◌<◌, ◌≤◌, ◌⊎◌, inl, inr, false, List, [], ◌∷◌, ◌++◌, length, take, drop, get_or, sym, ap, subst, ◌∙◌, arith}
use Rattle.std.specs.Borrow.{Bor}
use Rattle.markdown_html_text.specs.HtmlLeaves.{begins_leaf, markup_more}
use Rattle.markdown_html_text.proofs.LeafLemmas.{AreLeaves, texts_of, leaf_on, leaf_more, leaves_end, texts_push}
use Rattle.markdown_html_text.proofs.PieceLemmas.{after_first_byte}
use Rattle.markdown_html_text.proofs.leaves.html_leaves.Goals as goal
use Rattle.markdown_html_text.proofs.leaves.html_leaves.Goals.{then-len-gt0+then-begins_leaf+in_ok-push, else-len-gt0, else-len-gt0-via-then-len-gt0+else-begins_leaf, else-len-gt0-via-else-len-gt0}

pub loop-rest-preserved : goal.loop-rest-preserved
loop-rest-preserved c =
    let text : List ℕ = c.args.text.now in
    let begun : List ℕ = c.loop-rest.begun.now in
    let rest : List ℕ = c.loop-rest.rest.now in
    let next : List ℕ = take (length rest - 1) (drop 1 rest) in
    let more : ℕ = markup_more (get_or rest 0 0) next in
    let is : next ≡ drop 1 rest = after_first_byte rest in
    let some : 1 ≤ length rest = omega (arith, c.in-len1-up.len_at_least) in
    let done : List (List ℕ) = texts_of c.loop-rest.leaves.items in
    let after : c.bytes_from-rest.result.now ≡ drop more next = c.bytes_from-rest.ensures ∙ ap (λ (n : ℕ). drop n next) c.markup_more.ensures in
    let read : ℕ = length begun - length rest in
    let len : c.saturating_sub-len.result ≡ read = c.saturating_sub-len.ensures in
    let on : (plain : (read < 1) ⊎ (begins_leaf (get_or rest 0 0) next ≡ false)) → AreLeaves text done begun (drop more next) =
    λ plain. leaf_on text done begun rest next c.loop-rest.invariant some is plain in
    let Goal : List (Bor (List ℕ)) → List ℕ → Type 0 = λ leaves b. AreLeaves text (texts_of leaves) b (drop more next) in
    subst (λ (l : List ℕ). AreLeaves text (texts_of c.if-len-gt0.leaves.items) c.if-len-gt0.begun.now l) (sym after)
    (elim c.if-len-gt0.branch [
      | then-len-gt0+then-begins_leaf+in_ok-push w ↦
          subst (λ b. Goal c.if-len-gt0.leaves.items b.now) (sym w.begun-is) (subst (λ v. Goal v.items rest) (sym w.leaves-is)
          (leaf_more text done (texts_of w.push.new.self.items) begun rest next c.loop-rest.invariant some is (omega (arith, len, w.if-len-gt0.true)) (sym w.begins_leaf.ensures ∙ w.if-begins_leaf.true)
          (texts_push c.loop-rest.leaves.items w.push.new.self.items w.bytes_up_to.result w.in_ok-push.ensures.items
          ∙ ap (λ (l : List ℕ). done ++ l ∷ []) (w.bytes_up_to.ensures ∙ ap (λ (n : ℕ). take n begun) len))))
      | else-len-gt0 w ↦
          subst (λ b. Goal c.if-len-gt0.leaves.items b.now) (sym w.begun-is) (subst (λ v. Goal v.items begun) (sym w.leaves-is)
          (elim w.else-len-gt0.branch [
            | else-len-gt0-via-then-len-gt0+else-begins_leaf v ↦ on (inr (sym v.begins_leaf.ensures ∙ v.if-begins_leaf.false))
            | else-len-gt0-via-else-len-gt0 v ↦ on (inl (omega (arith, len, v.if-len-gt0.false)))
          ]))
    ])

pub returns : goal.returns
returns c =
    leaves_end c.args.text.now (texts_of c.loop-rest.leaves.items) (texts_of c.push-2.new.self.items) c.loop-rest.begun.now c.loop-rest.rest.now c.loop-rest.invariant (omega (arith, c.in_default.len_below))
    (texts_push c.loop-rest.leaves.items c.push-2.new.self.items c.loop-rest.begun c.in_ok-push-2.ensures.items)
