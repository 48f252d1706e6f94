use Rattle.std.proofs.Common.{rules, ◌≡◌, false, true, if◌then◌else◌, inl, inr, map, refl, sym, ap, ◌∙◌, arith, subst}
use Rattle.std.proofs.lemmas.Result.{IfOk-weaker}
use Rattle.mad_measure.specs.Tokens.{AreTokensOf}
use Rattle.mad_measure.specs.TokensLeft.{AreTokensLeft}
use Rattle.mad_measure.proofs.CursorLemmas.{all_read}
use Rattle.mad_wrap.specs.WordLines.{PutsPieces}
use Rattle.mad_wrap.specs.Words.{alone, together}
use Rattle.mad_wrap.proofs.WordSteps.{StopsWord, IsPut, words_begin, word_takes, word_puts, none_of, none_put, words_end}
use Rattle.mad_wrap.proofs.placing_words.place_words.Goals as goal
use Rattle.mad_wrap.proofs.placing_words.place_words.Goals.{else-may_go_on-via-then-may_go_on+then-not-token+then-not-is_loose+else-token-limit, else-may_go_on-via-else-may_go_on, else-may_go_on-via-then-may_go_on+then-not-token+else-not-is_loose, else-may_go_on-via-then-may_go_on+else-not-token}
use Rattle.mad_wrap.proofs.placing_words.place_words.Goals.{then-not-is_empty+in_ok-put_begun, else-not-is_empty}

pub loop-token-init : goal.loop-token-init
loop-token-init c = record { so_far = words_begin c.args.room c.args.compounds.now _ _ c.in_ok-lines.ensures c.new-word.ensures.items }

pub loop-token-preserved-then-token-limit : goal.loop-token-preserved-then-token-limit
loop-token-preserved-then-token-limit c = record {
  so_far = word_takes c.args.room c.args.compounds.now _ c.in-Some.token _ _ _ _ _ _ c.loop-token.invariant.so_far c.if-not-token.true c.if-not-is_loose.true (omega (arith, c.if-token-limit.true, c.token_limit-limit.ensures)) (search rules)
      c.in_ok-push.ensures.items refl;
}

pub loop-token-preserved : goal.loop-token-preserved
loop-token-preserved c =
    let t = c.in-Some.token in
    let s = c.loop-token in
    let j = c.if-not-is_empty in
    let over = λ (solid : t.blank ≡ false) (narrow : s.is_loose ≡ false). elim c.else-may_go_on.branch as (λ _. StopsWord c.args.room s.word.items s.width t) [
      | else-may_go_on-via-then-may_go_on+then-not-token+then-not-is_loose+else-token-limit w ↦ inl (omega (arith, w.if-token-limit.false, c.token_limit-limit.ensures))
      | else-may_go_on-via-else-may_go_on w ↦ let stops = c.may_go_on.ensures w.if-may_go_on.false in inr (sym c.deref.ensures.value ∙ stops.0, stops.1)
      | else-may_go_on-via-then-may_go_on+then-not-token+else-not-is_loose w ↦ absurd (let both : true ≡ false = sym w.if-not-is_loose.false ∙ narrow in cc)
      | else-may_go_on-via-then-may_go_on+else-not-token w ↦ absurd (let both : true ≡ false = sym w.if-not-token.false ∙ solid in cc)
    ] in
    let put = elim c.if-not-is_empty.branch as (λ _. IsPut s.lines j.lines t.blank s.word.items j.word.items j.width) [
      | then-not-is_empty+in_ok-put_begun w ↦ record {
        puts =
            subst (PutsPieces s.lines (if t.blank then together s.word.items else map alone s.word.items)) (sym w.lines-is)
            (subst (λ ts. PutsPieces s.lines (if t.blank then together ts else map alone ts) w.put_begun.new.self) w.deref-then-not-is_empty.ensures.value w.in_ok-put_begun.ensures);
        none = ap (λ v. v.items) w.word-is ∙ w.clear.ensures.items;
        zero = w.width-is;
      }
      | else-not-is_empty w ↦ none_put s.lines j.lines t.blank s.word.items j.word.items s.width j.width (none_of s.word.len s.word.items w.if-not-is_empty.ensures s.word.ok.0) s.invariant.so_far.width_is w.lines-is (ap (λ v. v.items) w.word-is) w.width-is
    ] in
    record { so_far = word_puts c.args.room c.args.compounds.now _ t s.lines j.lines _ s.word.items _ s.width _ s.is_loose _ s.invariant.so_far over put.puts c.in_ok-put.ensures put.none put.zero refl }

pub returns : goal.returns
returns c =
    let s = c.loop-token in
    let ps = c.args.compounds.now in
    let left = subst (λ i. AreTokensLeft i s.yielded) c.into_iter-token-iterator.ensures.into_iter_gives (all_read s.yielded _ _ s.yielded_by c.in-None.ensures.steps.0) in
    let tokens = subst (λ n. AreTokensOf n ps s.yielded) c.token_limit-limit.ensures (c.token_iter-token-items.ensures.tokens s.yielded left) in
    let put = subst (λ w. PutsPieces s.lines (together w) c.put_word.new.self) c.deref-2.ensures.value c.in_ok-put_word.ensures in
    IfOk-weaker c.finish.result _ _ (λ lines pushed. (s.yielded, tokens, words_end c.args.room ps s.yielded s.lines c.put_word.new.self s.word.items s.width s.is_loose lines.items tokens s.invariant.so_far put pushed)) c.finish.ensures
