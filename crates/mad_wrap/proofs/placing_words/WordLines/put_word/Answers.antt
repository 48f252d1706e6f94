use Rattle.std.proofs.Common.{refl, sym, subst}
use Rattle.mad_measure.specs.declared.tokens.Token.{Token}
use Rattle.mad_wrap.specs.FirstFit.{Puts}
use Rattle.mad_wrap.specs.WordLines.{TakesTokens}
use Rattle.mad_wrap.specs.declared.first_fit.Put.TheVariants.{InGap}
use Rattle.mad_wrap.proofs.WordLineLemmas.{HasLine, line_stays, line_begins, puts_together}
use Rattle.mad_wrap.proofs.placing_words.WordLines.put_word.Goals as goal
use Rattle.mad_wrap.proofs.placing_words.WordLines.put_word.Goals.{in-OnLine, in-OnNext+in_ok-begin_line-in-OnNext}

pub returns-in-InGap : goal.returns-in-InGap
returns-in-InGap c =
    let s = c.args.self.now in
    let t : Token = record c.in-Some.first.now { width = c.args.width } in
    puts_together s (record s { fit = c.put.new.self }) c.args.word.now c.args.width c.in-Some.first.now t (sym c.in-Some.ensures.value) c.requires.width refl
    (λ p token tokens. (InGap, (subst (λ u. Puts s.fit u InGap c.put.new.self) (sym token) c.in-InGap.ensures, refl, refl)))

pub returns : goal.returns
returns c =
    let s = c.args.self.now in
    let m = c.match-put.self in
    let t : Token = record c.in-Some.first.now { width = c.args.width } in
    let line = elim c.match-put.branch as (λ _. HasLine s t m) [
      | in-OnLine w ↦ line_stays s m t _ w.in-OnLine.ensures w.self-is
      | in-OnNext+in_ok-begin_line-in-OnNext w ↦ line_begins s w.begin_line.new.self m t _ w.in-OnNext.ensures w.in_ok-begin_line-in-OnNext.ensures w.self-is
    ] in
    let n = record m { line = c.add_tokens.new.line } in
    puts_together s n c.args.word.now c.args.width c.in-Some.first.now t (sym c.in-Some.ensures.value) c.requires.width refl
    (λ p token tokens. line p n token refl refl (subst (λ ts. TakesTokens m.line ts c.add_tokens.new.line) (sym tokens) c.in_ok-add_tokens.ensures))
