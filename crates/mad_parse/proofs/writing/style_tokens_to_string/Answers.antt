use Rattle.std.proofs.Common.{◌+◌, ◌++◌, Bool, false, List, ℕ, String, Global, drop, string_bytes, ap, sym, ◌∙◌, lit<}
use Rattle.std.proofs.lemmas.Str.{encode_ascii}
use Rattle.mad_parse.proofs.WriteLemmas.{more_text, after_first, after_other, token_written, token_passed, written_all}
use Rattle.mad_parse.proofs.writing.style_tokens_to_string.Goals.{then-has_text+in_ok-write, then-not-first+in_ok-push, else-not-first, else-has_text}
use Rattle.mad_parse.proofs.writing.style_tokens_to_string.Goals as goal

pub loop-token-preserved : goal.loop-token-preserved
loop-token-preserved c =
    let ts = c.args.tokens.now in
    let i = c.loop-token.token-index in
    let first = c.loop-token.first in
    let text = string_bytes c.loop-token.text in
    elim c.if-has_text.branch [
      | then-has_text+in_ok-write w ↦
          ap (λ (b : Bool). string_bytes c.if-has_text.text ++ more_text b (drop (i + 1) ts)) w.first-is
          ∙ ap (λ (s : String Global). string_bytes s ++ more_text false (drop (i + 1) ts)) w.text-is
          ∙ token_written ts i _ first text (string_bytes w.write.new.self) _ c.loop-token-test.true (sym c.has_text.ensures ∙ w.if-has_text.true) c.loop-token.invariant (elim w.if-not-first.branch [
            | then-not-first+in_ok-push v ↦
                after_other first text (string_bytes w.if-not-first.text) _ _ v.if-not-first.true (ap (λ (s : String Global). string_bytes s) v.text-is ∙ v.in_ok-push.ensures.bytes ∙ ap (λ (l : List ℕ). text ++ l) (encode_ascii 32 (lit< tt))) w.in_ok-write.ensures.bytes
            | else-not-first v ↦ after_first first text (string_bytes w.if-not-first.text) _ _ v.if-not-first.false (ap (λ (s : String Global). string_bytes s) v.text-is) w.in_ok-write.ensures.bytes
          ])
      | else-has_text w ↦
          ap (λ (b : Bool). string_bytes c.if-has_text.text ++ more_text b (drop (i + 1) ts)) w.first-is
          ∙ ap (λ (s : String Global). string_bytes s ++ more_text first (drop (i + 1) ts)) w.text-is
          ∙ token_passed ts i _ first text _ c.loop-token-test.true (sym c.has_text.ensures ∙ w.if-has_text.false) c.loop-token.invariant
    ]

pub returns : goal.returns
returns c = written_all _ _ _ _ c.loop-token-test.false c.loop-token.invariant
