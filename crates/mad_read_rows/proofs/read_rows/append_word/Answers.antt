use Rattle.std.proofs.Common.{ℕ, [], ◌∷◌, ◌++◌, List, string_bytes, sym, ap, ◌∙◌, append-nil, append_assoc}
use Rattle.std.specs.List.{flat_map}
use Rattle.mad_wrap.specs.Words.{together}
use Rattle.mad_wrap.specs.declared.first_fit.Put.TheVariants.{OnLine, OnNext, InGap}
use Rattle.mad_read_rows.specs.ReadRows.{token_bytes}
use Rattle.mad_read_rows.specs.WordRows.{WritesPieces}
use Rattle.mad_read_rows.proofs.WordRowLemmas.{word_written}
use Rattle.mad_read_rows.proofs.read_rows.append_word.Goals as goal
use Rattle.mad_read_rows.proofs.read_rows.append_word.Goals.{in-OnLine, in-OnNext+in_ok-push_str-in-OnNext+in_ok-push_str-in-OnNext-2}

pub returns-in-InGap : goal.returns-in-InGap
returns-in-InGap c =
    let old = string_bytes c.args.rows.now in
    word_written (token_bytes c.args.skin.now c.args.style.now) c.args.later.now c.args.fit _ c.args.word.now c.args.width c.in-Some.first.now InGap old old (sym c.in-Some.ensures.value) c.requires.width c.in-InGap.ensures (sym (append-nil old))

pub returns : goal.returns
returns c =
    let write = token_bytes c.args.skin.now c.args.style.now in
    let later = c.args.later.now in
    let word = c.args.word.now in
    let text = flat_map write word in
    let old = string_bytes c.args.rows.now in
    let new = string_bytes c.append_parts.new.rows in
    let first = c.in-Some.first.now in
    let some = sym c.in-Some.ensures.value in
    elim c.match-put.branch as (λ _. WritesPieces write later c.args.fit (together word) old c.put.new.self new) [
      | in-OnLine w ↦ word_written write later c.args.fit _ word c.args.width first OnLine old new some c.requires.width w.in-OnLine.ensures (c.in_ok-append_parts.ensures ∙ ap (λ r. string_bytes r ++ text) w.rows-is)
      | in-OnNext+in_ok-push_str-in-OnNext+in_ok-push_str-in-OnNext-2 w ↦
          word_written write later c.args.fit _ word c.args.width first OnNext old new some c.requires.width w.in-OnNext.ensures
          (c.in_ok-append_parts.ensures ∙ ap (λ r. string_bytes r ++ text) w.rows-is ∙ ap (λ (b : List ℕ). b ++ text) (w.in_ok-push_str-in-OnNext-2.ensures.bytes ∙ ap (λ (b : List ℕ). b ++ later) w.in_ok-push_str-in-OnNext.ensures.bytes)
          ∙ append_assoc (old ++ 10 ∷ []) later text ∙ append_assoc old (10 ∷ []) (later ++ text))
    ]
