use Rattle.std.proofs.Common.{◌≡◌, ◌+◌, List, false, true, if◌then◌else◌, inl, inr, map, drop, slice_index_or, string_bytes, refl, sym, ap, ◌∙◌, arith, subst}
use Rattle.std.specs.Str.{IsUtf8}
use Rattle.std.proofs.lemmas.Str.{IsCharBoundary-start}
use Rattle.mad_measure.specs.declared.tokens.Token.{Token}
use Rattle.mad_measure.proofs.TokenLemmas.{ends_at_border}
use Rattle.mad_wrap.specs.Words.{alone, together}
use Rattle.mad_wrap.proofs.WordSteps.{none_of}
use Rattle.mad_read_rows.specs.ReadRows.{token_bytes}
use Rattle.mad_read_rows.specs.WordRows.{WritesPieces, no_compound}
use Rattle.mad_read_rows.proofs.WordRowLemmas.{StopsWord, IsBegun, none_begun, words_begin, compound_begins, compound_ends, word_takes, word_puts, words_quick, quick_bare, words_end}
use Rattle.mad_read_rows.proofs.read_rows.append_words.Goals as goal
use Rattle.mad_read_rows.proofs.read_rows.append_words.Goals.{else-may_go_on-via-then-may_go_on+then-not-token+then-not-is_loose-2+else-token-limit, else-may_go_on-via-then-may_go_on+then-not-token+else-not-is_loose-2}
use Rattle.mad_read_rows.proofs.read_rows.append_words.Goals.{else-may_go_on-via-then-may_go_on+else-not-token, else-may_go_on-via-else-may_go_on, then-not-is_empty+in_ok-fit, else-not-is_empty}

pub loop-index-init : goal.loop-index-init
loop-index-init c = record { words = words_begin (token_bytes c.args.skin.now c.args.style.now) c.args.later.now c.args.limit c.args.compounds.now c.args.fit (string_bytes c.args.rows.now) _ c.new-word.ensures.items }

pub loop-at-init : goal.loop-at-init
loop-at-init c =
    let s = c.loop-index in
    let p = slice_index_or c.args.compounds.now s.index no_compound in
    let utf8 : IsUtf8 p.src.now = c.quick_end-end.ensures.text in
    record {
      border = IsCharBoundary-start p.src.now utf8;
      words = compound_begins (token_bytes c.args.skin.now c.args.style.now) c.args.later.now c.args.limit c.args.compounds.now s.index no_compound c.args.fit (string_bytes c.args.rows.now) _ _ _ _ _ c.loop-index-test.true s.invariant.words;
    }

pub loop-at-preserved-then-not-is_loose : goal.loop-at-preserved-then-not-is_loose
loop-at-preserved-then-not-is_loose c =
    let s = c.loop-at in
    let ps = c.args.compounds.now in
    let write = token_bytes c.args.skin.now c.args.style.now in
    let p = slice_index_or ps c.loop-index.index no_compound in
    let utf8 : IsUtf8 p.src.now = c.quick_end-end.ensures.text in
    let last = c.quick_end-end.ensures.word (omega (arith, c.if-at-end.true)) in
    let done = c.in_ok-after.ensures in
    record {
      border = done.border;
      words = words_quick write c.args.later.now c.args.limit ps p s.at c.quick_end-end.result c.in_ok-after.to (drop (c.loop-index.index + 1) ps) c.args.fit (string_bytes c.args.rows.now) s.word.items s.width s.is_loose s.fit c.in_ok-after.after (string_bytes s.rows) (string_bytes c.append_front_words.new.rows) utf8 done.border last
          c.if-at-end.true done.past (none_of s.word.len s.word.items c.if-is_empty.ensures s.word.ok.0) c.if-not-is_loose.true s.invariant.words (done.written write (quick_bare write p (drop (c.loop-index.index + 1) ps) c.quick_end-end.result last));
    }

pub loop-at-preserved-then-token-limit : goal.loop-at-preserved-then-token-limit
loop-at-preserved-then-token-limit c =
    let s = c.loop-at in
    let ps = c.args.compounds.now in
    let p = slice_index_or ps c.loop-index.index no_compound in
    let t = c.token_at-token.result in
    let is = c.token_at-token.ensures in
    record {
      border = ends_at_border c.args.limit s.at p t is;
      words = word_takes (token_bytes c.args.skin.now c.args.style.now) c.args.later.now c.args.limit ps p s.at (drop (c.loop-index.index + 1) ps) t c.args.fit (string_bytes c.args.rows.now) s.word.items _ s.width _ s.is_loose s.fit (string_bytes s.rows) s.invariant.words is c.if-not-token.true c.if-not-is_loose-2.true
          (omega (arith, c.if-token-limit.true)) c.in_ok-push.ensures.items refl;
    }

pub loop-at-preserved : goal.loop-at-preserved
loop-at-preserved c =
    let s = c.loop-at in
    let ps = c.args.compounds.now in
    let later = c.args.later.now in
    let write = token_bytes c.args.skin.now c.args.style.now in
    let p = slice_index_or ps c.loop-index.index no_compound in
    let t = c.token_at-token.result in
    let is = c.token_at-token.ensures in
    let j = c.if-not-is_empty in
    let mid = string_bytes s.rows in
    let over = λ (solid : t.blank ≡ false) (narrow : s.is_loose ≡ false). elim c.else-may_go_on.branch as (λ _. StopsWord c.args.limit s.word.items s.width t) [
      | else-may_go_on-via-then-may_go_on+then-not-token+then-not-is_loose-2+else-token-limit w ↦ inl (omega (arith, w.if-token-limit.false))
      | else-may_go_on-via-then-may_go_on+then-not-token+else-not-is_loose-2 w ↦ absurd (let both : true ≡ false = sym w.if-not-is_loose-2.false ∙ narrow in cc)
      | else-may_go_on-via-then-may_go_on+else-not-token w ↦ absurd (let both : true ≡ false = sym w.if-not-token.false ∙ solid in cc)
      | else-may_go_on-via-else-may_go_on w ↦ let stops = c.may_go_on.ensures w.if-may_go_on.false in inr (sym c.deref.ensures.value ∙ stops.0, stops.1)
    ] in
    let begun = elim c.if-not-is_empty.branch as (λ _. IsBegun write later s.fit s.word.items t.blank mid j.fit (string_bytes j.rows) j.word.items j.width) [
      | then-not-is_empty+in_ok-fit w ↦ record {
        written =
            subst (λ k. WritesPieces write later s.fit (if t.blank then together s.word.items else map alone s.word.items) mid k (string_bytes j.rows)) (sym w.fit-is)
            (subst (λ r. WritesPieces write later s.fit (if t.blank then together s.word.items else map alone s.word.items) mid w.in_ok-fit.fit (string_bytes r)) (sym w.rows-is)
            (subst (λ (ts : List Token). WritesPieces write later s.fit (if t.blank then together ts else map alone ts) mid w.in_ok-fit.fit (string_bytes w.append_begun.new.rows)) w.deref-then-not-is_empty.ensures.value w.in_ok-fit.ensures));
        none = ap (λ v. v.items) w.word-is ∙ w.clear.ensures.items;
        zero = w.width-is;
      }
      | else-not-is_empty w ↦ none_begun write later s.fit j.fit t.blank mid (string_bytes j.rows) s.word.items j.word.items s.width j.width (none_of s.word.len s.word.items w.if-not-is_empty.ensures s.word.ok.0) s.invariant.words.width_is w.fit-is (ap (λ r. string_bytes r) w.rows-is) (ap (λ v. v.items) w.word-is) w.width-is
    ] in
    record {
      border = ends_at_border c.args.limit s.at p t is;
      words = word_puts write later c.args.limit ps p s.at (drop (c.loop-index.index + 1) ps) t c.args.fit (string_bytes c.args.rows.now) s.word.items _ s.width _ s.is_loose _ s.fit j.fit c.in_ok-fit-2.fit mid (string_bytes j.rows) (string_bytes c.append_word.new.rows) s.invariant.words is over begun.written
          c.in_ok-fit-2.ensures begun.none begun.zero refl;
    }

pub loop-index-preserved : goal.loop-index-preserved
loop-index-preserved c =
    let s = c.loop-at in
    let ps = c.args.compounds.now in
    let p = slice_index_or ps c.loop-index.index no_compound in
    record { words = compound_ends (token_bytes c.args.skin.now c.args.style.now) c.args.later.now c.args.limit ps p s.at (drop (c.loop-index.index + 1) ps) c.args.fit (string_bytes c.args.rows.now) s.word.items s.width s.is_loose s.fit (string_bytes s.rows) (omega (arith, c.loop-at-test.false, s.invariant.border.0)) s.invariant.words }

pub returns : goal.returns
returns c =
    let s = c.loop-index in
    let later = c.args.later.now in
    let write = token_bytes c.args.skin.now c.args.style.now in
    let put = subst (λ (ts : List Token). WritesPieces write later s.fit (together ts) (string_bytes s.rows) c.in_ok-append_word.field-0 (string_bytes c.append_word-2.new.rows)) c.deref-2.ensures.value c.in_ok-append_word.ensures in
    words_end write later c.args.limit c.args.compounds.now s.index c.args.fit (string_bytes c.args.rows.now) s.word.items s.width s.is_loose s.fit c.in_ok-append_word.field-0 (string_bytes s.rows) (string_bytes c.append_word-2.new.rows) c.loop-index-test.false s.invariant.words put
